-- One place more.
use Rattle.std.proofs.Common.{◌⊎◌, ℕ, List, subst}
use Rattle.std.specs.Prelude.{◌↔◌}
use Rattle.std.specs.List.{Any, Contains}
use Rattle.std.proofs.lemmas.List.{take_all}
use Rattle.refutation.specs.declared.literal.Literal.{Literal}
use Rattle.universe_parts.specs.Parts.{packages_of}
use Rattle.refutecheck.specs.Sought.{IsSelectedAt, IsSought}
use Rattle.refutecheck.proofs.PairLemmas.{one_place_more}
use Rattle.refutecheck.proofs.premises.Premises.push_places.Goals as goal

pub loop-place-preserved : goal.loop-place-preserved
loop-place-preserved c = one_place_more (packages_of c.args.self.now.pairs) (IsSought c.args.sought) c.args.places.now
    c.loop-place.place-index c.loop-place-test.true (Contains c.args.literals.now.items) (Contains c.loop-place.literals.items)
    (Contains c.push_place.new.literals.items) c.loop-place.invariant c.in_ok-push_place.ensures

pub returns : goal.returns
returns c =
    let Over : List ℕ → Type 0 = λ places. (literal : Literal) → Contains c.loop-place.literals.items literal
    ↔ (Contains c.args.literals.now.items literal
    ⊎ Any (λ place. IsSelectedAt (packages_of c.args.self.now.pairs) (IsSought c.args.sought) place literal) places) in
    subst Over (take_all c.loop-place.place-index c.args.places.now c.loop-place-test.false) c.loop-place.invariant
