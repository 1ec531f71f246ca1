-- The places of all that have or provide the name have all that are sought.
use Rattle.std.proofs.Common.{◌≡◌, List, [], rules, subst, sym}
use Rattle.refutation.specs.Clause.{IsListOf}
use Rattle.refutation.specs.Premise.{Selects}
use Rattle.refutation.specs.declared.literal.Literal.{Literal}
use Rattle.refutecheck.specs.Sought.{IsSought}
use Rattle.refutecheck.proofs.PairLemmas.{by_places}
use Rattle.refutecheck.proofs.premises.Premises.all_sought.Goals as goal

pub returns : goal.returns
returns c =
    let All : List Literal → Type 0 = λ literals. IsListOf (Selects c.args.self.now (IsSought c.args.sought)) literals in
    let none : c.new-literals.result.items ≡ [] = search rules in
    subst All (sym c.new.ensures) (by_places c.args.self.now c.providers.result.now (cc (c.providers.ensures, c.self.view_is))
    c.name_of.result.now c.in_ok-places.places.items c.as_slice.result.now c.as_slice.ensures.value (IsSought c.args.sought)
    c.in_ok-places.ensures.matching c.name_of.ensures c.new-literals.result.items c.push_places.new.literals.items none
    c.in_ok-push_places.ensures)
