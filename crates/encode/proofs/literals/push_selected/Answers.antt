-- One number more.
use Rattle.std.proofs.Common.{◌⊎◌, ℕ, List, rules, subst}
use Rattle.std.specs.Prelude.{◌↔◌}
use Rattle.std.specs.List.{Contains}
use Rattle.std.proofs.lemmas.List.{take_all}
use Rattle.refutation.specs.declared.literal.Literal.{Literal}
use Rattle.encode.specs.Numbers.{SelectsOneOf}
use Rattle.encode.proofs.LiteralLemmas.{no_selected, one_selected_more}
use Rattle.encode.proofs.literals.push_selected.Goals as goal

pub loop-number-init : goal.loop-number-init
loop-number-init c = no_selected c.args.numbers.now c.args.literals.now.items

pub loop-number-preserved : goal.loop-number-preserved
loop-number-preserved c = one_selected_more c.args.numbers.now c.loop-number.number-index c.loop-number-test.true
    c.args.literals.now.items c.loop-number.literals.items c.push.new.self.items c.loop-number.invariant (search rules)

pub returns : goal.returns
returns c =
    let Over : List ℕ → Type 0 = λ numbers. (item : Literal) → Contains c.loop-number.literals.items item
    ↔ (Contains c.args.literals.now.items item ⊎ SelectsOneOf numbers item) in
    subst Over (take_all c.loop-number.number-index c.args.numbers.now c.loop-number-test.false) c.loop-number.invariant
