-- The rule at which the loop stops is the first that isn't kept.
use Rattle.std.proofs.Common.{◌≡◌, true, false, sym, ◌∙◌}
use Rattle.rules.specs.Legal.{DeconfigureAsks, deconfigure_rules}
use Rattle.rules.specs.UnkeptLaws.{IsFirstUnkept-at}
use Rattle.rules.specs.declared.step.Rule.TheVariants as rule
use Rattle.plancheck.proofs.table.deconfigure_failing.Goals as goal

pub returns-then-not-deconfigure_keeps : goal.returns-then-not-deconfigure_keeps
returns-then-not-deconfigure_keeps c = IsFirstUnkept-at (DeconfigureAsks c.args.db.now c.args.name.now) deconfigure_rules
    c.loop-rule.rule-index rule.StartConflict c.loop-rule-test.true
    (λ kept. absurd (let e : true ≡ false = sym (c.deconfigure_keeps.ensures.1 kept) ∙ c.if-not-deconfigure_keeps.true in cc))
    c.loop-rule.invariant
