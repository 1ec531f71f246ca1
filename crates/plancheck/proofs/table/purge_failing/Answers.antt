-- The rule at which the loop stops is the first that isn't kept.
use Rattle.std.proofs.Common.{◌≡◌, true, false, sym, ◌∙◌}
use Rattle.rules.specs.Legal.{PurgeAsks, purge_rules}
use Rattle.rules.specs.UnkeptLaws.{IsFirstUnkept-at}
use Rattle.rules.specs.declared.step.Rule.TheVariants as rule
use Rattle.plancheck.proofs.table.purge_failing.Goals as goal

pub returns-then-not-purge_keeps : goal.returns-then-not-purge_keeps
returns-then-not-purge_keeps c = IsFirstUnkept-at (PurgeAsks c.args.db.now c.args.name.now) purge_rules
    c.loop-rule.rule-index rule.StartConflict c.loop-rule-test.true
    (λ kept. absurd (let e : true ≡ false = sym (c.purge_keeps.ensures.1 kept) ∙ c.if-not-purge_keeps.true in cc))
    c.loop-rule.invariant
