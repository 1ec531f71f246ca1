-- The rule at which the loop stops is the first that isn't kept.
use Rattle.std.proofs.Common.{◌≡◌, true, false, sym, ◌∙◌}
use Rattle.std.specs.Option.{option_copied}
use Rattle.rules.specs.Legal.{UnpackAsks, unpack_rules}
use Rattle.rules.specs.UnkeptLaws.{IsFirstUnkept-at}
use Rattle.rules.specs.declared.step.Rule.TheVariants as rule
use Rattle.plancheck.proofs.table.unpack_failing.Goals as goal

pub returns-then-not-unpack_keeps : goal.returns-then-not-unpack_keeps
returns-then-not-unpack_keeps c = IsFirstUnkept-at (UnpackAsks (option_copied c.args.listed) c.args.db.now c.args.name.now c.args.version.now) unpack_rules
    c.loop-rule.rule-index rule.StartConflict c.loop-rule-test.true
    (λ kept. absurd (let e : true ≡ false = sym (c.unpack_keeps.ensures.1 kept) ∙ c.if-not-unpack_keeps.true in cc))
    c.loop-rule.invariant
