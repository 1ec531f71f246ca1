-- Where of the rings' names below the bound nothing passes, nothing does of the names below it.
use Rattle.std.proofs.Common.{rules, ℕ, List, sym, subst, ◌∙◌}
use Rattle.std.specs.Option.{option_copied}
use Rattle.plancheck_group.proofs.PartLemmas.{empty_test}
use Rattle.plancheck_group.specs.Part.{IsPartWith}
use Rattle.rules.specs.Configure.{IsGreatestPart}
use Rattle.fixed_order.specs.Alone.{MayPass}
use Rattle.fixed_order.proofs.BeginningLemmas.{nothing_lower}
use Rattle.fixed_order.proofs.configure.lower_group.Goals as goal

pub returns-then-is_empty : goal.returns-then-is_empty
returns-then-is_empty c =
    let empty = (empty_test c.in_ok-some.some.items c.in_ok-some.some.len (search rules)).0 (sym c.is_empty.ensures ∙ c.if-is_empty.true) in
    subst (IsGreatestPart c.args.db.now c.args.before.now) (sym empty)
    (nothing_lower c.args.db.now c.args.waiting.now.names.items c.args.waiting.now.rings.names.items c.in_ok-lower.lower.items
    c.args.before.now (option_copied c.args.bound) c.requires.waiting.names c.requires.waiting.rings
    (subst (λ (names : List (List ℕ)). IsPartWith (MayPass c.args.db.now (option_copied c.args.bound)) names c.in_ok-lower.lower.items)
    c.as_slice-rings.ensures.value c.in_ok-lower.ensures) c.requires.alone c.requires.below
    (subst (IsGreatestPart c.args.db.now c.in_ok-lower.lower.items) empty
    (subst (λ (names : List (List ℕ)). IsGreatestPart c.args.db.now names c.in_ok-some.some.items)
    c.as_slice.ensures.value c.in_ok-some.ensures)))
