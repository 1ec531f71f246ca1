-- The texts so far, and those of the items that are left.
use Rattle.std.proofs.Common.{◌≡◌, ◌++◌, drop, map, option_map}
use Rattle.questions.proofs.member.strings_in.Given as goal
use Rattle.questions.specs.Member.{strings_in}
use Rattle.serde_json.specs.View.{items_view}

abbrev pub invariant-loop-item : goal.invariant-loop-item
invariant-loop-item l = option_map (λ more. map (λ text. text.now) l.texts.items ++ more) (strings_in (items_view (drop l.item-index l.items)))
    ≡ strings_in (items_view l.items)
