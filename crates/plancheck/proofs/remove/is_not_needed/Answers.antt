-- What doesn't hold the name hasn't it.
use Rattle.std.proofs.Common.{◌≡◌, ◌∙◌, true≢false, sym}
use Rattle.rules.specs.Database.{IsPresent, Record}
use Rattle.rules.specs.Remove.{IsNeededByNone, IsNotNeeded}
use Rattle.plancheck_state.specs.HolderLaws.{holders-all, named-holds}
use Rattle.plancheck.proofs.remove.is_not_needed.Goals as goal

pub returns : goal.returns
unfolding IsNotNeeded
returns c =
    let P : Record → Type 0 = λ removed. removed.name ≡ c.args.name.now → IsPresent removed → IsNeededByNone c.args.db.now removed in
    let both = holders-all P c.args.name.now c.args.db.now c.holders.result c.holders.ensures
    (λ removed not_held named. absurd (true≢false (sym (named-holds c.args.name.now removed named) ∙ not_held))) in (
      λ all. both.0 (c.are_others_or_expendable.ensures.0 all),
      λ all. c.are_others_or_expendable.ensures.1 (both.1 all),
    )
