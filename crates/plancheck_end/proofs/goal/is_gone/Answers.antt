-- What doesn't hold the name hasn't it.
use Rattle.std.proofs.Common.{◌≡◌, ◌∙◌, true≢false, sym}
use Rattle.std.specs.Prelude.{IsTrue}
use Rattle.rules.specs.Database.{Record}
use Rattle.rules.specs.State.{is_not_installed_state}
use Rattle.plancheck_state.specs.HolderLaws.{holders-all, named-holds}
use Rattle.plancheck_end.proofs.goal.is_gone.Goals as goal

pub returns : goal.returns
returns c =
    let P : Record → Type 0 = λ entry. entry.name ≡ c.args.name.now → IsTrue (is_not_installed_state entry.state) in
    let both = holders-all P c.args.name.now c.args.db.now c.holders.result c.holders.ensures
    (λ entry not_held named. absurd (true≢false (sym (named-holds c.args.name.now entry named) ∙ not_held))) in (
      λ gone. both.0 (c.are_others_or_gone.ensures.0 gone),
      λ all. c.are_others_or_gone.ensures.1 (both.1 all),
    )
