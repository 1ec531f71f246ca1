-- What doesn't hold the name hasn't it.
use Rattle.std.proofs.Common.{◌≡◌, ◌∙◌, true≢false, sym}
use Rattle.std.specs.List.{All}
use Rattle.rules.specs.Database.{Record}
use Rattle.plancheck_state.specs.HolderLaws.{holders-all, named-holds}
use Rattle.fixed_order.specs.Askers.{IsAsking}
use Rattle.fixed_order.specs.Turn.{AsksOnly, AsksOnlyBy}
use Rattle.fixed_order.proofs.askers.is_name_noted.Goals as goal

pub returns : goal.returns
unfolding AsksOnly
returns c =
    let P : Record → Type 0 = λ member. member.name ≡ c.args.name.now
    → All (AsksOnlyBy (IsAsking c.args.askers.now c.args.place) c.args.db.now) member.relations.depends in
    let both = holders-all P c.args.name.now c.args.db.now c.holders.result c.holders.ensures
    (λ member not_held named. absurd (true≢false (sym (named-holds c.args.name.now member named) ∙ not_held))) in (
      λ all. both.0 (c.are_others_or_noted.ensures.0 all),
      λ all. c.are_others_or_noted.ensures.1 (both.1 all),
    )
