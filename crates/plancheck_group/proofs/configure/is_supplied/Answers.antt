-- What doesn't hold the name hasn't it.
use Rattle.std.proofs.Common.{◌≡◌, ◌++◌, ◌∙◌, true≢false, sym}
use Rattle.rules.specs.Configure.{members_of}
use Rattle.rules.specs.Database.{Record, installed_of}
use Rattle.rules.specs.Sound.{MeetsClauses}
use Rattle.plancheck_state.specs.HolderLaws.{holders-all, named-holds}
use Rattle.plancheck_group.proofs.configure.is_supplied.Goals as goal

pub returns : goal.returns
returns c =
    let P : Record → Type 0 = λ member. member.name ≡ c.args.name.now → MeetsClauses (installed_of c.args.db.now ++ members_of c.args.part.now c.args.db.now) member.relations.depends in
    let both = holders-all P c.args.name.now c.args.db.now c.holders.result c.holders.ensures
    (λ member not_held named. absurd (true≢false (sym (named-holds c.args.name.now member named) ∙ not_held))) in (
      λ all. both.0 (c.are_others_or_supplied.ensures.0 all),
      λ all. c.are_others_or_supplied.ensures.1 (both.1 all),
    )
