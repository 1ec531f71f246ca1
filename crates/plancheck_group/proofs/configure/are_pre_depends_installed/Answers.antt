-- The group's members are the records of its names.
use Rattle.rules.specs.Configure.{ArePreDependsInstalled}
use Rattle.rules.specs.Database.{Record, installed_of}
use Rattle.rules.specs.Sound.{MeetsClauses}
use Rattle.plancheck_state.specs.HolderLaws.{members-by-name}
use Rattle.plancheck_group.proofs.configure.are_pre_depends_installed.Goals as goal

pub returns : goal.returns
unfolding ArePreDependsInstalled
returns c =
    let P : Record → Type 0 = λ member. MeetsClauses (installed_of c.args.db.now) member.relations.pre_depends in
    let both = members-by-name P c.args.names.now c.args.db.now in (
      λ all. both.0 (c.are_prepared.ensures.0 all),
      λ all. c.are_prepared.ensures.1 (both.1 all),
    )
