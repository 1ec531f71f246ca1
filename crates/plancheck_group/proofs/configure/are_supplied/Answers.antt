-- The packages of these names are the records of them.
use Rattle.std.proofs.Common.{◌++◌}
use Rattle.rules.specs.Configure.{members_of}
use Rattle.rules.specs.Database.{Record, installed_of}
use Rattle.rules.specs.Sound.{MeetsClauses}
use Rattle.plancheck_state.specs.HolderLaws.{members-by-name}
use Rattle.plancheck_group.specs.Part.{AreSupplied}
use Rattle.plancheck_group.proofs.configure.are_supplied.Goals as goal

pub returns : goal.returns
unfolding AreSupplied
returns c =
    let P : Record → Type 0 = λ member.
    MeetsClauses (installed_of c.args.db.now ++ members_of c.args.part.now c.args.db.now) member.relations.depends in
    let both = members-by-name P c.args.names.now c.args.db.now in (
      λ all. both.0 (c.are_each_supplied.ensures.0 all),
      λ all. c.are_each_supplied.ensures.1 (both.1 all),
    )
