-- The group's members are the records of its names.
use Rattle.rules.specs.Configure.{AreUnbroken, IsUnbroken}
use Rattle.plancheck_state.specs.HolderLaws.{members-by-name}
use Rattle.plancheck_group.proofs.configure.are_unbroken.Goals as goal

pub returns : goal.returns
unfolding AreUnbroken
returns c =
    let both = members-by-name (IsUnbroken c.args.db.now) c.args.names.now c.args.db.now in (
      λ all. both.0 (c.are_each_unbroken.ensures.0 all),
      λ all. c.are_each_unbroken.ensures.1 (both.1 all),
    )
