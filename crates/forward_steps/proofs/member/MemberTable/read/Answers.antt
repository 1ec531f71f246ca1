-- The members are of different names, as what is chosen.
use Rattle.std.proofs.Common.{ap, subst, sym, ◌∙◌}
use Rattle.universe_parts.specs.Parts.{packages_of}
use Rattle.forward_steps.specs.Selection.{IsOneEach, chosen}
use Rattle.forward_steps.proofs.MemberLemmas.{bare_one_each, chosen_members}
use Rattle.forward_steps.proofs.member.MemberTable.read.Goals as goal

pub names_of-requires : goal.names_of-requires
names_of-requires c = subst IsOneEach
    (sym (ap packages_of (c.as_slice.ensures.value ∙ c.in_ok-members.ensures) ∙ chosen_members c.args.universe.now c.args.selection.now))
    (bare_one_each (chosen c.args.universe.now c.args.selection.now) c.requires)
