-- What the numbers of a selection have is what is selected.
use Rattle.std.proofs.Common.{subst, sym, List}
use Rattle.refutation.specs.Selection.{selects}
use Rattle.rules.specs.Package.{Pkg}
use Rattle.rules.specs.Sound.{selected}
use Rattle.plainness.specs.Members.{AreSame}
use Rattle.plainness.proofs.MemberLemmas.{same_members}
use Rattle.plainness.proofs.members.members_of.Goals as goal

pub returns : goal.returns
returns c =
    let Same : List Pkg → Type 0 = λ members. AreSame members (selected c.args.universe.now (selects c.args.selection.now)) in
    subst Same (sym c.in_ok-members.ensures) (same_members c.args.universe.now c.args.selection.now)
