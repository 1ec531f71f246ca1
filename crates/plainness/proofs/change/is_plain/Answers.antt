-- The members of the numbers are what is selected.
use Rattle.std.proofs.Common.{List, ap, subst, ◌∙◌}
use Rattle.std.specs.Prelude.{◌↔◌, IsTrue}
use Rattle.refutation.specs.Selection.{selects}
use Rattle.plain.specs.Change.{IsPlain}
use Rattle.rules.specs.Package.{Pkg}
use Rattle.rules.specs.Sound.{selected}
use Rattle.plainness.proofs.MemberLemmas.{plain_again, same_back}
use Rattle.plainness.proofs.ReadyLemmas.{lent}
use Rattle.plainness.proofs.change.is_plain.Goals as goal

pub returns : goal.returns
returns c =
    let u = c.args.universe.now in
    let start = c.args.start.now in
    let members = c.in_ok-members.members.items in
    let chosen : List Pkg = selected u (selects c.args.selection.now) in
    let Tells : List Pkg → Type 0 = λ packages. IsTrue c.in_ok-plain.plain ↔ IsPlain u start packages in
    let told = subst Tells (ap lent c.as_slice-2.ensures.value ∙ c.in_ok-lent.ensures ∙ c.as_slice.ensures.value) c.in_ok-plain.ensures in (
      λ so. plain_again u start members chosen c.in_ok-members.ensures (told.0 so),
      λ plain. told.1 (plain_again u start chosen members (same_back members chosen c.in_ok-members.ensures) plain),
    )
