-- The packages that are asked are the old and the new ones.
use Rattle.std.proofs.Common.{List, ap, subst, ◌∙◌}
use Rattle.std.specs.Prelude.{◌↔◌, IsTrue}
use Rattle.plain.specs.Change.{HaveNoClash}
use Rattle.rules.specs.Package.{Pkg}
use Rattle.plainness.specs.Parts.{NoneClash}
use Rattle.plainness.proofs.ReadyLemmas.{lent}
use Rattle.plainness.proofs.no_clash.have_no_clash.Goals as goal

pub returns : goal.returns
unfolding HaveNoClash
returns c =
    let Tells : List Pkg → Type 0 = λ packages. IsTrue c.in_ok-answer.answer ↔ NoneClash packages in
    let told = subst Tells (c.in_ok-packages.ensures ∙ ap lent c.as_slice.ensures.value ∙ c.in_ok-lent.ensures) c.in_ok-answer.ensures in (
      λ so. told.0 so,
      λ no_clash. told.1 no_clash,
    )
