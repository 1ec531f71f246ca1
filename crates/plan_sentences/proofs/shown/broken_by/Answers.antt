-- The packages are those of the records.
use Rattle.std.proofs.Common.{◌∙◌, List, IfOk, ap, subst}
use Rattle.std.specs.Prelude.{codes}
use Rattle.rules.specs.Database.{Record}
use Rattle.rules.specs.Package.{Atom, Pkg}
use Rattle.plan_sentences.specs.No.{IsAgainstByTold}
use Rattle.plan_sentences.proofs.shown.broken_by.Goals as goal

pub returns-in-Some-Some : goal.returns-in-Some-Some
returns-in-Some-Some c = λ entry other distinct present breaking.
    let broken = c.in-Some-Some.ensures entry distinct present in
    let breaker = c.in-Some-Some.ensures' other distinct breaking in
    let Told : Record → List Atom → Pkg → Type 0 =
    λ by atoms pkg. IfOk c.against_by.result (λ text. IsAgainstByTold (codes " breaks ") by atoms pkg text.items) in
    subst (λ (pkg : Pkg). Told other other.relations.breaks pkg) broken.1
    (subst (λ (by : Record). Told by other.relations.breaks c.in-Some-Some.pkg.now) breaker.0
    (subst (λ (atoms : List Atom). Told c.in-Some-Some.other.now atoms c.in-Some-Some.pkg.now)
    (c.breaks.ensures ∙ ap (λ (pkg : Pkg). pkg.relations.breaks) breaker.1) c.against_by.ensures))
