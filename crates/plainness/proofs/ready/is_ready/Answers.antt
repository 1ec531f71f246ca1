-- Where the member stays nothing is asked, and else its Pre-Depends are.
use Rattle.std.proofs.Common.{List, ℕ, subst}
use Rattle.std.specs.Prelude.{◌↔◌, IsTrue}
use Rattle.std.specs.List.{All}
use Rattle.plain.specs.Change.{Stays}
use Rattle.rules.specs.Package.{Atom}
use Rattle.plainness.specs.Parts.{IsMatchedByOther}
use Rattle.plainness.proofs.LoopLemmas.{fails}
use Rattle.plainness.proofs.ready.is_ready.Goals as goal

pub returns : goal.returns
returns c =
    let Tells : List ℕ → List (List Atom) → Type 0 = λ name clauses. IsTrue c.in_ok-answer.answer ↔ All (IsMatchedByOther c.args.staying.now name) clauses in
    let told = subst (λ name. Tells name c.args.member.now.relations.pre_depends) c.name.ensures
    (subst (Tells c.name.result.now) c.pre_depends.ensures c.in_ok-answer.ensures) in
    let away = fails (Stays c.args.start.now c.args.member.now) c.stays.result c.stays.ensures c.if-stays.false in (
      λ so _. told.0 so,
      λ ready. told.1 (ready away),
    )
