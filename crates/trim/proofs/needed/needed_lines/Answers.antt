-- What is kept of the lines in the end.
use Rattle.std.proofs.Common.{Bool, List, subst, sym}
use Rattle.refutation.specs.declared.line.Line.{Line}
use Rattle.trim.specs.Needed.{AreAllNamed, ArePremisesOf, StaysAccepted}
use Rattle.trim.specs.Marks.{AreMarks}
use Rattle.trim.proofs.EndLemmas.{all_named, stays_accepted}
use Rattle.trim.proofs.needed.needed_lines.Goals as goal

pub returns-clause-accepted : goal.returns-clause-accepted
returns-clause-accepted c =
    let lines = c.as_slice-lines.result.now in
    let marks = c.as_slice.result.now in
    let are : AreMarks lines marks 0 = subst (λ (ms : List Bool). AreMarks lines ms 0) (sym c.as_slice.ensures.value) c.in_ok-marks.ensures in
    subst (λ (given : List Line). StaysAccepted given c.new.result) c.as_slice-lines.ensures
    (subst (λ (kept : List Line). StaysAccepted lines kept) (sym c.new.ensures)
    (stays_accepted lines marks c.in_ok-kept.kept.numbers.items c.in_ok-kept.kept.lines.items are c.in_ok-kept.ensures))

pub returns-clause-premises : goal.returns-clause-premises
returns-clause-premises c =
    let lines = c.as_slice-lines.result.now in
    subst (λ (given : List Line). ArePremisesOf c.new.result given) c.as_slice-lines.ensures
    (subst (λ (kept : List Line). ArePremisesOf kept lines) (sym c.new.ensures) c.in_ok-kept.ensures.premises)

pub returns-clause-needed : goal.returns-clause-needed
returns-clause-needed c =
    let lines = c.as_slice-lines.result.now in
    let marks = c.as_slice.result.now in
    let are : AreMarks lines marks 0 = subst (λ (ms : List Bool). AreMarks lines ms 0) (sym c.as_slice.ensures.value) c.in_ok-marks.ensures in
    subst (λ (kept : List Line). AreAllNamed kept) (sym c.new.ensures)
    (all_named lines marks c.in_ok-kept.kept.numbers.items c.in_ok-kept.kept.lines.items are c.in_ok-kept.ensures)
