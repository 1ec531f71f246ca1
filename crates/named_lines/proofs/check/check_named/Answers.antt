-- The verdict on the lines by numbers is that on the refutation where no pair is missing, and else a no.
use Rattle.std.proofs.Common.{◌≡◌, ◌∙◌, Some, sym, ap, subst}
use Rattle.refutecheck.specs.Answer.{IsVerdict, Refutes}
use Rattle.refutecheck.specs.declared.verdict.Verdict.{Verdict}
use Rattle.named_lines.specs.Judged.{AreAccepted, IsVerdictOn}
use Rattle.named_lines.specs.Numbering.{numbered_lines}
use Rattle.named_lines.specs.declared.numbering.NumberedLines.{NumberedLines}
use Rattle.named_lines.proofs.JudgedLemmas.{accepted_yes, missing_line, stopped_none, stopped_refutes, stopped_verdict, whole_verdict}
use Rattle.named_lines.proofs.check.check_named.Goals as goal

pub returns-in-None-clause-exact : goal.returns-in-None-clause-exact
returns-in-None-clause-exact c =
    let u = c.args.universe.now in
    let by_number = c.in_ok-by_number.by_number in
    let judged = c.in_ok-judged.judged in
    subst (λ (numbered : NumberedLines). IsVerdictOn u numbered judged) c.in_ok-by_number.ensures
    (whole_verdict u by_number judged c.in-None.is c.in_ok-judged.ensures.exact)

pub returns-in-None-clause-complete : goal.returns-in-None-clause-complete
returns-in-None-clause-complete c = λ accepted.
    let u = c.args.universe.now in
    let by_number = c.in_ok-by_number.by_number in
    accepted_yes u by_number c.in_ok-judged.judged c.one_answer.ensures c.in_ok-judged.ensures.exact
    (subst (AreAccepted u) (sym c.in_ok-by_number.ensures) accepted)

pub returns-clause-exact : goal.returns-clause-exact
returns-clause-exact c =
    let u = c.args.universe.now in
    let judged = c.in_ok-judged.judged in
    let missing = c.in-Some.missing in
    let numbered : NumberedLines = numbered_lines u.pairs c.args.refutation.now.lines in
    let some : numbered.missing ≡ Some missing = sym (ap (λ (n : NumberedLines). n.missing) c.in_ok-by_number.ensures) ∙ c.in-Some.is in
    let is : IsVerdict u numbered.lines judged = subst (λ (n : NumberedLines). IsVerdict u n.lines judged) c.in_ok-by_number.ensures c.in_ok-judged.ensures.exact in
    subst (λ (verdict : Verdict). IsVerdictOn u numbered verdict) (sym c.verdict_at.ensures)
    (stopped_verdict u numbered missing judged some (missing_line u.pairs c.args.refutation.now.lines missing some) is)

pub returns-clause-refutes : goal.returns-clause-refutes
returns-clause-refutes c =
    let u = c.args.universe.now in
    subst (Refutes u) (sym c.verdict_at.ensures) (stopped_refutes u c.in-Some.missing.line c.in_ok-judged.judged)

pub returns-clause-complete : goal.returns-clause-complete
returns-clause-complete c = λ accepted.
    let u = c.args.universe.now in
    let missing = c.in-Some.missing in
    let numbered : NumberedLines = numbered_lines u.pairs c.args.refutation.now.lines in
    let some : numbered.missing ≡ Some missing = sym (ap (λ (n : NumberedLines). n.missing) c.in_ok-by_number.ensures) ∙ c.in-Some.is in
    absurd (stopped_none u numbered missing some accepted)
