-- What the verdict on the lines by numbers says of a refutation whose pairs are named.
use Rattle.std.proofs.Common.{◌≡◌, ℕ, ◌+◌, List, [], ◌∷◌, length, Option, Some, None, Result, Ok, Err, refl, sym, ap, subst, ◌∙◌, arith, inl, inr}
use Rattle.rules.specs.Universe.{Pair, Universe}
use Rattle.refutation.specs.Laws.{OneAnswer}
use Rattle.refutation.specs.Refutation.{IsFirstBad}
use Rattle.refutation.specs.declared.line.Line.{Line}
use Rattle.refutecheck.specs.Answer.{IsVerdict, Refutes}
use Rattle.refutecheck.specs.declared.verdict.Verdict.{Verdict}
use Rattle.refutecheck.specs.declared.verdict.Verdict.TheVariants.{Yes, No}
use Rattle.named_refutation.specs.declared.named.NamedLine.{NamedLine}
use Rattle.named_refutation.specs.declared.named.NamedPair.{NamedPair}
use Rattle.named_lines.specs.Judged.{AreAccepted, IsFirstBadBehind, IsVerdictOn, verdict_at}
use Rattle.named_lines.specs.Numbering.{line_numbered, numbered_from, numbered_lines, put_numbered}
use Rattle.named_lines.specs.declared.numbering.Missing.{Missing}
use Rattle.named_lines.specs.declared.numbering.NumberedLines.{NumberedLines}

-- the line that names a missing pair is the one behind those that were numbered
missing_behind : (pairs : List Pair) (number : ℕ) (lines : List NamedLine) (missing : Missing) → (numbered_from pairs number lines).missing ≡ Some missing
    → missing.line ≡ length (numbered_from pairs number lines).lines + number
missing_behind pairs number [] missing h = cc
missing_behind pairs number (line ∷ later) missing h = go (line_numbered pairs line) (missing_behind pairs (number + 1) later missing) h where
  of : NamedPair → Missing
  of pair = record { line = number; pair = pair }

  first : (pair : NamedPair) (missing : Missing) → Some (of pair) ≡ Some missing → missing.line ≡ 0 + number
  first pair missing e =
      let same : of pair ≡ missing = cc in
      let line : number ≡ missing.line = ap (λ (m : Missing). m.line) same in
      omega arith

  go : (read : Result Line NamedPair)
      → ((numbered_from pairs (number + 1) later).missing ≡ Some missing → missing.line ≡ length (numbered_from pairs (number + 1) later).lines + (number + 1))
      → (put_numbered number read (numbered_from pairs (number + 1) later)).missing ≡ Some missing
      → missing.line ≡ length (put_numbered number read (numbered_from pairs (number + 1) later)).lines + number
  go (Ok line) behind e = let here = behind e in omega arith
  go (Err pair) behind e = first pair missing e

pub missing_line : (pairs : List Pair) (lines : List NamedLine) (missing : Missing) → (numbered_lines pairs lines).missing ≡ Some missing
    → missing.line ≡ length (numbered_lines pairs lines).lines + 1
unfolding numbered_lines
missing_line pairs lines missing h = missing_behind pairs 1 lines missing h

-- where no pair is missing, the verdict is that on the lines by numbers
pub whole_verdict : (u : Universe) (numbered : NumberedLines) (judged : Verdict) → numbered.missing ≡ None → IsVerdict u numbered.lines judged → IsVerdictOn u numbered judged
whole_verdict u numbered Yes none is = record { none_missing = none; accepted = is }
whole_verdict u numbered (No number) none is = subst (λ (missing : Option Missing). IsFirstBadBehind u numbered.lines missing number) (sym none) is

-- where a pair is missing, the verdict is no
pub stopped_verdict : (u : Universe) (numbered : NumberedLines) (missing : Missing) (judged : Verdict) → numbered.missing ≡ Some missing
    → missing.line ≡ length numbered.lines + 1 → IsVerdict u numbered.lines judged → IsVerdictOn u numbered (verdict_at missing.line judged)
unfolding IsFirstBad
stopped_verdict u numbered missing Yes some line is =
    subst (λ (one : Option Missing). IsFirstBadBehind u numbered.lines one missing.line) (sym some) (inr (is.good, refl))
stopped_verdict u numbered missing (No number) some line is =
    subst (λ (one : Option Missing). IsFirstBadBehind u numbered.lines one number) (sym some) (elim is [
      | inl first ↦ inl first
      | inr unfinished ↦ inr (unfinished.good, unfinished.number_is ∙ sym line)
    ])

-- what is accepted has the verdict yes
pub accepted_yes : (u : Universe) (numbered : NumberedLines) (judged : Verdict) → OneAnswer → IsVerdict u numbered.lines judged → AreAccepted u numbered → judged ≡ Yes
accepted_yes u numbered Yes one is accepted = refl
accepted_yes u numbered (No number) one is accepted = absurd ((one u numbered.lines number is).0 accepted.accepted)

pub stopped_refutes : (u : Universe) (line : ℕ) (judged : Verdict) → Refutes u (verdict_at line judged)
stopped_refutes u line Yes = tt
stopped_refutes u line (No number) = tt

-- where a pair is missing, nothing is accepted
pub stopped_none : (u : Universe) (numbered : NumberedLines) (missing : Missing) → numbered.missing ≡ Some missing → AreAccepted u numbered → ⊥
stopped_none u numbered missing some accepted = let none : None ≡ Some missing = sym accepted.none_missing ∙ some in cc
