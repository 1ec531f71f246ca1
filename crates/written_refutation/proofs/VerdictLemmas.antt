-- A refutation has one verdict, and what is accepted by numbers is accepted by names.
use Rattle.std.proofs.Common.{◌≡◌, ℕ, List, Option, Some, None, refl, sym, ap, subst, ◌∙◌, inl, inr}
use Rattle.rules.specs.Universe.{Universe}
use Rattle.refutation.proofs.LineLemmas.{one_answer as one_bad_line}
use Rattle.refutation.specs.Refutation.{AreGoodLines, IsAccepted, IsFirstBad, IsFirstNotGood}
use Rattle.refutation.specs.declared.line.Line.{Line}
use Rattle.refutecheck.specs.declared.verdict.Verdict.{Verdict}
use Rattle.refutecheck.specs.declared.verdict.Verdict.TheVariants.{Yes, No}
use Rattle.named_lines.proofs.RoundLemmas.{refutation_again}
use Rattle.named_lines.specs.Judged.{AreAccepted, IsFirstBadBehind, IsVerdictOn}
use Rattle.named_lines.specs.Numbering.{numbered_lines}
use Rattle.named_lines.specs.declared.numbering.Missing.{Missing}
use Rattle.named_lines.specs.declared.numbering.NumberedLines.{NumberedLines}
use Rattle.written_refutation.specs.Judged.{HasOneVerdict, NamedIsAccepted, lines_of}

-- lines that are all good have no first bad one
no_bad : (u : Universe) (lines : List Line) (number : ℕ) → IsFirstNotGood u lines number → AreGoodLines u lines → ⊥
unfolding AreGoodLines
no_bad u lines number first good = first.bad (good first.earlier first.rest first.line first.place)

-- the first bad line is one
one_bad : (u : Universe) (lines : List Line) (missing : Option Missing) (first second : ℕ) → IsFirstBadBehind u lines missing first
    → IsFirstBadBehind u lines missing second → first ≡ second
unfolding IsFirstBad
one_bad u lines None first second is also = (one_bad_line u lines first is).1 second also
one_bad u lines (Some missing) first second (inl is) (inl also) = (one_bad_line u lines first (inl is)).1 second (inl also)
one_bad u lines (Some missing) first second (inl is) (inr also) = absurd (no_bad u lines first is also.0)
one_bad u lines (Some missing) first second (inr is) (inl also) = absurd (no_bad u lines second also is.0)
one_bad u lines (Some missing) first second (inr is) (inr also) = is.1 ∙ sym also.1

-- lines that are accepted have no first bad one
not_both : (u : Universe) (numbered : NumberedLines) (number : ℕ) → AreAccepted u numbered
    → IsFirstBadBehind u numbered.lines numbered.missing number → ⊥
not_both u numbered number accepted bad = (one_bad_line u numbered.lines number
    (subst (λ (missing : Option Missing). IsFirstBadBehind u numbered.lines missing number) accepted.none_missing bad)).0 accepted.accepted

one_verdict : (u : Universe) (numbered : NumberedLines) (first second : Verdict) → IsVerdictOn u numbered first
    → IsVerdictOn u numbered second → first ≡ second
one_verdict u numbered Yes Yes is also = refl
one_verdict u numbered Yes (No number) is also = absurd (not_both u numbered number is also)
one_verdict u numbered (No number) Yes is also = absurd (not_both u numbered number also is)
one_verdict u numbered (No number) (No other) is also = ap No (one_bad u numbered.lines numbered.missing number other is also)

pub has_one_verdict : HasOneVerdict
has_one_verdict u written first second is also = one_verdict u (lines_of u.pairs written) first second is also

pub named_is_accepted : NamedIsAccepted
named_is_accepted u lines refutation ascending named accepted = record {
  none_missing = ap (λ (n : NumberedLines). n.missing) again;
  accepted = subst (λ (n : NumberedLines). IsAccepted u n.lines) (sym again) accepted;
}
  where
    again : numbered_lines u.pairs refutation.lines ≡ record { lines = lines; missing = None }
    again = refutation_again u.pairs lines refutation ascending named
