-- When a refutation whose pairs are named is accepted (docs/FORMATS.md): where all pairs are the universe's and the lines by
-- numbers are accepted.
use Rattle.std.specs.Prelude.{◌≡◌, ℕ, List, ◌⊎◌, Option, Some, None}
use Rattle.rules.specs.Universe.{Universe}
use Rattle.refutation.specs.declared.line.Line.{Line}
use Rattle.refutation.specs.Refutation.{AreGoodLines, IsAccepted, IsFirstBad, IsFirstNotGood}
use Rattle.refutecheck.specs.declared.verdict.Verdict.{Verdict}
use Rattle.refutecheck.specs.declared.verdict.Verdict.TheVariants as verdict
use Rattle.named_refutation.specs.declared.named.NamedLine.{NamedLine}
use Rattle.named_lines.specs.Numbering.{numbered_lines}
use Rattle.named_lines.specs.declared.numbering.Missing.{Missing}
use Rattle.named_lines.specs.declared.numbering.NumberedLines.{NumberedLines}

-- accepted: no line names a missing pair, and the lines by numbers are accepted
pub record AreAccepted (u : Universe) (numbered : NumberedLines) : Type 0 where
  pub none_missing : numbered.missing ≡ None
  pub accepted : IsAccepted u numbered.lines

-- the number is that of the first line that isn't good; where all before it are good, that of the one that names a missing pair,
-- and where none does, that of the one that is missing behind the last
abbrev pub IsFirstBadBehind : Universe → List Line → Option Missing → ℕ → Type 0
IsFirstBadBehind u lines None number = IsFirstBad u lines number
IsFirstBadBehind u lines (Some missing) number = IsFirstNotGood u lines number ⊎ (AreGoodLines u lines × (number ≡ missing.line))

-- the verdict on the lines by numbers: yes exactly where they are accepted, and else the number of the first bad one
abbrev pub IsVerdictOn : Universe → NumberedLines → Verdict → Type 0
IsVerdictOn u numbered verdict.Yes = AreAccepted u numbered
IsVerdictOn u numbered (verdict.No number) = IsFirstBadBehind u numbered.lines numbered.missing number

-- the verdict on the lines whose pairs are named
abbrev pub IsNamedVerdict : Universe → List NamedLine → Verdict → Type 0
IsNamedVerdict u lines verdict = IsVerdictOn u (numbered_lines u.pairs lines) verdict

-- the verdict where the line of this number, behind those that were judged, names a missing pair
abbrev pub verdict_at : ℕ → Verdict → Verdict
verdict_at line verdict.Yes = verdict.No line
verdict_at line (verdict.No number) = verdict.No number
