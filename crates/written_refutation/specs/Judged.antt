-- When a refutation is accepted, however it is written (docs/FORMATS.md): by its lines with numbers for pairs.
use Rattle.std.specs.Prelude.{◌≡◌, List, Some, None}
use Rattle.std.specs.List.Sorted.{IsStrictlySortedBy}
use Rattle.refutation.specs.Refutation.{IsAccepted}
use Rattle.refutation.specs.declared.line.Line.{Line}
use Rattle.refutecheck.specs.declared.verdict.Verdict.{Verdict}
use Rattle.rules.specs.Universe.{Pair, Universe, pair_cmp}
use Rattle.named_refutation.specs.declared.named.NamedRefutation.{NamedRefutation}
use Rattle.named_lines.specs.Judged.{AreAccepted, IsVerdictOn}
use Rattle.named_lines.specs.Naming.{refutation_named}
use Rattle.named_lines.specs.Numbering.{numbered_lines}
use Rattle.named_lines.specs.declared.numbering.NumberedLines.{NumberedLines}
use Rattle.written_refutation.specs.declared.written.WrittenRefutation.{WrittenRefutation}
use Rattle.written_refutation.specs.declared.written.WrittenRefutation.TheVariants as written

-- its lines by numbers, up to the first that names a pair which isn't one of these, and which that is
abbrev pub lines_of : List Pair → WrittenRefutation → NumberedLines
lines_of pairs (written.Numbered lines) = record { lines = lines; missing = None }
lines_of pairs (written.Named refutation) = numbered_lines pairs refutation.lines

-- accepted: no line names a missing pair, and the lines by numbers are accepted
abbrev pub IsWrittenAccepted : Universe → WrittenRefutation → Type 0
IsWrittenAccepted u written = AreAccepted u (lines_of u.pairs written)

-- the verdict on it: yes exactly where it is accepted, and else the number of the first line that names a missing pair or is bad, or
-- of the one that is missing behind the last
abbrev pub IsWrittenVerdict : Universe → WrittenRefutation → Verdict → Type 0
IsWrittenVerdict u written said = IsVerdictOn u (lines_of u.pairs written) said

-- a refutation has one verdict over a universe
abbrev pub HasOneVerdict : Type 0
HasOneVerdict = (u : Universe) (written : WrittenRefutation) (first second : Verdict) → IsWrittenVerdict u written first
    → IsWrittenVerdict u written second → first ≡ second

-- lines that are accepted are so where their pairs are named, over pairs that ascend
abbrev pub NamedIsAccepted : Type 0
NamedIsAccepted = (u : Universe) (lines : List Line) (refutation : NamedRefutation) → IsStrictlySortedBy pair_cmp u.pairs
    → refutation_named u.pairs lines ≡ Some refutation → IsAccepted u lines → IsWrittenAccepted u (written.Named refutation)
