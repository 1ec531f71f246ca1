-- Lines read so far, and those that are read behind them.
use Rattle.std.proofs.Common.{◌≡◌, ℕ, ◌+◌, ◌≤◌, true, false, List, [], ◌∷◌, ◌++◌, length, Some, Result, Ok, Err, refl, sym, ap, subst, ◌∙◌, append_assoc, arith, eqb, inl, inr}
use Rattle.std.proofs.lemmas.Bool.{cases_Bool}
use Rattle.std.specs.Prelude.{codes}
use Rattle.std.specs.Str.{bytes_eq}
use Rattle.plantext.specs.Cut.{SplitsPart, parts_at}
use Rattle.plantext.specs.Plan.{end_line}
use Rattle.plantext.specs.declared.cut.TheConstants.{NEWLINE}
use Rattle.plantext.proofs.PartLemmas.{parts_some}
use Rattle.refutation_text.specs.Error.{IsRefutationFault}
use Rattle.refutation_text.specs.declared.error.RefutationError.{RefutationError}
use Rattle.refutation_text.specs.declared.error.RefutationError.TheVariants as error
use Rattle.refutation_text.specs.declared.error.RefutationFault.{RefutationFault}
use Rattle.refutation_text.specs.declared.error.RefutationFault.TheVariants.{BadRefutation}
use Rattle.named_refutation.specs.Derived.{derived_from, literal_of}
use Rattle.named_refutation.specs.Text.{line_in_text, put_line, put_lines, read_end, read_lines}
use Rattle.named_refutation.specs.declared.named.NamedLine.{NamedLine}
use Rattle.named_refutation.specs.declared.named.NamedLiteral.{NamedLiteral}

-- two words that are read as a literal are read before what is behind them
pub literal_read : (literals : List NamedLiteral) (literal : NamedLiteral) (word version : List ℕ) (later : List (List ℕ))
    → bytes_eq word (codes ":") ≡ false → literal_of word version ≡ Some literal
    → derived_from (literals ++ literal ∷ []) later ≡ derived_from literals (word ∷ version ∷ later)
literal_read literals literal word version later other is = rw (other, is) refl

-- a line that is put before others stands behind those so far
pub put_lines_more : (lines : List NamedLine) (line : NamedLine) (later : Result (List NamedLine) RefutationFault)
    → put_lines (lines ++ line ∷ []) later ≡ put_lines lines (put_line (Ok line) later)
put_lines_more lines line (Ok later) = ap (λ behind. Ok behind) (append_assoc lines (line ∷ []) later)
put_lines_more lines line (Err fault) = refl

-- the refusal of a line is the refusal of all
pub line_refused : (e : RefutationError) (lines : List NamedLine) (read : Result NamedLine RefutationFault) (later : Result (List NamedLine) RefutationFault)
    → IsRefutationFault e read → IsRefutationFault e (put_lines lines (put_line read later))
line_refused (error.Refused fault) lines read later h = rw h refl
line_refused error.OutOfMemory lines read later h = tt

-- a line that has its newline and isn't the end is read before what is behind it
pub read_lines_more : (before count : ℕ) (text rest : List ℕ) → bytes_eq text (end_line count) ≡ false
    → read_lines before count (text ∷ parts_at NEWLINE rest)
    ≡ put_line (line_in_text before (count + 1) text) (read_lines before (count + 1) (parts_at NEWLINE rest))
read_lines_more before count text rest other = let some = parts_some NEWLINE rest in rw (some.2, other) refl

-- behind the end nothing may stand
pub read_lines_end : (before count : ℕ) (text rest : List ℕ) → bytes_eq text (end_line count) ≡ true
    → read_lines before count (text ∷ parts_at NEWLINE rest) ≡ read_end (before + (count + 1)) (parts_at NEWLINE rest)
read_lines_end before count text rest ends = let some = parts_some NEWLINE rest in rw (some.2, ends) refl

-- the lines behind those so far, of a text that begins with a line
lines_split : (lines : List NamedLine) (before count : ℕ) (text line rest : List ℕ) → SplitsPart NEWLINE text line rest
    → bytes_eq line (end_line count) ≡ false
    → put_lines lines (put_line (line_in_text before (count + 1) line) (read_lines before (count + 1) (parts_at NEWLINE rest)))
    ≡ put_lines lines (read_lines before count (parts_at NEWLINE text))
lines_split lines before count text line rest split other =
    ap (put_lines lines) (sym (ap (read_lines before count) split.parts ∙ read_lines_more before count line rest other))

-- a line is read
pub lines_read : (lines : List NamedLine) (line_read : NamedLine) (before count : ℕ) (text line rest : List ℕ) → SplitsPart NEWLINE text line rest
    → bytes_eq line (end_line count) ≡ false → line_in_text before (count + 1) line ≡ Ok line_read
    → put_lines (lines ++ line_read ∷ []) (read_lines before (count + 1) (parts_at NEWLINE rest))
    ≡ put_lines lines (read_lines before count (parts_at NEWLINE text))
lines_read lines line_read before count text line rest split other read =
    let later = read_lines before (count + 1) (parts_at NEWLINE rest) in
    put_lines_more lines line_read later ∙ ap (λ first. put_lines lines (put_line first later)) (sym read)
    ∙ lines_split lines before count text line rest split other

-- a line is refused, and so all is
pub lines_refused : (e : RefutationError) (lines : List NamedLine) (before count : ℕ) (text line rest : List ℕ) → SplitsPart NEWLINE text line rest
    → bytes_eq line (end_line count) ≡ false → IsRefutationFault e (line_in_text before (count + 1) line)
    → IsRefutationFault e (put_lines lines (read_lines before count (parts_at NEWLINE text)))
lines_refused e lines before count text line rest split other refused =
    subst (IsRefutationFault e) (lines_split lines before count text line rest split other)
    (line_refused e lines (line_in_text before (count + 1) line) (read_lines before (count + 1) (parts_at NEWLINE rest)) refused)

-- the end is read, and what is behind it is refused or nothing
pub lines_end : (lines : List NamedLine) (before count : ℕ) (text line rest : List ℕ) → SplitsPart NEWLINE text line rest
    → bytes_eq line (end_line count) ≡ true
    → put_lines lines (read_lines before count (parts_at NEWLINE text)) ≡ put_lines lines (read_end (before + (count + 1)) (parts_at NEWLINE rest))
lines_end lines before count text line rest split ends =
    ap (put_lines lines) (ap (read_lines before count) split.parts ∙ read_lines_end before count line rest ends)

-- where something stands behind the end, it is refused
pub read_end_more : (place : ℕ) (rest : List ℕ) → 1 ≤ length rest → read_end place (parts_at NEWLINE rest) ≡ Err (BadRefutation (place + 1))
read_end_more place [] h = absurd (omega arith)
read_end_more place (b ∷ bytes) h = elim (cases_Bool (eqb b 10)) [
  | inl here ↦ let some = parts_some NEWLINE bytes in rw (here, some.2) refl
  | inr other ↦ let some = parts_some NEWLINE bytes in rw (other, some.2) (onto some.0 some.1)
] where
  onto : (first : List ℕ) (later : List (List ℕ)) → read_end place ((b ∷ first) ∷ later) ≡ Err (BadRefutation (place + 1))
  onto first [] = refl
  onto first (next ∷ later) = refl
