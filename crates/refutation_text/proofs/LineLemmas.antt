-- Lines read so far, and those that are read behind them.
use Rattle.std.proofs.Common.{◌≡◌, ℕ, ◌+◌, List, [], ◌∷◌, ◌++◌, Result, Ok, Err, refl, sym, ap, subst, ◌∙◌, append_assoc}
use Rattle.refutation.specs.declared.line.Line.{Line}
use Rattle.plantext.specs.Cut.{SplitsPart, parts_at}
use Rattle.refutation_text.specs.Error.{IsRefutationFault}
use Rattle.refutation_text.specs.Text.{put_line, put_lines, line_in_text, read_lines}
use Rattle.plantext.specs.declared.cut.TheConstants.{NEWLINE}
use Rattle.refutation_text.specs.declared.error.RefutationError.{RefutationError}
use Rattle.refutation_text.specs.declared.error.RefutationError.TheVariants as error
use Rattle.refutation_text.specs.declared.error.RefutationFault.{RefutationFault}
use Rattle.plantext.proofs.PartLemmas.{parts_some}

-- a line that has its newline is read before what is behind it
pub read_lines_more : (number : ℕ) (line rest : List ℕ) → read_lines number (line ∷ parts_at NEWLINE rest)
    ≡ put_line (line_in_text number line) (read_lines (number + 1) (parts_at NEWLINE rest))
read_lines_more number line rest = let some = parts_some NEWLINE rest in rw some.2 refl

-- a line that is put before others stands behind those so far
pub put_lines_more : (lines : List Line) (line : Line) (later : Result (List Line) RefutationFault)
    → put_lines (lines ++ line ∷ []) later ≡ put_lines lines (put_line (Ok line) later)
put_lines_more lines line (Ok later) = ap (λ behind. Ok behind) (append_assoc lines (line ∷ []) later)
put_lines_more lines line (Err fault) = refl

-- the refusal of a line is the refusal of all
pub line_refused : (e : RefutationError) (lines : List Line) (read : Result Line RefutationFault) (later : Result (List Line) RefutationFault)
    → IsRefutationFault e read → IsRefutationFault e (put_lines lines (put_line read later))
line_refused (error.Refused fault) lines read later h = rw h refl
line_refused error.OutOfMemory lines read later h = tt

-- the lines behind those so far, of a text that begins with a line
lines_split : (lines : List Line) (number : ℕ) (text line rest : List ℕ) → SplitsPart NEWLINE text line rest
    → put_lines lines (put_line (line_in_text number line) (read_lines (number + 1) (parts_at NEWLINE rest)))
    ≡ put_lines lines (read_lines number (parts_at NEWLINE text))
lines_split lines number text line rest split =
    ap (put_lines lines) (sym (ap (read_lines number) split.parts ∙ read_lines_more number line rest))

-- a line is read
pub lines_read : (lines : List Line) (line_read : Line) (number : ℕ) (text line rest : List ℕ) → SplitsPart NEWLINE text line rest
    → line_in_text number line ≡ Ok line_read
    → put_lines (lines ++ line_read ∷ []) (read_lines (number + 1) (parts_at NEWLINE rest)) ≡ put_lines lines (read_lines number (parts_at NEWLINE text))
lines_read lines line_read number text line rest split read =
    let later = read_lines (number + 1) (parts_at NEWLINE rest) in
    put_lines_more lines line_read later ∙ ap (λ first. put_lines lines (put_line first later)) (sym read)
    ∙ lines_split lines number text line rest split

-- a line is refused, and so all is
pub lines_refused : (e : RefutationError) (lines : List Line) (number : ℕ) (text line rest : List ℕ) → SplitsPart NEWLINE text line rest
    → IsRefutationFault e (line_in_text number line) → IsRefutationFault e (put_lines lines (read_lines number (parts_at NEWLINE text)))
lines_refused e lines number text line rest split refused = subst (IsRefutationFault e) (lines_split lines number text line rest split)
    (line_refused e lines (line_in_text number line) (read_lines (number + 1) (parts_at NEWLINE rest)) refused)
