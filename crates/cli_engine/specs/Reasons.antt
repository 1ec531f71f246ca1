-- What is told of an answer, for a person to read (this project's own form; docs/FORMATS.md, "Sentences").
use Rattle.std.specs.Prelude.{◌≡◌, ◌++◌, ℕ, Bool, true, false, List, [], MatchOption, Option, Some, None, Result, Ok, Err, codes, decimal, ⊤}
use Rattle.candidates.specs.Inputs.{indices_of}
use Rattle.index.specs.Index.{ReadIndex}
use Rattle.named_lines.specs.declared.numbering.Missing.{Missing}
use Rattle.named_lines.specs.declared.numbering.NumberedLines.{NumberedLines}
use Rattle.phrases.specs.Phrases.{versioned}
use Rattle.plan_sentences.specs.Told.{TellsPlan}
use Rattle.refutation.specs.Clause.{item_at}
use Rattle.refutation.specs.Refutation.{IsAccepted}
use Rattle.refutation.specs.declared.line.Line.{Line}
use Rattle.refutation.specs.declared.line.Line.TheVariants as line
use Rattle.refutation_sentences.specs.Sentences.{AreSentences}
use Rattle.refutecheck.specs.declared.verdict.Verdict.{Verdict as Refuted}
use Rattle.refutecheck.specs.declared.verdict.Verdict.TheVariants as refuted
use Rattle.rules.specs.Available.{Index}
use Rattle.rules.specs.Database.{Record}
use Rattle.rules.specs.Universe.{Universe}
use Rattle.solver.specs.declared.solved.Solved.{Solved}
use Rattle.solver.specs.declared.solved.Solved.TheVariants as solved
use Rattle.trim.specs.Needed.{ArePremisesOf}

-- there is one exactly where it is wanted, and the fact holds of it
abbrev pub HasWhere : {A : Type 0} → Bool → (A → Type 0) → Option A → Type 0
HasWhere wanted Holds made = MatchOption made (wanted ≡ false) (λ value. (wanted ≡ true) × Holds value)

-- what is told was wanted, and the fact holds of it; where memory was refused for it nothing is told
abbrev pub IsToldWhere : Bool → (List ℕ → Type 0) → Option (List ℕ) → Type 0
IsToldWhere wanted Holds told = MatchOption told ⊤ (λ text. (wanted ≡ true) × Holds text)

-- the text, where there is one, and nothing where memory was refused for it
abbrev pub told_if : {V E : Type 0} → (V → List ℕ) → Result V E → Option (List ℕ)
told_if items (Ok text) = Some (items text)
told_if items (Err wanting) = None

-- Of a refutation

-- the text tells by the indices a core of the lines: lines that are accepted, whose premises are among theirs
pub record AreReasons (u : Universe) (indices : List Index) (lines : List Line) (all_versions : Bool) (text : List ℕ) : Type 0 where
  pub read : List ReadIndex
  pub indexed : indices_of read ≡ indices
  pub core : List Line
  pub premises : ArePremisesOf core lines
  pub accepted : IsAccepted u core
  pub sentences : AreSentences u read core all_versions text

-- which pair a line names that isn't admitted
abbrev pub missing_words : Missing → List ℕ
missing_words missing = codes "Line " ++ (decimal missing.line ++ (codes " names "
    ++ (versioned missing.pair.name missing.pair.version ++ codes ", which isn't admitted.\n")))

-- what is wrong with the line of this number, by what it is
abbrev pub line_words : ℕ → Line → List ℕ
line_words number (line.Premise premise) =
    codes "Line " ++ (decimal number ++ codes " isn't a premise of this request over these inputs.\n")
line_words number (line.Derived literals hints) =
    codes "Line " ++ (decimal number ++ codes " doesn't follow from the lines that it names.\n")

-- what is wrong with the first bad line, of this number, or with the last one where there is no line of it
abbrev pub bad_line_words : ℕ → Option Line → List ℕ
bad_line_words number (Some bad) = line_words number bad
bad_line_words number None = codes "Each line is right, but the last one leaves a choice.\n"

-- what is wrong with lines that aren't accepted: which pair isn't admitted, where one is named that isn't, and else what is wrong with
-- the first bad line, of this number
abbrev pub fault_words : ℕ → List Line → Option Missing → List ℕ
fault_words number lines (Some missing) = missing_words missing
fault_words number lines None = bad_line_words number (item_at lines number)

-- the text tells the reasons of a refutation that is accepted, and of another one what is wrong with it
abbrev pub TellsRefutation : Universe → List Index → NumberedLines → Bool → Refuted → List ℕ → Type 0
TellsRefutation u indices numbered all_versions refuted.Yes text = AreReasons u indices numbered.lines all_versions text
TellsRefutation u indices numbered all_versions (refuted.No number) text = text ≡ fault_words number numbered.lines numbered.missing

-- Of a request

-- the text tells the reasons of a refutation, what a plan changes, and of an undecided request nothing
abbrev pub TellsSolved : Universe → List Index → List Record → Bool → Solved → List ℕ → Type 0
TellsSolved u indices start all_versions (solved.Refuted lines) text = AreReasons u indices lines all_versions text
TellsSolved u indices start all_versions (solved.Plan steps) text = TellsPlan u start steps.items text
TellsSolved u indices start all_versions (solved.Undecided why) text = text ≡ []
