-- Steps read so far, and those that are read behind them.
use Rattle.std.proofs.Common.{◌≡◌, ℕ, ◌+◌, ◌≤◌, true, false, List, [], ◌∷◌, ◌++◌, length, None, Result, Ok, Err, refl, sym, ap, subst, ◌∙◌, append_assoc, arith, eqb, inl, inr}
use Rattle.std.proofs.lemmas.Bool.{cases_Bool}
use Rattle.std.specs.Str.{bytes_eq}
use Rattle.rules.specs.declared.step.Step.{Step}
use Rattle.plantext.specs.Cut.{SplitsPart, parts_at}
use Rattle.plantext.specs.Error.{IsPlanFault}
use Rattle.plantext.specs.Plan.{end_line, only_line, put_step, put_steps, read_end, read_steps, read_steps_2, step_in_line}
use Rattle.plantext.specs.declared.cut.TheConstants.{NEWLINE}
use Rattle.plantext.specs.declared.error.PlanError.{PlanError}
use Rattle.plantext.specs.declared.error.PlanError.TheVariants as error
use Rattle.plantext.specs.declared.error.PlanFault.{PlanFault}
use Rattle.plantext.specs.declared.error.PlanFault.TheVariants.{BadPlan}
use Rattle.plantext.proofs.PartLemmas.{parts_some}

-- a step that is put before others stands behind those so far
pub put_steps_more : (steps : List Step) (step : Step) (later : Result (List Step) PlanFault)
    → put_steps (steps ++ step ∷ []) later ≡ put_steps steps (put_step (Ok step) later)
put_steps_more steps step (Ok later) = ap (λ list. Ok list) (append_assoc steps (step ∷ []) later)
put_steps_more steps step (Err fault) = refl

-- the refusal of a line is the refusal of all
pub line_refused : (e : PlanError) (steps : List Step) (read : Result Step PlanFault) (later : Result (List Step) PlanFault)
    → IsPlanFault e read → IsPlanFault e (put_steps steps (put_step read later))
line_refused (error.Refused fault) steps read later h = rw h refl
line_refused error.OutOfMemory steps read later h = tt

-- a line is read before others
step_put : (steps : List Step) (step : Step) (read : Result Step PlanFault) (later all : Result (List Step) PlanFault) → read ≡ Ok step
    → all ≡ put_step read later → put_steps (steps ++ step ∷ []) later ≡ put_steps steps all
step_put steps step read later all r e =
    put_steps_more steps step later ∙ ap (λ first. put_steps steps (put_step first later)) (sym r) ∙ ap (put_steps steps) (sym e)

-- a line is refused before others
refused_put : (e : PlanError) (steps : List Step) (read : Result Step PlanFault) (later all : Result (List Step) PlanFault)
    → all ≡ put_step read later → IsPlanFault e read → IsPlanFault e (put_steps steps all)
refused_put e steps read later all is h = subst (IsPlanFault e) (ap (put_steps steps) (sym is)) (line_refused e steps read later h)

-- Version 1

-- a line that has its newline is read before what is behind it
pub read_steps_more : (number : ℕ) (line rest : List ℕ) → read_steps number (line ∷ parts_at NEWLINE rest)
    ≡ put_step (step_in_line number line) (read_steps (number + 1) (parts_at NEWLINE rest))
read_steps_more number line rest = let some = parts_some NEWLINE rest in rw some.2 refl

-- a line is read
pub steps_read : (steps : List Step) (step : Step) (number : ℕ) (text line rest : List ℕ) → SplitsPart NEWLINE text line rest
    → step_in_line number line ≡ Ok step
    → put_steps (steps ++ step ∷ []) (read_steps (number + 1) (parts_at NEWLINE rest)) ≡ put_steps steps (read_steps number (parts_at NEWLINE text))
steps_read steps step number text line rest split read =
    step_put steps step (step_in_line number line) (read_steps (number + 1) (parts_at NEWLINE rest)) (read_steps number (parts_at NEWLINE text))
    read (ap (read_steps number) split.parts ∙ read_steps_more number line rest)

-- a line is refused, and so all is
pub steps_refused : (e : PlanError) (steps : List Step) (number : ℕ) (text line rest : List ℕ) → SplitsPart NEWLINE text line rest
    → IsPlanFault e (step_in_line number line) → IsPlanFault e (put_steps steps (read_steps number (parts_at NEWLINE text)))
steps_refused e steps number text line rest split refused =
    refused_put e steps (step_in_line number line) (read_steps (number + 1) (parts_at NEWLINE rest)) (read_steps number (parts_at NEWLINE text))
    (ap (read_steps number) split.parts ∙ read_steps_more number line rest) refused

-- Version 2

-- a line that has its newline and doesn't end the plan is read before what is behind it
pub read_steps_2_more : (count : ℕ) (line rest : List ℕ) → bytes_eq line (end_line count) ≡ false
    → read_steps_2 count (line ∷ parts_at NEWLINE rest) ≡ put_step (step_in_line (count + 1) line) (read_steps_2 (count + 1) (parts_at NEWLINE rest))
read_steps_2_more count line rest other = let some = parts_some NEWLINE rest in rw (some.2, other) refl

-- behind the line that ends the plan nothing may stand
pub read_steps_2_end : (count : ℕ) (line rest : List ℕ) → bytes_eq line (end_line count) ≡ true
    → read_steps_2 count (line ∷ parts_at NEWLINE rest) ≡ read_end (count + 2) (parts_at NEWLINE rest)
read_steps_2_end count line rest ends = let some = parts_some NEWLINE rest in rw (some.2, ends) refl

-- a line is read
pub steps_read_2 : (steps : List Step) (step : Step) (count : ℕ) (text line rest : List ℕ) → SplitsPart NEWLINE text line rest
    → bytes_eq line (end_line count) ≡ false → step_in_line (count + 1) line ≡ Ok step
    → put_steps (steps ++ step ∷ []) (read_steps_2 (count + 1) (parts_at NEWLINE rest)) ≡ put_steps steps (read_steps_2 count (parts_at NEWLINE text))
steps_read_2 steps step count text line rest split other read =
    step_put steps step (step_in_line (count + 1) line) (read_steps_2 (count + 1) (parts_at NEWLINE rest)) (read_steps_2 count (parts_at NEWLINE text))
    read (ap (read_steps_2 count) split.parts ∙ read_steps_2_more count line rest other)

-- a line is refused, and so all is
pub steps_refused_2 : (e : PlanError) (steps : List Step) (count : ℕ) (text line rest : List ℕ) → SplitsPart NEWLINE text line rest
    → bytes_eq line (end_line count) ≡ false → IsPlanFault e (step_in_line (count + 1) line)
    → IsPlanFault e (put_steps steps (read_steps_2 count (parts_at NEWLINE text)))
steps_refused_2 e steps count text line rest split other refused =
    refused_put e steps (step_in_line (count + 1) line) (read_steps_2 (count + 1) (parts_at NEWLINE rest)) (read_steps_2 count (parts_at NEWLINE text))
    (ap (read_steps_2 count) split.parts ∙ read_steps_2_more count line rest other) refused

-- the line that ends the plan is read, and what is behind it is refused or nothing
pub steps_end_2 : (steps : List Step) (count : ℕ) (text line rest : List ℕ) → SplitsPart NEWLINE text line rest → bytes_eq line (end_line count) ≡ true
    → put_steps steps (read_steps_2 count (parts_at NEWLINE text)) ≡ put_steps steps (read_end (count + 2) (parts_at NEWLINE rest))
steps_end_2 steps count text line rest split ends =
    ap (put_steps steps) (ap (read_steps_2 count) split.parts ∙ read_steps_2_end count line rest ends)

-- The end

-- where something stands behind the last line, it is refused
pub read_end_more : (number : ℕ) (rest : List ℕ) → 1 ≤ length rest → read_end number (parts_at NEWLINE rest) ≡ Err (BadPlan (number + 1))
read_end_more number [] h = absurd (omega arith)
read_end_more number (b ∷ bytes) h = elim (cases_Bool (eqb b 10)) [
  | inl here ↦ let some = parts_some NEWLINE bytes in rw (here, some.2) refl
  | inr other ↦ let some = parts_some NEWLINE bytes in rw (other, some.2) (onto some.0 some.1)
] where
  onto : (first : List ℕ) (later : List (List ℕ)) → read_end number ((b ∷ first) ∷ later) ≡ Err (BadPlan (number + 1))
  onto first [] = refl
  onto first (next ∷ later) = refl

-- where something stands behind a line, the line isn't all
pub only_line_more : (line rest : List ℕ) → 1 ≤ length rest → only_line (line ∷ parts_at NEWLINE rest) ≡ None
only_line_more line [] h = absurd (omega arith)
only_line_more line (b ∷ bytes) h = elim (cases_Bool (eqb b 10)) [
  | inl here ↦ let some = parts_some NEWLINE bytes in rw (here, some.2) refl
  | inr other ↦ let some = parts_some NEWLINE bytes in rw (other, some.2) (onto some.0 some.1)
] where
  onto : (first : List ℕ) (later : List (List ℕ)) → only_line (line ∷ (b ∷ first) ∷ later) ≡ None
  onto first [] = refl
  onto first (next ∷ later) = refl
