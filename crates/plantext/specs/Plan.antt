-- The text of a plan (this project's own). Version 1 is the line `plan 1`, and then a line for each step; version 2 is the
-- line `plan 2`, a line for each step, and the line `end N`, N the number of the steps. Each line ends with a newline, so
-- that newlines part the text into the lines and, last, nothing.
use Rattle.std.specs.Prelude.{◌≡◌, ◌⊎◌, ℕ, ◌+◌, ◌≤◌, List, [], ◌∷◌, ◌++◌, length, nat_lt, Option, Some, None, Result, Ok, Err, codes, decimal, if◌then◌else◌}
use Rattle.std.specs.List.{flat_map}
use Rattle.std.specs.Option.{ok_or, option_and_then}
use Rattle.std.specs.Str.{bytes_eq}
use Rattle.rules.specs.declared.limits.TheConstants.{STEPS, TEXT_BYTES}
use Rattle.rules.specs.declared.step.Step.{Step}
use Rattle.plantext.specs.Cut.{parts_at}
use Rattle.plantext.specs.StepLine.{step_of, step_line}
use Rattle.plantext.specs.declared.cut.TheConstants.{NEWLINE}
use Rattle.plantext.specs.declared.error.PlanFault.{PlanFault}
use Rattle.plantext.specs.declared.error.PlanFault.TheVariants.{BadPlan, TooLarge}

-- the first line of version 1, without its newline
abbrev pub header : List ℕ
header = codes "plan 1"

-- the first line of version 2, without its newline
abbrev pub header_2 : List ℕ
header_2 = codes "plan 2"

-- the line that ends a plan of this many steps in version 2, without its newline
abbrev pub end_line : ℕ → List ℕ
end_line count = codes "end " ++ decimal count

-- Reading

-- this step of this number, unless it is one too many
abbrev pub counted_step : ℕ → Step → Result Step PlanFault
counted_step number step = if nat_lt STEPS number then Err TooLarge else Ok step

-- the step, if the line of this number had one: the header stands before the lines of steps
abbrev pub numbered_step : ℕ → Option Step → Result Step PlanFault
numbered_step number None = Err (BadPlan (number + 1))
numbered_step number (Some step) = counted_step number step

-- the step of this number in its line, which has its newline
abbrev pub step_in_line : ℕ → List ℕ → Result Step PlanFault
step_in_line number line = numbered_step number (step_of line)

-- the steps before those that are read behind them
abbrev pub put_steps : List Step → Result (List Step) PlanFault → Result (List Step) PlanFault
put_steps steps (Ok later) = Ok (steps ++ later)
put_steps steps (Err fault) = Err fault

-- the step that is read, before those that are read behind it
abbrev pub put_step : Result Step PlanFault → Result (List Step) PlanFault → Result (List Step) PlanFault
put_step (Ok step) later = put_steps (step ∷ []) later
put_step (Err fault) later = Err fault

-- behind the last line, which has this number, nothing may stand: a further one is refused, with its newline or without
abbrev pub read_end : ℕ → List (List ℕ) → Result (List Step) PlanFault
read_end number [] = Err (BadPlan number)
read_end number (line ∷ next ∷ later) = Err (BadPlan (number + 1))
read_end number ([] ∷ []) = Ok []
read_end number ((b ∷ bytes) ∷ []) = Err (BadPlan (number + 1))

-- the steps of version 1 from this number on, of what newlines part; where nothing is parted, the line before lacks its newline
abbrev pub read_steps : ℕ → List (List ℕ) → Result (List Step) PlanFault
read_steps number [] = Err (BadPlan number)
read_steps number (last ∷ []) = read_end number (last ∷ [])
read_steps number (line ∷ next ∷ later) = put_step (step_in_line number line) (read_steps (number + 1) (next ∷ later))

-- the steps of version 2 behind this many, of what newlines part, up to the line that ends a plan of so many; where it is
-- missing, the line behind the last newline is refused, also where that is empty
abbrev pub read_steps_2 : ℕ → List (List ℕ) → Result (List Step) PlanFault
read_steps_2 count [] = Err (BadPlan (count + 1))
read_steps_2 count (last ∷ []) = Err (BadPlan (count + 2))
read_steps_2 count (line ∷ next ∷ later) =
    if bytes_eq line (end_line count) then read_end (count + 2) (next ∷ later)
    else put_step (step_in_line (count + 1) line) (read_steps_2 (count + 1) (next ∷ later))

-- the steps of what newlines part, of which the first has to be the header of a version
abbrev pub read_lines : List (List ℕ) → Result (List Step) PlanFault
read_lines [] = Err (BadPlan 1)
read_lines (first ∷ later) =
    if bytes_eq first header then read_steps 1 later
    else if bytes_eq first header_2 then read_steps_2 0 later
    else Err (BadPlan 1)

-- the steps of a plan's text in either version, or its first refusal
unfoldable pub read_plan : List ℕ → Result (List Step) PlanFault
read_plan text = if nat_lt TEXT_BYTES (length text) then Err TooLarge else read_lines (parts_at NEWLINE text)

-- the line of which newlines part nothing more: all but the newline at its end
abbrev pub only_line : List (List ℕ) → Option (List ℕ)
only_line [] = None
only_line (last ∷ []) = None
only_line (line ∷ [] ∷ []) = Some line
only_line (line ∷ (b ∷ bytes) ∷ []) = None
only_line (line ∷ next ∷ last ∷ later) = None

-- the step of a text that is one step's line with its newline, or its refusal, which is of its first line
unfoldable pub read_step : List ℕ → Result Step PlanFault
read_step text = if nat_lt TEXT_BYTES (length text) then Err TooLarge
    else ok_or (option_and_then step_of (only_line (parts_at NEWLINE text))) (BadPlan 1)

-- Writing

-- the version 1 text of a plan with these steps
unfoldable pub plan_text : List Step → List ℕ
plan_text steps = header ++ NEWLINE ∷ [] ++ flat_map step_line steps

-- the version 2 text of a plan with these steps
unfoldable pub plan_text_2 : List Step → List ℕ
plan_text_2 steps = header_2 ++ NEWLINE ∷ [] ++ flat_map step_line steps ++ end_line (length steps) ++ NEWLINE ∷ []

-- the text is a text of a plan with these steps, of one version or the other
abbrev pub IsPlanText : List Step → List ℕ → Type 0
IsPlanText steps text = (text ≡ plan_text steps) ⊎ (text ≡ plan_text_2 steps)

-- the text is read as these steps, unless it is too long or they are too many
abbrev pub IsReadAsPlan : List Step → List ℕ → Type 0
IsReadAsPlan steps text = length text ≤ TEXT_BYTES → length steps ≤ STEPS → read_plan text ≡ Ok steps

-- the text is read as this step, unless it is too long
abbrev pub IsReadAsStep : Step → List ℕ → Type 0
IsReadAsStep step text = length text ≤ TEXT_BYTES → read_step text ≡ Ok step
