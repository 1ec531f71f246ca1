-- The line that is printed of a refusal (docs/FORMATS.md, section 14).
use Rattle.std.specs.Prelude.{ℕ, List, ◌++◌, codes}
use Rattle.apply.specs.declared.error.BeginError.{BeginError}
use Rattle.apply.specs.declared.error.RunError.{RunError}
use Rattle.inputs.specs.declared.refusal.Refusal.{Refusal}
use Rattle.refusal_lines.specs.Journals.{begin_words, run_words}
use Rattle.refusal_lines.specs.Texts.{fault_words, place_words}

-- the place, and what is wrong there
abbrev pub with_place : List ℕ → List ℕ → List ℕ
with_place place said = place ++ (codes ": " ++ said)

-- a line on standard error
abbrev pub line_of : List ℕ → List ℕ
line_of said = codes "debplan: " ++ (said ++ codes "\n")

-- which text is refused, and why
abbrev pub refusal_words : Refusal → List ℕ
refusal_words refusal = with_place (place_words refusal.place) (fault_words refusal.fault)

-- the line of a text that is refused
abbrev pub refusal_line : Refusal → List ℕ
refusal_line refusal = line_of (refusal_words refusal)

-- the line of a plan for which no journal is made
abbrev pub unbegun_line : BeginError → List ℕ
unbegun_line e = line_of (with_place (codes "journal") (begin_words e))

-- the line of a plan that its journal doesn't carry out
abbrev pub stopped_line : RunError → List ℕ
stopped_line e = line_of (with_place (codes "journal") (run_words e))
