-- The objects of the lines of a refutation, and how many of them are premises (docs/FORMATS.md, "Answers as JSON").
use Rattle.std.specs.Prelude.{◌≡◌, ℕ, Bool, true, false, List, Option, codes, filter, length, map, not}
use Rattle.std.specs.List.{AllZip, enumerate_from}
use Rattle.json_answers.specs.Objects.{with_number}
use Rattle.json_answers.specs.Pairs.{literal_data}
use Rattle.json_answers.specs.Premises.{IsTextOf, with_premise}
use Rattle.refutation.specs.declared.line.Line.{Line}
use Rattle.refutation.specs.declared.line.Line.TheVariants as line
use Rattle.refutation.specs.declared.line.Premise.{Premise}
use Rattle.refutation.specs.declared.literal.Literal.{Literal}
use Rattle.rules.specs.Universe.{Universe}
use Rattle.serde_json.specs.Data.{Data, Members, array, no_members, number, object, put, unsigned}
use Rattle.serde_json.specs.View.{items_of}

-- the number of a hint
abbrev pub hint_data : ℕ → Data
hint_data hint = number (unsigned hint)

-- the object of a derived line with its number, its literals and its hints
abbrev pub derived_data : Universe → ℕ → List Literal → List ℕ → Data
derived_data u place literals hints = object (put (codes "hints") (array (items_of (map hint_data hints)))
    (put (codes "literals") (array (items_of (map (literal_data u) literals))) (with_number (codes "line") place no_members)))

-- the object of a premise with its number and this text
abbrev pub premise_data : Universe → ℕ → Premise → Option (List ℕ) → Data
premise_data u place given text = object (with_premise u given text (with_number (codes "line") place no_members))

-- the value is the object of the premise, which has this number
abbrev pub IsPremiseData : Universe → ℕ → Premise → Data → Type 0
IsPremiseData u place given value = (text : Option (List ℕ)) × IsTextOf u given text × (value ≡ premise_data u place given text)

-- the value is the object of the line of this number
abbrev pub IsLineData : Universe → ℕ → Line → Data → Type 0
IsLineData u place (line.Premise given) value = IsPremiseData u place given value
IsLineData u place (line.Derived literals hints) value = value ≡ derived_data u place literals hints

-- the values are the objects of the lines, which are numbered from 1
abbrev pub AreLineData : Universe → List Line → List Data → Type 0
AreLineData u lines values = AllZip (λ numbered value. IsLineData u numbered.0 numbered.1 value) (enumerate_from 1 lines) values

-- the line is a premise
abbrev pub is_premise : Line → Bool
is_premise (line.Premise given) = true
is_premise (line.Derived literals hints) = false

-- the object of how many lines are premises and how many are derived
abbrev pub line_counts_data : List Line → Data
line_counts_data lines = object (with_number (codes "derived") (length (filter (λ one. not (is_premise one)) lines))
    (with_number (codes "premises") (length (filter is_premise lines)) no_members))

-- the members with these objects as those of the lines, in their order, and with how many of the lines are premises
abbrev pub with_lines : List Line → List Data → Members → Members
with_lines lines values members =
    put (codes "counts") (line_counts_data lines) (put (codes "lines") (array (items_of values)) members)

-- the new members are the old ones with the lines, each of which has its object
pub record AreWithLines (u : Universe) (lines : List Line) (old new : Members) : Type 0 where
  pub values : List Data
  pub objects : AreLineData u lines values
  pub members : new ≡ with_lines lines values old
