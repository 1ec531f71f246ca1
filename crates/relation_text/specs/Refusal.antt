-- What is refused in the value of a relation field: of all refusals the one with the least offset.
use Rattle.std.specs.Prelude.{ℕ, ◌+◌, ◌-◌, ◌==◌, List, [], ◌∷◌, length, nat_lt, Option, Some, None, Result, Ok, Err, if◌then◌else◌}
use Rattle.std.specs.Option.{option_map, option_or, option_and_then, option_map_or, is_some}
use Rattle.rules.specs.VersionFault.{first_fault}
use Rattle.rules.specs.Package.{Atom, Provided}
use Rattle.relation_text.specs.Bytes.{is_white}
use Rattle.relation_text.specs.Place.{awaits_name, is_dead, is_end}
use Rattle.relation_text.specs.Shape.{next}
use Rattle.relation_text.specs.Spelling.{after_run, inside_of, from_version, version_in, is_blank, parts_of, atoms_between, clauses_of, provided_items_of}
use Rattle.relation_text.specs.declared.cut.Separator.{Separator}
use Rattle.relation_text.specs.declared.cut.Separator.TheVariants.{Comma, CommaOrBar}
use Rattle.relation_text.specs.declared.error.RelationFault.{RelationFault}
use Rattle.relation_text.specs.declared.error.RelationFault.TheVariants.{BadRelation, BadName, TooLarge}
use Rattle.relation_text.specs.declared.refusal.RelationRefusal.{RelationRefusal}
use Rattle.relation_text.specs.declared.shape.RelationForm.{RelationForm}
use Rattle.relation_text.specs.declared.shape.RelationForm.TheVariants.{Clauses, Atoms, Provides}
use Rattle.relation_text.specs.declared.shape.ShapePlace.{ShapePlace}
use Rattle.relation_text.specs.declared.shape.ShapePlace.TheVariants.{Between}

-- how many atoms a field may have (this project's own)
abbrev pub most_atoms : ℕ
most_atoms = 65535

-- a text that stops at this place is refused as a name where a name or a qualifier could begin there
abbrev pub stop_at : ShapePlace → ℕ → RelationRefusal
stop_at place offset =
    record { offset = offset; fault = if awaits_name place then BadName offset else BadRelation offset }

-- the first of these bytes that leads to the dead place, or their end where no value may end there
abbrev pub shape_refusal_from : RelationForm → ShapePlace → ℕ → List ℕ → Option RelationRefusal
shape_refusal_from form place offset [] = if is_end place then None else Some (stop_at place offset)
shape_refusal_from form place offset (b ∷ bytes) =
    if is_dead (next form place b) then Some (stop_at place offset)
    else shape_refusal_from form (next form place b) (offset + 1) bytes

-- where the version of a restriction begins in its atom's text, if it is refused
abbrev pub bad_version_in : List ℕ → List ℕ → Option ℕ
bad_version_in text inside =
    if is_some (first_fault (version_in inside)) then Some (length text - length (from_version inside)) else None

-- where the version of an atom's text begins, if the atom has a restriction and its version is refused
unfoldable pub bad_version_of : List ℕ → Option ℕ
bad_version_of text = option_and_then (bad_version_in text) (inside_of text)

-- a refused version at this offset
abbrev pub bad_version_at : ℕ → RelationRefusal
bad_version_at offset = record { offset = offset; fault = BadRelation offset }

-- the first refused version of parts, of which the first begins at this offset
abbrev pub version_refusal_from : ℕ → List (List ℕ) → Option RelationRefusal
version_refusal_from offset [] = None
version_refusal_from offset (text ∷ texts) =
    option_or (option_map (λ at. bad_version_at (offset + at)) (bad_version_of text))
    (version_refusal_from (offset + length text + 1) texts)

-- where an atom begins in its text: behind white space
abbrev pub atom_start : List ℕ → ℕ
atom_start text = length text - length (after_run is_white text)

-- an atom too many at this offset
abbrev pub too_large_at : ℕ → RelationRefusal
too_large_at offset = record { offset = offset; fault = TooLarge }

-- how many more atoms a field may have behind this part, or none where the part is an atom too many
abbrev pub more_after : ℕ → List ℕ → Option ℕ
more_after more text = if is_blank text then Some more else if more == 0 then None else Some (more - 1)

-- the atom too many of these parts, which may have so many atoms, and of which the first begins at this offset
abbrev pub excess_from : ℕ → ℕ → List (List ℕ) → Option RelationRefusal
excess_from more offset [] = None
excess_from more offset (text ∷ texts) = option_map_or
    (λ left. excess_from left (offset + length text + 1) texts)
    (more_after more text)
    (Some (too_large_at (offset + atom_start text)))

-- the refusal whose offset is less, or the first of two at one offset
abbrev pub sooner : Option RelationRefusal → Option RelationRefusal → Option RelationRefusal
sooner None other = other
sooner (Some refusal) None = Some refusal
sooner (Some refusal) (Some other) = if nat_lt other.offset refusal.offset then Some other else Some refusal

-- what parts the atoms of a form
abbrev pub separator_of : RelationForm → Separator
separator_of Clauses = CommaOrBar
separator_of Atoms = Comma
separator_of Provides = Comma

-- the least refusal of a value: of a byte that no text of the form goes on with, or an end too early; of a
-- version; of an atom too many
abbrev pub least_refusal : RelationForm → List ℕ → Option RelationRefusal
least_refusal form value =
    sooner (shape_refusal_from form Between 0 value)
    (sooner (version_refusal_from 0 (parts_of (separator_of form) value))
    (excess_from most_atoms 0 (parts_of (separator_of form) value)))

-- the refusal of a value, if it is refused
unfoldable pub fault_of : RelationForm → List ℕ → Option RelationFault
fault_of form value = option_map (λ refusal. refusal.fault) (least_refusal form value)

-- what was read, unless the value is refused
abbrev pub unless_refused : {A : Type 0} → Option RelationFault → A → Result A RelationFault
unless_refused None read = Ok read
unless_refused (Some fault) read = Err fault

-- the clauses of a Pre-Depends or Depends value, or its refusal
abbrev pub read_clauses : List ℕ → List ℕ → Result (List (List Atom)) RelationFault
read_clauses arch value = unless_refused (fault_of Clauses value) (clauses_of arch value)

-- the atoms of a Conflicts or Breaks value, or its refusal
abbrev pub read_atoms : List ℕ → List ℕ → Result (List Atom) RelationFault
read_atoms arch value = unless_refused (fault_of Atoms value) (atoms_between Comma arch value)

-- the items of a Provides value, or its refusal
abbrev pub read_provides : List ℕ → List ℕ → Result (List Provided) RelationFault
read_provides arch value = unless_refused (fault_of Provides value) (provided_items_of arch value)
