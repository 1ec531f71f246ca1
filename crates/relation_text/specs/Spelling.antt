-- What a relation field's value spells (Policy 7.1), where nothing of it is refused: the texts of its atoms,
-- and the parts of an atom. That `any`, `native` and the configured architecture are ignored, and that an
-- atom with another qualifier is foreign, is this project's own.
use Rattle.std.specs.Prelude.{ℕ, Bool, false, not, ◌||◌, List, [], ◌∷◌, map, filter, drop, Option, Some, None, codes, if◌then◌else◌}
use Rattle.std.specs.List.{prefix_len, take_while, slice_split, list_all}
use Rattle.std.specs.Option.{option_map}
use Rattle.rules.specs.Name.{is_name_byte}
use Rattle.std.specs.Str.{bytes_eq}
use Rattle.rules.specs.Package.{Atom, Provided}
use Rattle.rules.specs.declared.goal.Restriction.{Restriction}
use Rattle.rules.specs.declared.op.Op.{Op}
use Rattle.rules.specs.declared.op.Op.TheVariants.{StrictlyEarlier, EarlierOrEqual, ExactlyEqual, LaterOrEqual, StrictlyLater}
use Rattle.relation_text.specs.declared.cut.Separator.{Separator}
use Rattle.relation_text.specs.declared.cut.Separator.TheVariants.{Comma, Bar, CommaOrBar}
use Rattle.relation_text.specs.Bytes.{is_white, is_comma, is_bar, is_colon, is_opening, is_less, is_greater, is_operator_byte, is_qualifier_byte, is_version_byte}

-- what follows the bytes at the front that pass the test
abbrev pub after_run : (ℕ → Bool) → List ℕ → List ℕ
after_run test text = drop (prefix_len test text) text

-- the name of an atom, behind white space
abbrev pub name_of : List ℕ → List ℕ
name_of text = take_while is_name_byte (after_run is_white text)

-- what follows the name
abbrev pub after_name : List ℕ → List ℕ
after_name text = after_run is_name_byte (after_run is_white text)

-- the qualifier at the front, behind its colon
abbrev pub qualifier_at : List ℕ → Option (List ℕ)
qualifier_at [] = None
qualifier_at (b ∷ rest) = if is_colon b then Some (take_while is_qualifier_byte rest) else None

-- what follows the qualifier at the front, if there is one
abbrev pub after_qualifier : List ℕ → List ℕ
after_qualifier [] = []
after_qualifier (b ∷ rest) = if is_colon b then after_run is_qualifier_byte rest else b ∷ rest

-- what follows the parenthesis at the front and white space behind it
abbrev pub opened_at : List ℕ → Option (List ℕ)
opened_at [] = None
opened_at (b ∷ rest) = if is_opening b then Some (after_run is_white rest) else None

-- the restriction of an atom, from its operator on
abbrev pub inside_of : List ℕ → Option (List ℕ)
inside_of text = opened_at (after_run is_white (after_qualifier (after_name text)))

-- an operator that begins with `<`
abbrev pub earlier_op : List ℕ → Op
earlier_op [] = EarlierOrEqual
earlier_op (b ∷ rest) = if is_less b then StrictlyEarlier else EarlierOrEqual

-- an operator that begins with `>`
abbrev pub later_op : List ℕ → Op
later_op [] = LaterOrEqual
later_op (b ∷ rest) = if is_greater b then StrictlyLater else LaterOrEqual

-- the operator of these bytes; the obsolete `<` and `>` are `<=` and `>=`
abbrev pub op_of : List ℕ → Op
op_of [] = ExactlyEqual
op_of (b ∷ rest) = if is_less b then earlier_op rest else if is_greater b then later_op rest else ExactlyEqual

-- the restriction from its version on
abbrev pub from_version : List ℕ → List ℕ
from_version inside = after_run is_white (after_run is_operator_byte inside)

-- the version of a restriction
abbrev pub version_in : List ℕ → List ℕ
version_in inside = take_while is_version_byte (from_version inside)

-- a restriction as its operator and its version
abbrev pub restriction_in : List ℕ → Restriction
restriction_in inside = record { op = op_of (take_while is_operator_byte inside); version = version_in inside }

-- the qualifier is of another architecture than the configured one
abbrev pub is_foreign : List ℕ → Option (List ℕ) → Bool
is_foreign arch None = false
is_foreign arch (Some qualifier) =
    not (bytes_eq qualifier (codes "any") || bytes_eq qualifier (codes "native") || bytes_eq qualifier arch)

-- an atom from its text
abbrev pub atom_of : List ℕ → List ℕ → Atom
atom_of arch text = record {
  name = name_of text;
  restriction = option_map restriction_in (inside_of text);
  foreign = is_foreign arch (qualifier_at (after_name text));
}

-- an item of Provides from its text
abbrev pub provided_of : List ℕ → List ℕ → Provided
provided_of arch text = record {
  name = name_of text;
  version = option_map version_in (inside_of text);
  foreign = is_foreign arch (qualifier_at (after_name text));
}

-- a byte of these separators
abbrev pub separates : Separator → ℕ → Bool
separates Comma b = is_comma b
separates Bar b = is_bar b
separates CommaOrBar b = is_comma b || is_bar b

-- what the separators part
abbrev pub parts_of : Separator → List ℕ → List (List ℕ)
parts_of separator value = slice_split (separates separator) value

-- the text is white space alone
abbrev pub is_blank : List ℕ → Bool
is_blank text = list_all is_white text

-- the parts that aren't white space alone
abbrev pub items_of : List (List ℕ) → List (List ℕ)
items_of parts = filter (λ text. not (is_blank text)) parts

-- the atoms of a value: what the separators part
abbrev pub atoms_between : Separator → List ℕ → List ℕ → List Atom
atoms_between separator arch value = map (atom_of arch) (items_of (parts_of separator value))

-- the clauses of a value: what commas part, each as its alternatives, which bars part
abbrev pub clauses_of : List ℕ → List ℕ → List (List Atom)
clauses_of arch value = map (atoms_between Bar arch) (items_of (parts_of Comma value))

-- the items of a Provides value: what commas part
abbrev pub provided_items_of : List ℕ → List ℕ → List Provided
provided_items_of arch value = map (provided_of arch) (items_of (parts_of Comma value))
