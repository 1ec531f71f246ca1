-- The grammar of a relation field's value (Policy 7.1 and 7.5): which texts spell an atom, a clause and a list of them.
use Rattle.std.specs.Prelude.{◌≡◌, ℕ, ◌<◌, ◌⊎◌, true, List, [], ◌∷◌, ◌++◌, length, Option, Some, None, IfSome, codes}
use Rattle.std.specs.Char.{is_ascii_alphanumeric}
use Rattle.std.specs.List.{AllZip, filter_map, join_with_byte, list_all}
use Rattle.std.specs.Option.{option_map}
use Rattle.rules.specs.Name.{is_name}
use Rattle.rules.specs.Package.{Atom, Provided}
use Rattle.rules.specs.declared.goal.Restriction.{Restriction}
use Rattle.rules.specs.declared.op.Op.{Op}
use Rattle.rules.specs.declared.op.Op.TheVariants.{StrictlyEarlier, EarlierOrEqual, ExactlyEqual, LaterOrEqual, StrictlyLater}
use Rattle.debversion.specs.Spelling.{IsSpelled}
use Rattle.relation_text.specs.Bytes.{is_qualifier_byte, is_white}
use Rattle.relation_text.specs.Spelling.{is_foreign}

-- white space, or nothing: spaces, tabs, and in a folded field newlines (Policy 7.1 and 5.1)
abbrev pub IsWhite : List ℕ → Type 0
IsWhite text = list_all is_white text ≡ true

-- an architecture qualifier: letters, digits and hyphens, beginning with a letter or a digit (Policy 7.1)
abbrev pub IsQualifier : List ℕ → Type 0
IsQualifier [] = ⊥
IsQualifier (b ∷ rest) = (is_ascii_alphanumeric b ≡ true) × (list_all is_qualifier_byte rest ≡ true)

-- a qualifier and the colon before it, if there is one: `package:architecture` (Policy 7.1)
abbrev pub behind_colon : Option (List ℕ) → List ℕ
behind_colon None = []
behind_colon (Some qualifier) = codes ":" ++ qualifier

-- how an operator is written (Policy 7.1): the obsolete `<` and `>` mean `<=` and `>=`
abbrev pub SpellsOp : List ℕ → Op → Type 0
SpellsOp text StrictlyEarlier = text ≡ codes "<<"
SpellsOp text EarlierOrEqual = (text ≡ codes "<=") ⊎ (text ≡ codes "<")
SpellsOp text ExactlyEqual = text ≡ codes "="
SpellsOp text LaterOrEqual = (text ≡ codes ">=") ⊎ (text ≡ codes ">")
SpellsOp text StrictlyLater = text ≡ codes ">>"

-- a restriction is spelled `(op version)`, with white space before each part and behind it (Policy 7.1)
pub record SpellsRestriction (text : List ℕ) (restriction : Restriction) : Type 0 where
  pub operator : List ℕ
  pub before_operator : List ℕ
  pub before_version : List ℕ
  pub before_closing : List ℕ
  pub behind : List ℕ
  pub text_is : text ≡ codes "(" ++ before_operator ++ operator ++ before_version ++ restriction.version ++ before_closing ++ codes ")" ++ behind
  pub white : IsWhite before_operator × IsWhite before_version × IsWhite before_closing × IsWhite behind
  pub op_is : SpellsOp operator restriction.op
  pub version_is : IsSpelled restriction.version

-- the restriction of an atom: where it has none, nothing is written (Policy 7.1)
abbrev pub SpellsAnyRestriction : List ℕ → Option Restriction → Type 0
SpellsAnyRestriction text None = text ≡ []
SpellsAnyRestriction text (Some restriction) = SpellsRestriction text restriction

-- an atom is spelled `name[:qualifier] [(op version)]`, with white space around its parts (Policy 7.1)
pub record SpellsAtom (arch text : List ℕ) (atom : Atom) : Type 0 where
  pub qualifier : Option (List ℕ)
  pub before_name : List ℕ
  pub behind_name : List ℕ
  pub restriction : List ℕ
  pub text_is : text ≡ before_name ++ atom.name ++ behind_colon qualifier ++ behind_name ++ restriction
  pub white : IsWhite before_name × IsWhite behind_name
  pub name_is : is_name atom.name ≡ true
  pub qualifier_is : IfSome qualifier IsQualifier
  pub foreign_is : atom.foreign ≡ is_foreign arch qualifier
  pub restriction_is : SpellsAnyRestriction restriction atom.restriction

-- a version as the restriction to itself
abbrev pub exactly : List ℕ → Restriction
exactly version = record { op = ExactlyEqual; version = version }

-- an item of Provides as the atom that has its version behind `=`, if it has one
abbrev pub atom_of_provided : Provided → Atom
atom_of_provided item = record { name = item.name; restriction = option_map exactly item.version; foreign = item.foreign }

-- an item of Provides is spelled as an atom whose one operator is `=` (Policy 7.1 and 7.5)
abbrev pub SpellsProvided : List ℕ → List ℕ → Provided → Type 0
SpellsProvided arch text item = SpellsAtom arch text (atom_of_provided item)

-- texts with a bar between each two (Policy 7.1)
abbrev pub between_bars : List (List ℕ) → List ℕ
between_bars texts = join_with_byte 124 texts

-- texts with a comma between each two (Policy 7.1)
abbrev pub between_commas : List (List ℕ) → List ℕ
between_commas texts = join_with_byte 44 texts

-- a clause is spelled as one atom, or as alternatives between bars (Policy 7.1)
pub record SpellsClause (arch text : List ℕ) (clause : List Atom) : Type 0 where
  pub alternatives : List (List ℕ)
  pub some : 0 < length clause
  pub text_is : text ≡ between_bars alternatives
  pub each : AllZip (SpellsAtom arch) alternatives clause

-- a text between commas spells one item, or it is white space alone and spells none (this project's own)
abbrev pub SpellsPart : {A : Type 0} → (List ℕ → A → Type 0) → List ℕ → Option A → Type 0
SpellsPart Spells text None = IsWhite text
SpellsPart Spells text (Some item) = Spells text item

-- a value spells these items: commas stand between its parts, each of which spells the next of them, or none
-- (Policy 7.1)
pub record SpellsList {A : Type 0} (Spells : List ℕ → A → Type 0) (value : List ℕ) (items : List A) : Type 0 where
  pub parts : List (List ℕ)
  pub slots : List (Option A)
  pub value_is : value ≡ between_commas parts
  pub each : AllZip (SpellsPart Spells) parts slots
  pub items_are : items ≡ filter_map (λ item. item) slots

-- a value of Pre-Depends or Depends spells these clauses (Policy 7.2)
abbrev pub SpellsClauses : List ℕ → List ℕ → List (List Atom) → Type 0
SpellsClauses arch value clauses = SpellsList (SpellsClause arch) value clauses

-- a value of Conflicts or Breaks spells these atoms: it has no alternatives (Policy 7.1, 7.3 and 7.4)
abbrev pub SpellsAtoms : List ℕ → List ℕ → List Atom → Type 0
SpellsAtoms arch value atoms = SpellsList (SpellsAtom arch) value atoms

-- a value of Provides spells these items (Policy 7.5)
abbrev pub SpellsProvides : List ℕ → List ℕ → List Provided → Type 0
SpellsProvides arch value items = SpellsList (SpellsProvided arch) value items
