-- The parts of an atom's text, whatever bytes its version has.
use Rattle.std.proofs.Common.{◌≡◌, ℕ, ◌<◌, true, false, Option, Some, None, List, [], ◌∷◌, ◌++◌, length, IfSome}
use Rattle.std.specs.List.{list_all, list_any}
use Rattle.rules.specs.Name.{is_name}
use Rattle.rules.specs.declared.goal.Restriction.{Restriction}
use Rattle.rules.specs.declared.op.Op.{Op}
use Rattle.rules.specs.declared.op.Op.TheVariants.{ExactlyEqual}
use Rattle.relation_text.specs.Bytes.{is_version_byte}
use Rattle.relation_text.specs.Grammar.{IsWhite, IsQualifier, SpellsOp, behind_colon}
use Rattle.relation_text.specs.Refusal.{separator_of}
use Rattle.relation_text.specs.Spelling.{separates}
use Rattle.relation_text.specs.declared.shape.RelationForm.{RelationForm}
use Rattle.relation_text.specs.declared.shape.RelationForm.TheVariants.{Clauses, Atoms, Provides}

-- no byte parts the text from others of the form
abbrev pub IsOnePart : RelationForm → List ℕ → Type 0
IsOnePart form text = list_any (separates (separator_of form)) text ≡ false

-- the form takes the operator
abbrev pub Takes : RelationForm → Op → Type 0
Takes Clauses op = Unit {0}
Takes Atoms op = Unit {0}
Takes Provides op = op ≡ ExactlyEqual

-- the form takes the restriction, if there is one
abbrev pub TakesAny : RelationForm → Option Restriction → Type 0
TakesAny form None = Unit {0}
TakesAny form (Some restriction) = Takes form restriction.op

-- one byte or more, of those that a version has
pub record IsVersionText (version : List ℕ) : Type 0 where
  pub written : 0 < length version
  pub bytes : list_all is_version_byte version ≡ true

-- white space, a closing parenthesis and white space
pub record IsClosing (text : List ℕ) : Type 0 where
  pub before : List ℕ
  pub behind : List ℕ
  pub text_is : text ≡ before ++ 41 ∷ behind
  pub before_is : IsWhite before
  pub behind_is : IsWhite behind

-- the rest of a version and its closing
pub record IsVersionEnd (text : List ℕ) : Type 0 where
  pub version : List ℕ
  pub closing : List ℕ
  pub text_is : text ≡ version ++ closing
  pub version_is : list_all is_version_byte version ≡ true
  pub closing_is : IsClosing closing

-- what follows an operator
pub record IsBehindOperator (text : List ℕ) (version : List ℕ) : Type 0 where
  pub before : List ℕ
  pub closing : List ℕ
  pub text_is : text ≡ before ++ (version ++ closing)
  pub before_is : IsWhite before
  pub version_is : IsVersionText version
  pub closing_is : IsClosing closing

-- an operator and what follows it
pub record IsInside (text : List ℕ) (restriction : Restriction) : Type 0 where
  pub operator : List ℕ
  pub rest : List ℕ
  pub text_is : text ≡ operator ++ rest
  pub op_is : SpellsOp operator restriction.op
  pub rest_is : IsBehindOperator rest restriction.version

-- a parenthesis and what it opens
pub record IsOpened (text : List ℕ) (restriction : Restriction) : Type 0 where
  pub before : List ℕ
  pub inside : List ℕ
  pub text_is : text ≡ 40 ∷ (before ++ inside)
  pub before_is : IsWhite before
  pub inside_is : IsInside inside restriction

-- a restriction, or nothing
abbrev pub IsAnyOpened : List ℕ → Option Restriction → Type 0
IsAnyOpened text None = text ≡ []
IsAnyOpened text (Some restriction) = IsOpened text restriction

-- what follows a name and its qualifier
pub record IsTail (text : List ℕ) (restriction : Option Restriction) : Type 0 where
  pub before : List ℕ
  pub opened : List ℕ
  pub text_is : text ≡ before ++ opened
  pub before_is : IsWhite before
  pub opened_is : IsAnyOpened opened restriction

-- what follows a name
pub record IsBehindName (text : List ℕ) (qualifier : Option (List ℕ)) (restriction : Option Restriction) : Type 0 where
  pub tail : List ℕ
  pub text_is : text ≡ behind_colon qualifier ++ tail
  pub qualifier_is : IfSome qualifier IsQualifier
  pub tail_is : IsTail tail restriction

-- the text of an atom
pub record IsAtomText (text name : List ℕ) (qualifier : Option (List ℕ)) (restriction : Option Restriction) : Type 0 where
  pub before : List ℕ
  pub rest : List ℕ
  pub text_is : text ≡ before ++ (name ++ rest)
  pub before_is : IsWhite before
  pub name_is : is_name name ≡ true
  pub rest_is : IsBehindName rest qualifier restriction
