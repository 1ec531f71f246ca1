-- The text of an atom leads to a place at which an atom may end.
use Rattle.std.proofs.Common.{◌≡◌, ℕ, Bool, true, false, ◌||◌, Option, Some, None, List, [], ◌∷◌, ◌++◌, refl, ap, ◌∙◌, arith, inl, inr, IfSome}
use Rattle.std.proofs.lemmas.Bool.{and_parts, false≢true, or_parts}
use Rattle.std.specs.Char.{is_ascii_alphanumeric}
use Rattle.std.specs.List.{list_all}
use Rattle.rules.specs.Name.{is_name, is_name_byte}
use Rattle.rules.specs.declared.goal.Restriction.{Restriction}
use Rattle.rules.specs.declared.op.Op.{Op}
use Rattle.rules.specs.declared.op.Op.TheVariants.{StrictlyEarlier, EarlierOrEqual, ExactlyEqual, LaterOrEqual, StrictlyLater}
use Rattle.relation_text.specs.Bytes.{is_colon, is_comma, is_equals, is_greater, is_less, is_opening, is_operator_byte, is_qualifier_byte, is_version_byte, is_white}
use Rattle.relation_text.specs.Grammar.{IsQualifier, IsWhite, SpellsOp, behind_colon}
use Rattle.relation_text.specs.Place.{is_end}
use Rattle.relation_text.specs.Shape.{next, place_after, unless_provides}
use Rattle.relation_text.specs.declared.shape.RelationForm.{RelationForm}
use Rattle.relation_text.specs.declared.shape.RelationForm.TheVariants.{Clauses, Atoms, Provides}
use Rattle.relation_text.specs.declared.shape.ShapePlace.{ShapePlace}
use Rattle.relation_text.specs.declared.shape.ShapePlace.TheVariants.{Between, Alternative, InName, AfterName, BeforeQualifier, InQualifier, Opened, Less, Greater, AfterOperator, InVersion, AfterVersion, Closed, Dead}
use Rattle.relation_text.proofs.ShapeLemmas.{place_after-append}
use Rattle.relation_text.proofs.AtomText.{IsAnyOpened, IsAtomText, IsBehindName, IsBehindOperator, IsClosing, IsInside, IsTail, IsVersionText, Takes, TakesAny}
use Rattle.relation_text.proofs.AtomValue.{behind_operator_stops, closing_stops, fails_white, tail_stops, white_fails}
use Rattle.relation_text.proofs.Runs.{Stops, excludes_byte}

-- an atom may end here
abbrev pub ends_atom : ShapePlace → Bool
ends_atom Between = false
ends_atom Alternative = false
ends_atom InName = true
ends_atom AfterName = true
ends_atom BeforeQualifier = false
ends_atom InQualifier = true
ends_atom Opened = false
ends_atom Less = false
ends_atom Greater = false
ends_atom AfterOperator = false
ends_atom InVersion = false
ends_atom AfterVersion = false
ends_atom Closed = true
ends_atom Dead = false

pub atom_end_is_end : (place : ShapePlace) → ends_atom place ≡ true → is_end place ≡ true
atom_end_is_end Between e = refl
atom_end_is_end Alternative e = e
atom_end_is_end InName e = e
atom_end_is_end AfterName e = e
atom_end_is_end BeforeQualifier e = e
atom_end_is_end InQualifier e = e
atom_end_is_end Opened e = e
atom_end_is_end Less e = e
atom_end_is_end Greater e = e
atom_end_is_end AfterOperator e = e
atom_end_is_end InVersion e = e
atom_end_is_end AfterVersion e = e
atom_end_is_end Closed e = e
atom_end_is_end Dead e = e

-- the bytes lead from the place to the end of an atom
abbrev pub Leads : RelationForm → ShapePlace → List ℕ → Type 0
Leads form place bytes = ends_atom (place_after form place bytes) ≡ true

-- bytes of this kind stay at the place
abbrev pub Stays : RelationForm → ShapePlace → (ℕ → Bool) → Type 0
Stays form place test = (b : ℕ) → test b ≡ true → next form place b ≡ place

stayed : (form : RelationForm) (place : ShapePlace) (test : ℕ → Bool) → Stays form place test → (run : List ℕ) → list_all test run ≡ true → place_after form place run ≡ place
stayed form place test stays [] all = refl
stayed form place test stays (b ∷ run) all =
    let both = and_parts (test b) (list_all test run) all in
    ap (λ (p : ShapePlace). place_after form p run) (stays b both.0) ∙ stayed form place test stays run both.1

over_run : (form : RelationForm) (place : ShapePlace) (test : ℕ → Bool) → Stays form place test → (run rest : List ℕ) → list_all test run ≡ true
    → Leads form place rest → Leads form place (run ++ rest)
over_run form place test stays run rest all leads =
    ap ends_atom (place_after-append form place run rest ∙ ap (λ (p : ShapePlace). place_after form p rest) (stayed form place test stays run all)) ∙ leads

over_first : (form : RelationForm) (place after : ShapePlace) (b : ℕ) (rest : List ℕ) → next form place b ≡ after → Leads form after rest → Leads form place (b ∷ rest)
over_first form place after b rest e leads = ap (λ (p : ShapePlace). ends_atom (place_after form p rest)) e ∙ leads

same_text : (form : RelationForm) (place : ShapePlace) (text other : List ℕ) → text ≡ other → Leads form place other → Leads form place text
same_text form place text other e leads = ap (λ (bytes : List ℕ). ends_atom (place_after form place bytes)) e ∙ leads

-- Behind a restriction

closed_stays : (form : RelationForm) → Stays form Closed is_white
closed_stays form b white = rw white refl

closed_leads : (form : RelationForm) (behind : List ℕ) → IsWhite behind → Leads form Closed behind
closed_leads form behind white = ap ends_atom (stayed form Closed is_white (closed_stays form) behind white)

after_version_stays : (form : RelationForm) → Stays form AfterVersion is_white
after_version_stays form b white = rw white refl

after_version_leads : (form : RelationForm) (text : List ℕ) → IsClosing text → Leads form AfterVersion text
after_version_leads form text is = same_text form AfterVersion text _ is.text_is
    (over_run form AfterVersion is_white (after_version_stays form) is.before (41 ∷ is.behind) is.before_is (closed_leads form is.behind is.behind_is))

in_version_as_after : (form : RelationForm) (text : List ℕ) → Stops is_version_byte text → Leads form AfterVersion text → Leads form InVersion text
in_version_as_after form [] stops leads = absurd (false≢true leads)
in_version_as_after form (b ∷ text) stops leads = rw stops leads

in_version_stays : (form : RelationForm) → Stays form InVersion is_version_byte
in_version_stays form b version = rw version refl

in_version_leads : (form : RelationForm) (version closing : List ℕ) → list_all is_version_byte version ≡ true → IsClosing closing → Leads form InVersion (version ++ closing)
in_version_leads form version closing all is = over_run form InVersion is_version_byte (in_version_stays form) version closing all
    (in_version_as_after form closing (closing_stops closing is) (after_version_leads form closing is))

-- In a restriction

version_leads : (form : RelationForm) (version closing : List ℕ) → IsVersionText version → IsClosing closing → Leads form AfterOperator (version ++ closing)
version_leads form [] closing is ends = absurd (let written = is.written in omega arith)
version_leads form (b ∷ version) closing is ends =
    let both = and_parts (is_version_byte b) (list_all is_version_byte version) is.bytes in
    let first = both.0 in
    let no_white = fails_white is_version_byte refl refl refl b first in
    over_first form AfterOperator InVersion b (version ++ closing) (rw (no_white, first) refl) (in_version_leads form version closing both.1 ends)

after_operator_stays : (form : RelationForm) → Stays form AfterOperator is_white
after_operator_stays form b white = rw white refl

after_operator_leads : (form : RelationForm) (text version : List ℕ) → IsBehindOperator text version → Leads form AfterOperator text
after_operator_leads form text version is = same_text form AfterOperator text _ is.text_is
    (over_run form AfterOperator is_white (after_operator_stays form) is.before (version ++ is.closing) is.before_is
    (version_leads form version is.closing is.version_is is.closing_is))

record IsNoOperator (b : ℕ) : Type 0 where
  less : is_less b ≡ false
  equals : is_equals b ≡ false
  greater : is_greater b ≡ false

no_operator : (b : ℕ) → is_operator_byte b ≡ false → IsNoOperator b
no_operator b h =
    let outer = or_parts (is_less b || is_equals b) (is_greater b) h in
    let inner = or_parts (is_less b) (is_equals b) outer.0 in
    record { less = inner.0; equals = inner.1; greater = outer.1 }

less_leads : (form : RelationForm) (text : List ℕ) → Stops is_operator_byte text → Leads form AfterOperator text → Leads form Less text
less_leads form [] stops leads = absurd (false≢true leads)
less_leads form (b ∷ text) stops leads =
    let is = no_operator b stops in
    let no_less = is.less in
    let no_equals = is.equals in
    rw (no_less, no_equals) leads

greater_leads : (form : RelationForm) (text : List ℕ) → Stops is_operator_byte text → Leads form AfterOperator text → Leads form Greater text
greater_leads form [] stops leads = absurd (false≢true leads)
greater_leads form (b ∷ text) stops leads =
    let is = no_operator b stops in
    let no_greater = is.greater in
    let no_equals = is.equals in
    rw (no_greater, no_equals) leads

takes_place : (form : RelationForm) (op : Op) (place : ShapePlace) → Takes form op → (op ≡ ExactlyEqual → ⊥) → unless_provides form place ≡ place
takes_place Clauses op place takes other = refl
takes_place Atoms op place takes other = refl
takes_place Provides op place takes other = absurd (other takes)

opened_less : (form : RelationForm) (op : Op) (rest : List ℕ) → Takes form op → (op ≡ ExactlyEqual → ⊥) → Leads form Less rest → Leads form Opened (60 ∷ rest)
opened_less form op rest takes other leads = over_first form Opened Less 60 rest (takes_place form op Less takes other) leads

opened_greater : (form : RelationForm) (op : Op) (rest : List ℕ) → Takes form op → (op ≡ ExactlyEqual → ⊥) → Leads form Greater rest → Leads form Opened (62 ∷ rest)
opened_greater form op rest takes other leads = over_first form Opened Greater 62 rest (takes_place form op Greater takes other) leads

operator_leads : (form : RelationForm) (operator rest : List ℕ) (op : Op) → SpellsOp operator op → Takes form op → Stops is_operator_byte rest → Leads form AfterOperator rest
    → Leads form Opened (operator ++ rest)
operator_leads form operator rest StrictlyEarlier e takes stops leads =
    same_text form Opened (operator ++ rest) (60 ∷ 60 ∷ rest) (ap (λ (o : List ℕ). o ++ rest) e) (opened_less form StrictlyEarlier (60 ∷ rest) takes (λ same. cc same) leads)
operator_leads form operator rest EarlierOrEqual e takes stops leads = elim e [
  | inl equal ↦ same_text form Opened (operator ++ rest) (60 ∷ 61 ∷ rest) (ap (λ (o : List ℕ). o ++ rest) equal)
      (opened_less form EarlierOrEqual (61 ∷ rest) takes (λ same. cc same) leads)
  | inr alone ↦ same_text form Opened (operator ++ rest) (60 ∷ rest) (ap (λ (o : List ℕ). o ++ rest) alone)
      (opened_less form EarlierOrEqual rest takes (λ same. cc same) (less_leads form rest stops leads))
]
operator_leads form operator rest ExactlyEqual e takes stops leads =
    same_text form Opened (operator ++ rest) (61 ∷ rest) (ap (λ (o : List ℕ). o ++ rest) e) leads
operator_leads form operator rest LaterOrEqual e takes stops leads = elim e [
  | inl equal ↦ same_text form Opened (operator ++ rest) (62 ∷ 61 ∷ rest) (ap (λ (o : List ℕ). o ++ rest) equal)
      (opened_greater form LaterOrEqual (61 ∷ rest) takes (λ same. cc same) leads)
  | inr alone ↦ same_text form Opened (operator ++ rest) (62 ∷ rest) (ap (λ (o : List ℕ). o ++ rest) alone)
      (opened_greater form LaterOrEqual rest takes (λ same. cc same) (greater_leads form rest stops leads))
]
operator_leads form operator rest StrictlyLater e takes stops leads =
    same_text form Opened (operator ++ rest) (62 ∷ 62 ∷ rest) (ap (λ (o : List ℕ). o ++ rest) e) (opened_greater form StrictlyLater (62 ∷ rest) takes (λ same. cc same) leads)

opened_stays : (form : RelationForm) → Stays form Opened is_white
opened_stays form b white = rw white refl

inside_leads : (form : RelationForm) (text : List ℕ) (restriction : Restriction) → IsInside text restriction → Takes form restriction.op → Leads form Opened text
inside_leads form text restriction is takes = same_text form Opened text _ is.text_is
    (operator_leads form is.operator is.rest restriction.op is.op_is takes (behind_operator_stops is.rest restriction.version is.rest_is)
    (after_operator_leads form is.rest restriction.version is.rest_is))

opened_leads : (form : RelationForm) (text : List ℕ) (restriction : Option Restriction) → IsAnyOpened text restriction → TakesAny form restriction → Leads form AfterName text
opened_leads form text None is takes = same_text form AfterName text [] is refl
opened_leads form text (Some restriction) is takes = same_text form AfterName text _ is.text_is
    (over_run form Opened is_white (opened_stays form) is.before is.inside is.before_is (inside_leads form is.inside restriction is.inside_is takes))

-- Behind a name and its qualifier

after_name_stays : (form : RelationForm) → Stays form AfterName is_white
after_name_stays form b white = let no_opening = white_fails is_opening refl refl refl b white in rw (no_opening, white) refl

tail_leads : (form : RelationForm) (text : List ℕ) (restriction : Option Restriction) → IsTail text restriction → TakesAny form restriction → Leads form AfterName text
tail_leads form text restriction is takes = same_text form AfterName text _ is.text_is
    (over_run form AfterName is_white (after_name_stays form) is.before is.opened is.before_is (opened_leads form is.opened restriction is.opened_is takes))

in_name_as_after : (form : RelationForm) (text : List ℕ) → Stops is_name_byte text → Stops is_colon text → Leads form AfterName text → Leads form InName text
in_name_as_after form [] stops ends leads = refl
in_name_as_after form (b ∷ text) stops ends leads = rw (stops, ends) leads

in_qualifier_as_after : (form : RelationForm) (text : List ℕ) → Stops is_qualifier_byte text → Leads form AfterName text → Leads form InQualifier text
in_qualifier_as_after form [] stops leads = refl
in_qualifier_as_after form (b ∷ text) stops leads = rw stops leads

in_qualifier_stays : (form : RelationForm) → Stays form InQualifier is_qualifier_byte
in_qualifier_stays form b more = rw more refl

qualifier_leads : (form : RelationForm) (qualifier tail : List ℕ) → IsQualifier qualifier → Leads form InQualifier tail → Leads form BeforeQualifier (qualifier ++ tail)
qualifier_leads form [] tail is leads = absurd is
qualifier_leads form (b ∷ qualifier) tail is leads =
    let first = is.0 in
    over_first form BeforeQualifier InQualifier b (qualifier ++ tail) (rw first refl)
    (over_run form InQualifier is_qualifier_byte (in_qualifier_stays form) qualifier tail is.1 leads)

colon_leads : (form : RelationForm) (qualifier : Option (List ℕ)) (tail : List ℕ) (restriction : Option Restriction) → IfSome qualifier IsQualifier → IsTail tail restriction
    → TakesAny form restriction → Leads form InName (behind_colon qualifier ++ tail)
colon_leads form None tail restriction is tail_is takes = in_name_as_after form tail
    (tail_stops is_name_byte (white_fails is_name_byte refl refl refl) refl tail restriction tail_is)
    (tail_stops is_colon (white_fails is_colon refl refl refl) refl tail restriction tail_is)
    (tail_leads form tail restriction tail_is takes)
colon_leads form (Some qualifier) tail restriction is tail_is takes = qualifier_leads form qualifier tail is
    (in_qualifier_as_after form tail (tail_stops is_qualifier_byte (white_fails is_qualifier_byte refl refl refl) refl tail restriction tail_is)
    (tail_leads form tail restriction tail_is takes))

behind_name_leads : (form : RelationForm) (text : List ℕ) (qualifier : Option (List ℕ)) (restriction : Option Restriction) → IsBehindName text qualifier restriction
    → TakesAny form restriction → Leads form InName text
behind_name_leads form text qualifier restriction is takes = same_text form InName text _ is.text_is
    (colon_leads form qualifier is.tail restriction is.qualifier_is is.tail_is takes)

in_name_stays : (form : RelationForm) → Stays form InName is_name_byte
in_name_stays form b more = rw more refl

-- a name begins at this place, behind white space
pub record Begins (form : RelationForm) (place : ShapePlace) : Type 0 where
  pub stays : Stays form place is_white
  pub named : (b : ℕ) → is_ascii_alphanumeric b ≡ true → next form place b ≡ InName

pub begins_between : (form : RelationForm) → Begins form Between
begins_between form = record {
  stays = λ (b : ℕ) (white : is_white b ≡ true). let no_comma = white_fails is_comma refl refl refl b white in rw (no_comma, white) refl;
  named = λ (b : ℕ) (first : is_ascii_alphanumeric b ≡ true).
      let no_comma = excludes_byte is_ascii_alphanumeric 44 refl b first in
      let no_white = fails_white is_ascii_alphanumeric refl refl refl b first in
      rw (no_comma, no_white, first) refl;
}

pub begins_alternative : (form : RelationForm) → Begins form Alternative
begins_alternative form = record {
  stays = λ (b : ℕ) (white : is_white b ≡ true). rw white refl;
  named = λ (b : ℕ) (first : is_ascii_alphanumeric b ≡ true). let no_white = fails_white is_ascii_alphanumeric refl refl refl b first in rw (no_white, first) refl;
}

name_leads : (form : RelationForm) (place : ShapePlace) → Begins form place → (name rest : List ℕ) → is_name name ≡ true → Leads form InName rest → Leads form place (name ++ rest)
name_leads form place begins [] rest is leads = absurd (false≢true is)
name_leads form place begins (b ∷ name) rest is leads =
    let both = and_parts (is_ascii_alphanumeric b) (list_all is_name_byte name) is in
    over_first form place InName b (name ++ rest) (begins.named b both.0) (over_run form InName is_name_byte (in_name_stays form) name rest both.1 leads)

pub atom_leads : (form : RelationForm) (place : ShapePlace) → Begins form place → (text name : List ℕ) (qualifier : Option (List ℕ)) (restriction : Option Restriction)
    → IsAtomText text name qualifier restriction → TakesAny form restriction → Leads form place text
atom_leads form place begins text name qualifier restriction is takes = same_text form place text _ is.text_is
    (over_run form place is_white begins.stays is.before (name ++ is.rest) is.before_is
    (name_leads form place begins name is.rest is.name_is (behind_name_leads form is.rest qualifier restriction is.rest_is takes)))
