-- A joined text has the shape of a form exactly where each of its parts leads to an end.
use Rattle.std.proofs.Common.{◌≡◌, ℕ, true, ◌+◌, None, List, [], ◌∷◌, ◌++◌, refl, sym, ap, ◌∙◌, inl, inr}
use Rattle.std.proofs.lemmas.Bool.{and_parts, cases_Bool, false≢true}
use Rattle.std.specs.List.{AllByRecursion, join_with_byte, list_all}
use Rattle.relation_text.specs.Bytes.{is_comma, is_white}
use Rattle.relation_text.specs.Grammar.{IsWhite}
use Rattle.relation_text.specs.Place.{is_dead, is_end}
use Rattle.relation_text.specs.Refusal.{shape_refusal_from}
use Rattle.relation_text.specs.Shape.{next, place_after}
use Rattle.relation_text.specs.declared.shape.RelationForm.{RelationForm}
use Rattle.relation_text.specs.declared.shape.RelationForm.TheVariants.{Clauses}
use Rattle.relation_text.specs.declared.shape.ShapePlace.{ShapePlace}
use Rattle.relation_text.specs.declared.shape.ShapePlace.TheVariants.{Between, Alternative, InName, AfterName, BeforeQualifier, InQualifier, Opened, Less, Greater, AfterOperator, InVersion, AfterVersion, Closed, Dead}
use Rattle.relation_text.proofs.FirstStop.{dead_is}
use Rattle.relation_text.proofs.ShapeLemmas.{place_after-append}
use Rattle.relation_text.proofs.AtomLeads.{Leads, atom_end_is_end, ends_atom}
use Rattle.relation_text.proofs.AtomParse.{Ends, no_end}
use Rattle.relation_text.proofs.AtomValue.{white_fails}

-- A comma stands behind a place where a value may end

pub record BehindComma (form : RelationForm) (place : ShapePlace) (more : List ℕ) : Type 0 where
  pub before : is_end place ≡ true
  pub behind : Ends form Between more

pub behind_comma : (form : RelationForm) (place : ShapePlace) (more : List ℕ) → Ends form (next form place 44) more → BehindComma form place more
behind_comma form Between more e = record { before = refl; behind = e }
behind_comma form Alternative more e = absurd (no_end form Dead more refl e)
behind_comma form InName more e = record { before = refl; behind = e }
behind_comma form AfterName more e = record { before = refl; behind = e }
behind_comma form BeforeQualifier more e = absurd (no_end form Dead more refl e)
behind_comma form InQualifier more e = record { before = refl; behind = e }
behind_comma form Opened more e = absurd (no_end form Dead more refl e)
behind_comma form Less more e = absurd (no_end form Dead more refl e)
behind_comma form Greater more e = absurd (no_end form Dead more refl e)
behind_comma form AfterOperator more e = absurd (no_end form Dead more refl e)
behind_comma form InVersion more e = absurd (no_end form Dead more refl e)
behind_comma form AfterVersion more e = absurd (no_end form Dead more refl e)
behind_comma form Closed more e = record { before = refl; behind = e }
behind_comma form Dead more e = absurd (no_end form Dead more refl e)

pub parts_end : (form : RelationForm) (parts : List (List ℕ)) → Ends form Between (join_with_byte 44 parts) → AllByRecursion (Ends form Between) parts
parts_end form [] e = tt
parts_end form (text ∷ []) e = (e, tt)
parts_end form (text ∷ next_text ∷ parts) e =
    let more = join_with_byte 44 (next_text ∷ parts) in
    let cut = behind_comma form (place_after form Between text) more (sym (ap is_end (place_after-append form Between text (44 ∷ more))) ∙ e) in
    (cut.before, parts_end form (next_text ∷ parts) cut.behind)

-- A bar stands behind an atom

pub record BehindBar (place : ShapePlace) (more : List ℕ) : Type 0 where
  pub before : is_end place ≡ true
  pub behind : Ends Clauses Alternative more

pub behind_bar : (place : ShapePlace) (more : List ℕ) → Ends Clauses (next Clauses place 124) more → BehindBar place more
behind_bar Between more e = absurd (no_end Clauses Dead more refl e)
behind_bar Alternative more e = absurd (no_end Clauses Dead more refl e)
behind_bar InName more e = record { before = refl; behind = e }
behind_bar AfterName more e = record { before = refl; behind = e }
behind_bar BeforeQualifier more e = absurd (no_end Clauses Dead more refl e)
behind_bar InQualifier more e = record { before = refl; behind = e }
behind_bar Opened more e = absurd (no_end Clauses Dead more refl e)
behind_bar Less more e = absurd (no_end Clauses Dead more refl e)
behind_bar Greater more e = absurd (no_end Clauses Dead more refl e)
behind_bar AfterOperator more e = absurd (no_end Clauses Dead more refl e)
behind_bar InVersion more e = absurd (no_end Clauses Dead more refl e)
behind_bar AfterVersion more e = absurd (no_end Clauses Dead more refl e)
behind_bar Closed more e = record { before = refl; behind = e }
behind_bar Dead more e = absurd (no_end Clauses Dead more refl e)

pub over_bar : (place : ShapePlace) (text more : List ℕ) → Ends Clauses place (text ++ 124 ∷ more) → Ends Clauses (next Clauses (place_after Clauses place text) 124) more
over_bar place text more e = sym (ap is_end (place_after-append Clauses place text (124 ∷ more))) ∙ e

-- white space stays between clauses
pub white_stays : (form : RelationForm) (text : List ℕ) → IsWhite text → place_after form Between text ≡ Between
white_stays form [] white = refl
white_stays form (b ∷ text) white =
    let both = and_parts (is_white b) (list_all is_white text) white in
    let first = both.0 in
    let no_comma = white_fails is_comma refl refl refl b first in
    rw (no_comma, first) (white_stays form text both.1)

pub no_blank_before_bar : (text more : List ℕ) → IsWhite text → Ends Clauses Between (text ++ 124 ∷ more) → ⊥
no_blank_before_bar text more white e =
    no_end Clauses (next Clauses (place_after Clauses Between text) 124) more (ap (λ (place : ShapePlace). next Clauses place 124) (white_stays Clauses text white))
    (over_bar Between text more e)

-- The other way round: parts that lead to an end are joined to a text that does

ahead_of_comma : (form : RelationForm) (place : ShapePlace) → is_end place ≡ true → next form place 44 ≡ Between
ahead_of_comma form Between e = refl
ahead_of_comma form Alternative e = absurd (false≢true e)
ahead_of_comma form InName e = refl
ahead_of_comma form AfterName e = refl
ahead_of_comma form BeforeQualifier e = absurd (false≢true e)
ahead_of_comma form InQualifier e = refl
ahead_of_comma form Opened e = absurd (false≢true e)
ahead_of_comma form Less e = absurd (false≢true e)
ahead_of_comma form Greater e = absurd (false≢true e)
ahead_of_comma form AfterOperator e = absurd (false≢true e)
ahead_of_comma form InVersion e = absurd (false≢true e)
ahead_of_comma form AfterVersion e = absurd (false≢true e)
ahead_of_comma form Closed e = refl
ahead_of_comma form Dead e = absurd (false≢true e)

pub joined_end : (form : RelationForm) (parts : List (List ℕ)) → AllByRecursion (Ends form Between) parts → Ends form Between (join_with_byte 44 parts)
joined_end form [] all = refl
joined_end form (text ∷ []) all = all.0
joined_end form (text ∷ following ∷ parts) all =
    let more = join_with_byte 44 (following ∷ parts) in
    ap is_end (place_after-append form Between text (44 ∷ more)
    ∙ ap (λ (place : ShapePlace). place_after form place more) (ahead_of_comma form (place_after form Between text) all.0))
    ∙ joined_end form (following ∷ parts) all.1

ahead_of_bar : (place : ShapePlace) → ends_atom place ≡ true → next Clauses place 124 ≡ Alternative
ahead_of_bar Between e = absurd (false≢true e)
ahead_of_bar Alternative e = absurd (false≢true e)
ahead_of_bar InName e = refl
ahead_of_bar AfterName e = refl
ahead_of_bar BeforeQualifier e = absurd (false≢true e)
ahead_of_bar InQualifier e = refl
ahead_of_bar Opened e = absurd (false≢true e)
ahead_of_bar Less e = absurd (false≢true e)
ahead_of_bar Greater e = absurd (false≢true e)
ahead_of_bar AfterOperator e = absurd (false≢true e)
ahead_of_bar InVersion e = absurd (false≢true e)
ahead_of_bar AfterVersion e = absurd (false≢true e)
ahead_of_bar Closed e = refl
ahead_of_bar Dead e = absurd (false≢true e)

pub over_alternative : (place : ShapePlace) (text more : List ℕ) → Leads Clauses place text → Ends Clauses Alternative more → Ends Clauses place (text ++ 124 ∷ more)
over_alternative place text more leads e =
    ap is_end (place_after-append Clauses place text (124 ∷ more)
    ∙ ap (λ (place : ShapePlace). place_after Clauses place more) (ahead_of_bar (place_after Clauses place text) leads))
    ∙ e

pub joined_alternatives : (text : List ℕ) (texts : List (List ℕ)) → AllByRecursion (Leads Clauses Alternative) (text ∷ texts)
    → Ends Clauses Alternative (join_with_byte 124 (text ∷ texts))
joined_alternatives text [] all = atom_end_is_end _ all.0
joined_alternatives text (following ∷ texts) all =
    over_alternative Alternative text (join_with_byte 124 (following ∷ texts)) all.0 (joined_alternatives following texts all.1)

pub joined_clause : (text : List ℕ) (texts : List (List ℕ)) → Leads Clauses Between text → AllByRecursion (Leads Clauses Alternative) texts
    → Ends Clauses Between (join_with_byte 124 (text ∷ texts))
joined_clause text [] first all = atom_end_is_end _ first
joined_clause text (following ∷ texts) first all =
    over_alternative Between text (join_with_byte 124 (following ∷ texts)) first (joined_alternatives following texts all)

-- A shape that ends well has no refusal

fine_from_place : (form : RelationForm) (place : ShapePlace) (offset : ℕ) (bytes : List ℕ) → Ends form place bytes → shape_refusal_from form place offset bytes ≡ None
fine_from_place form place offset [] e = rw e refl
fine_from_place form place offset (b ∷ bytes) e = elim (cases_Bool (is_dead (next form place b))) [
  | inl dead ↦ absurd (no_end form (next form place b) bytes (dead_is (next form place b) dead) e)
  | inr live ↦ rw live (fine_from_place form (next form place b) (offset + 1) bytes e)
]

pub shape_fine : (form : RelationForm) (value : List ℕ) → Ends form Between value → shape_refusal_from form Between 0 value ≡ None
shape_fine form value e = fine_from_place form Between 0 value e
