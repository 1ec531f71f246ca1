-- What the quick reading accepts has the shape of its form, and so each of its parts ends where one may.
use Rattle.std.proofs.Common.{◌≡◌, ℕ, true, ◌||◌, List, [], ◌∷◌, ◌++◌, refl, sym, inl, inr, subst}
use Rattle.std.proofs.lemmas.Bool.{cases_Bool, eqb-true, or_cases}
use Rattle.std.proofs.lemmas.List.Splits.{slice_split-cons_yes, slice_split-cons_no}
use Rattle.std.specs.Char.{is_ascii_digit}
use Rattle.std.specs.List.{AllByRecursion, onto_first, slice_split}
use Rattle.rules.specs.Version.{is_colon, is_hyphen}
use Rattle.relation_text.specs.Bytes.{is_bar, is_comma}
use Rattle.relation_text.specs.Place.{is_end}
use Rattle.relation_text.specs.Quick.{QuickEnds, in_version, outside, place_of, quick_after, quick_next, state_at, upstream_begins, version_begins, version_goes_on}
use Rattle.relation_text.specs.Refusal.{separator_of}
use Rattle.relation_text.specs.Shape.{next}
use Rattle.relation_text.specs.Spelling.{separates}
use Rattle.relation_text.specs.declared.quick.QuickState.{QuickState}
use Rattle.relation_text.specs.declared.quick.QuickState.TheVariants.{At, OneDigit, BehindEpoch, BehindHyphen}
use Rattle.relation_text.specs.declared.shape.RelationForm.{RelationForm}
use Rattle.relation_text.specs.declared.shape.RelationForm.TheVariants.{Clauses, Atoms, Provides}
use Rattle.relation_text.specs.declared.shape.ShapePlace.{ShapePlace}
use Rattle.relation_text.specs.declared.shape.ShapePlace.TheVariants.{InVersion, Dead}
use Rattle.relation_text.proofs.AtomParse.{Ends, no_end}
use Rattle.relation_text.proofs.PartShapes.{behind_bar, behind_comma}

-- A step leads to the place of the automaton's step, or nothing ends behind it

upstream_ends : (form : RelationForm) (b : ℕ) (bytes : List ℕ) → Ends form (place_of (upstream_begins b)) bytes → Ends form InVersion bytes
upstream_ends form b bytes e = elim (cases_Bool (is_colon b || is_hyphen b)) [
  | inl other ↦ absurd (no_end form Dead bytes refl (rw other at e))
  | inr plain ↦ rw plain at e
]

begun_ends : (form : RelationForm) (b : ℕ) (bytes : List ℕ) → Ends form (place_of (version_begins b)) bytes → Ends form InVersion bytes
begun_ends form b bytes e = elim (cases_Bool (is_ascii_digit b)) [
  | inl digit ↦ rw digit at e
  | inr other ↦ upstream_ends form b bytes (rw other at e)
]

gone_on_ends : (form : RelationForm) (b : ℕ) (bytes : List ℕ) → Ends form (place_of (version_goes_on b)) bytes → Ends form InVersion bytes
gone_on_ends form b bytes e = elim (cases_Bool (is_hyphen b)) [
  | inl hyphen ↦ rw hyphen at e
  | inr no_hyphen ↦ elim (cases_Bool (is_colon b)) [
    | inl colon ↦ absurd (no_end form Dead bytes refl (rw (no_hyphen, colon) at e))
    | inr plain ↦ rw (no_hyphen, plain) at e
  ]
]

behind_digit_ends : (form : RelationForm) (b : ℕ) (bytes : List ℕ) → Ends form (place_of (in_version OneDigit b)) bytes → Ends form InVersion bytes
behind_digit_ends form b bytes e = elim (cases_Bool (is_colon b)) [
  | inl colon ↦ rw colon at e
  | inr other ↦
      let same : in_version OneDigit b ≡ version_goes_on b = rw other refl in
      gone_on_ends form b bytes (subst (λ (s : QuickState). Ends form (place_of s) bytes) same e)
]

in_version_ends : (form : RelationForm) (state : QuickState) (b : ℕ) (bytes : List ℕ) → Ends form (place_of (in_version state b)) bytes → Ends form InVersion bytes
in_version_ends form (At InVersion) b bytes e = gone_on_ends form b bytes e
in_version_ends form (At place) b bytes e = begun_ends form b bytes e
in_version_ends form OneDigit b bytes e = behind_digit_ends form b bytes e
in_version_ends form BehindEpoch b bytes e = upstream_ends form b bytes e
in_version_ends form BehindHyphen b bytes e = gone_on_ends form b bytes e

outside_ends : (form : RelationForm) (state : QuickState) (place : ShapePlace) (bytes : List ℕ) → Ends form (place_of (outside state place)) bytes → Ends form place bytes
outside_ends form (At from) place bytes e = e
outside_ends form OneDigit place bytes e = e
outside_ends form BehindEpoch place bytes e = absurd (no_end form Dead bytes refl e)
outside_ends form BehindHyphen place bytes e = absurd (no_end form Dead bytes refl e)

state_at_ends : (form : RelationForm) (state : QuickState) (b : ℕ) (place : ShapePlace) (bytes : List ℕ) → Ends form (place_of (state_at state b place)) bytes → Ends form place bytes
state_at_ends form state b InVersion bytes e = in_version_ends form state b bytes e
state_at_ends form state b place bytes e = outside_ends form state place bytes e

-- what the quick reading takes to an end, the automaton does
pub shape_of : (form : RelationForm) (state : QuickState) (bytes : List ℕ) → QuickEnds form state bytes → Ends form (place_of state) bytes
shape_of form state [] e = e
shape_of form state (b ∷ bytes) e =
    state_at_ends form state b (next form (place_of state) b) bytes (shape_of form (quick_next form state b) bytes e)

-- nothing ends behind the dead place
pub dead_end : (form : RelationForm) (state : QuickState) (bytes : List ℕ) → state ≡ At Dead → QuickEnds form state bytes → ⊥
dead_end form state bytes dead e =
    no_end form Dead bytes refl (shape_of form (At Dead) bytes (subst (λ (s : QuickState). QuickEnds form s bytes) dead e))

pub quick_after-append : (form : RelationForm) (state : QuickState) (front more : List ℕ) → quick_after form state (front ++ more) ≡ quick_after form (quick_after form state front) more
quick_after-append form state [] more = refl
quick_after-append form state (b ∷ front) more = quick_after-append form (quick_next form state b) front more

-- Each part ends where one may

-- from some state the text comes to an end
pub record HasEnd (form : RelationForm) (text : List ℕ) : Type 0 where
  pub state : QuickState
  pub ends : QuickEnds form state text

separated : (form : RelationForm) (place : ShapePlace) (b : ℕ) (more : List ℕ) → separates (separator_of form) b ≡ true → Ends form (next form place b) more → is_end place ≡ true
separated Clauses place b more h e = elim (or_cases (is_comma b) (is_bar b) h) [
  | inl comma ↦ (behind_comma Clauses place more (subst (λ (c : ℕ). Ends Clauses (next Clauses place c) more) (eqb-true b 44 comma) e)).before
  | inr bar ↦ (behind_bar place more (subst (λ (c : ℕ). Ends Clauses (next Clauses place c) more) (eqb-true b 124 bar) e)).before
]
separated Atoms place b more h e = (behind_comma Atoms place more (subst (λ (c : ℕ). Ends Atoms (next Atoms place c) more) (eqb-true b 44 h) e)).before
separated Provides place b more h e = (behind_comma Provides place more (subst (λ (c : ℕ). Ends Provides (next Provides place c) more) (eqb-true b 44 h) e)).before

-- the first text comes to an end from this state, and each other from some state
abbrev FirstEnds : RelationForm → QuickState → List (List ℕ) → Type 0
FirstEnds form state [] = ⊥
FirstEnds form state (text ∷ texts) = QuickEnds form state text × AllByRecursion (HasEnd form) texts

first_too : (form : RelationForm) (state : QuickState) (texts : List (List ℕ)) → FirstEnds form state texts → AllByRecursion (HasEnd form) texts
first_too form state [] all = absurd all
first_too form state (text ∷ texts) all = (record { state = state; ends = all.0 }, all.1)

ends_onto : (form : RelationForm) (state : QuickState) (b : ℕ) (texts : List (List ℕ)) → FirstEnds form (quick_next form state b) texts → FirstEnds form state (onto_first b texts)
ends_onto form state b [] all = absurd all
ends_onto form state b (text ∷ texts) all = (all.0, all.1)

split_ends : (form : RelationForm) (state : QuickState) (bytes : List ℕ) → QuickEnds form state bytes → FirstEnds form state (slice_split (separates (separator_of form)) bytes)
split_ends form state [] e = (e, tt)
split_ends form state (b ∷ bytes) e =
    let test = separates (separator_of form) in
    let later = split_ends form (quick_next form state b) bytes e in
    elim (cases_Bool (separates (separator_of form) b)) [
      | inl here ↦ subst (FirstEnds form state) (sym (slice_split-cons_yes test b bytes here)) (
        separated form (place_of state) b bytes here
            (state_at_ends form state b (next form (place_of state) b) bytes (shape_of form (quick_next form state b) bytes e)),
        first_too form (quick_next form state b) (slice_split test bytes) later,
      )
      | inr other ↦ subst (FirstEnds form state) (sym (slice_split-cons_no test b bytes other)) (ends_onto form state b (slice_split test bytes) later)
    ]

pub each_part_ends : (form : RelationForm) (state : QuickState) (value : List ℕ) → QuickEnds form state value → AllByRecursion (HasEnd form) (slice_split (separates (separator_of form)) value)
each_part_ends form state value e = first_too form state _ (split_ends form state value e)
