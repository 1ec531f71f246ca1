-- What the quick reading accepts has no version that is refused, and so isn't refused itself.
use Rattle.std.proofs.Common.{◌≡◌, ℕ, ◌<◌, Bool, true, false, None, List, [], ◌∷◌, length, refl, sym, ap, ◌∙◌, inl, inr, subst, ◌||◌, ◌⊎◌}
use Rattle.std.proofs.lemmas.Bool.{cases_Bool, eqb-true, false≢true, or_cases, or_parts}
use Rattle.std.specs.List.{take_while}
use Rattle.std.specs.Option.{option_and_then}
use Rattle.rules.specs.Name.{is_name_byte}
use Rattle.rules.specs.VersionFault.{first_fault}
use Rattle.debversion.proofs.SpellingLemmas.{faultless_is_spelled}
use Rattle.relation_text.specs.Bytes.{is_colon, is_equals, is_greater, is_less, is_opening, is_operator_byte, is_qualifier_byte, is_version_byte, is_white}
use Rattle.relation_text.specs.Place.{is_end}
use Rattle.relation_text.specs.Quick.{QuickEnds, place_of, quick_after, quick_next, state_at, version_begins}
use Rattle.relation_text.specs.Refusal.{bad_version_in, bad_version_of, fault_of, most_atoms, separator_of}
use Rattle.relation_text.specs.Shape.{before_version}
use Rattle.relation_text.specs.Spelling.{after_name, after_qualifier, after_run, opened_at, parts_of, version_in}
use Rattle.relation_text.specs.declared.quick.QuickState.{QuickState}
use Rattle.relation_text.specs.declared.quick.QuickState.TheVariants.{At, OneDigit, BehindEpoch, BehindHyphen}
use Rattle.relation_text.specs.declared.shape.RelationForm.{RelationForm}
use Rattle.relation_text.specs.declared.shape.RelationForm.TheVariants.{Clauses, Atoms, Provides}
use Rattle.relation_text.specs.declared.shape.ShapePlace.{ShapePlace}
use Rattle.relation_text.specs.declared.shape.ShapePlace.TheVariants.{Between, InName, AfterName, InQualifier, Opened, Less, Greater, AfterOperator, InVersion, Dead}
use Rattle.relation_text.proofs.Excess.{no_excess}
use Rattle.relation_text.proofs.Faults.{no_fault, versions_unrefused}
use Rattle.relation_text.proofs.PartShapes.{shape_fine}
use Rattle.relation_text.proofs.PartSplits.{all_map}
use Rattle.relation_text.proofs.QuickShape.{HasEnd, dead_end, each_part_ends, quick_after-append, shape_of}
use Rattle.relation_text.proofs.QuickVersion.{begun_spelled}
use Rattle.relation_text.proofs.Runs.{Stops, run_front, run_left, run_passes, run_stays, run_stops, run_taken}

-- Up to the parenthesis

behind_run : (form : RelationForm) (test : ℕ → Bool) (text : List ℕ) → HasEnd form text → HasEnd form (after_run test text)
behind_run form test text has = record {
  state = quick_after form has.state (take_while test text);
  ends = sym (ap (λ (bytes : List ℕ). is_end (place_of (quick_after form has.state bytes))) (run_front test text)
      ∙ ap (λ (s : QuickState). is_end (place_of s)) (quick_after-append form has.state (take_while test text) (after_run test text)))
      ∙ has.ends;
}

behind_first : (form : RelationForm) (b : ℕ) (rest : List ℕ) → HasEnd form (b ∷ rest) → HasEnd form rest
behind_first form b rest has = record { state = quick_next form has.state b; ends = has.ends }

behind_qualifier : (form : RelationForm) (text : List ℕ) → HasEnd form text → HasEnd form (after_qualifier text)
behind_qualifier form [] has = has
behind_qualifier form (b ∷ rest) has = elim (cases_Bool (is_colon b)) [
  | inl colon ↦ rw colon (behind_run form is_qualifier_byte rest (behind_first form b rest has))
  | inr other ↦ rw other has
]

-- a parenthesis opens a restriction, or nothing ends behind it
behind_opening : (form : RelationForm) (state : QuickState) (rest : List ℕ) → QuickEnds form (quick_next form state 40) rest → QuickEnds form (At Opened) rest
behind_opening form (At InName) rest e = e
behind_opening form (At AfterName) rest e = e
behind_opening form (At InQualifier) rest e = e
behind_opening form (At place) rest e = absurd (dead_end form (At Dead) rest refl e)
behind_opening form OneDigit rest e = absurd (dead_end form (At Dead) rest refl e)
behind_opening form BehindEpoch rest e = absurd (dead_end form (At Dead) rest refl e)
behind_opening form BehindHyphen rest e = absurd (dead_end form (At Dead) rest refl e)

-- bytes of this kind stay at the state
abbrev StaysAt : RelationForm → QuickState → (ℕ → Bool) → Type 0
StaysAt form state test = (b : ℕ) → test b ≡ true → quick_next form state b ≡ state

over_run : (form : RelationForm) (state : QuickState) (test : ℕ → Bool) → StaysAt form state test → (text : List ℕ) → QuickEnds form state text → QuickEnds form state (after_run test text)
over_run form state test stays [] e = e
over_run form state test stays (b ∷ rest) e = elim (cases_Bool (test b)) [
  | inl passes ↦ subst (QuickEnds form state) (sym (run_left test b rest passes))
      (over_run form state test stays rest (subst (λ (s : QuickState). QuickEnds form s rest) (stays b passes) e))
  | inr fails ↦ subst (QuickEnds form state) (sym (run_stays test b rest fails)) e
]

opened_stays : (form : RelationForm) → StaysAt form (At Opened) is_white
opened_stays form b white = rw white refl

after_operator_stays : (form : RelationForm) → StaysAt form (At AfterOperator) is_white
after_operator_stays form b white = rw white refl

-- The operator

-- in an operator or behind it
abbrev in_operator : ShapePlace → Bool
in_operator Less = true
in_operator Greater = true
in_operator AfterOperator = true
in_operator place = false

-- from a place in an operator the text comes to an end
record OperatorEnds (form : RelationForm) (text : List ℕ) : Type 0 where
  place : ShapePlace
  within : in_operator place ≡ true
  ends : QuickEnds form (At place) text

operator_kinds : (b : ℕ) → is_operator_byte b ≡ true → (b ≡ 60) ⊎ ((b ≡ 61) ⊎ (b ≡ 62))
operator_kinds b operator = elim (or_cases (is_less b || is_equals b) (is_greater b) operator) [
  | inl early ↦ elim (or_cases (is_less b) (is_equals b) early) [ inl less ↦ inl (eqb-true b 60 less) | inr equals ↦ inr (inl (eqb-true b 61 equals)) ]
  | inr greater ↦ inr (inr (eqb-true b 62 greater))
]

behind_operator : (form : RelationForm) (rest : List ℕ) → QuickEnds form (At AfterOperator) rest → OperatorEnds form rest
behind_operator form rest e = record { place = AfterOperator; within = refl; ends = e }

nowhere : (form : RelationForm) (rest : List ℕ) → QuickEnds form (At Dead) rest → OperatorEnds form rest
nowhere form rest e = absurd (dead_end form (At Dead) rest refl e)

at_byte : (form : RelationForm) (state : QuickState) (b c : ℕ) (rest : List ℕ) → b ≡ c → QuickEnds form (quick_next form state b) rest → QuickEnds form (quick_next form state c) rest
at_byte form state b c rest same e = subst (λ (c : ℕ). QuickEnds form (quick_next form state c) rest) same e

-- a byte of an operator stays in it
operator_byte : (form : RelationForm) (place : ShapePlace) (rest : List ℕ) → in_operator place ≡ true → (b : ℕ) → is_operator_byte b ≡ true
    → QuickEnds form (quick_next form (At place) b) rest → OperatorEnds form rest
operator_byte form Less rest within b operator e = elim (operator_kinds b operator) [
  | inl less ↦ behind_operator form rest (at_byte form (At Less) b 60 rest less e)
  | inr other ↦ elim other [
    | inl equals ↦ behind_operator form rest (at_byte form (At Less) b 61 rest equals e)
    | inr greater ↦ nowhere form rest (at_byte form (At Less) b 62 rest greater e)
  ]
]
operator_byte form Greater rest within b operator e = elim (operator_kinds b operator) [
  | inl less ↦ nowhere form rest (at_byte form (At Greater) b 60 rest less e)
  | inr other ↦ elim other [
    | inl equals ↦ behind_operator form rest (at_byte form (At Greater) b 61 rest equals e)
    | inr greater ↦ behind_operator form rest (at_byte form (At Greater) b 62 rest greater e)
  ]
]
operator_byte form AfterOperator rest within b operator e = elim (operator_kinds b operator) [
  | inl less ↦ nowhere form rest (at_byte form (At AfterOperator) b 60 rest less e)
  | inr other ↦ elim other [
    | inl equals ↦ nowhere form rest (at_byte form (At AfterOperator) b 61 rest equals e)
    | inr greater ↦ nowhere form rest (at_byte form (At AfterOperator) b 62 rest greater e)
  ]
]
operator_byte form place rest within b operator e = absurd (false≢true within)

opened_less : (form : RelationForm) (rest : List ℕ) → QuickEnds form (quick_next form (At Opened) 60) rest → OperatorEnds form rest
opened_less Clauses rest e = record { place = Less; within = refl; ends = e }
opened_less Atoms rest e = record { place = Less; within = refl; ends = e }
opened_less Provides rest e = nowhere Provides rest e

opened_greater : (form : RelationForm) (rest : List ℕ) → QuickEnds form (quick_next form (At Opened) 62) rest → OperatorEnds form rest
opened_greater Clauses rest e = record { place = Greater; within = refl; ends = e }
opened_greater Atoms rest e = record { place = Greater; within = refl; ends = e }
opened_greater Provides rest e = nowhere Provides rest e

-- the first byte of an operator leads into it
opened_byte : (form : RelationForm) (rest : List ℕ) (b : ℕ) → is_operator_byte b ≡ true → QuickEnds form (quick_next form (At Opened) b) rest → OperatorEnds form rest
opened_byte form rest b operator e = elim (operator_kinds b operator) [
  | inl less ↦ opened_less form rest (at_byte form (At Opened) b 60 rest less e)
  | inr other ↦ elim other [
    | inl equals ↦ behind_operator form rest (at_byte form (At Opened) b 61 rest equals e)
    | inr greater ↦ opened_greater form rest (at_byte form (At Opened) b 62 rest greater e)
  ]
]

over_operator : (form : RelationForm) (text : List ℕ) → OperatorEnds form text → OperatorEnds form (after_run is_operator_byte text)
over_operator form [] there = there
over_operator form (b ∷ rest) there = elim (cases_Bool (is_operator_byte b)) [
  | inl operator ↦ subst (OperatorEnds form) (sym (run_left is_operator_byte b rest operator))
      (over_operator form rest (operator_byte form there.place rest there.within b operator there.ends))
  | inr other ↦ subst (OperatorEnds form) (sym (run_stays is_operator_byte b rest other)) there
]

-- no byte of an operator
record IsNoOperator (b : ℕ) : Type 0 where
  less : is_less b ≡ false
  equals : is_equals b ≡ false
  greater : is_greater b ≡ false

no_operator : (b : ℕ) → is_operator_byte b ≡ false → IsNoOperator b
no_operator b h =
    let outer = or_parts (is_less b || is_equals b) (is_greater b) h in
    let inner = or_parts (is_less b) (is_equals b) outer.0 in
    record { less = inner.0; equals = inner.1; greater = outer.1 }

-- a whole operator of one byte is like any other
like_less : (b : ℕ) (to : ShapePlace) → state_at (At Less) b to ≡ state_at (At AfterOperator) b to
like_less b InVersion = refl
like_less b to = refl

like_greater : (b : ℕ) (to : ShapePlace) → state_at (At Greater) b to ≡ state_at (At AfterOperator) b to
like_greater b InVersion = refl
like_greater b to = refl

ends_behind : (form : RelationForm) (place : ShapePlace) (text : List ℕ) → in_operator place ≡ true → Stops is_operator_byte text → QuickEnds form (At place) text → QuickEnds form (At AfterOperator) text
ends_behind form Less [] within stops e = absurd (false≢true e)
ends_behind form Less (b ∷ rest) within stops e =
    let is = no_operator b stops in
    let no_less = is.less in
    let no_equals = is.equals in
    let same : quick_next form (At Less) b ≡ state_at (At Less) b (before_version b) = rw (no_less, no_equals) refl in
    subst (λ (s : QuickState). QuickEnds form s rest) (same ∙ like_less b (before_version b)) e
ends_behind form Greater [] within stops e = absurd (false≢true e)
ends_behind form Greater (b ∷ rest) within stops e =
    let is = no_operator b stops in
    let no_greater = is.greater in
    let no_equals = is.equals in
    let same : quick_next form (At Greater) b ≡ state_at (At Greater) b (before_version b) = rw (no_greater, no_equals) refl in
    subst (λ (s : QuickState). QuickEnds form s rest) (same ∙ like_greater b (before_version b)) e
ends_behind form AfterOperator text within stops e = e
ends_behind form place text within stops e = absurd (false≢true within)

-- The version

version_fine : (form : RelationForm) (text : List ℕ) → Stops is_white text → QuickEnds form (At AfterOperator) text → first_fault (take_while is_version_byte text) ≡ None
version_fine form [] stops e = absurd (false≢true e)
version_fine form (b ∷ rest) stops e = elim (cases_Bool (is_version_byte b)) [
  | inl version ↦
      let begun : quick_next form (At AfterOperator) b ≡ version_begins b = rw (stops, version) refl in
      let ends = subst (λ (s : QuickState). QuickEnds form s rest) begun e in
      let whole = subst (QuickEnds form (version_begins b)) (run_front is_version_byte rest) ends in
      let spelled = begun_spelled form b (take_while is_version_byte rest) (after_run is_version_byte rest) version
      (run_passes is_version_byte rest) (run_stops is_version_byte rest) whole in
      ap first_fault (run_taken is_version_byte b rest version) ∙ (faultless_is_spelled (b ∷ take_while is_version_byte rest)).1 spelled
  | inr other ↦ absurd (dead_end form (quick_next form (At AfterOperator) b) rest (rw (stops, other) refl) e)
]

inside_fine : (form : RelationForm) (inside : List ℕ) → Stops is_white inside → QuickEnds form (At Opened) inside → first_fault (version_in inside) ≡ None
inside_fine form [] stops e = absurd (false≢true e)
inside_fine form (b ∷ rest) stops e = elim (cases_Bool (is_operator_byte b)) [
  | inl operator ↦
      let run = over_operator form rest (opened_byte form rest b operator e) in
      let behind = after_run is_operator_byte rest in
      let ends = over_run form (At AfterOperator) is_white (after_operator_stays form) behind
      (ends_behind form run.place behind run.within (run_stops is_operator_byte rest) run.ends) in
      ap (λ (text : List ℕ). first_fault (take_while is_version_byte (after_run is_white text))) (run_left is_operator_byte b rest operator)
      ∙ version_fine form (after_run is_white behind) (run_stops is_white behind) ends
  | inr other ↦
      let is = no_operator b other in
      let no_less = is.less in
      let no_equals = is.equals in
      let no_greater = is.greater in
      absurd (dead_end form (quick_next form (At Opened) b) rest (rw (stops, no_equals, no_less, no_greater) refl) e)
]

no_bad_version : (whole inside : List ℕ) → first_fault (version_in inside) ≡ None → bad_version_in whole inside ≡ None
no_bad_version whole inside fine = rw fine refl

opened_fine : (form : RelationForm) (whole tail : List ℕ) → HasEnd form tail → option_and_then (bad_version_in whole) (opened_at tail) ≡ None
opened_fine form whole [] has = refl
opened_fine form whole (b ∷ rest) has = elim (cases_Bool (is_opening b)) [
  | inl opening ↦
      let e = behind_opening form has.state rest (at_byte form has.state b 40 rest (eqb-true b 40 opening) has.ends) in
      let inside = after_run is_white rest in
      let fine = inside_fine form inside (run_stops is_white rest) (over_run form (At Opened) is_white (opened_stays form) rest e) in
      rw opening (no_bad_version whole inside fine)
  | inr other ↦ rw other refl
]

-- a text that comes to an end has no version that is refused
part_fine : (form : RelationForm) (text : List ℕ) → HasEnd form text → bad_version_of text ≡ None
unfolding bad_version_of
part_fine form text has =
    let behind_name = behind_run form is_name_byte (after_run is_white text) (behind_run form is_white text has) in
    let behind = behind_qualifier form (after_name text) behind_name in
    opened_fine form text (after_run is_white (after_qualifier (after_name text))) (behind_run form is_white (after_qualifier (after_name text)) behind)

-- what the quick reading accepts isn't refused
pub accepted : (form : RelationForm) (value : List ℕ) → length value < most_atoms → QuickEnds form (At Between) value → fault_of form value ≡ None
accepted form value short e = no_fault form value (record {
  shape = shape_fine form value (shape_of form (At Between) value e);
  versions = versions_unrefused 0 (parts_of (separator_of form) value)
      (all_map (HasEnd form) (λ (text : List ℕ). bad_version_of text ≡ None) (part_fine form) (parts_of (separator_of form) value) (each_part_ends form (At Between) value e));
  few = no_excess (separator_of form) value short;
})
