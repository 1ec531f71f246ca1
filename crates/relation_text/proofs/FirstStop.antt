-- The refusal of a shape is where the automaton first comes to the dead place, or the end where no value may end.
use Rattle.std.proofs.Common.{◌≡◌, ◌≢◌, ℕ, suc, ◌+◌, ◌<◌, ◌≤◌, Bool, true, false, cond, List, [], ◌∷◌, length, take, Option, Some, None, refl, sym, ap, ◌∙◌, arith, add-one, subst}
use Rattle.relation_text.specs.Refusal.{shape_refusal_from, stop_at}
use Rattle.relation_text.specs.Place.{is_dead, is_end}
use Rattle.relation_text.specs.Shape.{HasShape, IsFirstStop, next, place_after}
use Rattle.relation_text.specs.declared.refusal.RelationRefusal.{RelationRefusal}
use Rattle.relation_text.specs.declared.shape.RelationForm.{RelationForm}
use Rattle.relation_text.specs.declared.shape.ShapePlace.{ShapePlace}
use Rattle.relation_text.specs.declared.shape.ShapePlace.TheVariants.{Between, Alternative, InName, AfterName, BeforeQualifier, InQualifier, Opened, Less, Greater, AfterOperator, InVersion, AfterVersion, Closed, Dead}
use Rattle.relation_text.proofs.ShapeLemmas.{live_front, dead_front}

pub dead_is : (place : ShapePlace) → is_dead place ≡ true → place ≡ Dead
dead_is Between e = cc
dead_is Alternative e = cc
dead_is InName e = cc
dead_is AfterName e = cc
dead_is BeforeQualifier e = cc
dead_is InQualifier e = cc
dead_is Opened e = cc
dead_is Less e = cc
dead_is Greater e = cc
dead_is AfterOperator e = cc
dead_is InVersion e = cc
dead_is AfterVersion e = cc
dead_is Closed e = cc
dead_is Dead e = refl

live_is_not : (place : ShapePlace) → is_dead place ≡ false → place ≢ Dead
live_is_not place live dead = let e : true ≡ false = sym (ap is_dead dead) ∙ live in cc

-- from the place the first stop of these bytes is behind so many of them
record StopsAt (form : RelationForm) (place : ShapePlace) (bytes : List ℕ) (count : ℕ) : Type 0 where
  within : count ≤ length bytes
  live : is_dead (place_after form place (take count bytes)) ≡ false
  dead : count < length bytes → is_dead (place_after form place (take (suc count) bytes)) ≡ true
  no_end : count ≡ length bytes → is_end (place_after form place bytes) ≡ false

record FoundAt (form : RelationForm) (place : ShapePlace) (offset : ℕ) (bytes : List ℕ) (refusal : RelationRefusal) : Type 0 where
  count : ℕ
  at : refusal.offset ≡ offset + count
  stop : StopsAt form place bytes count

at_end : (form : RelationForm) (place : ShapePlace) (offset : ℕ) (refusal : RelationRefusal) (test : Bool) → is_end place ≡ test → is_dead place ≡ false
    → cond test None (Some (stop_at place offset)) ≡ Some refusal → FoundAt form place offset [] refusal
at_end form place offset refusal true ended live e = absurd (cc)
at_end form place offset refusal false ended live e = record {
  count = 0;
  at = let same : stop_at place offset ≡ refusal = cc in sym (ap (λ refusal. refusal.offset) same) ∙ omega arith;
  stop = record { within = omega arith; live = live; dead = λ less. absurd (omega arith); no_end = λ all. ended };
}

step_on : (form : RelationForm) (place : ShapePlace) (offset : ℕ) (b : ℕ) (bytes : List ℕ) (refusal : RelationRefusal)
    → FoundAt form (next form place b) (offset + 1) bytes refusal → FoundAt form place offset (b ∷ bytes) refusal
step_on form place offset b bytes refusal stop_is =
    let stop = stop_is.stop in
    record {
      count = suc stop_is.count;
      at = let at = stop_is.at in omega arith;
      stop = record {
        within = let within = stop.within in omega arith;
        live = stop.live;
        dead = λ less. stop.dead (omega arith);
        no_end = λ all. stop.no_end (omega arith);
      };
    }

at_byte : (form : RelationForm) (place : ShapePlace) (offset : ℕ) (b : ℕ) (bytes : List ℕ) (refusal : RelationRefusal) (test : Bool) → is_dead (next form place b) ≡ test → is_dead place ≡ false
    → (is_dead (next form place b) ≡ false → shape_refusal_from form (next form place b) (offset + 1) bytes ≡ Some refusal → FoundAt form (next form place b) (offset + 1) bytes refusal)
    → cond test (Some (stop_at place offset)) (shape_refusal_from form (next form place b) (offset + 1) bytes) ≡ Some refusal → FoundAt form place offset (b ∷ bytes) refusal
at_byte form place offset b bytes refusal true dead live later e = record {
  count = 0;
  at = let same : stop_at place offset ≡ refusal = cc in sym (ap (λ refusal. refusal.offset) same) ∙ omega arith;
  stop = record { within = omega arith; live = live; dead = λ less. dead; no_end = λ all. absurd (omega arith) };
}
at_byte form place offset b bytes refusal false dead live later e = step_on form place offset b bytes refusal (later dead e)

found_at : (form : RelationForm) (place : ShapePlace) (offset : ℕ) (bytes : List ℕ) (refusal : RelationRefusal) → is_dead place ≡ false
    → shape_refusal_from form place offset bytes ≡ Some refusal → FoundAt form place offset bytes refusal
found_at form place offset [] refusal live e = at_end form place offset refusal (is_end place) refl live e
found_at form place offset (b ∷ bytes) refusal live e =
    at_byte form place offset b bytes refusal (is_dead (next form place b)) refl live
    (λ alive later. found_at form (next form place b) (offset + 1) bytes refusal alive later) e

first_stop : (form : RelationForm) (value : List ℕ) (count : ℕ) → StopsAt form Between value count → IsFirstStop form value count
first_stop form value count stop = record {
  within = stop.within;
  goes_on = live_front form (take count value) (live_is_not (place_after form Between (take count value)) stop.live);
  stops = λ less more. rw add-one (dead_front form (take (suc count) value) more (dead_is (place_after form Between (take (suc count) value)) (stop.dead less)));
  ends_early = λ all shape. let e : false ≡ true = sym (stop.no_end all) ∙ shape in cc;
}

pub refused_first : (form : RelationForm) (value : List ℕ) (refusal : RelationRefusal) → shape_refusal_from form Between 0 value ≡ Some refusal → IsFirstStop form value refusal.offset
refused_first form value refusal e =
    let stop_is = found_at form Between 0 value refusal refl e in
    let at : stop_is.count ≡ refusal.offset = sym (stop_is.at ∙ omega arith) in
    subst (IsFirstStop form value) at (first_stop form value stop_is.count stop_is.stop)

ended : (place : ShapePlace) (offset : ℕ) (test : Bool) → is_end place ≡ test → cond test None (Some (stop_at place offset)) ≡ None → is_end place ≡ true
ended place offset true end e = end
ended place offset false end e = absurd (cc)

went_on : (test : Bool) (refusal : RelationRefusal) (later : Option RelationRefusal) → cond test (Some refusal) later ≡ None → later ≡ None
went_on true refusal later e = absurd (cc)
went_on false refusal later e = e

shape_from : (form : RelationForm) (place : ShapePlace) (offset : ℕ) (bytes : List ℕ) → shape_refusal_from form place offset bytes ≡ None → is_end (place_after form place bytes) ≡ true
shape_from form place offset [] e = ended place offset (is_end place) refl e
shape_from form place offset (b ∷ bytes) e =
    shape_from form (next form place b) (offset + 1) bytes (went_on (is_dead (next form place b)) (stop_at place offset) _ e)

pub accepted_shape : (form : RelationForm) (value : List ℕ) → shape_refusal_from form Between 0 value ≡ None → HasShape form value
accepted_shape form value e = shape_from form Between 0 value e
