-- From the dead place no bytes lead on, and from every other place some bytes lead to an end.
use Rattle.std.proofs.Common.{◌≡◌, ◌≢◌, ℕ, true, false, List, [], ◌∷◌, ◌++◌, refl, sym, ap, ◌∙◌, codes}
use Rattle.relation_text.specs.Place.{is_end}
use Rattle.relation_text.specs.Shape.{next, place_after, HasShape}
use Rattle.relation_text.specs.declared.shape.RelationForm.{RelationForm}
use Rattle.relation_text.specs.declared.shape.ShapePlace.{ShapePlace}
use Rattle.relation_text.specs.declared.shape.ShapePlace.TheVariants.{Between, Alternative, InName, AfterName, BeforeQualifier, InQualifier, Opened, Less, Greater, AfterOperator, InVersion, AfterVersion, Closed, Dead}

pub place_after-dead : (form : RelationForm) (bytes : List ℕ) → place_after form Dead bytes ≡ Dead
place_after-dead form [] = refl
place_after-dead form (b ∷ bytes) = place_after-dead form bytes

pub place_after-append : (form : RelationForm) (place : ShapePlace) (front more : List ℕ) → place_after form place (front ++ more) ≡ place_after form (place_after form place front) more
place_after-append form place [] more = refl
place_after-append form place (b ∷ front) more = place_after-append form (next form place b) front more

-- bytes that lead from the place to an end
abbrev pub completion_of : ShapePlace → List ℕ
completion_of Between = []
completion_of Alternative = codes "a"
completion_of InName = []
completion_of AfterName = []
completion_of BeforeQualifier = codes "a"
completion_of InQualifier = []
completion_of Opened = codes "=1)"
completion_of Less = codes "1)"
completion_of Greater = codes "1)"
completion_of AfterOperator = codes "1)"
completion_of InVersion = codes ")"
completion_of AfterVersion = codes ")"
completion_of Closed = []
completion_of Dead = []

pub completes : (form : RelationForm) (place : ShapePlace) → place ≢ Dead → is_end (place_after form place (completion_of place)) ≡ true
completes form Between live = refl
completes form Alternative live = refl
completes form InName live = refl
completes form AfterName live = refl
completes form BeforeQualifier live = refl
completes form InQualifier live = refl
completes form Opened live = refl
completes form Less live = refl
completes form Greater live = refl
completes form AfterOperator live = refl
completes form InVersion live = refl
completes form AfterVersion live = refl
completes form Closed live = refl
completes form Dead live = absurd (live refl)

pub dead_front : (form : RelationForm) (front more : List ℕ) → place_after form Between front ≡ Dead → HasShape form (front ++ more) → ⊥
dead_front form front more dead shape =
    let e = place_after-append form Between front more ∙ ap (λ place. place_after form place more) dead ∙ place_after-dead form more in
    let f : false ≡ true = sym (ap is_end e) ∙ shape in
    cc

pub live_front : (form : RelationForm) (front : List ℕ) → place_after form Between front ≢ Dead → (more : List ℕ) × HasShape form (front ++ more)
live_front form front live = (
  completion_of (place_after form Between front),
  ap is_end (place_after-append form Between front (completion_of (place_after form Between front))) ∙ completes form (place_after form Between front) live,
)
