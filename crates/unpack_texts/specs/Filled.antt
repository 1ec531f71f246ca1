-- Texts that are put at the places of their steps.
use Rattle.std.specs.Prelude.{◌≡◌, ◌⊎◌, ℕ, List, [], ◌∷◌, Option, Some, length, set}
use Rattle.std.specs.List.{All, Any, slice_get}
use Rattle.unpack_texts.specs.Wanted.{WantedStanza}

-- each text put at the place of the step of its stanza
abbrev pub filled : List (Option (List ℕ)) → List WantedStanza → List (List ℕ) → List (Option (List ℕ))
filled places [] texts = places
filled places (one ∷ group) [] = places
filled places (one ∷ group) (text ∷ texts) = filled (set places one.step (Some text)) group texts

-- there is a text at this place
abbrev pub HasText : List (Option (List ℕ)) → ℕ → Type 0
HasText places place = (text : List ℕ) × (slice_get places place ≡ Some (Some text))

-- the text belongs to one of these stanzas, whose step is at this place
abbrev pub IsOneOf : (WantedStanza → List ℕ → Type 0) → List WantedStanza → ℕ → List ℕ → Type 0
IsOneOf Belongs wanted place text = Any (λ one. (one.step ≡ place) × Belongs one text) wanted

-- a text that belongs to it was put at the place of the step of each of these stanzas, and no text was put elsewhere
pub record IsFilled (Belongs : WantedStanza → List ℕ → Type 0) (wanted : List WantedStanza) (old new : List (Option (List ℕ))) : Type 0 where
  pub size : length new ≡ length old
  pub each : (place : ℕ) (text : List ℕ) → slice_get new place ≡ Some (Some text)
      → (slice_get old place ≡ Some (Some text)) ⊎ IsOneOf Belongs wanted place text
  pub every : All (λ one. HasText new one.step) wanted
  pub kept : (place : ℕ) → HasText old place → HasText new place
