-- Requests that are asked one after the other, over one reading.
use Rattle.std.specs.Prelude.{ℕ, List, [], ◌∷◌, ◌++◌, Result, Ok, Err}
use Rattle.inputs.specs.Before.{IsRefusalBefore}
use Rattle.inputs.specs.ReadAs.{asking}
use Rattle.inputs.specs.Texts.{Texts}
use Rattle.inputs.specs.declared.refusal.Refusal.{Refusal}

-- each request has its result, as where it is asked alone, and the next goes on from what the last one left beside it
pub data AreSaid {A B : Type 0} (Says : List ℕ → B → Result A Refusal → B → Type 0) : List (List ℕ) → B → List (Result A Refusal) → B → Type 0 where
  none : {beside : B} → AreSaid Says [] beside [] beside
  more : {requests : List (List ℕ)} {results : List (Result A Refusal)} {request : List ℕ} {result : Result A Refusal} {first then last : B}
      → AreSaid Says requests first results then → Says request then result last
      → AreSaid Says (requests ++ request ∷ []) first (results ++ result ∷ []) last

-- one state comes of the other by steps that keep what has to be kept
pub data Comes {A B : Type 0} (Keeps : B → Result A Refusal → B → Type 0) : B → B → Type 0 where
  still : {beside : B} → Comes Keeps beside beside
  further : {first then last : B} (result : Result A Refusal) → Comes Keeps first then → Keeps then result last → Comes Keeps first last

-- each of the requests over these texts has its result, as where it is asked alone; or the refusal is the first before the requests
abbrev pub AreSaidOver : {A B : Type 0} → (Texts → B → Result A Refusal → B → Type 0) → List (List ℕ) → Texts → B
    → Result (List (Result A Refusal)) Refusal → B → Type 0
AreSaidOver Says requests texts old (Ok results) new = AreSaid (λ request. Says (asking request texts)) requests old results new
AreSaidOver Says requests texts old (Err refused) new = IsRefusalBefore texts refused
