-- Requests that are answered in turn: none, one more, and all.
use Rattle.std.proofs.Common.{◌≡◌, ◌<◌, ◌≤◌, ◌+◌, ◌++◌, ◌∷◌, ℕ, [], Bor, List, Result, length, map, subst, take}
use Rattle.std.proofs.Math.ListN.{get_or}
use Rattle.std.proofs.lemmas.Grind.{take_at_read}
use Rattle.std.proofs.lemmas.List.{map-append, take_all}
use Rattle.inputs.specs.declared.refusal.Refusal.{Refusal}
use Rattle.inputs.specs.Each.{AreSaid, more, none}

module _ {A B : Type 0} (Says : List ℕ → B → Result A Refusal → B → Type 0) where
  pub none_said : (results : List (Result A Refusal)) (b : B) → results ≡ [] → AreSaid Says [] b results b
  none_said results b is = rw is none

  pub more_said : (requests : List (Bor (List ℕ))) (i : ℕ) (d : Bor (List ℕ)) (results later : List (Result A Refusal)) (result : Result A Refusal) (a b c : B)
      → i < length requests → later ≡ results ++ result ∷ []
      → AreSaid Says (map (λ r. r.now) (take i requests)) a results b → Says (get_or requests i d).now b result c
      → AreSaid Says (map (λ r. r.now) (take (i + 1) requests)) a later c
  more_said requests i d results later result a b c lt is so_far says =
      rw (is, (take_at_read requests i d lt).1, map-append (λ (r : Bor (List ℕ)). r.now) (take i requests) (get_or requests i d ∷ []))
      (more so_far says)

  pub all_said : (requests : List (Bor (List ℕ))) (i : ℕ) (results : List (Result A Refusal)) (a b : B) → length requests ≤ i
      → AreSaid Says (map (λ r. r.now) (take i requests)) a results b → AreSaid Says (map (λ r. r.now) requests) a results b
  all_said requests i results a b le said = subst (λ (rs : List (Bor (List ℕ))). AreSaid Says (map (λ r. r.now) rs) a results b) (take_all i requests le) said
