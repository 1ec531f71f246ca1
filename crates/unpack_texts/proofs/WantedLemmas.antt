-- What the steps so far unpack, and the stanzas of one index in their order.
use Rattle.std.proofs.Common.{◌≡◌, ◌⊎◌, inl, inr, ⊎_elim, ℕ, ◌+◌, ◌<◌, List, [], ◌∷◌, ◌++◌, Bor, length, map, get_or, Some, None, sym, ap, ◌∙◌, subst, arith}
use Rattle.std.proofs.lemmas.List.{get_or-map, length-map}
use Rattle.std.specs.List.{All, Any, slice_get}
use Rattle.std.specs.List.Sorted.{IsNonDecreasingBy}
use Rattle.std.proofs.lemmas.List.Elements.{All-push, All-weaker}
use Rattle.std.proofs.lemmas.List.Quantifiers.{Any-push}
use Rattle.std.proofs.lemmas.Option.{slice_get_within}
use Rattle.std.proofs.lemmas.Bool.{cases_eq}
use Rattle.rules.specs.ElementLaws.{Any-append_left}
use Rattle.rules.specs.Step.{IndexPackage}
use Rattle.rules.specs.Universe.{Universe, listed_for}
use Rattle.rules.specs.declared.step.Step.{Step}
use Rattle.unpack_texts.specs.Wanted.{AreWithin, IsWanted, Unpacks, WantedStanza}

before_or_here : (place i : ℕ) → place < i + 1 → (place < i) ⊎ (i ≡ place)
before_or_here place i less = ⊎_elim (λ here. inr here) (λ other. inl (omega arith)) (cases_eq i place)

module _ (u : Universe) (steps : List Step) (i : ℕ) (step : Step) (there : slice_get steps i ≡ Some step) where
  Before : List WantedStanza → ℕ → Type 0
  Before wanted bound = (place : ℕ) (listed : IndexPackage) → place < bound → Unpacks u steps place listed → Any (λ one. one.step ≡ place) wanted

  -- one more step that unpacks a stanza
  pub each_more : (wanted : List WantedStanza) (listed : IndexPackage) → listed_for u step ≡ Some listed → All (IsWanted u steps) wanted
      → All (IsWanted u steps) (wanted ++ record { step = i; listed = listed } ∷ [])
  each_more wanted listed unpacks each =
      All-push (IsWanted u steps) wanted (record { step = i; listed = listed }) each (record { step = step; there = there; unpacks = unpacks })

  pub every_more : (wanted : List WantedStanza) (listed : IndexPackage) → ((place : ℕ) (other : IndexPackage) → place < i → Unpacks u steps place other
      → Any (λ one. one.step ≡ place) wanted) → (place : ℕ) (other : IndexPackage) → place < i + 1 → Unpacks u steps place other
      → Any (λ one. one.step ≡ place) (wanted ++ record { step = i; listed = listed } ∷ [])
  every_more wanted listed every place other less unpacks =
      let last : WantedStanza = record { step = i; listed = listed } in
      ⊎_elim
      (λ below. Any-append_left (λ one. one.step ≡ place) wanted (last ∷ []) (every place other below unpacks))
      (λ here. Any-push (λ one. one.step ≡ place) wanted last here)
      (before_or_here place i less)

  -- one more step that unpacks none
  pub every_none : (wanted : List WantedStanza) → listed_for u step ≡ None → ((place : ℕ) (other : IndexPackage) → place < i → Unpacks u steps place other
      → Any (λ one. one.step ≡ place) wanted) → (place : ℕ) (other : IndexPackage) → place < i + 1 → Unpacks u steps place other
      → Any (λ one. one.step ≡ place) wanted
  every_none wanted none every place other less unpacks =
      ⊎_elim
      (λ below. every place other below unpacks)
      (λ here. (let again : slice_get steps i ≡ Some unpacks.step = subst (λ (n : ℕ). slice_get steps n ≡ Some unpacks.step) (sym here) unpacks.there in
      let same : unpacks.step ≡ step = cc in
      let some : listed_for u step ≡ Some other = subst (λ (s : Step). listed_for u s ≡ Some other) same unpacks.unpacks in
      absurd (cc)))
      (before_or_here place i less)

-- the steps of wanted stanzas are within the plan
pub within_plan : (u : Universe) (steps : List Step) (wanted : List WantedStanza) → All (IsWanted u steps) wanted → AreWithin (length steps) wanted
within_plan u steps wanted each =
    All-weaker (IsWanted u steps) (λ one. one.step < length steps) (λ one is. slice_get_within steps one.step is.step is.there) wanted each

-- the package in a place is that of the stanza in it
entry_at : (entries : List (Bor IndexPackage)) (group : List WantedStanza) (k : ℕ) (d : Bor IndexPackage)
    → map (λ (entry : Bor IndexPackage). entry.now) entries ≡ map (λ (one : WantedStanza). one.listed) group → k < length entries → k < length group
    → (get_or entries k d).now ≡ (get_or group k (record { step = 0; listed = d.now })).listed
entry_at entries group k d same below within =
    sym (get_or-map (λ (entry : Bor IndexPackage). entry.now) entries k d d.now below)
    ∙ ap (λ (l : List IndexPackage). get_or l k d.now) same
    ∙ get_or-map (λ (one : WantedStanza). one.listed) group k (record { step = 0; listed = d.now }) d.now within

-- packages that are listed in the order of their stanzas
pub order_of_entries : (entries : List (Bor IndexPackage)) (group : List WantedStanza)
    → map (λ (entry : Bor IndexPackage). entry.now) entries ≡ map (λ (one : WantedStanza). one.listed) group
    → IsNonDecreasingBy (λ (one : WantedStanza). one.listed.place.stanza) group
    → IsNonDecreasingBy (λ (entry : Bor IndexPackage). entry.now.place.stanza) entries
order_of_entries entries group same order m n d le less =
    let size : length entries ≡ length group =
    sym (length-map entries (λ (entry : Bor IndexPackage). entry.now)) ∙ ap length same ∙ length-map group (λ (one : WantedStanza). one.listed) in
    let first = entry_at entries group m d same (omega arith) (omega arith) in
    let last = entry_at entries group n d same less (omega arith) in
    rw (first, last) (order m n (record { step = 0; listed = d.now }) le (omega arith))
