-- What is recorded with each step, once each wanted text was put at its place.
use Rattle.std.proofs.Common.{◌≡◌, ⊎_elim, ℕ, zero, suc, List, [], ◌∷◌, length, replicate, Option, Some, None, MatchOption, refl, subst, arith}
use Rattle.std.specs.List.{AllZip, slice_get}
use Rattle.std.proofs.lemmas.List.Elements.{All-contains}
use Rattle.rules.specs.ElementLaws.{Any-contains}
use Rattle.rules.specs.Step.{IndexPackage}
use Rattle.rules.specs.Universe.{Universe, listed_for}
use Rattle.rules.specs.declared.step.Step.{Step}
use Rattle.inputs.specs.Texts.{Found}
use Rattle.unpack_texts.specs.Filled.{HasText, IsFilled}
use Rattle.unpack_texts.specs.Opened.{Belongs}
use Rattle.unpack_texts.specs.Texts.{AreTexts, IsTextFor, IsTextOf}
use Rattle.unpack_texts.specs.Wanted.{AreWanted, IsWanted, Unpacks, WantedStanza}

-- lists agree place by place
zip_by_place : {A B : Type 0} (R : A → B → Type 0) (xs : List A) (ys : List B) → length ys ≡ length xs
    → ((i : ℕ) (x : A) (y : B) → slice_get xs i ≡ Some x → slice_get ys i ≡ Some y → R x y) → AllZip R xs ys
zip_by_place R [] [] same here = tt
zip_by_place R [] (y ∷ ys) same here = absurd (omega arith)
zip_by_place R (x ∷ xs) [] same here = absurd (omega arith)
zip_by_place R (x ∷ xs) (y ∷ ys) same here =
    (here zero x y refl refl, zip_by_place R xs ys (omega arith) (λ i a b one two. here (suc i) a b one two))

-- among empty places there is no text
none_there : (count place : ℕ) (text : List ℕ) → slice_get (replicate count None) place ≡ Some (Some text) → ⊥
none_there zero place text is = cc
none_there (suc count) zero text is = cc
none_there (suc count) (suc place) text is = none_there count place text is

module _ (arch : List ℕ) (index_texts : ℕ → List ℕ → Found) (files : List (List ℕ)) (u : Universe) (steps : List Step) (wanted : List WantedStanza)
    (places : List (Option (List ℕ))) (are : AreWanted u steps wanted) (put : IsFilled (Belongs arch index_texts files) wanted (replicate (length steps) None) places) where
  -- a text that is at a place is that of a stanza that its step unpacks
  belongs_there : (place : ℕ) (text : List ℕ) → slice_get places place ≡ Some (Some text)
      → (listed : IndexPackage) × Unpacks u steps place listed × IsTextOf arch index_texts files listed text
  belongs_there place text there = ⊎_elim
      (λ old. absurd (none_there (length steps) place text old))
      (λ some. (let B : WantedStanza → Type 0 = λ one. (one.step ≡ place) × Belongs arch index_texts files one text in
      let unpacks : IsWanted u steps some.1 = All-contains (IsWanted u steps) wanted some.1 are.each (Any-contains B wanted some) in
      (some.1.listed, subst (λ (n : ℕ). Unpacks u steps n some.1.listed) some.4.0 unpacks, some.4.1)))
      (put.each place text there)

  -- a text is at the place of each step that unpacks a stanza
  there_is : (place : ℕ) (listed : IndexPackage) → Unpacks u steps place listed → HasText places place
  there_is place listed unpacks =
      let some = are.every place listed unpacks in
      subst (λ (n : ℕ). HasText places n) some.4
      (All-contains (λ one. HasText places one.step) wanted some.1 put.every (Any-contains (λ one. one.step ≡ place) wanted some))

  text_for : (place : ℕ) (step : Step) (text : Option (List ℕ)) (listed : Option IndexPackage) → slice_get steps place ≡ Some step → slice_get places place ≡ Some text
      → listed_for u step ≡ listed → MatchOption listed (text ≡ None) (λ listed. MatchOption text ⊥ (IsTextOf arch index_texts files listed))
  text_for place step None None there is unpacks = refl
  text_for place step (Some text) None there is unpacks =
      let of = belongs_there place text is in
      let same : of.1.step ≡ step = cc (of.1.there) in
      let again : listed_for u step ≡ Some of.0 = subst (λ (s : Step). listed_for u s ≡ Some of.0) same of.1.unpacks in
      cc
  text_for place step None (Some listed) there is unpacks =
      let has = there_is place listed (record { step = step; there = there; unpacks = unpacks }) in
      cc (has.1)
  text_for place step (Some text) (Some listed) there is unpacks =
      let of = belongs_there place text is in
      let same : of.1.step ≡ step = cc (of.1.there) in
      let again : listed_for u step ≡ Some of.0 = subst (λ (s : Step). listed_for u s ≡ Some of.0) same of.1.unpacks in
      let one : of.0 ≡ listed = cc in
      subst (λ (l : IndexPackage). IsTextOf arch index_texts files l text) one of.2

  -- each text is what is recorded with the step in its place
  pub all_texts : length places ≡ length steps → AreTexts arch index_texts files u steps places
  all_texts same = zip_by_place (IsTextFor arch index_texts files u) steps places same
      (λ place step text there is. text_for place step text (listed_for u step) there is refl)
