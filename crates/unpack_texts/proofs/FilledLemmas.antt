-- What is at each place once texts were put there.
use Rattle.std.proofs.Common.{◌≡◌, ◌⊎◌, inl, inr, ⊎_elim, ℕ, zero, suc, ◌+◌, ◌<◌, List, [], ◌∷◌, ◌++◌, length, set, take, drop, Option, Some, refl, sym, ap, ◌∙◌, subst, arith}
use Rattle.std.specs.List.{AllZip, Any, slice_get}
use Rattle.std.specs.List.Sorted.{IsPermutation}
use Rattle.std.proofs.lemmas.List.{length-set}
use Rattle.std.proofs.lemmas.List.Elements.{All-append, All-cons, All-head, All-nil, All-tail, All-weaker}
use Rattle.std.proofs.lemmas.List.Sorted.{All-permutation, Contains-permutation}
use Rattle.rules.specs.ElementLaws.{Any-append_left, Any-append_right, Any-contains, Any-intro, Contains-head}
use Rattle.unpack_texts.specs.Filled.{HasText, IsFilled, filled}
use Rattle.unpack_texts.specs.Wanted.{AreWithin, WantedStanza}

Places : Type 0
Places = List (Option (List ℕ))

pub length-filled : (places : List (Option (List ℕ))) (group : List WantedStanza) (texts : List (List ℕ)) → length (filled places group texts) ≡ length places
length-filled places [] texts = refl
length-filled places (one ∷ group) [] = refl
length-filled places (one ∷ group) (text ∷ texts) = length-filled (set places one.step (Some text)) group texts ∙ length-set places one.step (Some text)

-- where no text is left, nothing is put
pub filled_none : (places : List (Option (List ℕ))) (group : List WantedStanza) → filled places group [] ≡ places
filled_none places [] = refl
filled_none places (one ∷ group) = refl

-- what is at a place that was written
at_set : {A : Type 0} (xs : List A) (i : ℕ) (x : A) → i < length xs → slice_get (set xs i x) i ≡ Some x
at_set [] i x less = absurd (omega arith)
at_set (y ∷ xs) zero x less = refl
at_set (y ∷ xs) (suc i) x less = at_set xs i x (omega arith)

-- what is at a place after a write is what was written, or what was there
after_set : {A : Type 0} (xs : List A) (i place : ℕ) (x value : A) → slice_get (set xs i x) place ≡ Some value
    → (slice_get xs place ≡ Some value) ⊎ ((i ≡ place) × (value ≡ x))
after_set [] i place x value is = inl is
after_set (y ∷ xs) zero zero x value is = inr (refl, cc)
after_set (y ∷ xs) zero (suc place) x value is = inl is
after_set (y ∷ xs) (suc i) zero x value is = inl is
after_set (y ∷ xs) (suc i) (suc place) x value is =
    ⊎_elim (λ was. inl was) (λ now. inr (ap (λ n. suc n) now.0, now.1)) (after_set xs i place x value is)

-- a text stays where another is put, or is the other
kept_set : (places : List (Option (List ℕ))) (i place : ℕ) (text : List ℕ) → HasText places place → HasText (set places i (Some text)) place
kept_set [] i place text has = cc (has.1)
kept_set (y ∷ xs) zero zero text has = (text, refl)
kept_set (y ∷ xs) zero (suc place) text has = has
kept_set (y ∷ xs) (suc i) zero text has = has
kept_set (y ∷ xs) (suc i) (suc place) text has = kept_set xs i place text has

-- where nothing is wanted, nothing is put
pub filled_nothing : (B : WantedStanza → List ℕ → Type 0) (places : List (Option (List ℕ))) → IsFilled B [] places places
filled_nothing B places = record {
  size = refl;
  each = λ place text is. inl is;
  every = All-nil (λ one. HasText places one.step);
  kept = λ place has. has;
}

-- one text is put
filled_one : (B : WantedStanza → List ℕ → Type 0) (places : List (Option (List ℕ))) (one : WantedStanza) (text : List ℕ) → one.step < length places → B one text
    → IsFilled B (one ∷ []) places (set places one.step (Some text))
filled_one B places one text less belongs = record {
  size = length-set places one.step (Some text);
  each = λ place value is. ⊎_elim (λ was. inl was)
      (λ now. inr (Any-intro (λ o. (o.step ≡ place) × B o value) (one ∷ []) one (Contains-head one [])
      (now.0, subst (λ (t : List ℕ). B one t) (cc (now.1)) belongs)))
      (after_set places one.step place (Some text) (Some value) is);
  every = All-cons (λ o. HasText (set places one.step (Some text)) o.step) one [] (text, at_set places one.step (Some text) less)
      (All-nil (λ o. HasText (set places one.step (Some text)) o.step));
  kept = λ place has. kept_set places one.step place text has;
}

-- texts are put, and then more
pub filled_then : (B : WantedStanza → List ℕ → Type 0) (first last : List WantedStanza) (a b d : List (Option (List ℕ))) → IsFilled B first a b → IsFilled B last b d
    → IsFilled B (first ++ last) a d
filled_then B first last a b d one two = record {
  size = two.size ∙ one.size;
  each = λ place text is. ⊎_elim
      (λ was. ⊎_elim (λ old. inl old) (λ some. inr (Any-append_left (λ o. (o.step ≡ place) × B o text) first last some)) (one.each place text was))
      (λ some. inr (Any-append_right (λ o. (o.step ≡ place) × B o text) first last some))
      (two.each place text is);
  every = All-append (λ o. HasText d o.step) first last (All-weaker (λ o. HasText b o.step) (λ o. HasText d o.step) (λ o has. two.kept o.step has) first one.every) two.every;
  kept = λ place has. two.kept place (one.kept place has);
}

-- each text is put that belongs to the stanza in its place
pub filled_from : (B : WantedStanza → List ℕ → Type 0) (places : List (Option (List ℕ))) (group : List WantedStanza) (texts : List (List ℕ)) → AllZip B group texts
    → AreWithin (length places) group → IsFilled B group places (filled places group texts)
filled_from B places [] [] belong within = filled_nothing B places
filled_from B places [] (text ∷ texts) belong within = absurd belong
filled_from B places (one ∷ group) [] belong within = absurd belong
filled_from B places (one ∷ group) (text ∷ texts) belong within =
    filled_then B (one ∷ []) group places (set places one.step (Some text)) (filled (set places one.step (Some text)) group texts)
    (filled_one B places one text (All-head (λ o. o.step < length places) one group within) belong.0)
    (filled_from B (set places one.step (Some text)) group texts belong.1
    (subst (λ (n : ℕ). AreWithin n group) (sym (length-set places one.step (Some text))) (All-tail (λ o. o.step < length places) one group within)))

any_permuted : {X : Type 0} (P : X → Type 0) (xs ys : List X) → IsPermutation xs ys → Any P xs → Any P ys
any_permuted P xs ys same some = Any-intro P ys some.1 (Contains-permutation xs ys some.1 same (Any-contains P xs some)) some.4

-- in whatever order the stanzas are listed
pub filled_permuted : (B : WantedStanza → List ℕ → Type 0) (xs ys : List WantedStanza) (a b : List (Option (List ℕ))) → IsPermutation xs ys → IsFilled B xs a b
    → IsFilled B ys a b
filled_permuted B xs ys a b same is = record {
  size = is.size;
  each = λ place text there. ⊎_elim (λ was. inl was)
      (λ some. inr (any_permuted (λ o. (o.step ≡ place) × B o text) xs ys same some)) (is.each place text there);
  every = All-permutation (λ o. HasText b o.step) xs ys same is.every;
  kept = is.kept;
}

take_none : {X : Type 0} (n : ℕ) → take {A = X} n [] ≡ []
take_none zero = refl
take_none (suc n) = refl

-- the first elements, and so many behind them
pub take_both : {X : Type 0} (at count : ℕ) (xs : List X) → take (at + count) xs ≡ take at xs ++ take count (drop at xs)
take_both {X} zero count xs = ap {A = ℕ} (λ n. take n xs) {x = zero + count} {y = count} (omega arith)
take_both {X} (suc at) count [] = take_none (suc at + count) ∙ sym (take_none count)
take_both {X} (suc at) count (x ∷ xs) =
    ap {A = ℕ} (λ n. take n (x ∷ xs)) {x = suc at + count} {y = suc (at + count)} (omega arith) ∙ ap (λ rest. x ∷ rest) (take_both at count xs)
