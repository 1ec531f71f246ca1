-- Filters over filters, and over lists that are put together of small ones.
use Rattle.std.proofs.Common.{◌≡◌, Bool, true, false, true≢false, ◌&&◌, cond, List, [], ◌∷◌, ◌++◌, refl, sym, ap, ◌∙◌, append_assoc, inl, inr}
use Rattle.std.proofs.lemmas.Bool.{cases_Bool}
use Rattle.std.proofs.lemmas.List.Elements.{filter-append}
use Rattle.std.specs.List.{filter, flat_map}

-- nothing passes both of two tests that exclude each other
pub none_of_both : {X : Type 0} (p q : X → Bool) → ((x : X) → q x ≡ true → p x ≡ false) → (xs : List X) → filter p (filter q xs) ≡ []
none_of_both p q other [] = refl
none_of_both p q other (x ∷ xs) = elim (cases_Bool (q x)) [
  | inl passes ↦ rw (passes, other x passes) (none_of_both p q other xs)
  | inr fails ↦ rw fails (none_of_both p q other xs)
]

-- what passes a test that follows from an earlier one is what passed that
pub all_of_both : {X : Type 0} (p q : X → Bool) → ((x : X) → q x ≡ true → p x ≡ true) → (xs : List X) → filter p (filter q xs) ≡ filter q xs
all_of_both p q same [] = refl
all_of_both p q same (x ∷ xs) = elim (cases_Bool (q x)) [
  | inl passes ↦ rw (passes, same x passes) (ap (λ rest. x ∷ rest) (all_of_both p q same xs))
  | inr fails ↦ rw fails (all_of_both p q same xs)
]

-- nothing of what is put together passes a test that no part passes
pub none_in_parts : {X : Type 0} (p w : X → Bool) (g : X → List X) → ((x : X) → w x ≡ true → filter p (g x) ≡ []) → (xs : List X) → filter p (flat_map g (filter w xs)) ≡ []
none_in_parts p w g none [] = refl
none_in_parts p w g none (x ∷ xs) = elim (cases_Bool (w x)) [
  | inl passes ↦ rw passes (filter-append p (g x) (flat_map g (filter w xs)) ∙ rw (none x passes) (none_in_parts p w g none xs))
  | inr fails ↦ rw fails (none_in_parts p w g none xs)
]

pub left_out : {X : Type 0} (p : X → Bool) (x : X) (xs : List X) → p x ≡ false → filter p (x ∷ xs) ≡ filter p xs
left_out p x xs h = rw h refl

pub fails_first : (p w : Bool) → (p ≡ true → w ≡ true) → w ≡ false → p ≡ false
fails_first false w within fails = refl
fails_first true w within fails = absurd (true≢false (sym (within refl) ∙ fails))

-- of what is put together the same passes as of the list, where the same passes of each part as of its element
pub same_in_parts : {X : Type 0} (p w : X → Bool) (g : X → List X) → ((x : X) → w x ≡ true → filter p (g x) ≡ filter p (x ∷ []))
    → ((x : X) → p x ≡ true → w x ≡ true) → (xs : List X) → filter p (flat_map g (filter w xs)) ≡ filter p xs
same_in_parts p w g same within [] = refl
same_in_parts p w g same within (x ∷ xs) = elim (cases_Bool (w x)) [
  | inl passes ↦ rw passes (filter-append p (g x) (flat_map g (filter w xs))
      ∙ ap (λ front. front ++ filter p (flat_map g (filter w xs))) (same x passes)
      ∙ ap (λ rest. filter p (x ∷ []) ++ rest) (same_in_parts p w g same within xs)
      ∙ sym (filter-append p (x ∷ []) xs))
  | inr fails ↦ rw fails (same_in_parts p w g same within xs ∙ sym (left_out p x xs (fails_first (p x) (w x) (within x) fails)))
]

-- lists put together of two parts
pub flat_map_both : {X Y : Type 0} (g : X → List Y) (xs ys : List X) → flat_map g (xs ++ ys) ≡ flat_map g xs ++ flat_map g ys
flat_map_both g [] ys = refl
flat_map_both g (x ∷ xs) ys = ap (λ rest. g x ++ rest) (flat_map_both g xs ys) ∙ sym (append_assoc (g x) (flat_map g xs) (flat_map g ys))

keep : {X : Type 0} (b : Bool) (x : X) (xs ys : List X) → xs ≡ ys → cond b (x ∷ xs) xs ≡ cond b (x ∷ ys) ys
keep b x xs ys same = ap (λ rest. cond b (x ∷ rest) rest) same

-- what passes two tests one after the other passes both
pub filter_of_filter : {X : Type 0} (p q : X → Bool) (xs : List X) → filter p (filter q xs) ≡ filter (λ x. q x && p x) xs
filter_of_filter p q [] = refl
filter_of_filter p q (x ∷ xs) = elim (cases_Bool (q x)) [
  | inl passes ↦ rw passes (keep (p x) x _ _ (filter_of_filter p q xs))
  | inr fails ↦ rw fails (filter_of_filter p q xs)
]

-- a test before a narrower one leaves nothing out
pub filter_within : {X : Type 0} (p q : X → Bool) → ((x : X) → p x ≡ true → q x ≡ true) → (xs : List X) → filter p (filter q xs) ≡ filter p xs
filter_within p q within [] = refl
filter_within p q within (x ∷ xs) = elim (cases_Bool (q x)) [
  | inl passes ↦ rw passes (keep (p x) x _ _ (filter_within p q within xs))
  | inr fails ↦ rw fails (filter_within p q within xs ∙ sym (left_out p x xs (fails_first (p x) (q x) (within x) fails)))
]
