-- A text cut at its first separator.
use Rattle.std.proofs.Common.{◌≡◌, ℕ, ◌+◌, ◌<◌, ◌≤◌, Bool, true, false, Some, None, List, [], ◌∷◌, length, take, drop, ltb, refl, arith, inl, inr, subst}
use Rattle.std.proofs.lemmas.Bool.{cases_Bool, ltb-false, ltb-true}
use Rattle.std.proofs.lemmas.List.Sums.{fails_before_first}
use Rattle.std.proofs.lemmas.List.Splits.{slice_split_none, slice_split_first}
use Rattle.std.specs.List.{position, position_or_len, slice_split}

position-inside : (test : ℕ → Bool) (bytes : List ℕ) → ltb (position_or_len test bytes) (length bytes) ≡ true
    → position test bytes ≡ Some (position_or_len test bytes)
position-inside test bytes h = rw h refl

position-past : (test : ℕ → Bool) (bytes : List ℕ) → ltb (position_or_len test bytes) (length bytes) ≡ false
    → position test bytes ≡ None
position-past test bytes h = rw h refl

-- a text without a separator is its one part
pub split_whole : (test : ℕ → Bool) (bytes : List ℕ) → position test bytes ≡ None → slice_split test bytes ≡ bytes ∷ []
split_whole test bytes e = elim (cases_Bool (ltb (position_or_len test bytes) (length bytes))) [
  | inl inside ↦ cc (e, position-inside test bytes inside)
  | inr past ↦
      let all : length bytes ≤ position_or_len test bytes = ltb-false _ _ past in
      slice_split_none test bytes (λ k d h. fails_before_first test bytes k d (omega arith))
]

-- the first part ends at the first separator
pub record SplitsAt (test : ℕ → Bool) (bytes : List ℕ) (i : ℕ) : Type 0 where
  pub within : i < length bytes
  pub parts : slice_split test bytes ≡ take i bytes ∷ slice_split test (drop (i + 1) bytes)

pub split_at_position : (test : ℕ → Bool) (bytes : List ℕ) (i : ℕ) → position test bytes ≡ Some i → SplitsAt test bytes i
split_at_position test bytes i e = elim (cases_Bool (ltb (position_or_len test bytes) (length bytes))) [
  | inl inside ↦
      let at : position_or_len test bytes ≡ i = cc (e, position-inside test bytes inside) in
      let within : position_or_len test bytes < length bytes = ltb-true _ _ inside in
      record {
        within = rw (← at) within;
        parts = subst (λ n. slice_split test bytes ≡ take n bytes ∷ slice_split test (drop (n + 1) bytes)) at (slice_split_first test bytes 0 within);
      }
  | inr past ↦ cc (e, position-past test bytes past)
]
