-- A text cut at its first newline.
use Rattle.std.proofs.Common.{◌≡◌, ℕ, ◌+◌, ◌<◌, ◌≤◌, Bool, true, false, Some, None, List, [], ◌∷◌, length, take, drop, ltb, refl, arith, inl, inr, subst, eqb}
use Rattle.std.proofs.lemmas.Bool.{cases_Bool, ltb-false, ltb-true}
use Rattle.std.proofs.lemmas.List.Sums.{fails_before_first}
use Rattle.std.proofs.lemmas.List.Splits.{slice_split_none, slice_split_first}
use Rattle.std.specs.List.{position, position_or_len}
use Rattle.universe_request.specs.Cut.{lines_of}

abbrev is_newline : ℕ → Bool
is_newline b = eqb b 10

position-inside : (bytes : List ℕ) → ltb (position_or_len is_newline bytes) (length bytes) ≡ true
    → position is_newline bytes ≡ Some (position_or_len is_newline bytes)
position-inside bytes h = rw h refl

position-past : (bytes : List ℕ) → ltb (position_or_len is_newline bytes) (length bytes) ≡ false
    → position is_newline bytes ≡ None
position-past bytes h = rw h refl

-- a text without a newline is one line
pub one_line : (bytes : List ℕ) → position (λ b. eqb b 10) bytes ≡ None → lines_of bytes ≡ bytes ∷ []
one_line bytes e = elim (cases_Bool (ltb (position_or_len is_newline bytes) (length bytes))) [
  | inl inside ↦ cc (e, position-inside bytes inside)
  | inr past ↦
      let all : length bytes ≤ position_or_len is_newline bytes = ltb-false _ _ past in
      slice_split_none is_newline bytes (λ k d h. fails_before_first is_newline bytes k d (omega arith))
]

-- the first line ends at the first newline
pub record FirstLine (bytes : List ℕ) (i : ℕ) : Type 0 where
  pub within : i < length bytes
  pub lines : lines_of bytes ≡ take i bytes ∷ lines_of (drop (i + 1) bytes)

pub first_line : (bytes : List ℕ) (i : ℕ) → position (λ b. eqb b 10) bytes ≡ Some i → FirstLine bytes i
first_line bytes i e = elim (cases_Bool (ltb (position_or_len is_newline bytes) (length bytes))) [
  | inl inside ↦
      let at : position_or_len is_newline bytes ≡ i = cc (e, position-inside bytes inside) in
      let within : position_or_len is_newline bytes < length bytes = ltb-true _ _ inside in
      record {
        within = rw (← at) within;
        lines = subst (λ n. lines_of bytes ≡ take n bytes ∷ lines_of (drop (n + 1) bytes)) at (slice_split_first is_newline bytes 0 within);
      }
  | inr past ↦ cc (e, position-past bytes past)
]
