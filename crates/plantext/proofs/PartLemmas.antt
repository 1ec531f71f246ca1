-- A text parted at a byte: it has a first part, and where the byte is found first the text is split.
use Rattle.std.proofs.Common.{◌≡◌, ℕ, ◌+◌, ◌<◌, ◌≤◌, Bool, true, false, Some, None, List, [], ◌∷◌, length, take, drop, ltb, refl, arith, inl, inr, subst, eqb}
use Rattle.std.proofs.lemmas.Bool.{cases_Bool, ltb-false, ltb-true, ne_eqb}
use Rattle.std.proofs.lemmas.List.Sums.{fails_before_first}
use Rattle.std.proofs.lemmas.List.Splits.{length-slice_split, slice_split_none, slice_split_first}
use Rattle.std.proofs.lemmas.List.{length-take-le, length-drop}
use Rattle.std.specs.List.{position, position_or_len, slice_split, onto_first}
use Rattle.plantext.specs.Cut.{SplitsPart, parts_at}
use Rattle.plantext.specs.Word.{only_word}

position-inside : (test : ℕ → Bool) (bytes : List ℕ) → ltb (position_or_len test bytes) (length bytes) ≡ true
    → position test bytes ≡ Some (position_or_len test bytes)
position-inside test bytes h = rw h refl

position-past : (test : ℕ → Bool) (bytes : List ℕ) → ltb (position_or_len test bytes) (length bytes) ≡ false
    → position test bytes ≡ None
position-past test bytes h = rw h refl

-- a text without the byte is its one part
pub split_whole : (separator : ℕ) (bytes : List ℕ) → position (λ b. eqb b separator) bytes ≡ None → parts_at separator bytes ≡ bytes ∷ []
split_whole separator bytes e =
    let test : ℕ → Bool = λ b. eqb b separator in
    elim (cases_Bool (ltb (position_or_len test bytes) (length bytes))) [
      | inl inside ↦ cc (e, position-inside test bytes inside)
      | inr past ↦
          let all : length bytes ≤ position_or_len test bytes = ltb-false _ _ past in
          slice_split_none test bytes (λ k d h. fails_before_first test bytes k d (omega arith))
    ]

-- where the byte stands first, the text is split
pub split_at_position : (separator : ℕ) (bytes : List ℕ) (i : ℕ) → position (λ b. eqb b separator) bytes ≡ Some i
    → SplitsPart separator bytes (take i bytes) (drop (i + 1) bytes)
split_at_position separator bytes i e =
    let test : ℕ → Bool = λ b. eqb b separator in
    elim (cases_Bool (ltb (position_or_len test bytes) (length bytes))) [
      | inl inside ↦
          let at : position_or_len test bytes ≡ i = cc (e, position-inside test bytes inside) in
          let within : position_or_len test bytes < length bytes = ltb-true _ _ inside in
          let here : i < length bytes = rw (← at) within in
          record {
            parts = subst (λ n. slice_split test bytes ≡ take n bytes ∷ slice_split test (drop (n + 1) bytes)) at (slice_split_first test bytes 0 within);
            whole = omega (arith, length-take-le i bytes (omega arith), length-drop (i + 1) bytes);
          }
      | inr past ↦ cc (e, position-past test bytes past)
    ]

-- a text has a first part
pub parts_some : (separator : ℕ) (text : List ℕ)
    → (first : List ℕ) × (later : List (List ℕ)) × (parts_at separator text ≡ first ∷ later)
parts_some separator [] = ([], [], refl)
parts_some separator (b ∷ bs) = elim (cases_Bool (eqb b separator)) [
  | inl h ↦ ([], parts_at separator bs, rw h refl)
  | inr h ↦ rw h (onto (parts_at separator bs))
] where
  onto : (parts : List (List ℕ)) → (first : List ℕ) × (later : List (List ℕ)) × (onto_first b parts ≡ first ∷ later)
  onto [] = (b ∷ [], [], refl)
  onto (part ∷ parts) = (b ∷ part, parts, refl)

-- a word before others doesn't stand alone
pub only_word_more : (separator : ℕ) (word text : List ℕ) → only_word (word ∷ parts_at separator text) ≡ None
only_word_more separator word text = let some = parts_some separator text in rw some.2 refl

-- a text isn't without parts
pub parts_not_empty : (separator : ℕ) (text : List ℕ) → eqb (length (parts_at separator text)) 0 ≡ false
parts_not_empty separator text =
    ne_eqb (length (parts_at separator text)) 0 (λ e. omega (arith, length-slice_split (λ b. eqb b separator) text))
