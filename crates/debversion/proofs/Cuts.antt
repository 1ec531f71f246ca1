-- A text cut at the first or the last byte that passes a test, in std's words.
use Rattle.std.proofs.Common.{◌≡◌, ℕ, suc, ◌+◌, ◌-◌, ◌<◌, ◌≤◌, Bool, true, false, not, Some, None, List, [], ◌∷◌, ◌++◌, append_assoc, length, take, drop, get_or, ltb, refl, sym, ap, ◌∙◌, arith, inl, inr}
use Rattle.std.proofs.lemmas.Bool.{cases_Bool, ltb-false, ltb-true, not_from_false, not_from_true}
use Rattle.std.proofs.lemmas.List.{take-append-drop, take-take}
use Rattle.std.proofs.Math.Seq.{take-suc}
use Rattle.std.proofs.lemmas.List.Sums.{fails_before_first, passes_at_first, suffix_len_is}
use Rattle.std.proofs.lemmas.List.Folds.{list_any_at}
use Rattle.std.specs.List.{after_first, after_last, before_first, before_last, list_any, position, position_or_len, suffix_len}
use Rattle.debversion.specs.Parts.{IsLastAt}

-- no byte passes
pub list_any-nowhere : (test : ℕ → Bool) (bytes : List ℕ)
    → ((k : ℕ) → k < length bytes → test (get_or bytes k 0) ≡ false) → list_any test bytes ≡ false
list_any-nowhere test [] none = refl
list_any-nowhere test (b ∷ rest) none =
    rw (none 0 (omega arith)) (list_any-nowhere test rest (λ k h. none (suc k) (omega arith)))

pub list_any-at_last : (test : ℕ → Bool) (bytes : List ℕ) (i : ℕ) → IsLastAt test bytes i → list_any test bytes ≡ true
list_any-at_last test bytes i at = list_any_at test bytes i 0 at.within at.passes

-- as many bytes as stand after the last that passes
after-count : (test : ℕ → Bool) (bytes : List ℕ) (i : ℕ) → IsLastAt test bytes i
    → suffix_len (λ b. not (test b)) bytes ≡ length bytes - (i + 1)
after-count test bytes i at =
    let within = at.within in
    suffix_len_is (λ b. not (test b)) bytes (i + 1) 0 (omega arith)
    (λ k low high. not_from_false _ (at.last k (omega arith) high))
    (λ some. let here : i + 1 - 1 ≡ i = omega arith in rw here (not_from_true _ at.passes))

pub before_last-at : (test : ℕ → Bool) (bytes : List ℕ) (i : ℕ) → IsLastAt test bytes i → before_last test bytes ≡ take i bytes
before_last-at test bytes i at =
    let within = at.within in
    let count = after-count test bytes i at in
    let here : length bytes - suffix_len (λ b. not (test b)) bytes - 1 ≡ i = omega arith in
    ap (λ n. take n bytes) here

pub after_last-at : (test : ℕ → Bool) (bytes : List ℕ) (i : ℕ) → IsLastAt test bytes i → after_last test bytes ≡ drop (i + 1) bytes
after_last-at test bytes i at =
    let within = at.within in
    let count = after-count test bytes i at in
    let here : length bytes - suffix_len (λ b. not (test b)) bytes ≡ i + 1 = omega arith in
    ap (λ n. drop n bytes) here

position-inside : (test : ℕ → Bool) (bytes : List ℕ) → ltb (position_or_len test bytes) (length bytes) ≡ true
    → position test bytes ≡ Some (position_or_len test bytes)
position-inside test bytes h = rw h refl

position-past : (test : ℕ → Bool) (bytes : List ℕ) → ltb (position_or_len test bytes) (length bytes) ≡ false
    → position test bytes ≡ None
position-past test bytes h = rw h refl

-- no byte passes, as `position` says
pub list_any-no_position : (test : ℕ → Bool) (bytes : List ℕ) → position test bytes ≡ None → list_any test bytes ≡ false
list_any-no_position test bytes e = elim (cases_Bool (ltb (position_or_len test bytes) (length bytes))) [
  | inl inside ↦ cc (e, position-inside test bytes inside)
  | inr past ↦
      let all : length bytes ≤ position_or_len test bytes = ltb-false _ _ past in
      list_any-nowhere test bytes (λ k h. fails_before_first test bytes k 0 (omega arith))
]

-- the first byte that passes stands at i
pub record IsFirstAt (test : ℕ → Bool) (bytes : List ℕ) (i : ℕ) : Type 0 where
  pub within : i < length bytes
  pub some : list_any test bytes ≡ true
  pub before : before_first test bytes ≡ take i bytes
  pub after : after_first test bytes ≡ drop (i + 1) bytes

pub first-position : (test : ℕ → Bool) (bytes : List ℕ) (i : ℕ) → position test bytes ≡ Some i → IsFirstAt test bytes i
first-position test bytes i e = elim (cases_Bool (ltb (position_or_len test bytes) (length bytes))) [
  | inl inside ↦
      let at : position_or_len test bytes ≡ i = cc (e, position-inside test bytes inside) in
      let within : position_or_len test bytes < length bytes = ltb-true _ _ inside in
      record {
        within = rw (← at) within;
        some = list_any_at test bytes (position_or_len test bytes) 0 within (passes_at_first test bytes 0 within);
        before = ap (λ n. take n bytes) at;
        after = ap (λ n. drop (n + 1) bytes) at;
      }
  | inr past ↦ cc (e, position-past test bytes past)
]

-- two texts with the same front have each shorter front the same
pub take-same-le : (n m : ℕ) (xs ys : List ℕ) → n ≤ m → take m xs ≡ take m ys → take n xs ≡ take n ys
take-same-le n m xs ys le same = sym (take-take n m xs le) ∙ ap (take n) same ∙ take-take n m ys le

-- a text, cut behind one of its bytes
pub cut-behind : (n : ℕ) (part : List ℕ) → n < length part → part ≡ take n part ++ get_or part n 0 ∷ drop (suc n) part
cut-behind n part h =
    sym (take-append-drop (suc n) part)
    ∙ ap (λ (front : List ℕ). front ++ drop (suc n) part) (take-suc part n 0 h)
    ∙ append_assoc (take n part) (get_or part n 0 ∷ []) (drop (suc n) part)
