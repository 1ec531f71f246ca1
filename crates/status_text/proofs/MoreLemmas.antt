-- The lines of a value behind its first, told byte by byte: trimming the value doesn't change what they are.
use Rattle.std.proofs.Common.{◌≡◌, ℕ, Bool, true, false, cond, not, ◌&&◌, ◌||◌, List, [], ◌∷◌, ◌++◌, refl, sym, ap, ◌∙◌, eqb, inl, inr}
use Rattle.std.proofs.lemmas.Bool.{false≢true, cases_Bool, eqb-true, and_parts, and_right}
use Rattle.std.specs.List.{list_all, onto_first}
use Rattle.stanza.specs.Line.{lines_of, is_white, is_separator, is_continuation}
use Rattle.stanza.specs.Field.{without_newline}
use Rattle.stanza.proofs.LineLemmas.{lines_of-head}
use Rattle.status_text.specs.Writable.{is_more, behind_first}

-- a space or a tab is no newline
pub white-plain : (b : ℕ) → is_white b ≡ true → eqb b 10 ≡ false
white-plain b white = elim (cases_Bool (eqb b 10)) [
  | inl h ↦ absurd (false≢true (sym (ap is_white (eqb-true b 10 h)) ∙ white))
  | inr h ↦ h
]

or-false : (d : Bool) → (d || false) ≡ d
or-false true = refl
or-false false = refl

-- each line behind the first continues the field, and the first isn't white alone, unless it is known that it need not be
unfoldable pub goes_on : Bool → List ℕ → Bool
goes_on dark [] = dark
goes_on dark (b ∷ bs) = cond (eqb b 10) (dark && (is_continuation bs && goes_on false bs)) (goes_on (dark || not (is_white b)) bs)

-- the same of lines
pub lines_go_on : Bool → List (List ℕ) → Bool
lines_go_on dark [] = dark
lines_go_on dark (line ∷ lines) = (dark || not (is_separator line)) && list_all is_more lines

pub lines_go_on-true : (lines : List (List ℕ)) → lines_go_on true lines ≡ list_all is_more (behind_first lines)
unfolding lines_go_on
lines_go_on-true [] = refl
lines_go_on-true (line ∷ lines) = refl

-- one more byte on the first line
lines_go_on-onto : (dark : Bool) (b : ℕ) (lines : List (List ℕ)) → eqb b 10 ≡ false → lines_go_on dark (onto_first b lines) ≡ lines_go_on (dark || not (is_white b)) lines
unfolding lines_go_on
lines_go_on-onto dark b [] other = go dark (is_white b) (eqb b 10) other where
  go : (d w n : Bool) → n ≡ false → ((d || not ((w || n) && true)) && true) ≡ (d || not w)
  go true w n h = refl
  go false true true h = refl
  go false true false h = refl
  go false false true h = absurd (false≢true (sym h))
  go false false false h = refl
lines_go_on-onto dark b (line ∷ lines) other = go dark (is_white b) (eqb b 10) (is_separator line) (list_all is_more lines) other where
  go : (d w n s a : Bool) → n ≡ false → ((d || not ((w || n) && s)) && a) ≡ (((d || not w) || not s) && a)
  go true w n s a h = refl
  go false true true s a h = refl
  go false true false s a h = refl
  go false false true s a h = absurd (false≢true (sym h))
  go false false false s a h = refl

-- lines and bytes agree
pub goes_on-lines : (dark : Bool) (text : List ℕ) → goes_on dark (without_newline text) ≡ lines_go_on dark (lines_of text)
unfolding goes_on lines_go_on
goes_on-lines dark [] = refl
goes_on-lines dark (b ∷ []) = elim (cases_Bool (eqb b 10)) [
  | inl h ↦ rw h (rw (eqb-true b 10 h) (ended dark))
  | inr h ↦ rw h (rw h (last dark (is_white b)))
] where
  ended : (d : Bool) → d ≡ ((d || false) && true)
  ended true = refl
  ended false = refl

  last : (d w : Bool) → (d || not w) ≡ ((d || not ((w || false) && true)) && true)
  last true w = refl
  last false true = refl
  last false false = refl
goes_on-lines dark (b ∷ c ∷ bs) = elim (cases_Bool (eqb b 10)) [
  | inl h ↦
      let first = lines_of-head c bs in
      let later : goes_on false (without_newline (c ∷ bs)) ≡ (not (is_separator (c ∷ first.0)) && list_all is_more first.1) =
      goes_on-lines false (c ∷ bs) ∙ ap (lines_go_on false) first.2 in
      rw h (rw (first.2, later, continues c bs, eqb-true b 10 h) (ended dark (is_white c) (is_separator (c ∷ first.0)) (list_all is_more first.1)))
  | inr h ↦ rw h (goes_on-lines (dark || not (is_white b)) (c ∷ bs) ∙ sym (lines_go_on-onto dark b (lines_of (c ∷ bs)) h))
] where
  continues : (c : ℕ) (bs : List ℕ) → is_continuation (without_newline (c ∷ bs)) ≡ is_white c
  continues c [] = elim (cases_Bool (eqb c 10)) [
    | inl e ↦ rw e (sym (ap is_white (eqb-true c 10 e)))
    | inr e ↦ rw e refl
  ]
  continues c (b ∷ bs) = refl

  ended : (d w s a : Bool) → (d && (w && (not s && a))) ≡ ((d || false) && ((w && not s) && a))
  ended true true s a = refl
  ended true false s a = refl
  ended false w s a = refl

-- spaces and tabs at the end change nothing
goes_on-white : (dark : Bool) (white : List ℕ) → list_all is_white white ≡ true → goes_on dark white ≡ dark
unfolding goes_on
goes_on-white dark [] all = refl
goes_on-white dark (b ∷ bs) all =
    let both = and_parts (is_white b) (list_all is_white bs) all in
    rw (white-plain b both.0, both.0) (goes_on-white (dark || false) bs both.1 ∙ or-false dark)

pub goes_on-end : (dark : Bool) (value white : List ℕ) → list_all is_white white ≡ true → goes_on dark (value ++ white) ≡ goes_on dark value
unfolding goes_on
goes_on-end dark [] white all = goes_on-white dark white all
goes_on-end dark (b ∷ []) white all = elim (cases_Bool (eqb b 10)) [
  | inl h ↦ rw h (ap (λ x. dark && (is_continuation white && x)) (goes_on-white false white all) ∙ ap (λ x. dark && x) (and_right (is_continuation white) false refl))
  | inr h ↦ rw h (goes_on-end (dark || not (is_white b)) [] white all)
]
goes_on-end dark (b ∷ c ∷ bs) white all = elim (cases_Bool (eqb b 10)) [
  | inl h ↦ rw h (ap (λ x. dark && (is_white c && x)) (goes_on-end false (c ∷ bs) white all))
  | inr h ↦ rw h (goes_on-end (dark || not (is_white b)) (c ∷ bs) white all)
]
