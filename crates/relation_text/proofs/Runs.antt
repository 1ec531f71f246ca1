-- Bytes at the front that pass a test, and where a text stops passing it.
use Rattle.std.proofs.Common.{◌≡◌, ℕ, Bool, true, false, List, [], ◌∷◌, ◌++◌, refl, sym, ap, ◌∙◌, one-add, inl, inr, subst, ◌==◌}
use Rattle.std.proofs.lemmas.Bool.{and_from, and_parts, both_ways, cases_Bool, eqb-true, or_from}
use Rattle.std.proofs.lemmas.List.Sums.{take_while-cons}
use Rattle.std.specs.List.{list_all, list_any, take_while}
use Rattle.relation_text.specs.Spelling.{after_run}

-- the text doesn't go on with a byte that passes
abbrev pub Stops : (ℕ → Bool) → List ℕ → Type 0
Stops test [] = Unit {0}
Stops test (b ∷ rest) = test b ≡ false

pub take_run : (test : ℕ → Bool) (run rest : List ℕ) → list_all test run ≡ true → Stops test rest → take_while test (run ++ rest) ≡ run
take_run test [] [] all stops = refl
take_run test [] (b ∷ rest) all stops = take_while-cons test b rest ∙ rw stops refl
take_run test (b ∷ run) rest all stops =
    let both = and_parts (test b) (list_all test run) all in
    let first = both.0 in
    take_while-cons test b (run ++ rest) ∙ rw first (ap (λ (bytes : List ℕ). b ∷ bytes) (take_run test run rest both.1 stops))

pub drop_run : (test : ℕ → Bool) (run rest : List ℕ) → list_all test run ≡ true → Stops test rest → after_run test (run ++ rest) ≡ rest
drop_run test [] [] all stops = refl
drop_run test [] (b ∷ rest) all stops = rw stops refl
drop_run test (b ∷ run) rest all stops =
    let both = and_parts (test b) (list_all test run) all in
    let first = both.0 in
    rw (first, one-add) (drop_run test run rest both.1 stops)

-- a byte that passes one test fails another
abbrev pub Excludes : (ℕ → Bool) → (ℕ → Bool) → Type 0
Excludes test other = (b : ℕ) → test b ≡ true → other b ≡ false

-- a byte that passes a test isn't one that fails it
pub excludes_byte : (test : ℕ → Bool) (c : ℕ) → test c ≡ false → (b : ℕ) → test b ≡ true → (b == c) ≡ false
excludes_byte test c fails b passes = elim (cases_Bool (b == c)) [
  | inl same ↦ absurd (both_ways (test c) fails (ap test (sym (eqb-true b c same)) ∙ passes))
  | inr other ↦ other
]

-- bytes that pass one test and so fail another stop where what follows them does
pub stops_past : (test other : ℕ → Bool) → Excludes test other → (run rest : List ℕ) → list_all test run ≡ true → Stops other rest → Stops other (run ++ rest)
stops_past test other excludes [] rest all stops = stops
stops_past test other excludes (b ∷ run) rest all stops = excludes b (and_parts (test b) (list_all test run) all).0

-- bytes that pass one test and so fail another are free of it
pub run_free : (test other : ℕ → Bool) → Excludes test other → (run : List ℕ) → list_all test run ≡ true → list_any other run ≡ false
run_free test other excludes [] all = refl
run_free test other excludes (b ∷ run) all =
    let both = and_parts (test b) (list_all test run) all in
    or_from (other b) (list_any other run) (excludes b both.0) (run_free test other excludes run both.1)

-- A text cut behind the bytes at its front that pass a test

pub run_taken : (test : ℕ → Bool) (b : ℕ) (rest : List ℕ) → test b ≡ true → take_while test (b ∷ rest) ≡ b ∷ take_while test rest
run_taken test b rest passes = take_while-cons test b rest ∙ rw passes refl

pub run_none : (test : ℕ → Bool) (b : ℕ) (rest : List ℕ) → test b ≡ false → take_while test (b ∷ rest) ≡ []
run_none test b rest fails = take_while-cons test b rest ∙ rw fails refl

pub run_left : (test : ℕ → Bool) (b : ℕ) (rest : List ℕ) → test b ≡ true → after_run test (b ∷ rest) ≡ after_run test rest
run_left test b rest passes = rw (passes, one-add) refl

pub run_stays : (test : ℕ → Bool) (b : ℕ) (rest : List ℕ) → test b ≡ false → after_run test (b ∷ rest) ≡ b ∷ rest
run_stays test b rest fails = rw fails refl

pub run_front : (test : ℕ → Bool) (text : List ℕ) → text ≡ take_while test text ++ after_run test text
run_front test [] = refl
run_front test (b ∷ rest) = elim (cases_Bool (test b)) [
  | inl passes ↦
      ap (λ (bytes : List ℕ). b ∷ bytes) (run_front test rest)
      ∙ sym (λ i. run_taken test b rest passes i ++ run_left test b rest passes i)
  | inr fails ↦ sym (λ i. run_none test b rest fails i ++ run_stays test b rest fails i)
]

pub run_passes : (test : ℕ → Bool) (text : List ℕ) → list_all test (take_while test text) ≡ true
run_passes test [] = refl
run_passes test (b ∷ rest) = elim (cases_Bool (test b)) [
  | inl passes ↦ ap (list_all test) (run_taken test b rest passes) ∙ and_from _ _ passes (run_passes test rest)
  | inr fails ↦ ap (list_all test) (run_none test b rest fails)
]

pub run_stops : (test : ℕ → Bool) (text : List ℕ) → Stops test (after_run test text)
run_stops test [] = tt
run_stops test (b ∷ rest) = elim (cases_Bool (test b)) [
  | inl passes ↦ subst (Stops test) (sym (run_left test b rest passes)) (run_stops test rest)
  | inr fails ↦ subst (Stops test) (sym (run_stays test b rest fails)) fails
]
