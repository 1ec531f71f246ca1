-- A selection of a part selects the packages that it selects as one of the universe.
use Rattle.std.proofs.Common.{◌≡◌, ◌≢◌, ℕ, zero, suc, ◌+◌, ◌-◌, ◌<◌, ◌≤◌, Bool, true, false, cond, List, [], ◌∷◌, Some, None, refl, sym, ap, subst, ◌∙◌, arith}
use Rattle.std.specs.Prelude.{slice_get, IsTrue, ◌↔◌}
use Rattle.std.specs.List.{AllPairs, AllZip}
use Rattle.std.proofs.lemmas.Bool.{cases_lt, false_from_ne_true}
use Rattle.std.proofs.lemmas.Option.{same_Some}
use Rattle.rules.specs.Package.{Pkg}
use Rattle.rules.specs.Sound.{FulfilsAll, IsAcceptable, IsAdmittedIn, IsFitting, IsUpgraded, selected, selected_from}
use Rattle.rules.specs.Universe.{Universe, Pair}
use Rattle.refutation.specs.Clause.{item_at}
use Rattle.closed_part.specs.Laws.{PartSelectsTheSame, PartIsAcceptable}
use Rattle.closed_part.proofs.MemberLemmas.{admitted}
use Rattle.closed_part.proofs.OverLemmas.{over, is_over}
use Rattle.closed_part.proofs.PlaceLemmas.{left_item, one_place, rising}
use mathlib.Core.Logic.{inl, inr}

-- two tests of which each is true where the other is are the same
same_test : (a b : Bool) → (IsTrue a → IsTrue b) → (IsTrue b → IsTrue a) → a ≡ b
same_test true b to from = sym (to refl)
same_test false true to from = from refl
same_test false false to from = refl

-- a tested head is the same
same_head : {X : Type 0} (b c : Bool) (x y : X) (xs ys : List X) → b ≡ c → x ≡ y → xs ≡ ys → cond b (x ∷ xs) xs ≡ cond c (y ∷ ys) ys
same_head b c x y xs ys same heads rests = cc

-- the pairs from one number of a universe on and those of a part from one place on, with the numbers of these, all of which are
-- still to come
record AreStill (all : List Pair) (selection lifted : ℕ → Bool) (start base : ℕ) (pairs : List Pair) (numbers : List ℕ)
    (part : List Pair) : Type 0 where
  pub ascending : AllPairs (λ earlier later. earlier < later) numbers
  pub zip : AllZip (λ number pair. item_at all number ≡ Some pair) numbers part
  pub above : (place number : ℕ) → slice_get numbers place ≡ Some number → start ≤ number
  pub tail : (further : ℕ) → item_at all (further + start) ≡ slice_get pairs further
  pub chosen : (place number : ℕ) → slice_get numbers place ≡ Some number → lifted number ≡ selection (place + base)
  pub others : (number : ℕ) → start ≤ number → ((place : ℕ) → slice_get numbers place ≢ Some number) → lifted number ≡ false

module _ (all : List Pair) (selection lifted : ℕ → Bool) where
  abbrev Still : (start base : ℕ) (pairs : List Pair) (numbers : List ℕ) (part : List Pair) → Type 0
  Still start base pairs numbers part = AreStill all selection lifted start base pairs numbers part

  -- the tail of the pairs, where the first one is of another number
  skipped : (start base : ℕ) (pair : Pair) (rest part : List Pair) (numbers : List ℕ) → Still start base (pair ∷ rest) numbers part
      → ((place number : ℕ) → slice_get numbers place ≡ Some number → start < number)
      → (lifted start ≡ false) × Still (start + 1) base rest numbers part
  skipped start base pair rest part numbers are above = (
    are.others start (omega arith) (λ place there. omega (arith, above place start there)),
    record {
      ascending = are.ascending;
      zip = are.zip;
      above = λ place number there. omega (arith, above place number there);
      tail = λ further. let e : suc further + start ≡ further + (start + 1) = omega arith in
          subst (λ n. item_at all n ≡ slice_get rest further) e (are.tail (suc further));
      chosen = are.chosen;
      others = λ number after none. are.others number (omega (arith, after)) none;
    },
  )

  -- the tails of both, where the first pair is the part's
  taken : (start base : ℕ) (pair first : Pair) (rest part : List Pair) (numbers : List ℕ)
      → Still start base (pair ∷ rest) (start ∷ numbers) (first ∷ part)
      → (lifted start ≡ selection base) × (pair ≡ first) × Still (start + 1) (base + 1) rest numbers part
  taken start base pair first rest part numbers are = (
    (let e : 0 + base ≡ base = omega arith in subst (λ n. lifted start ≡ selection n) e (are.chosen 0 start refl)),
    (let e : 0 + start ≡ start = omega arith in
        let here : item_at all start ≡ Some pair = subst (λ n. item_at all n ≡ Some pair) e (are.tail 0) in
        same_Some pair first (sym here ∙ are.zip.0)),
    record {
      ascending = λ i j d less within. are.ascending (suc i) (suc j) d (omega (arith, less)) (omega (arith, within));
      zip = are.zip.1;
      above = λ place number there. omega (arith, after place number there);
      tail = λ further. let e : suc further + start ≡ further + (start + 1) = omega arith in
          subst (λ n. item_at all n ≡ slice_get rest further) e (are.tail (suc further));
      chosen = λ place number there. let e : suc place + base ≡ place + (base + 1) = omega arith in
          subst (λ n. lifted number ≡ selection n) e (are.chosen (suc place) number there);
      others = λ number after none. are.others number (omega (arith, after)) (outside number after none);
    },
  )
    where
      after : (place number : ℕ) → slice_get numbers place ≡ Some number → start < number
      after place number there =
          rising (λ earlier later. earlier < later) (start ∷ numbers) are.ascending 1 (suc (suc place)) start number (omega arith) refl there

      outside : (number : ℕ) → start + 1 ≤ number → ((place : ℕ) → slice_get numbers place ≢ Some number)
          → (place : ℕ) → slice_get (start ∷ numbers) place ≢ Some number
      outside number later none zero is = omega (arith, same_Some start number is, later)
      outside number later none (suc place) is = none place is

  -- where the numbers of the part's pairs begin behind the first pair, that one isn't selected
  later : (start base number : ℕ) (pair : Pair) (rest part : List Pair) (numbers : List ℕ)
      → Still start base (pair ∷ rest) (number ∷ numbers) part → start < number
      → (place other : ℕ) → slice_get (number ∷ numbers) place ≡ Some other → start < other
  later start base number pair rest part numbers are less zero other there = omega (arith, same_Some number other there, less)
  later start base number pair rest part numbers are less (suc place) other there = omega (
    arith,
    less,
    rising (λ earlier later. earlier < later) (number ∷ numbers) are.ascending 1 (suc (suc place)) number other (omega arith) refl there,
  )

  same_from : (start base : ℕ) (pairs : List Pair) (numbers : List ℕ) (part : List Pair) → Still start base pairs numbers part
      → selected_from start lifted pairs ≡ selected_from base selection part
  same_from start base pairs [] (first ∷ part) are = absurd are.zip
  same_from start base pairs (number ∷ numbers) [] are = absurd are.zip
  same_from start base [] [] [] are = refl
  same_from start base [] (number ∷ numbers) (first ∷ part) are =
      let above : start ≤ number = are.above 0 number refl in
      let e : (number - start) + start ≡ number = omega (arith, above) in
      let none : item_at all number ≡ None = subst (λ n. item_at all n ≡ None) e (are.tail (number - start)) in
      absurd (let f : None ≡ Some first = sym none ∙ are.zip.0 in cc)
  same_from start base (pair ∷ rest) [] [] are =
      let past = skipped start base pair rest [] [] are (λ place number there. absurd (let e : None ≡ Some number = there in cc)) in
      rw past.0 (same_from (start + 1) base rest [] [] past.1)
  same_from start base (pair ∷ rest) (number ∷ numbers) (first ∷ part) are = elim (cases_lt start number) [
    | inl less ↦ let past = skipped start base pair rest (first ∷ part) (number ∷ numbers) are
        (later start base number pair rest (first ∷ part) numbers are less) in
        rw past.0 (same_from (start + 1) base rest (number ∷ numbers) (first ∷ part) past.1)
    | inr most ↦ let e : number ≡ start = omega (arith, most, are.above 0 number refl) in
        let both = taken start base pair first rest part numbers (subst (λ n. Still start base (pair ∷ rest) (n ∷ numbers) (first ∷ part)) e are) in
        same_head (lifted start) (selection base) pair.pkg first.pkg (selected_from (start + 1) lifted rest) (selected_from (base + 1) selection part)
        both.0 (ap (λ (p : Pair). p.pkg) both.1) (same_from (start + 1) (base + 1) rest numbers part both.2)
  ]

pub part_selects_the_same : PartSelectsTheSame
unfolding selected
part_selects_the_same u part numbers selection lifted is lifts = same_from u.pairs selection lifted 1 1 u.pairs numbers part.pairs (record {
  ascending = is.ascending;
  zip = is.pairs;
  above = above;
  tail = λ further. let e : suc further ≡ further + 1 = omega arith in
      subst (λ n. item_at u.pairs n ≡ slice_get u.pairs further) e refl;
  chosen = chosen;
  others = λ number above none. false_from_ne_true (lifted number) (λ chosen. outside number none ((lifts number).0 chosen));
})
  where
    above : (place number : ℕ) → slice_get numbers place ≡ Some number → 1 ≤ number
    above place number there = counted number (left_item (λ number pair. item_at u.pairs number ≡ Some pair) numbers part.pairs is.pairs
        (suc place) number there)
      where
        counted : (number : ℕ) → (pair : Pair) × (item_at part.pairs (suc place) ≡ Some pair) × (item_at u.pairs number ≡ Some pair)
            → 1 ≤ number
        counted zero pair = absurd (let e : None ≡ Some pair.0 = pair.2 in cc)
        counted (suc further) pair = omega arith

    chosen : (place number : ℕ) → slice_get numbers place ≡ Some number → lifted number ≡ selection (place + 1)
    chosen place number there =
        let e : suc place ≡ place + 1 = omega arith in
        subst (λ n. lifted number ≡ selection n) e (same_test (lifted number) (selection (suc place))
        (λ chosen. let counterpart = (lifts number).0 chosen in subst (λ n. IsTrue (selection n))
        (one_place numbers is.ascending counterpart.0 (suc place) number counterpart.1 there) counterpart.2)
        (λ chosen. (lifts number).1 (suc place, there, chosen)))

    outside : (number : ℕ) → ((place : ℕ) → slice_get numbers place ≢ Some number)
        → (place : ℕ) × (item_at numbers place ≡ Some number) × IsTrue (selection place) → ⊥
    outside number none (zero, there, chosen) = let e : None ≡ Some number = there in absurd (cc)
    outside number none (suc place, there, chosen) = none place there

-- members that fit over a universe fit over it with other pairs, if they are among these
refit : (u : Universe) (pairs : List Pair) (members : List Pkg) → IsAdmittedIn u members → IsFitting (over u pairs) members
    → IsFitting u members
unfolding FulfilsAll IsUpgraded
refit u pairs members admitted fits = record {
  admitted = admitted;
  one_version = fits.one_version;
  sound = fits.sound;
  goals = fits.goals;
  held = fits.held;
  essential = fits.essential;
}

pub part_is_acceptable : PartIsAcceptable
unfolding IsAcceptable selected
part_is_acceptable u part numbers selection lifted is lifts =
    subst (λ p. IsFitting p (selected part selection) ↔ IsFitting u (selected u lifted)) (is_over u numbers part is) (to, from)
  where
    same : selected u lifted ≡ selected part selection
    same = part_selects_the_same u part numbers selection lifted is lifts

    to : IsFitting (over u part.pairs) (selected part selection) → IsFitting u (selected u lifted)
    to fits = refit u part.pairs (selected u lifted) (admitted u lifted)
        (subst (IsFitting (over u part.pairs)) (sym same) fits)

    from : IsFitting u (selected u lifted) → IsFitting (over u part.pairs) (selected part selection)
    from fits = refit (over u part.pairs) u.pairs (selected part selection) (admitted (over u part.pairs) selection)
        (subst (IsFitting u) same fits)
