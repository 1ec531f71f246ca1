-- The places in order are runs of one version each: what is at the front of what is left is all that a version has.
use Rattle.std.proofs.Common.{◌≡◌, ℕ, zero, suc, ◌+◌, Bool, true, false, cond, List, [], ◌∷◌, ◌++◌, take, drop, ◌⊎◌, refl, sym, ap, subst, ◌∙◌, arith, add-one, one-add}
use Rattle.std.specs.Cmp.{IsTotalOrder}
use Rattle.std.specs.List.{Contains, filter, prefix_len}
use Rattle.std.specs.List.Sorted.{IsSorted}
use Rattle.std.specs.Ordering.{is_eq, is_lt, ordering_reverse}
use Rattle.std.specs.declared.cmp.Ordering.{Ordering}
use Rattle.std.specs.declared.cmp.Ordering.TheVariants.{Less, Equal, Greater}
use Rattle.std.proofs.lemmas.List.{append-nil, take-append-drop}
use Rattle.std.proofs.lemmas.List.Elements.{Contains-append_right, filter-append}
use Rattle.std.proofs.lemmas.List.Sorted.{ranks_by, sorted_far}
use Rattle.rules.specs.ElementLaws.{Contains-filter, Contains-head, Contains-nil}
use Rattle.rules.specs.VersionOrderLaws.{SameVersion-refl, SameVersion-symm, SameVersion-trans}
use Rattle.universe_parts.specs.PairLaws.{is_of-from, is_of-parts}
use Rattle.candidates.specs.Place.{IsNextRun, Place, is_like, place_cmp}
use Rattle.candidates.specs.StanzaLaws.{place_cmp_total}
use Rattle.candidates.proofs.Filtered.{filter_none}
use Rattle.candidates.proofs.StanzaOrder.{listed_cmp-tied, listed_cmp-ties}
use mathlib.Core.Logic.{inl, inr}

-- the front that passes is left as it is
filter_front : {X : Type 0} (p : X → Bool) (xs : List X) → filter p (take (prefix_len p xs) xs) ≡ take (prefix_len p xs) xs
filter_front p [] = refl
filter_front {X} p (x ∷ xs) = at (p x) refl (filter_front p xs)
  where
    at : (b : Bool) → p x ≡ b → filter p (take (prefix_len p xs) xs) ≡ take (prefix_len p xs) xs
        → filter p (take (cond b (1 + prefix_len p xs) 0) (x ∷ xs)) ≡ take (cond b (1 + prefix_len p xs) 0) (x ∷ xs)
    at true passes rest = rw one-add (
        ap (λ (b : Bool). cond b (x ∷ filter p (take (prefix_len p xs) xs)) (filter p (take (prefix_len p xs) xs))) passes
        ∙ ap (λ (ys : List X). x ∷ ys) rest)
    at false passes rest = refl

-- what follows the front begins with one that doesn't pass
behind_front : {X : Type 0} (p : X → Bool) (xs : List X) (h : X) (later : List X) → drop (prefix_len p xs) xs ≡ h ∷ later → p h ≡ false
behind_front p [] h later is = absurd (let e : [] ≡ h ∷ later = is in cc)
behind_front {X} p (x ∷ xs) h later is = at (p x) refl is (behind_front p xs h later)
  where
    at : (b : Bool) → p x ≡ b → drop (cond b (1 + prefix_len p xs) 0) (x ∷ xs) ≡ h ∷ later
        → (drop (prefix_len p xs) xs ≡ h ∷ later → p h ≡ false) → p h ≡ false
    at true passes whole rest = rest (rw one-add at whole)
    at false fails whole rest =
        let same : x ∷ xs ≡ h ∷ later = whole in
        let first : x ≡ h = cc in
        subst (λ (y : X). p y ≡ false) first fails

-- what is sorted stays so without its front
pub sorted_behind : {X : Type 0} (R : X → X → Ordering) (n : ℕ) (xs : List X) → IsSorted R xs → IsSorted R (drop n xs)
sorted_behind R zero xs up = up
sorted_behind R (suc n) [] up = up
sorted_behind R (suc n) (x ∷ xs) up = sorted_behind R n xs (λ k d low high. rw add-one (rw add-one at (up (suc k) d (omega arith) (omega arith))))

-- nothing in a sorted list is less than its first
pub not_below_first : {X : Type 0} {R : X → X → Ordering} (o : IsTotalOrder R) (h : X) (xs : List X) → IsSorted R (h ∷ xs)
    → (y : X) → Contains (h ∷ xs) y → is_lt (R y h) ≡ false
not_below_first {X} {R} o h xs up y within = subst (λ (w : X). is_lt (R w h) ≡ false) within.2
    (sorted_far (λ a b. is_lt (R a b)) (ranks_by o (λ a. a)) (h ∷ xs) up 0 within.0 y (omega arith) within.1)

-- places of one version are of the versions of the same places
pub like_same : (first place other : Place) → is_like first place ≡ true → is_like place other ≡ true → is_like first other ≡ true
like_same first place other one two =
    let a = is_of-parts first.listed.pkg.name first.listed.pkg.version place.listed.pkg one in
    let b = is_of-parts place.listed.pkg.name place.listed.pkg.version other.listed.pkg two in
    is_of-from first.listed.pkg.name first.listed.pkg.version other.listed.pkg
    (b.0 ∙ a.0, SameVersion-trans other.listed.pkg.version place.listed.pkg.version first.listed.pkg.version b.1 a.1)

pub like_back : (first place : Place) → is_like first place ≡ true → is_like place first ≡ true
like_back first place one =
    let a = is_of-parts first.listed.pkg.name first.listed.pkg.version place.listed.pkg one in
    is_of-from place.listed.pkg.name place.listed.pkg.version first.listed.pkg
    (sym a.0, SameVersion-symm place.listed.pkg.version first.listed.pkg.version a.1)

-- one test passes or it doesn't
decided : (b : Bool) → (b ≡ true) ⊎ (b ≡ false)
decided true = inl refl
decided false = inr refl

-- what isn't below, and isn't tied, is above
neither_below : (o : Ordering) → is_lt o ≡ false → is_eq o ≡ false → o ≡ Greater
neither_below Less low tied = absurd (let e : true ≡ false = low in cc)
neither_below Equal low tied = absurd (let e : true ≡ false = tied in cc)
neither_below Greater low tied = refl

-- what is behind is within
pub within_drop : {X : Type 0} (n : ℕ) (xs : List X) (x : X) → Contains (drop n xs) x → Contains xs x
within_drop n xs x within = subst (λ (ys : List _). Contains ys x) (take-append-drop n xs)
    (Contains-append_right (take n xs) (drop n xs) x within)

-- behind a run of places in order there is no place of its version
pub no_more : (left : List Place) → IsSorted place_cmp left → (first : Place) (rest : List Place) → left ≡ first ∷ rest
    → (place : Place) → Contains (drop (prefix_len (is_like first) left) left) place → is_like first place ≡ false
no_more left up first rest is place within = at (drop (prefix_len (is_like first) left) left) refl within
  where
    -- the first that isn't of the version is after it
    above : (h : Place) → Contains left h → is_like first h ≡ false → place_cmp first h ≡ Less
    above h inside apart =
        let up' : IsSorted place_cmp (first ∷ rest) = subst (IsSorted place_cmp) is up in
        let low : is_lt (place_cmp h first) ≡ false =
        not_below_first place_cmp_total first rest up' h (subst (λ (xs : List Place). Contains xs h) is inside) in
        place_cmp_total.antisymm first h
        ∙ ap ordering_reverse (neither_below (place_cmp h first) low (listed_cmp-ties h.listed first.listed ∙ apart))

    at : (later : List Place) → drop (prefix_len (is_like first) left) left ≡ later → Contains later place → is_like first place ≡ false
    at [] none inside = absurd (Contains-nil place inside)
    at (h ∷ later) some inside = elim (decided (is_like first place)) [
      | inl same ↦
          let apart : is_like first h ≡ false = behind_front (is_like first) left h later some in
          let sorted : IsSorted place_cmp (h ∷ later) =
          subst (IsSorted place_cmp) some (sorted_behind place_cmp (prefix_len (is_like first) left) left up) in
          let here : Contains left h = within_drop (prefix_len (is_like first) left) left h
          (subst (λ (xs : List Place). Contains xs h) (sym some) (Contains-head h later)) in
          let tied : place_cmp place first ≡ Equal = listed_cmp-tied place.listed first.listed
          (is_of-parts first.listed.pkg.name first.listed.pkg.version place.listed.pkg same) in
          let below : place_cmp place h ≡ Less = place_cmp_total.congr place first h tied ∙ above h here apart in
          absurd (let e : true ≡ false = ap is_lt (sym below) ∙ not_below_first place_cmp_total h later sorted place inside in cc)
      | inr other ↦ other
    ]

-- the run at the front of places in order is all that its version has, where none is before it
pub run_is : (before left : List Place) → IsSorted place_cmp left → (first : Place) (rest : List Place) → left ≡ first ∷ rest
    → ((place : Place) → Contains before place → is_like first place ≡ false)
    → filter (is_like first) (before ++ left) ≡ take (prefix_len (is_like first) left) left
run_is before left up first rest is apart =
    let n : ℕ = prefix_len (is_like first) left in
    filter-append (is_like first) before left
    ∙ ap (λ (xs : List Place). xs ++ filter (is_like first) left) (filter_none (is_like first) before apart)
    ∙ ap (filter (is_like first)) (sym (take-append-drop n left))
    ∙ filter-append (is_like first) (take n left) (drop n left)
    ∙ ap (λ (xs : List Place). filter (is_like first) (take n left) ++ xs)
    (filter_none (is_like first) (drop n left) (no_more left up first rest is))
    ∙ append-nil (filter (is_like first) (take n left))
    ∙ filter_front (is_like first) left

-- the places of a run are of its version
pub run_like : {X : Type 0} (p : X → Bool) (xs : List X) (x : X) → Contains (take (prefix_len p xs) xs) x → p x ≡ true
run_like p xs x within = (Contains-filter p (take (prefix_len p xs) xs) x
    (subst (λ (ys : List _). Contains ys x) (sym (filter_front p xs)) within)).1

-- a run begins with its first place
pub front_begins : {X : Type 0} (p : X → Bool) (xs : List X) (first : X) (rest : List X) → xs ≡ first ∷ rest → p first ≡ true
    → (more : List X) × (take (prefix_len p xs) xs ≡ first ∷ more)
front_begins {X} p xs first rest is passes = (
  take (prefix_len p rest) rest,
  ap (λ (ys : List X). take (prefix_len p ys) ys) is
      ∙ ap (λ (b : Bool). take (cond b (1 + prefix_len p rest) 0) (first ∷ rest)) passes
      ∙ at (prefix_len p rest),
)
  where
    at : (n : ℕ) → take (1 + n) (first ∷ rest) ≡ first ∷ take n rest
    at n = rw one-add refl

-- the first of these places, and those that follow it with its version, are the next run
pub IsNextRun-from : (left : List Place) (first : Place) (behind run : List Place) (count : ℕ) → left ≡ first ∷ behind
    → count ≡ prefix_len (is_like first) behind → run ≡ take (count + 1) left → IsNextRun left first run
IsNextRun-from left first behind run count begins counted is = record {
  rest = behind;
  begins = begins;
  run_is = is ∙ ap (λ (n : ℕ). take n left) longer;
}
  where
    own : is_like first first ≡ true
    own = is_of-from first.listed.pkg.name first.listed.pkg.version first.listed.pkg (refl, SameVersion-refl first.listed.pkg.version)

    one_more : count + 1 ≡ 1 + prefix_len (is_like first) behind
    one_more = omega (arith, counted)

    longer : count + 1 ≡ prefix_len (is_like first) left
    longer = one_more ∙ ap (λ (b : Bool). cond b (1 + prefix_len (is_like first) behind) 0) (sym own)
        ∙ ap (prefix_len (is_like first)) (sym begins)
