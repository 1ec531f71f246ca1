-- The least of a list by a total order, and that of the versions that may be chosen it is the candidate.
use Rattle.std.proofs.Common.{◌≡◌, ◌≢◌, ◌<ℤ◌, ◌⊎◌, ℕ, ℤ, true, false, List, [], ◌∷◌, Option, Some, None, MatchOption, refl, sym, ap, subst, ◌∙◌}
use Rattle.std.specs.Cmp.{IsTotalOrder, tied_itself}
use Rattle.std.specs.Cmp.Lexicographic.{nat_list_cmp_total}
use Rattle.std.specs.List.{All, Contains, fold, reduce}
use Rattle.std.specs.Ordering.{MatchOrdering, int_cmp, is_lt, min_by_ordering, ordering_reverse, ordering_then}
use Rattle.std.specs.declared.cmp.Ordering.{Ordering}
use Rattle.std.specs.declared.cmp.Ordering.TheVariants.{Less, Equal, Greater}
use Rattle.std.proofs.lemmas.Cmp.{int_ranked}
use Rattle.rules.specs.Available.{Inputs}
use Rattle.rules.specs.ElementLaws.{All-intro, Any-elim, Contains-cons, Contains-head, Contains-nil, Contains-rest}
use Rattle.std.proofs.lemmas.List.Elements.{All-contains}
use Rattle.rules.specs.Name.{name_cmp}
use Rattle.rules.specs.Priority.{IsUpTo}
use Rattle.rules.specs.Version.{version_cmp}
use Rattle.rules.specs.VersionOrderLaws.{SameVersion-refl, version_cmp-antisymm}
use Rattle.candidates.specs.Candidates.{IsCandidateOf}
use Rattle.candidates.specs.Eligible.{AreEligibleOf, IsOffer}
use Rattle.candidates.specs.Offer.{Offer, choice_cmp, offer_cmp}
use Rattle.candidates.specs.OfferLaws.{offer_cmp_total}
use Rattle.candidates.proofs.Priorities.{up_to-same}
use mathlib.Core.Logic.{inl, inr}

-- what is turned round is less
turned_less : (o : Ordering) → Greater ≡ ordering_reverse o → o ≡ Less
turned_less Less turned = refl
turned_less Equal turned = absurd (let e : Greater ≡ Equal = turned in cc)
turned_less Greater turned = absurd (let e : Greater ≡ Less = turned in cc)

module _ {X : Type 0} {R : X → X → Ordering} (o : IsTotalOrder R) where
  -- the lesser of two
  abbrev pick : X → X → X
  pick best x = min_by_ordering (R best x) best x

  -- it is one of these, and none of them is before it
  abbrev IsLeast : List X → X → Type 0
  IsLeast xs least = Contains xs least × ((x : X) → Contains xs x → R x least ≢ Less)

  -- another element changes nothing where it isn't before the least
  with_further : (best z : X) (zs : List X) (least : X) → (R z least ≡ Less → R best least ≡ Less) → IsLeast (best ∷ zs) least
      → IsLeast (best ∷ z ∷ zs) least
  with_further best z zs least after is = (
    elim (Contains-cons best zs least is.0) [
      | inl same ↦ subst (λ (x : X). Contains (x ∷ z ∷ zs) least) (sym same) (Contains-head least (z ∷ zs))
      | inr later ↦ Contains-rest best (z ∷ zs) least (Contains-rest z zs least later)
    ],
    λ x within before. elim (Contains-cons best (z ∷ zs) x within) [
      | inl same ↦ is.1 best (Contains-head best zs) (subst (λ (y : X). R y least ≡ Less) (sym same) before)
      | inr behind ↦ elim (Contains-cons z zs x behind) [
        | inl same ↦ is.1 best (Contains-head best zs) (after (subst (λ (y : X). R y least ≡ Less) (sym same) before))
        | inr later ↦ is.1 x (Contains-rest best zs x later) before
      ]
    ],
  )

  -- the first element changes nothing where the second is before it
  with_greater : (best z : X) (zs : List X) (least : X) → R z best ≡ Less → IsLeast (z ∷ zs) least → IsLeast (best ∷ z ∷ zs) least
  with_greater best z zs least below is = (
    Contains-rest best (z ∷ zs) least is.0,
    λ x within before. elim (Contains-cons best (z ∷ zs) x within) [
      | inl same ↦ is.1 z (Contains-head z zs) (o.trans z best least below (subst (λ (y : X). R y least ≡ Less) (sym same) before))
      | inr later ↦ is.1 x later before
    ],
  )

  fold-least : (best : X) (xs : List X) → IsLeast (best ∷ xs) (fold pick best xs)
  fold-least best [] = (
    Contains-head best [],
    λ x within before. elim (Contains-cons best [] x within) [
      | inl same ↦
          let tied : R x best ≡ Equal = subst (λ (y : X). R y best ≡ Equal) same (tied_itself o best) in
          let e : Less ≡ Equal = sym before ∙ tied in cc
      | inr later ↦ Contains-nil x later
    ],
  )
  fold-least best (z ∷ zs) = at (R best z) refl (fold-least best zs) (fold-least z zs)
    where
      at : (p : Ordering) → R best z ≡ p → IsLeast (best ∷ zs) (fold pick best zs) → IsLeast (z ∷ zs) (fold pick z zs)
          → IsLeast (best ∷ z ∷ zs) (fold pick (min_by_ordering p best z) zs)
      at Less below kept other = with_further best z zs (fold pick best zs) (λ before. o.trans best z (fold pick best zs) below before) kept
      at Equal tied kept other = with_further best z zs (fold pick best zs) (λ before. o.congr best z (fold pick best zs) tied ∙ before) kept
      at Greater above kept other = with_greater best z zs (fold pick z zs)
          (turned_less (R z best) (sym above ∙ o.antisymm best z)) other

-- it is one of the offers, and none of them is before it, unless there is none
abbrev pub IsFirstChoice : List Offer → Option Offer → Type 0
IsFirstChoice offers first = MatchOption first (offers ≡ [])
    (λ best. Contains offers best × All (λ offer. offer_cmp offer best ≢ Less) offers)

-- the least of offers is the one to choose first
pub IsFirstChoice-reduce : (offers : List Offer)
    → IsFirstChoice offers (reduce (λ best offer. min_by_ordering (offer_cmp best offer) best offer) offers)
IsFirstChoice-reduce [] = refl
IsFirstChoice-reduce (offer ∷ more) =
    let is = fold-least offer_cmp_total offer more in
    (is.0, All-intro _ (offer ∷ more) (λ other within. is.1 other within))

-- what isn't less isn't lower, as a test
not_below : (o : Ordering) → o ≢ Less → is_lt o ≡ false
not_below Less not_less = absurd (not_less refl)
not_below Equal not_less = refl
not_below Greater not_less = refl

-- what isn't before another by name and then by choice, and has its name, isn't by choice
pub same_name_then : (o w : Ordering) → o ≡ Equal → is_lt (ordering_then o w) ≡ false → is_lt w ≡ false
same_name_then Less w tied not_before = absurd (let e : Less ≡ Equal = tied in cc)
same_name_then Equal w tied not_before = not_before
same_name_then Greater w tied not_before = absurd (let e : Greater ≡ Equal = tied in cc)

-- what is no less isn't lower
not_lower : (o : Ordering) → is_lt o ≡ false → o ≡ Less → ⊥
not_lower o fails is = let e : true ≡ false = ap is_lt (sym is) ∙ fails in cc

-- an offer that isn't to be chosen before another isn't after it
pub up_to-from : (offer other : Offer) → is_lt (choice_cmp offer other) ≡ false
    → IsUpTo offer.version offer.priority other.version other.priority
unfolding IsUpTo
up_to-from offer other not_before =
    at (int_cmp other.priority offer.priority) (int_ranked other.priority offer.priority (int_cmp other.priority offer.priority) refl) not_before
  where
    v : List ℕ
    v = offer.version

    w : List ℕ
    w = other.version

    at : (o : Ordering) → MatchOrdering o (other.priority <ℤ offer.priority) (other.priority ≡ offer.priority) (offer.priority <ℤ other.priority)
        → is_lt (ordering_then o (version_cmp w v)) ≡ false
        → (offer.priority <ℤ other.priority) ⊎ ((offer.priority ≡ other.priority) × ¬ (version_cmp v w ≡ Greater))
    at Less ranked fails = absurd (let e : true ≡ false = fails in cc)
    at Equal ranked fails = inr (
      sym ranked,
      λ above. not_lower (version_cmp w v) fails (version_cmp-antisymm w v ∙ ap ordering_reverse above),
    )
    at Greater ranked fails = inl ranked

-- of the versions of a name that may be chosen the first is the candidate
pub IsCandidateOf-first : (inputs : Inputs) (name : List ℕ) (offers : List Offer) → AreEligibleOf inputs name offers
    → (first : Option Offer) → IsFirstChoice offers first → IsCandidateOf inputs name first
IsCandidateOf-first inputs name offers are None none = λ version priority candidate. Any-elim (IsOffer version priority) offers ⊥
    (λ offer within is. Contains-nil offer (subst (λ (xs : List Offer). Contains xs offer) none within))
    (are.covered version priority candidate.eligible)
IsCandidateOf-first inputs name offers are (Some best) first = (
  are.named best first.0,
  record {
    eligible = are.drawn best first.0;
    greatest = λ other other_priority may. Any-elim (IsOffer other other_priority) offers
        (IsUpTo other other_priority best.version best.priority)
        (λ offer within is. subst (λ (z : ℤ). IsUpTo other z best.version best.priority) is.1
        (up_to-same offer.version best.version other best.version offer.priority best.priority is.0 (SameVersion-refl best.version)
        (up_to-from offer best (not_before offer within))))
        (are.covered other other_priority may);
  },
  are.kept best first.0,
)
  where
    tied : (offer : Offer) → Contains offers offer → name_cmp best.name offer.name ≡ Equal
    tied offer within = subst (λ (n : List ℕ). name_cmp best.name n ≡ Equal) (are.named best first.0 ∙ sym (are.named offer within))
        (tied_itself nat_list_cmp_total best.name)

    not_before : (offer : Offer) → Contains offers offer → is_lt (choice_cmp offer best) ≡ false
    not_before offer within = same_name_then (name_cmp best.name offer.name) (choice_cmp offer best) (tied offer within)
        (not_below (offer_cmp offer best) (All-contains (λ (other : Offer). offer_cmp other best ≢ Less) offers offer first.1 within))
