-- The offers of a name among offers in order, those of them that have a version, and the range that meets a restriction.
use Rattle.std.proofs.Common.{◌≡◌, ℕ, ◌+◌, ◌<◌, ◌≤◌, Bool, true, false, cond, not, ◌&&◌, List, [], ◌∷◌, ◌++◌, Option, Some, None, length, take, drop, get_or, is_some, refl, sym, ap, subst, ◌∙◌, arith, one-add}
use Rattle.std.specs.Cmp.{Equal-is}
use Rattle.std.specs.Cmp.Lexicographic.{nat_list_cmp_total, options_total}
use Rattle.std.specs.List.{All, Contains, filter, prefix_len}
use Rattle.std.specs.List.Sorted.{IsPartitionedBy, IsStrictlySortedBy}
use Rattle.std.specs.Option.{option_cmp}
use Rattle.std.specs.Ordering.{is_eq, is_le, is_lt, nat_cmp, ordering_reverse, ordering_then}
use Rattle.std.specs.declared.cmp.Ordering.{Ordering}
use Rattle.std.specs.declared.cmp.Ordering.TheVariants.{Less, Equal, Greater}
use Rattle.std.proofs.lemmas.Bool.{cases_Bool, true≢false}
use Rattle.std.proofs.lemmas.List.{append-nil, take-append-drop}
use Rattle.std.proofs.lemmas.List.Elements.{All-contains, All-filter, filter-append, filter_passes}
use Rattle.std.proofs.lemmas.List.Kept.{AllPairs-filter, IsStrictlySortedBy-filter}
use Rattle.std.proofs.lemmas.Map.Keys.{sorted_tail}
use Rattle.std.proofs.lemmas.Map.Text.{is_eq-slice_cmp}
use Rattle.std.proofs.lemmas.Map.Views.{All-after_first}
use Rattle.rules.specs.ElementLaws.{Contains-cons, Contains-filter, Contains-filter_intro, Contains-head, Contains-nil, Contains-rest}
use Rattle.rules.specs.Name.{name_cmp}
use Rattle.rules.specs.NamedLaws.{bytes_eq-same, bytes_eq-true}
use Rattle.rules.specs.Package.{Atom, Pkg}
use Rattle.rules.specs.Version.{is_met, version_cmp}
use Rattle.rules.specs.VersionOrderLaws.{version_cmp_total}
use Rattle.rules.specs.declared.goal.Restriction.{Restriction}
use Rattle.rules.specs.declared.op.Op.{Op}
use Rattle.rules.specs.declared.op.Op.TheVariants.{ExactlyEqual, LaterOrEqual, StrictlyLater}
use Rattle.providers.proofs.CutLemmas.{before_keeps, filter_agreeing, filter_alike, filter_front, filter_none, filter_twice, first_not_greater, pairs_sorted, parted, up_to_keeps}
use Rattle.providers.specs.Matching.{fits, is_meeting, meets}
use Rattle.providers.specs.Offers.{AreOrdered, Offer, is_offer_of, is_versioned_of, offer_cmp, offers_of, versioned_of}
use Rattle.providers.specs.Range.{AreVersioned, IsRun, is_in_front, stands_in_front}
use Rattle.providers.specs.declared.range.Cut.{Cut}
use Rattle.providers.specs.declared.range.Cut.TheVariants.{Before, Behind}
use mathlib.Core.Logic.{inl, inr}

-- Names

-- the order of two offers behind their names
abbrev rest_cmp : Offer → Offer → Ordering
rest_cmp a b = ordering_then (option_cmp version_cmp a.version b.version)
    (ordering_then (nat_cmp a.place b.place) (option_cmp name_cmp a.version b.version))

name_not_greater : (a b : Offer) → offer_cmp a b ≡ Less → is_le (name_cmp a.name b.name) ≡ true
name_not_greater a b below = first_not_greater (name_cmp a.name b.name) (rest_cmp a b) below

-- names that aren't before each other are equal
neither_before : (a b : List ℕ) → is_le (name_cmp a b) ≡ true → is_le (name_cmp b a) ≡ true → a ≡ b
neither_before a b one other = by (name_cmp a b) refl one
  where
    by : (o : Ordering) → name_cmp a b ≡ o → is_le o ≡ true → a ≡ b
    by Less e h = absurd (let f : false ≡ true = sym (ap is_le (nat_list_cmp_total.antisymm b a ∙ ap ordering_reverse e)) ∙ other in cc)
    by Equal e h = bytes_eq-true a b (sym (is_eq-slice_cmp a b) ∙ ap is_eq e)
    by Greater e h = absurd (let f : false ≡ true = h in cc)

-- behind the offers of a name at the front of offers in order, none of which is before it, there are none of it
pub behind_run : (name : List ℕ) (offers : List Offer) → IsStrictlySortedBy offer_cmp offers
    → ((offer : Offer) → Contains offers offer → is_le (name_cmp name offer.name) ≡ true)
    → (offer : Offer) → Contains (drop (prefix_len (is_offer_of name) offers) offers) offer → is_offer_of name offer ≡ false
behind_run name [] up low offer within = absurd (Contains-nil offer within)
behind_run name (x ∷ xs) up low offer within = at (is_offer_of name x) refl within
    (behind_run name xs (sorted_tail offer_cmp x xs up) (λ o inside. low o (Contains-rest x xs o inside)) offer)
  where
    named : is_offer_of name offer ≡ true → Contains (x ∷ xs) offer → x.name ≡ name
    named same there = elim (Contains-cons x xs offer there) [
      | inl is ↦ ap (λ (o : Offer). o.name) is ∙ bytes_eq-true offer.name name same
      | inr behind ↦
          let below : offer_cmp x offer ≡ Less = All-contains (λ o. offer_cmp x o ≡ Less) xs offer (All-after_first offer_cmp x xs up) behind in
          neither_before x.name name
          (ap (λ (n : List ℕ). is_le (name_cmp x.name n)) (sym (bytes_eq-true offer.name name same)) ∙ name_not_greater x offer below)
          (low x (Contains-head x xs))
    ]

    at : (b : Bool) → is_offer_of name x ≡ b
        → Contains (drop (cond b (1 + prefix_len (is_offer_of name) xs) 0) (x ∷ xs)) offer
        → (Contains (drop (prefix_len (is_offer_of name) xs) xs) offer → is_offer_of name offer ≡ false) → is_offer_of name offer ≡ false
    at true passes there rest = rest (rw one-add at there)
    at false fails there rest = elim (cases_Bool (is_offer_of name offer)) [
      | inl same ↦ absurd (true≢false (sym (bytes_eq-same x.name name (named same there)) ∙ fails))
      | inr other ↦ other
    ]

-- no offer of offers in order is of a name before that of the first
pub first_is_least : (first : Offer) (rest : List Offer) → IsStrictlySortedBy offer_cmp (first ∷ rest)
    → (offer : Offer) → Contains (first ∷ rest) offer → is_le (name_cmp first.name offer.name) ≡ true
first_is_least first rest up offer within = elim (Contains-cons first rest offer within) [
  | inl is ↦ ap is_le ((Equal-is (name_cmp first.name offer.name)).0
      (is_eq-slice_cmp first.name offer.name ∙ bytes_eq-same first.name offer.name (ap (λ (o : Offer). o.name) is)))
  | inr behind ↦ name_not_greater first offer
      (All-contains (λ o. offer_cmp first o ≡ Less) rest offer (All-after_first offer_cmp first rest up) behind)
]

-- the offers of the first name at the front of offers in order are all of it, where none stands before these offers
pub run_is : (before left : List Offer) (name : List ℕ) → ((offer : Offer) → Contains before offer → is_offer_of name offer ≡ false)
    → ((offer : Offer) → Contains (drop (prefix_len (is_offer_of name) left) left) offer → is_offer_of name offer ≡ false)
    → take (prefix_len (is_offer_of name) left) left ≡ filter (is_offer_of name) (before ++ left)
run_is before left name apart none =
    let p = is_offer_of name in
    let n : ℕ = prefix_len p left in
    sym (filter-append p before left
    ∙ ap (λ (xs : List Offer). xs ++ filter p left) (filter_none p before apart)
    ∙ ap (filter p) (sym (take-append-drop n left))
    ∙ filter-append p (take n left) (drop n left)
    ∙ ap (λ (xs : List Offer). filter p (take n left) ++ xs) (filter_none p (drop n left) none)
    ∙ append-nil (filter p (take n left))
    ∙ filter_front p left)

-- Versions

-- what is less in two steps, and ties in the first, is less in the second
second_less : (o w : Ordering) → ordering_then o w ≡ Less → o ≡ Equal → w ≡ Less
second_less o w below tied = sym (ap (λ (first : Ordering). ordering_then first w) tied) ∙ below

same_names : (a b : Offer) (name : List ℕ) → is_offer_of name a ≡ true → is_offer_of name b ≡ true → name_cmp a.name b.name ≡ Equal
same_names a b name here there = (Equal-is (name_cmp a.name b.name)).0
    (is_eq-slice_cmp a.name b.name ∙ bytes_eq-same a.name b.name (bytes_eq-true a.name name here ∙ sym (bytes_eq-true b.name name there)))

-- the offers of a name are a run
pub IsRun-of_name : (name : List ℕ) (offers : List Offer) → IsStrictlySortedBy offer_cmp offers → IsRun (filter (is_offer_of name) offers)
IsRun-of_name name offers up i j d before within =
    let run : List Offer = filter (is_offer_of name) offers in
    let named : All (λ offer. is_offer_of name offer ≡ true) run = filter_passes (is_offer_of name) offers in
    let a : Offer = get_or run i d in
    let b : Offer = get_or run j d in
    let below : offer_cmp a b ≡ Less = pairs_sorted offer_cmp run (IsStrictlySortedBy-filter offer_cmp (is_offer_of name) offers up) i j d before within in
    first_not_greater (option_cmp version_cmp a.version b.version)
    (ordering_then (nat_cmp a.place b.place) (option_cmp name_cmp a.version b.version))
    (second_less (name_cmp a.name b.name) (rest_cmp a b) below
    (same_names a b name (named i d (omega (arith, before, within))) (named j d within)))

pub IsRun-filter : (p : Offer → Bool) (offers : List Offer) → IsRun offers → IsRun (filter p offers)
IsRun-filter p offers run = AllPairs-filter (λ earlier later. is_le (option_cmp version_cmp earlier.version later.version) ≡ true) p offers run

none_first : (a b : Option (List ℕ)) → is_le (option_cmp version_cmp a b) ≡ true → not (is_some b) ≡ true → not (is_some a) ≡ true
none_first None b h none = refl
none_first (Some a) None h none = absurd (let e : false ≡ true = h in cc)
none_first (Some a) (Some b) h none = none

pub parted_unversioned : (offers : List Offer) → IsRun offers → IsPartitionedBy (λ offer. not (is_some offer.version)) offers
parted_unversioned offers run = parted (λ (a b : Offer). is_le (option_cmp version_cmp a.version b.version) ≡ true)
    (λ (offer : Offer). not (is_some offer.version)) offers run
    (λ a b up none. none_first a.version b.version up none)

front_keeps : (cut : Cut) (version a b : Option (List ℕ)) → is_le (option_cmp version_cmp a b) ≡ true
    → is_in_front cut (option_cmp version_cmp b version) ≡ true → is_in_front cut (option_cmp version_cmp a version) ≡ true
front_keeps Before version a b up passes = before_keeps (option_cmp version_cmp) (options_total version_cmp_total) a b version up passes
front_keeps Behind version a b up passes = up_to_keeps (option_cmp version_cmp) (options_total version_cmp_total) a b version up passes

pub parted_cut : (cut : Cut) (version : List ℕ) (offers : List Offer) → IsRun offers → IsPartitionedBy (stands_in_front cut version) offers
parted_cut cut version offers run = parted (λ (a b : Offer). is_le (option_cmp version_cmp a.version b.version) ≡ true)
    (stands_in_front cut version) offers run
    (λ a b up passes. front_keeps cut (Some version) a.version b.version up passes)

-- Ranges

-- versions whose order to that of a restriction passes a test meet the restriction, where the test is the operator's
pub met_by : (test : Ordering → Bool) (op : Op) → ((ordering : Ordering) → test ordering ≡ is_met op ordering) → (version : List ℕ) (offers : List Offer)
    → AreVersioned offers
    → filter (λ offer. test (option_cmp version_cmp offer.version (Some version))) offers ≡ filter (meets (Some (record { op = op; version = version }))) offers
met_by test op same version offers versioned = filter_agreeing (λ (offer : Offer). test (option_cmp version_cmp offer.version (Some version)))
    (meets (Some (record { op = op; version = version }))) offers
    (λ offer within. at offer.version (All-contains (λ (o : Offer). is_some o.version ≡ true) offers offer versioned within))
  where
    at : (v : Option (List ℕ)) → is_some v ≡ true → test (option_cmp version_cmp v (Some version)) ≡ is_meeting (Some (record { op = op; version = version })) v
    at None none = absurd (let e : false ≡ true = none in cc)
    at (Some v) some = same (version_cmp v version)

pub later_or_equal : (ordering : Ordering) → not (is_lt ordering) ≡ is_met LaterOrEqual ordering
later_or_equal Less = refl
later_or_equal Equal = refl
later_or_equal Greater = refl

pub strictly_later : (ordering : Ordering) → not (is_le ordering) ≡ is_met StrictlyLater ordering
strictly_later Less = refl
strictly_later Equal = refl
strictly_later Greater = refl

pub exactly_equal : (ordering : Ordering) → (is_le ordering && not (is_lt ordering)) ≡ is_met ExactlyEqual ordering
exactly_equal Less = refl
exactly_equal Equal = refl
exactly_equal Greater = refl

pub AreVersioned-filter : (p : Offer → Bool) (offers : List Offer) → AreVersioned offers → AreVersioned (filter p offers)
AreVersioned-filter p offers versioned = All-filter p (λ (offer : Offer). is_some offer.version ≡ true) offers versioned

-- what meets no restriction is all
pub all_meet : (offers : List Offer) → filter (meets None) offers ≡ offers
all_meet [] = refl
all_meet (offer ∷ offers) = ap (λ rest. offer ∷ rest) (all_meet offers)

-- the same, where it is known which restriction there is
pub meeting_none : (restriction : Option Restriction) (run : List Offer) → None ≡ restriction → run ≡ filter (meets restriction) run
meeting_none restriction run is = subst (λ (r : Option Restriction). run ≡ filter (meets r) run) is (sym (all_meet run))

pub meeting_some : (op : Op) (version : List ℕ) (restriction : Option Restriction) (run versioned range : List Offer)
    → Some (record { op = op; version = version }) ≡ restriction → versioned ≡ filter (λ offer. is_some offer.version) run
    → range ≡ filter (meets (Some (record { op = op; version = version }))) versioned → range ≡ filter (meets restriction) run
meeting_some op version restriction run versioned range is cut kept =
    kept ∙ ap (filter (meets (Some (record { op = op; version = version })))) cut
    ∙ filter_twice (λ (offer : Offer). is_some offer.version) (meets (Some (record { op = op; version = version }))) run
    ∙ filter_alike (λ (offer : Offer). is_some offer.version && meets (Some (record { op = op; version = version })) offer)
    (meets (Some (record { op = op; version = version }))) (λ offer. at offer.version) run
    ∙ ap (λ (r : Option Restriction). filter (meets r) run) is
  where
    at : (v : Option (List ℕ)) → (is_some v && is_meeting (Some (record { op = op; version = version })) v) ≡ is_meeting (Some (record { op = op; version = version })) v
    at None = refl
    at (Some v) = refl

-- those of the name that meet the restriction are those that fit
pub fitting_is : (atom : Atom) (offers : List Offer) → filter (meets atom.restriction) (filter (is_offer_of atom.name) offers) ≡ filter (fits atom) offers
fitting_is atom offers = filter_twice (is_offer_of atom.name) (meets atom.restriction) offers

-- among offers in order no more have the name and a version than the packages have
pub versioned_fewer : (name : List ℕ) (packages : List Pkg) (ordered : List Offer) → AreOrdered (offers_of packages) ordered
    → length (filter (λ offer. is_some offer.version) (filter (is_offer_of name) ordered)) ≤ length (versioned_of name packages)
versioned_fewer name packages ordered are =
    let twice : length (filter (λ (offer : Offer). is_some offer.version) (filter (is_offer_of name) ordered)) ≡ length (filter (is_versioned_of name) ordered)
    = ap length (filter_twice (is_offer_of name) (λ (offer : Offer). is_some offer.version) ordered) in
    omega (arith, twice, are.fewer (is_versioned_of name))

-- and some have where some of the packages' do
pub versioned_some : (name : List ℕ) (packages : List Pkg) (ordered : List Offer) → AreOrdered (offers_of packages) ordered
    → 0 < length (versioned_of name packages) → 0 < length (filter (λ offer. is_some offer.version) (filter (is_offer_of name) ordered))
versioned_some name packages ordered are some = subst (λ (offers : List Offer). 0 < length offers)
    (sym (filter_twice (is_offer_of name) (λ (offer : Offer). is_some offer.version) ordered))
    (at (versioned_of name packages) refl some)
  where
    at : (offers : List Offer) → versioned_of name packages ≡ offers → 0 < length offers → 0 < length (filter (is_versioned_of name) ordered)
    at [] same none = absurd (omega (arith, none))
    at (offer ∷ offers) same some =
        let there : Contains (versioned_of name packages) offer = subst (λ (xs : List Offer). Contains xs offer) (sym same) (Contains-head offer offers) in
        let kept = Contains-filter (is_versioned_of name) (offers_of packages) offer there in
        let within : Contains (filter (is_versioned_of name) ordered) offer =
        Contains-filter_intro (is_versioned_of name) ordered offer ((are.same offer).1 kept.0) kept.1 in
        omega (arith, within.1)
