-- What packages of a list offer: one package more, and whose the offers that fit an atom are.
use Rattle.std.proofs.Common.{◌≡◌, ◌↔◌, ℕ, zero, suc, ◌+◌, Bool, true, false, ◌&&◌, ◌⊎◌, List, [], ◌∷◌, ◌++◌, Option, Some, None, length, map, Contains, slice_get, refl, sym, ap, subst, ◌∙◌, arith, append_assoc, inl, inr, bytes_eq}
use Rattle.std.specs.List.{Any, filter, flat_map}
use Rattle.std.proofs.lemmas.Bool.{cases_Bool}
use Rattle.std.proofs.lemmas.List.{append-nil}
use Rattle.std.specs.List.Sorted.{IsPermutation}
use Rattle.std.proofs.lemmas.List.Sorted.{IsPermutation-append_comm, IsPermutation-append_left, IsPermutation-append_right, IsPermutation-cons, IsPermutation-refl, IsPermutation-trans}
use Rattle.std.proofs.lemmas.List.Elements.{Contains-append_cases, Contains-append_left, Contains-append_right}
use Rattle.rules.specs.ElementLaws.{Any-elim, Any-intro, Contains-cons, Contains-filter, Contains-filter_intro, Contains-head, Contains-map, Contains-map_intro, Contains-nil, Contains-rest}
use Rattle.rules.specs.NamedLaws.{bytes_eq-same, bytes_eq-true}
use Rattle.rules.specs.Package.{Atom, FitsByName, FitsByProvides, FitsProvided, Matches, Meets, MeetsAsProvided, Pkg, Provided}
use Rattle.rules.specs.VersionFault.{first_fault}
use Rattle.rules.specs.declared.bad_version.BadVersion.TheVariants.{Empty}
use Rattle.rules.specs.declared.goal.Restriction.{Restriction}
use Rattle.providers.specs.Matching.{IsMatchAt, fits, is_meeting}
use Rattle.providers.specs.Offers.{Offer, each_from, item_offers_at, item_offers_of, offers_at, offers_by, offers_of, own_offer, own_offers_at, own_offers_of, provided_offer, version_in}

-- the text of a version is kept as it
pub version_in-text : (text version : List ℕ) → text ≡ version → first_fault version ≡ None → version_in text ≡ Some version
unfolding first_fault
version_in-text text [] is faultless = absurd (let e : Some Empty ≡ None = faultless in cc)
version_in-text text (byte ∷ rest) is faultless = ap version_in is

-- One package more

pub each_from-push : (offers : ℕ → Pkg → List Offer) (first : ℕ) (packages : List Pkg) (pkg : Pkg)
    → each_from offers first (packages ++ pkg ∷ []) ≡ each_from offers first packages ++ offers (first + length packages) pkg
each_from-push offers first [] pkg =
    let same : first ≡ first + 0 = omega arith in
    append-nil (offers first pkg) ∙ ap (λ (place : ℕ). offers place pkg) same
each_from-push offers first (head ∷ later) pkg =
    let same : (first + 1) + length later ≡ first + length (head ∷ later) = omega arith in
    ap (λ (rest : List Offer). offers first head ++ rest)
    (each_from-push offers (first + 1) later pkg ∙ ap (λ (place : ℕ). each_from offers (first + 1) later ++ offers place pkg) same)
    ∙ sym (append_assoc (offers first head) (each_from offers (first + 1) later) (offers (first + length (head ∷ later)) pkg))

-- where no package stands in front
pub each_of-push : (offers : ℕ → Pkg → List Offer) (packages : List Pkg) (pkg : Pkg)
    → each_from offers 0 (packages ++ pkg ∷ []) ≡ each_from offers 0 packages ++ offers (length packages) pkg
each_of-push offers packages pkg =
    let same : 0 + length packages ≡ length packages = omega arith in
    each_from-push offers 0 packages pkg ∙ ap (λ (place : ℕ). each_from offers 0 packages ++ offers place pkg) same

-- own names, and behind them items, are what packages offer in another order
parted_from : (place : ℕ) (packages : List Pkg)
    → IsPermutation (each_from offers_at place packages) (each_from own_offers_at place packages ++ each_from item_offers_at place packages)
parted_from place [] = IsPermutation-refl []
parted_from place (pkg ∷ later) =
    let items = item_offers_at place pkg in
    let own_later = each_from own_offers_at (place + 1) later in
    let items_later = each_from item_offers_at (place + 1) later in
    IsPermutation-cons (own_offer place pkg.name pkg.version) (items ++ each_from offers_at (place + 1) later) (own_later ++ (items ++ items_later))
    (IsPermutation-trans (items ++ each_from offers_at (place + 1) later) (items ++ (own_later ++ items_later)) (own_later ++ (items ++ items_later))
    (IsPermutation-append_right items (each_from offers_at (place + 1) later) (own_later ++ items_later) (parted_from (place + 1) later))
    (subst (λ (xs : List Offer). IsPermutation xs (own_later ++ (items ++ items_later))) (append_assoc items own_later items_later)
    (subst (λ (ys : List Offer). IsPermutation ((items ++ own_later) ++ items_later) ys) (append_assoc own_later items items_later)
    (IsPermutation-append_left items_later (items ++ own_later) (own_later ++ items) (IsPermutation-append_comm items own_later)))))

pub offers_parted : (packages : List Pkg) → IsPermutation (offers_of packages) (own_offers_of packages ++ item_offers_of packages)
offers_parted packages = parted_from 0 packages

-- What fits

-- a version meets a restriction where the test passes
met : (version : Option (List ℕ)) (restriction : Option Restriction) → is_meeting restriction version ≡ true → MeetsAsProvided version restriction
met version None passes = tt
met None (Some restriction) passes = absurd (let e : false ≡ true = passes in cc)
met (Some version) (Some restriction) passes = passes

passes_met : (version : Option (List ℕ)) (restriction : Option Restriction) → MeetsAsProvided version restriction → is_meeting restriction version ≡ true
passes_met version None holds = refl
passes_met None (Some restriction) holds = absurd holds
passes_met (Some version) (Some restriction) holds = holds

own_met : (version : List ℕ) (restriction : Option Restriction) → is_meeting restriction (Some version) ≡ true → Meets version restriction
own_met version None passes = tt
own_met version (Some restriction) passes = passes

passes_own : (version : List ℕ) (restriction : Option Restriction) → Meets version restriction → is_meeting restriction (Some version) ≡ true
passes_own version None holds = refl
passes_own version (Some restriction) holds = holds

both : (a b : Bool) → (a && b) ≡ true → (a ≡ true) × (b ≡ true)
both true b passes = (refl, passes)
both false b passes = absurd (let e : false ≡ true = passes in cc)

-- an offer of a package is that by its name, or by an item that isn't foreign
item_of : (place : ℕ) (items : List Provided) (offer : Offer) → Contains (flat_map (offers_by place) items) offer
    → Any (λ item. (item.foreign ≡ false) × (provided_offer place item ≡ offer)) items
item_of place [] offer within = absurd (Contains-nil offer within)
item_of place (item ∷ items) offer within = elim (cases_Bool item.foreign) [
  | inl foreign ↦ behind (item_of place items offer (rw foreign at within))
  | inr own ↦ elim (Contains-cons (provided_offer place item) (flat_map (offers_by place) items) offer (rw own at within)) [
    | inl same ↦ Any-intro (λ item. (item.foreign ≡ false) × (provided_offer place item ≡ offer)) (item ∷ items) item (Contains-head item items) (own, same)
    | inr rest ↦ behind (item_of place items offer rest)
  ]
]
  where
    behind : Any (λ item. (item.foreign ≡ false) × (provided_offer place item ≡ offer)) items
        → Any (λ item. (item.foreign ≡ false) × (provided_offer place item ≡ offer)) (item ∷ items)
    behind some = Any-elim (λ item. (item.foreign ≡ false) × (provided_offer place item ≡ offer)) items
        (Any (λ item. (item.foreign ≡ false) × (provided_offer place item ≡ offer)) (item ∷ items))
        (λ other there holds. Any-intro (λ item. (item.foreign ≡ false) × (provided_offer place item ≡ offer)) (item ∷ items) other
        (Contains-rest item items other there) holds) some

of_item : (place : ℕ) (items : List Provided) (item : Provided) → Contains items item → item.foreign ≡ false
    → Contains (flat_map (offers_by place) items) (provided_offer place item)
of_item place [] item within own = absurd (Contains-nil item within)
of_item place (first ∷ items) item within own = elim (Contains-cons first items item within) [
  | inl same ↦
      let here : first.foreign ≡ false = ap (λ (item : Provided). item.foreign) same ∙ own in
      subst (λ (item : Provided). Contains (flat_map (offers_by place) (first ∷ items)) (provided_offer place item)) same
      (rw here (Contains-head (provided_offer place first) (flat_map (offers_by place) items)))
  | inr rest ↦ Contains-append_right (offers_by place first) (flat_map (offers_by place) items) (provided_offer place item)
      (of_item place items item rest own)
]

-- Packages

-- by name and version, or by an item
abbrev FitsSome : Pkg → Atom → Type 0
FitsSome pkg atom = FitsByName pkg atom ⊎ FitsByProvides pkg atom

pkg_to : (atom : Atom) (place : ℕ) (pkg : Pkg) (offer : Offer) → Contains (offers_at place pkg) offer → fits atom offer ≡ true
    → (offer.place ≡ place) × FitsSome pkg atom
unfolding FitsByName FitsByProvides FitsProvided
pkg_to atom place pkg offer within passes =
    let parts = both (bytes_eq offer.name atom.name) (is_meeting atom.restriction offer.version) passes in
    let named : offer.name ≡ atom.name = bytes_eq-true offer.name atom.name parts.0 in
    elim (Contains-cons (own_offer place pkg.name pkg.version) (flat_map (offers_by place) pkg.relations.provides) offer within) [
      | inl same ↦ (
        sym (ap (λ (offer : Offer). offer.place) same),
        inl (
          ap (λ (offer : Offer). offer.name) same ∙ named,
          own_met pkg.version atom.restriction (ap (λ (offer : Offer). is_meeting atom.restriction offer.version) same ∙ parts.1),
        ),
      )
      | inr rest ↦ Any-elim (λ item. (item.foreign ≡ false) × (provided_offer place item ≡ offer)) pkg.relations.provides
          ((offer.place ≡ place) × FitsSome pkg atom)
          (λ item there holds. (
            sym (ap (λ (offer : Offer). offer.place) holds.1),
            inr (Any-intro (λ item. FitsProvided item atom) pkg.relations.provides item there (
              holds.0,
              ap (λ (offer : Offer). offer.name) holds.1 ∙ named,
              met item.version atom.restriction (ap (λ (offer : Offer). is_meeting atom.restriction offer.version) holds.1 ∙ parts.1),
            )),
          )) (item_of place pkg.relations.provides offer rest)
    ]

-- some offer of the list fits the atom, and is of this place
abbrev IsOffered : Atom → List Offer → ℕ → Type 0
IsOffered atom offers place = (offer : Offer) × Contains offers offer × (fits atom offer ≡ true) × (offer.place ≡ place)

pkg_from : (atom : Atom) (place : ℕ) (pkg : Pkg) → FitsSome pkg atom → IsOffered atom (offers_at place pkg) place
unfolding FitsByName FitsByProvides FitsProvided
pkg_from atom place pkg (inl own) = (
  own_offer place pkg.name pkg.version,
  Contains-head (own_offer place pkg.name pkg.version) (flat_map (offers_by place) pkg.relations.provides),
  rw (bytes_eq-same pkg.name atom.name own.0) (passes_own pkg.version atom.restriction own.1),
  refl,
)
pkg_from atom place pkg (inr some) = Any-elim (λ item. FitsProvided item atom) pkg.relations.provides (IsOffered atom (offers_at place pkg) place)
    (λ item there holds. (
      provided_offer place item,
      Contains-rest (own_offer place pkg.name pkg.version) (flat_map (offers_by place) pkg.relations.provides) (provided_offer place item)
          (of_item place pkg.relations.provides item there holds.0),
      rw (bytes_eq-same item.name atom.name holds.1) (passes_met item.version atom.restriction holds.2),
      refl,
    )) some

-- Lists of packages

-- the package at this position fits the atom
abbrev IsFitAt : List Pkg → Atom → ℕ → Type 0
IsFitAt packages atom place = (pkg : Pkg) × (slice_get packages place ≡ Some pkg) × FitsSome pkg atom

list_to : (atom : Atom) (first : ℕ) (packages : List Pkg) (offer : Offer) → Contains (each_from offers_at first packages) offer → fits atom offer ≡ true
    → (behind : ℕ) × (offer.place ≡ first + behind) × IsFitAt packages atom behind
list_to atom first [] offer within passes = absurd (Contains-nil offer within)
list_to atom first (pkg ∷ later) offer within passes = elim (Contains-append_cases (offers_at first pkg) (each_from offers_at (first + 1) later) offer within) [
  | inl here ↦ let witness = pkg_to atom first pkg offer here passes in (0, omega (arith, witness.0), (pkg, refl, witness.1))
  | inr rest ↦ let witness = list_to atom (first + 1) later offer rest passes in (suc witness.0, omega (arith, witness.1), witness.2)
]

list_from : (atom : Atom) (first : ℕ) (packages : List Pkg) (behind : ℕ) → IsFitAt packages atom behind
    → IsOffered atom (each_from offers_at first packages) (first + behind)
list_from atom first [] behind witness = absurd (let e : None ≡ Some witness.0 = witness.1 in cc)
list_from atom first (pkg ∷ later) zero (witness, is, fit) =
    let same : pkg ≡ witness = cc in
    let here = pkg_from atom first pkg (subst (λ (p : Pkg). FitsSome p atom) (sym same) fit) in
    (here.0, Contains-append_left (offers_at first pkg) (each_from offers_at (first + 1) later) here.0 here.1, here.2, omega (arith, here.3))
list_from atom first (pkg ∷ later) (suc behind) witness =
    let there = list_from atom (first + 1) later behind witness in
    (there.0, Contains-append_right (offers_at first pkg) (each_from offers_at (first + 1) later) there.0 there.1, there.2, omega (arith, there.3))

-- Matches

match_to : (atom : Atom) (packages : List Pkg) (place : ℕ) → atom.foreign ≡ false → IsOffered atom (offers_of packages) place → IsMatchAt packages atom place
unfolding Matches
match_to atom packages place own (offer, within, passes, here) =
    let witness = list_to atom 0 packages offer within passes in
    let same : witness.0 ≡ place = omega (arith, witness.1, here) in
    subst (IsMatchAt packages atom) same (witness.2.0, witness.2.1, (own, witness.2.2))

match_from : (atom : Atom) (packages : List Pkg) (place : ℕ) → IsMatchAt packages atom place
    → (atom.foreign ≡ false) × IsOffered atom (offers_of packages) place
unfolding Matches
match_from atom packages place (pkg, is, (own, fit)) =
    let same : 0 + place ≡ place = omega arith in
    (own, subst (IsOffered atom (offers_of packages)) same (list_from atom 0 packages place (pkg, is, fit)))

-- the places of the offers that fit the atom
abbrev pub places_fitting : Atom → List Offer → List ℕ
places_fitting atom offers = map (λ offer. offer.place) (filter (fits atom) offers)

places_to : (atom : Atom) (offers : List Offer) (place : ℕ) → Contains (places_fitting atom offers) place → IsOffered atom offers place
places_to atom offers place within =
    let witness = Contains-map (λ (offer : Offer). offer.place) (filter (fits atom) offers) place within in
    let kept = Contains-filter (fits atom) offers witness.0 witness.1 in
    (witness.0, kept.0, kept.1, witness.2)

places_from : (atom : Atom) (offers : List Offer) (place : ℕ) → IsOffered atom offers place → Contains (places_fitting atom offers) place
places_from atom offers place (offer, within, passes, here) =
    subst (Contains (places_fitting atom offers)) here
    (Contains-map_intro (λ (offer : Offer). offer.place) (filter (fits atom) offers) offer (Contains-filter_intro (fits atom) offers offer within passes))

-- offers with the same elements as those of the packages
abbrev pub HasOffers : List Pkg → List Offer → Type 0
HasOffers packages offers = (offer : Offer) → Contains offers offer ↔ Contains (offers_of packages) offer

-- the places of the offers that fit an atom that isn't foreign are those of the packages that match it
pub places_match : (atom : Atom) (packages : List Pkg) (offers : List Offer) → HasOffers packages offers → atom.foreign ≡ false → (place : ℕ)
    → Contains (places_fitting atom offers) place ↔ IsMatchAt packages atom place
places_match atom packages offers same own place = (
  λ within.
      let witness = places_to atom offers place within in
      match_to atom packages place own (witness.0, (same witness.0).0 witness.1, witness.2, witness.3),
  λ matches.
      let witness = (match_from atom packages place matches).1 in
      places_from atom offers place (witness.0, (same witness.0).1 witness.1, witness.2, witness.3),
)

-- no package matches a foreign atom
pub foreign_matches_none : (atom : Atom) (packages : List Pkg) → atom.foreign ≡ true → (place : ℕ) → Contains [] place ↔ IsMatchAt packages atom place
foreign_matches_none atom packages foreign place = (
  λ within. absurd (Contains-nil place within),
  λ matches. absurd (let e : false ≡ true = sym (match_from atom packages place matches).0 ∙ foreign in cc),
)
