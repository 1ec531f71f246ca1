-- The pairs of what stands of a name, and of its stanzas that are chosen or asked for, are those of its admitted versions.
use Rattle.std.proofs.Common.{◌≡◌, ℕ, ℤ, Bool, true, false, not, ◌||◌, List, [], ◌⊎◌, Option, Some, None, MatchOption, IsSome, if◌then◌else◌, refl, sym, ap, subst, ◌∙◌, bytes_eq}
use Rattle.std.specs.Cmp.{Equal-is}
use Rattle.std.specs.List.{Any, Contains, filter, find, list_any}
use Rattle.std.specs.Option.{option_map, option_map_or, option_or}
use Rattle.std.proofs.lemmas.Bool.{and_parts, and_from, or_cases, or_left, or_right}
use Rattle.std.proofs.lemmas.List.Elements.{Contains-append_cases, Contains-append_left, Contains-append_right}
use Rattle.std.proofs.lemmas.List.Sorted.{list_any-IsPermutation}
use Rattle.std.proofs.lemmas.Option.{same_Some}
use Rattle.rules.specs.Available.{Index, Inputs, Request, all_listed, counting_package, index_package, is_of, same_version}
use Rattle.rules.specs.Database.{HasDistinctNames, HasRecord, IsHeld, Record, pkg_of, stands}
use Rattle.rules.specs.ElementLaws.{Any-elim, Any-from_list_any, Any-intro, Contains-filter, Contains-filter_intro, Contains-map, Contains-map_intro, list_any-from_contains}
use Rattle.rules.specs.NamedLaws.{bytes_eq-same, bytes_eq-true}
use Rattle.pins.specs.Prefs.{Preferences}
use Rattle.rules.specs.Package.{Pkg}
use Rattle.rules.specs.Priority.{HasPriority, HasPriorityAs, IsCandidate, IsEligible}
use Rattle.rules.specs.State.{is_hold}
use Rattle.rules.specs.Step.{IndexPackage, is_named}
use Rattle.rules.specs.Universe.{IsAdmitted, IsOf, IsOffered, NamesExactly, Pair}
use Rattle.rules.specs.Version.{SameVersion, version_cmp}
use Rattle.rules.specs.VersionOrderLaws.{SameVersion-refl, SameVersion-symm, SameVersion-trans}
use Rattle.candidates.specs.Candidates.{IsCandidateOf}
use Rattle.candidates.specs.Eligible.{AreEligibleOf, IsOffer}
use Rattle.candidates.specs.Inputs.{inputs_of}
use Rattle.candidates.specs.Names.{AreNames, NameTable, OfName, part_of}
use Rattle.candidates.specs.Offer.{Offer}
use Rattle.candidates.specs.Recorded.{is_held, stands_as}
use Rattle.candidates.specs.Stanza.{has_stanza_name, stanza_of}
use Rattle.candidates.proofs.Named.{StandsAs-from, StandsAs-is, held-from, held-is, known_within, standing-is, standing_record-none, standing_record-one, stands_as-same, stands_in, within_known}
use Rattle.candidates.proofs.Filtered.{find-within}
use Rattle.candidates.proofs.Ordered.{found_ordered, ordered_found}
use Rattle.universe_build.specs.ByName.{ArePairs, HasPair, IsPair, chosen_pairs, is_chosen, is_free, is_version_of, is_wanted, listed_pair, listed_pairs, standing_pair, standing_pairs}
use Rattle.universe_build.specs.Choice.{AreExacts, Exact, exacts_of, is_asked}
use Rattle.universe_build.proofs.Sought.{Contains-filter_map, Contains-filter_map_intro, is_asked-from, is_asked-names}
use Rattle.universe_build.proofs.Texts.{IsCandidate-same, IsEligible-same, one_candidate}
use mathlib.Core.Logic.{inl, inr}

not_from : (b : Bool) → b ≡ false → not b ≡ true
not_from b is = ap not is

not_is : (b : Bool) → not b ≡ true → b ≡ false
not_is false is = refl
not_is true is = absurd (let e : false ≡ true = is in cc)

-- the pair of a record that stands
abbrev pub pair_at : List IndexPackage → Record → Pair
pair_at listed entry = record { pkg = pkg_of entry; listed = stanza_of listed entry.name entry.version }

standing_pair-from : (listed : List IndexPackage) (entry : Record) → stands entry ≡ true → standing_pair listed entry ≡ Some (pair_at listed entry)
standing_pair-from listed entry stood = ap (λ (b : Bool).
    if b then Some (record { pkg = pkg_of entry; listed = if b then stanza_of listed entry.name entry.version else None }) else None) stood

pub standing_pair-is : (listed : List IndexPackage) (entry : Record) (pair : Pair) → standing_pair listed entry ≡ Some pair
    → (stands entry ≡ true) × (pair_at listed entry ≡ pair)
standing_pair-is listed entry pair is = at (stands entry) refl is
  where
    at : (b : Bool) → stands entry ≡ b
        → (if b then Some (record { pkg = pkg_of entry; listed = if b then stanza_of listed entry.name entry.version else None }) else None) ≡ Some pair
        → (stands entry ≡ true) × (pair_at listed entry ≡ pair)
    at true stood whole = (stood, same_Some (pair_at listed entry) pair whole)
    at false stood whole = absurd (let e : None ≡ Some pair = whole in cc)

-- a version that may be chosen has a package that counts
pub eligible_counting : (inputs : Inputs) (name version : List ℕ) (priority : ℤ) → IsEligible inputs name version priority
    → IsSome (counting_package inputs name version)
unfolding IsEligible HasPriority
eligible_counting inputs name version priority may = at (counting_package inputs name version) may.0
  where
    at : (o : Option Pkg) → MatchOption o ⊥ (λ (pkg : Pkg). HasPriorityAs inputs name pkg.version priority) → IsSome o
    at None has = absurd has
    at (Some pkg) has = refl

module _ (db : List Record) (indices : List Index) (prefs : Preferences) (request : Request) (names : NameTable) (distinct : HasDistinctNames db)
    (are : AreNames db indices names) (name : List ℕ) where
  abbrev inputs : Inputs
  inputs = inputs_of db indices prefs request

  abbrev own : OfName
  own = part_of names name

  -- a record of the name is a record of the start
  known_own : (item : Record) → Contains own.known item → Contains db item × (item.name ≡ name)
  known_own item within =
      let kept = Contains-filter (is_named name) names.known item within in
      (known_within db names.known are.known item kept.0, bytes_eq-true item.name name kept.1)

  own_known : (item : Record) → Contains db item → item.name ≡ name → Contains own.known item
  own_known item within named = Contains-filter_intro (is_named name) names.known item
      (within_known db names.known distinct are.known item within) (bytes_eq-same item.name name named)

  found_own : find (is_named name) own.known ≡ find (is_named name) db
  found_own = find-within (is_named name) (is_named name) (λ item passes. passes) names.known ∙ are.known.same name

  same_stands : (version : List ℕ) → stands_as own.known name version ≡ stands_as db name version
  same_stands version = ap (λ (o : Option Record). option_map_or (stands_in version) o false) found_own

  same_held : is_held own.known name ≡ is_held db name
  same_held = ap (λ (o : Option Record). option_map_or (λ (item : Record). is_hold item.want) o false) found_own

  -- a stanza of the name is the earliest of its version
  ordered_own : (item : IndexPackage) → Contains own.ordered item → (item.pkg.name ≡ name)
      × ((version : List ℕ) → IsOf name version item.pkg → index_package indices name version ≡ Some item)
  ordered_own item within =
      let kept = Contains-filter (has_stanza_name name) names.ordered item within in (
        bytes_eq-true item.pkg.name name kept.1,
        λ version of. found_ordered (all_listed indices) names.ordered are.ordered item kept.0 name version of,
      )

  own_ordered : (version : List ℕ) (item : IndexPackage) → index_package indices name version ≡ Some item
      → Contains own.ordered item × IsOf name version item.pkg
  own_ordered version item is =
      let there = ordered_found (all_listed indices) names.ordered are.ordered name version item is in (
        Contains-filter_intro (has_stanza_name name) names.ordered item there.0 (bytes_eq-same item.pkg.name name there.1.0),
        there.1,
      )

  -- the stanza of a version is found among those of the name
  stanza_own : (version : List ℕ) → stanza_of own.ordered name version ≡ index_package indices name version
  stanza_own version = find-within (λ (item : IndexPackage). is_of name version item.pkg) (has_stanza_name name)
      (λ item passes. (and_parts (bytes_eq item.pkg.name name) (same_version item.pkg.version version) passes).0) names.ordered
      ∙ are.ordered.earliest name version

  -- where the version doesn't stand, the package of an index counts
  counting_listed : (version : List ℕ) → stands_as db name version ≡ false
      → counting_package inputs name version ≡ option_map (λ (listed : IndexPackage). listed.pkg) (index_package indices name version)
  counting_listed version stood = ap (λ (o : Option Record). option_or (option_map pkg_of o)
      (option_map (λ (listed : IndexPackage). listed.pkg) (index_package indices name version))) (standing_record-none db distinct name version stood)

  not_held : ¬ HasRecord IsHeld name db → is_held db name ≡ false
  not_held free = at (is_held db name) refl
    where
      at : (b : Bool) → is_held db name ≡ b → is_held db name ≡ false
      at false held = held
      at true held = absurd (free (held-is db name held))

  module _ (candidate : Option Offer) (offers versions : List Offer) (asked : List Exact) (chosen_is : IsCandidateOf inputs name candidate)
      (may : AreEligibleOf inputs name offers) (versions_are : versions ≡ (if request.asks_all_versions then offers else []))
      (asked_are : AreExacts (exacts_of request.goals) asked) where
    abbrev made : List Pair
    made = chosen_pairs own candidate versions asked

    abbrev wanted : IndexPackage → Bool
    wanted item = is_wanted candidate versions asked item

    -- where a pair comes from: a record that stands
    abbrev IsStanding : Pair → Type 0
    IsStanding pair = (item : Record) × Contains db item × (item.name ≡ name) × (stands item ≡ true) × (pair_at own.ordered item ≡ pair)

    -- or a stanza of the name that is free and wanted
    abbrev IsListed : Pair → Type 0
    IsListed pair = (item : IndexPackage) × Contains own.ordered item × (stands_as db name item.pkg.version ≡ false)
        × (is_held db name ≡ false) × (wanted item ≡ true) × (listed_pair item ≡ pair)

    chosen : IndexPackage → Bool
    chosen item = is_chosen own.known candidate versions asked item

    made_from : (pair : Pair) → Contains made pair → IsStanding pair ⊎ IsListed pair
    made_from pair within = elim (Contains-append_cases (standing_pairs own.ordered own.known)
        (listed_pairs own.known own.ordered candidate versions asked) pair within) [
          | inl here ↦
              let from = Contains-filter_map (standing_pair own.ordered) own.known pair here in
              let parts = standing_pair-is own.ordered from.0 pair from.2 in
              let there = known_own from.0 from.1 in
              inl (from.0, there.0, there.1, parts.0, parts.1)
          | inr later ↦
              let from = Contains-map listed_pair (filter (is_chosen own.known candidate versions asked) own.ordered) pair later in
              let kept = Contains-filter (is_chosen own.known candidate versions asked) own.ordered from.0 from.1 in
              let named : from.0.pkg.name ≡ name = (ordered_own from.0 kept.0).0 in
              let both = and_parts (is_free own.known from.0) (wanted from.0) kept.1 in
              let free = and_parts (not (stands_as own.known from.0.pkg.name from.0.pkg.version)) (not (is_held own.known from.0.pkg.name)) both.0 in
              inr (
                from.0,
                kept.0,
                sym (same_stands from.0.pkg.version) ∙ ap (λ (n : List ℕ). stands_as own.known n from.0.pkg.version) (sym named)
                    ∙ not_is (stands_as own.known from.0.pkg.name from.0.pkg.version) free.0,
                sym same_held ∙ ap (is_held own.known) (sym named) ∙ not_is (is_held own.known from.0.pkg.name) free.1,
                both.1,
                from.2,
              )
        ]

    standing_made : (item : Record) → Contains db item → item.name ≡ name → stands item ≡ true → Contains made (pair_at own.ordered item)
    standing_made item within named stood = Contains-append_left (standing_pairs own.ordered own.known)
        (listed_pairs own.known own.ordered candidate versions asked) (pair_at own.ordered item)
        (Contains-filter_map_intro (standing_pair own.ordered) own.known item (pair_at own.ordered item)
        (own_known item within named) (standing_pair-from own.ordered item stood))

    listed_made : (item : IndexPackage) → Contains own.ordered item → stands_as db name item.pkg.version ≡ false
        → is_held db name ≡ false → wanted item ≡ true → Contains made (listed_pair item)
    listed_made item within stood held wants =
        let named : item.pkg.name ≡ name = (ordered_own item within).0 in
        Contains-append_right (standing_pairs own.ordered own.known)
        (listed_pairs own.known own.ordered candidate versions asked) (listed_pair item)
        (Contains-map_intro listed_pair (filter (is_chosen own.known candidate versions asked) own.ordered) item
        (Contains-filter_intro (is_chosen own.known candidate versions asked) own.ordered item within
        (and_from (is_free own.known item) (wanted item)
        (and_from (not (stands_as own.known item.pkg.name item.pkg.version)) (not (is_held own.known item.pkg.name))
        (not_from (stands_as own.known item.pkg.name item.pkg.version)
        (ap (λ (n : List ℕ). stands_as own.known n item.pkg.version) named ∙ same_stands item.pkg.version ∙ stood))
        (not_from (is_held own.known item.pkg.name) (ap (is_held own.known) named ∙ same_held ∙ held))) wants)))

    counts : (pair : Pair) → IsStanding pair ⊎ IsListed pair → counting_package inputs pair.pkg.name pair.pkg.version ≡ Some pair.pkg
    counts pair (inl (item, within, named, stood, same)) =
        subst (λ (p : Pair). counting_package inputs p.pkg.name p.pkg.version ≡ Some p.pkg) same
        (ap (λ (o : Option Record). option_or (option_map pkg_of o)
        (option_map (λ (listed : IndexPackage). listed.pkg) (index_package indices item.name item.version)))
        (standing_record-one db distinct item.name item.version item within refl stood (SameVersion-refl item.version)))
    counts pair (inr (item, within, stood, held, wants, same)) =
        let there = ordered_own item within in
        subst (λ (p : Pair). counting_package inputs p.pkg.name p.pkg.version ≡ Some p.pkg) same
        (ap (λ (n : List ℕ). counting_package inputs n item.pkg.version) there.0 ∙ counting_listed item.pkg.version stood
        ∙ ap (option_map (λ (listed : IndexPackage). listed.pkg)) (there.1 item.pkg.version (there.0, SameVersion-refl item.pkg.version)))

    listed_as : (pair : Pair) → IsStanding pair ⊎ IsListed pair → index_package indices pair.pkg.name pair.pkg.version ≡ pair.listed
    listed_as pair (inl (item, within, named, stood, same)) =
        subst (λ (p : Pair). index_package indices p.pkg.name p.pkg.version ≡ p.listed) same
        (ap (λ (n : List ℕ). index_package indices n item.version) named ∙ sym (stanza_own item.version)
        ∙ ap (λ (n : List ℕ). stanza_of own.ordered n item.version) (sym named))
    listed_as pair (inr (item, within, stood, held, wants, same)) =
        let there = ordered_own item within in
        subst (λ (p : Pair). index_package indices p.pkg.name p.pkg.version ≡ p.listed) same
        (ap (λ (n : List ℕ). index_package indices n item.pkg.version) there.0
        ∙ there.1 item.pkg.version (there.0, SameVersion-refl item.pkg.version))

    named_as : (pair : Pair) → IsStanding pair ⊎ IsListed pair → pair.pkg.name ≡ name
    named_as pair (inl (item, within, named, stood, same)) = subst (λ (p : Pair). p.pkg.name ≡ name) same named
    named_as pair (inr (item, within, stood, held, wants, same)) = subst (λ (p : Pair). p.pkg.name ≡ name) same (ordered_own item within).0

    -- a made pair of a version
    abbrev IsMade : List ℕ → Type 0
    IsMade version = (pair : Pair) × Contains made pair × IsOf name version pair.pkg

    made_listed : (version : List ℕ) (item : IndexPackage) → Contains own.ordered item → IsOf name version item.pkg
        → stands_as db name version ≡ false → is_held db name ≡ false → wanted item ≡ true → IsMade version
    made_listed version item within of stood held wants = (
      listed_pair item,
      listed_made item within (stands_as-same db name item.pkg.version version of.1 ∙ stood) held wants,
      of,
    )

    -- the texts of a version are versions of a stanza alike
    version_of_stanza : (item : IndexPackage) (offer : Offer) (version : List ℕ) → IsOf name version item.pkg → SameVersion offer.version version
        → is_version_of item offer ≡ true
    version_of_stanza item offer version of same = (Equal-is (version_cmp offer.version item.pkg.version)).1
        (SameVersion-trans offer.version version item.pkg.version same (SameVersion-symm item.pkg.version version of.1))

    stanza_of_version : (item : IndexPackage) (offer : Offer) (version : List ℕ) → IsOf name version item.pkg → is_version_of item offer ≡ true
        → SameVersion offer.version version
    stanza_of_version item offer version of passes = SameVersion-trans offer.version item.pkg.version version
        ((Equal-is (version_cmp offer.version item.pkg.version)).0 passes) of.1

    -- the stanza of the candidate is wanted
    wanted_candidate : (version : List ℕ) (priority : ℤ) (item : IndexPackage) → IsOf name version item.pkg
        → IsCandidate inputs name version priority → wanted item ≡ true
    wanted_candidate version priority item of top = or_left (option_map_or (is_version_of item) candidate false)
        (list_any (is_version_of item) versions || is_asked asked item) (at candidate chosen_is)
      where
        at : (o : Option Offer) → IsCandidateOf inputs name o → option_map_or (is_version_of item) o false ≡ true
        at None none = absurd (none version priority top)
        at (Some offer) is = version_of_stanza item offer version of
            (one_candidate inputs name offer.version version offer.priority priority is.1 top)

    wanted_version : (version : List ℕ) (priority : ℤ) (item : IndexPackage) → IsOf name version item.pkg
        → request.asks_all_versions ≡ true → IsEligible inputs name version priority → wanted item ≡ true
    wanted_version version priority item of all eligible = or_right (option_map_or (is_version_of item) candidate false)
        (list_any (is_version_of item) versions || is_asked asked item)
        (or_left (list_any (is_version_of item) versions) (is_asked asked item)
        (Any-elim (IsOffer version priority) offers (list_any (is_version_of item) versions ≡ true)
        (λ offer within is. list_any-from_contains (is_version_of item) versions offer
        (subst (λ (xs : List Offer). Contains xs offer) (sym (versions_are ∙ ap (λ (b : Bool). if b then offers else []) all)) within)
        (version_of_stanza item offer version of is.0))
        (may.covered version priority eligible)))

    wanted_asked : (version : List ℕ) (item : IndexPackage) → IsOf name version item.pkg → Any (NamesExactly name version) request.goals
        → wanted item ≡ true
    wanted_asked version item of some = or_right (option_map_or (is_version_of item) candidate false)
        (list_any (is_version_of item) versions || is_asked asked item)
        (or_right (list_any (is_version_of item) versions) (is_asked asked item)
        (sym (list_any-IsPermutation (λ (exact : Exact). is_of exact.name exact.version item.pkg) (exacts_of request.goals) asked asked_are.same)
        ∙ is_asked-from request.goals item name version of some))

    -- what is available and wanted, and doesn't stand
    made_available : (version : List ℕ) → stands_as db name version ≡ false → is_held db name ≡ false
        → IsSome (counting_package inputs name version)
        → ((item : IndexPackage) → IsOf name version item.pkg → wanted item ≡ true) → IsMade version
    made_available version stood held some wants = at (index_package indices name version) refl
        (subst IsSome (counting_listed version stood) some)
      where
        at : (o : Option IndexPackage) → index_package indices name version ≡ o → IsSome (option_map (λ (listed : IndexPackage). listed.pkg) o)
            → IsMade version
        at None from some = absurd (let e : false ≡ true = some in cc)
        at (Some item) from some =
            let there = own_ordered version item from in
            made_listed version item there.0 there.1 stood held (wants item there.1)

    made_offered : (version : List ℕ) → stands_as db name version ≡ false → is_held db name ≡ false → IsOffered inputs name version
        → IsMade version
    unfolding IsOffered
    made_offered version stood held (inl top) = made_available version stood held
        (eligible_counting inputs name version top.0 top.1.eligible)
        (λ item of. wanted_candidate version top.0 item of top.1)
    made_offered version stood held (inr (inl asks)) = made_available version stood held asks.0
        (λ item of. wanted_asked version item of asks.1)
    made_offered version stood held (inr (inr every)) = made_available version stood held
        (eligible_counting inputs name version every.1.0 every.1.1)
        (λ item of. wanted_version version every.1.0 item of every.0 every.1.1)

    -- each admitted version is made
    made_admitted : (version : List ℕ) → IsAdmitted inputs name version → IsMade version
    unfolding IsAdmitted
    made_admitted version (inl stood) =
        let from = StandsAs-is db name version stood in
        (pair_at own.ordered from.0, standing_made from.0 from.1 from.2 from.3, (from.2, from.4))
    made_admitted version (inr offered) = at (stands_as db name version) refl
      where
        at : (b : Bool) → stands_as db name version ≡ b → IsMade version
        at true stood =
            let from = standing-is db name version stood in
            (pair_at own.ordered from.0, standing_made from.0 from.1 from.2 from.3, (from.2, from.4))
        at false stood = made_offered version stood (not_held offered.0) offered.1

    -- a candidate's stanza is offered
    offered_candidate : (version : List ℕ) (item : IndexPackage) → IsOf name version item.pkg → (o : Option Offer)
        → IsCandidateOf inputs name o → option_map_or (is_version_of item) o false ≡ true → IsOffered inputs name version
    unfolding IsOffered
    offered_candidate version item of None none passes = absurd (let e : false ≡ true = passes in cc)
    offered_candidate version item of (Some offer) is passes = inl (
      offer.priority,
      IsCandidate-same inputs name offer.version version offer.priority (stanza_of_version item offer version of passes) is.1,
    )

    -- a version's stanza is offered
    offered_version : (version : List ℕ) (item : IndexPackage) → IsOf name version item.pkg
        → list_any (is_version_of item) versions ≡ true → IsOffered inputs name version
    unfolding IsOffered
    offered_version version item of passes = at request.asks_all_versions refl
        (subst (λ (xs : List Offer). list_any (is_version_of item) xs ≡ true) versions_are passes)
      where
        at : (b : Bool) → request.asks_all_versions ≡ b → list_any (is_version_of item) (if request.asks_all_versions then offers else []) ≡ true
            → IsOffered inputs name version
        at false not_all some =
            let e : false ≡ true = ap (λ (b : Bool). list_any (is_version_of item) (if b then offers else [])) (sym not_all) ∙ some in
            absurd cc
        at true all some =
            let every : list_any (is_version_of item) offers ≡ true =
            ap (λ (b : Bool). list_any (is_version_of item) (if b then offers else [])) (sym all) ∙ some in
            Any-elim (λ (offer : Offer). is_version_of item offer ≡ true) offers (IsOffered inputs name version)
            (λ offer within is. inr (inr (
              all,
              (
                offer.priority,
                IsEligible-same inputs name offer.version version offer.priority
                    (stanza_of_version item offer version of is) (may.drawn offer within),
              ),
            )))
            (Any-from_list_any (is_version_of item) offers every)

    offered_listed : (version : List ℕ) (item : IndexPackage) → Contains own.ordered item → stands_as db name item.pkg.version ≡ false
        → wanted item ≡ true → IsOf name version item.pkg → IsOffered inputs name version
    unfolding IsOffered
    offered_listed version item within stood wants of =
        elim (or_cases (option_map_or (is_version_of item) candidate false) (list_any (is_version_of item) versions || is_asked asked item) wants) [
          | inl top ↦ offered_candidate version item of candidate chosen_is top
          | inr further ↦ elim (or_cases (list_any (is_version_of item) versions) (is_asked asked item) further) [
            | inl every ↦ offered_version version item of every
            | inr asks ↦ inr (inl (
              subst IsSome (sym (counting_listed version (sym (stands_as-same db name item.pkg.version version of.1) ∙ stood)
                  ∙ ap (option_map (λ (listed : IndexPackage). listed.pkg)) ((ordered_own item within).1 version of))) refl,
              is_asked-names request.goals item
                  (list_any-IsPermutation (λ (exact : Exact). is_of exact.name exact.version item.pkg) (exacts_of request.goals) asked asked_are.same
                  ∙ asks) name version of,
            ))
          ]
        ]

    -- each made version is admitted
    admitted_made : (pair : Pair) → IsStanding pair ⊎ IsListed pair → (other version : List ℕ) → IsOf other version pair.pkg
        → IsAdmitted inputs other version
    unfolding IsAdmitted
    admitted_made pair (inl (item, within, named, stood, same)) other version of =
        let its : IsOf other version (pkg_of item) = subst (λ (p : Pair). IsOf other version p.pkg) (sym same) of in
        inl (StandsAs-from db other version item within its.0 stood its.1)
    admitted_made pair (inr (item, within, stood, held, wants, same)) other version of =
        let its : IsOf other version item.pkg = subst (λ (p : Pair). IsOf other version p.pkg) (sym same) of in
        let named : name ≡ other = sym (ordered_own item within).0 ∙ its.0 in
        subst (λ (n : List ℕ). IsAdmitted inputs n version) named (inr (
          λ holds. let e : false ≡ true = sym held ∙ held-from db distinct name holds in cc,
          offered_listed version item within stood wants ((ordered_own item within).0, its.1),
        ))

    module _ (pairs : List Pair) (ordered : ArePairs made pairs) where
      pub IsPair-made : (pair : Pair) → Contains pairs pair → IsPair inputs pair
      IsPair-made pair within =
          let from = made_from pair (ordered.drawn pair within) in
          record {
            admitted = λ other version of. admitted_made pair from other version of;
            counting = counts pair from;
            listed = listed_as pair from;
          }

      pub pairs_covered : (version : List ℕ) → IsAdmitted inputs name version → HasPair name version pairs
      pairs_covered version admitted =
          let there = made_admitted version admitted in
          Any-elim (λ (other : Pair). IsOf there.0.pkg.name there.0.pkg.version other.pkg) pairs (HasPair name version pairs)
          (λ other within of. Any-intro (λ (pair : Pair). IsOf name version pair.pkg) pairs other within (
            of.0 ∙ there.2.0,
            SameVersion-trans other.pkg.version there.0.pkg.version version of.1 there.2.1,
          ))
          (ordered.covered there.0 there.1)
