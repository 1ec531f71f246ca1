-- A walk over names: each is put behind with its pairs and its candidate.
use Rattle.std.proofs.Common.{◌≡◌, ℕ, Bool, true, false, List, [], ◌∷◌, ◌++◌, Option, Some, None, IsSome, refl, sym, ap, subst, ◌∙◌}
use Rattle.std.specs.List.{AllByRecursion, Contains}
use Rattle.std.specs.List.Sorted.{IsStrictlySortedBy}
use Rattle.std.specs.Ordering.{ordering_then}
use Rattle.std.specs.declared.cmp.Ordering.{Ordering}
use Rattle.std.specs.declared.cmp.Ordering.TheVariants.{Less}
use Rattle.std.proofs.lemmas.List.Elements.{All-contains, Contains-append_cases}
use Rattle.std.specs.Option.{option_map, option_or}
use Rattle.pins.specs.Prefs.{Preferences}
use Rattle.rules.specs.Available.{Inputs, all_listed, counting_package, index_package, standing_record}
use Rattle.rules.specs.Database.{HasDistinctNames, Record, pkg_of}
use Rattle.rules.specs.ElementLaws.{All-intro, Any-append_left, Any-append_right, Any-elim, Any-intro, Contains-filter, Contains-head, Contains-nil, Contains-rest}
use Rattle.rules.specs.Name.{name_cmp}
use Rattle.rules.specs.Priority.{IsCandidate}
use Rattle.rules.specs.NamedLaws.{bytes_eq-true}
use Rattle.rules.specs.Step.{IndexPackage, is_named}
use Rattle.rules.specs.Universe.{Candidate, IsAdmitted, IsOf, IsOffered, Pair, candidate_cmp, pair_cmp}
use Rattle.rules.specs.Version.{SameVersion, version_cmp}
use Rattle.candidates.specs.Names.{AreNames, IsAmong, IsBefore, IsSplit, NameTable, OfName, part_of}
use Rattle.candidates.specs.Stanza.{has_stanza_name}
use Rattle.candidates.proofs.Named.{StandsAs-is, standing_record-is, within_known}
use Rattle.candidates.proofs.Ordered.{ordered_found}
use Rattle.universe_build.specs.ByName.{AreAdmitted, AreAscending, AreBefore, AreBehind, AreGiven, AreNamed, AreOfName, Given, HasCandidate, HasPair, IsGiven, IsOfName, given_inputs}
use Rattle.universe_build.specs.Choice.{Exact}
use Rattle.universe_build.proofs.PairsOfName.{eligible_counting}
use mathlib.Core.Logic.{inl, inr}

-- a list in order behind which a list in order stands whose elements are all later
all_append : {X : Type 0} (P : X → Type 0) (xs ys : List X) → AllByRecursion P xs → AllByRecursion P ys → AllByRecursion P (xs ++ ys)
all_append P [] ys here there = there
all_append P (x ∷ xs) ys here there = (here.0, all_append P xs ys here.1 there)

all_from : {X : Type 0} (P : X → Type 0) (xs : List X) → ((x : X) → Contains xs x → P x) → AllByRecursion P xs
all_from P [] each = tt
all_from P (x ∷ xs) each = (each x (Contains-head x xs), all_from P xs (λ y within. each y (Contains-rest x xs y within)))

pub ascending_append : {X : Type 0} (c : X → X → Ordering) (xs ys : List X) → IsStrictlySortedBy c xs → IsStrictlySortedBy c ys
    → ((x y : X) → Contains xs x → Contains ys y → c x y ≡ Less) → IsStrictlySortedBy c (xs ++ ys)
unfolding IsStrictlySortedBy
ascending_append c [] ys first second below = second
ascending_append c (x ∷ xs) ys first second below = (
  all_append (λ y. c x y ≡ Less) xs ys first.0 (all_from (λ y. c x y ≡ Less) ys (λ y within. below x y (Contains-head x xs) within)),
  ascending_append c xs ys first.1 second (λ z y one other. below z y (Contains-rest x xs z one) other),
)

-- a name that is before all of these is before each that is among them
before_among : (name : List ℕ) (names : NameTable) → IsBefore name names → (other : List ℕ) → IsAmong other names → name_cmp name other ≡ Less
before_among name names before other among = elim among [
  | inl some ↦ Any-elim (λ (item : Record). item.name ≡ other) names.known (name_cmp name other ≡ Less)
      (λ item within is. subst (λ (n : List ℕ). name_cmp name n ≡ Less) is
      (All-contains (λ (r : Record). name_cmp name r.name ≡ Less) names.known item before.records within)) some
  | inr some ↦ Any-elim (λ (item : IndexPackage). item.pkg.name ≡ other) names.ordered (name_cmp name other ≡ Less)
      (λ item within is. subst (λ (n : List ℕ). name_cmp name n ≡ Less) is
      (All-contains (λ (p : IndexPackage). name_cmp name p.pkg.name ≡ Less) names.ordered item before.stanzas within)) some
]

-- and the other way round
before_from : (name : List ℕ) (names : NameTable) → ((other : List ℕ) → IsAmong other names → name_cmp name other ≡ Less) → IsBefore name names
before_from name names below = record {
  records = All-intro (λ (r : Record). name_cmp name r.name ≡ Less) names.known
      (λ r within. below r.name (inl (Any-intro (λ (item : Record). item.name ≡ r.name) names.known r within refl)));
  stanzas = All-intro (λ (p : IndexPackage). name_cmp name p.pkg.name ≡ Less) names.ordered
      (λ p within. below p.pkg.name (inr (Any-intro (λ (item : IndexPackage). item.pkg.name ≡ p.pkg.name) names.ordered p within refl)));
}

-- the names are left of others: each is among these, and has what these have of it
abbrev pub AreRest : NameTable → NameTable → Type 0
AreRest names left = (name : List ℕ) → IsAmong name left → IsAmong name names × (part_of left name ≡ part_of names name)

module _ (left : NameTable) (own : OfName) (rest : NameTable) (split : IsSplit left own rest) where
  pub AreRest-split : (names : NameTable) → AreRest names left → AreRest names rest
  AreRest-split names are name among =
      let there = split.behind name among in
      let above = are name there.0 in
      (above.0, there.1 ∙ above.1)

  -- pairs and candidates of names before these, and of the first
  module _ (pairs of_name : List Pair) (candidates candidates_of_name : List Candidate) (before : AreBefore left pairs candidates)
      (named : AreNamed own.name of_name candidates_of_name) where
    pub AreAscending-split : AreAscending pairs candidates → AreAscending of_name candidates_of_name
        → AreAscending (pairs ++ of_name) (candidates ++ candidates_of_name)
    AreAscending-split up own_up = record {
      of_pairs = ascending_append pair_cmp pairs of_name up.of_pairs own_up.of_pairs
          (λ pair other within there.
          let below : name_cmp pair.pkg.name other.pkg.name ≡ Less =
          subst (λ (n : List ℕ). name_cmp pair.pkg.name n ≡ Less) (sym (named.pairs_are other there))
          (before_among pair.pkg.name left (before.pairs_are pair within) own.name split.among) in
          ap (λ (o : Ordering). ordering_then o (version_cmp pair.pkg.version other.pkg.version)) below);
      of_candidates = ascending_append candidate_cmp candidates candidates_of_name up.of_candidates own_up.of_candidates
          (λ one other within there. subst (λ (n : List ℕ). name_cmp one.name n ≡ Less) (sym (named.candidates_are other there))
          (before_among one.name left (before.candidates_are one within) own.name split.among));
    }

    -- what is before these is before those behind the first
    later : (name : List ℕ) → IsBefore name left → IsBefore name rest
    later name below = before_from name rest (λ other among. before_among name left below other (split.behind other among).0)

    pub AreBefore-split : AreBefore rest (pairs ++ of_name) (candidates ++ candidates_of_name)
    AreBefore-split = record {
      pairs_are = λ pair within. elim (Contains-append_cases pairs of_name pair within) [
        | inl long ↦ later pair.pkg.name (before.pairs_are pair long)
        | inr here ↦ subst (λ (n : List ℕ). IsBefore n rest) (sym (named.pairs_are pair here)) split.before
      ];
      candidates_are = λ one within. elim (Contains-append_cases candidates candidates_of_name one within) [
        | inl long ↦ later one.name (before.candidates_are one long)
        | inr here ↦ subst (λ (n : List ℕ). IsBefore n rest) (sym (named.candidates_are one here)) split.before
      ];
    }

  pub AreBehind-split : (inputs : Inputs) (pairs of_name : List Pair) (candidates candidates_of_name : List Candidate)
      → AreBehind inputs left pairs candidates → AreOfName inputs own.name of_name candidates_of_name
      → AreBehind inputs rest (pairs ++ of_name) (candidates ++ candidates_of_name)
  AreBehind-split inputs pairs of_name candidates candidates_of_name behind of = record {
    drawn = record {
      pairs_are = λ pair within. elim (Contains-append_cases pairs of_name pair within) [
        | inl long ↦ behind.drawn.pairs_are pair long
        | inr here ↦ of.drawn.pairs_are pair here
      ];
      candidates_are = λ one within. elim (Contains-append_cases candidates candidates_of_name one within) [
        | inl long ↦ behind.drawn.candidates_are one long
        | inr here ↦ of.drawn.candidates_are one here
      ];
    };
    pairs_covered = λ name version admitted. elim (behind.pairs_covered name version admitted) [
      | inl among ↦ elim (split.either name among) [
        | inl same ↦ inr (Any-append_right (λ (pair : Pair). IsOf name version pair.pkg) pairs of_name
            (subst (λ (n : List ℕ). HasPair n version of_name) (sym same)
            (of.pairs_covered version (subst (λ (n : List ℕ). IsAdmitted inputs n version) same admitted))))
        | inr further ↦ inl further
      ]
      | inr there ↦ inr (Any-append_left (λ (pair : Pair). IsOf name version pair.pkg) pairs of_name there)
    ];
    candidates_covered = λ name version priority top. elim (behind.candidates_covered name version priority top) [
      | inl among ↦ elim (split.either name among) [
        | inl same ↦ inr (Any-append_right (λ (one : Candidate). (one.name ≡ name) × SameVersion one.version version) candidates candidates_of_name
            (subst (λ (n : List ℕ). HasCandidate n version candidates_of_name) (sym same)
            (of.candidates_covered version priority (subst (λ (n : List ℕ). IsCandidate inputs n version priority) same top))))
        | inr further ↦ inl further
      ]
      | inr there ↦ inr (Any-append_left (λ (one : Candidate). (one.name ≡ name) × SameVersion one.version version) candidates candidates_of_name there)
    ];
  }

-- what is of the first name of the rest of names
pub IsOfName-part : (names : NameTable) (own : OfName) → own ≡ part_of names own.name → IsOfName own
IsOfName-part names own same = subst IsOfName (sym same) (record {
  records = λ item within. bytes_eq-true item.name own.name (Contains-filter (is_named own.name) names.known item within).1;
  stanzas = λ item within. bytes_eq-true item.pkg.name own.name (Contains-filter (has_stanza_name own.name) names.ordered item within).1;
})

pub IsGiven-split : (given : Given) (names left : NameTable) (own : OfName) (rest : NameTable) (asked : List Exact) (all : Bool)
    → AreGiven given names asked all → AreRest names left → IsSplit left own rest → IsGiven given own asked all
IsGiven-split given names left own rest asked all of are split =
    let there = are own.name split.among in
    record {
      names = names;
      of = of;
      among = there.0;
      own_is = split.first ∙ there.1;
    }

module _ (given : Given) (prefs : Preferences) (names : NameTable) (distinct : HasDistinctNames given.start)
    (are : AreNames given.start given.indices names) where
  abbrev inputs : Inputs
  inputs = given_inputs given prefs

  record_among : (item : Record) → Contains given.start item → (name : List ℕ) → item.name ≡ name → IsAmong name names
  record_among item within name named = inl (Any-intro (λ (r : Record). r.name ≡ name) names.known item
      (within_known given.start names.known distinct are.known item within) named)

  -- what is available is among the names
  available_among : (name version : List ℕ) → IsSome (counting_package inputs name version) → IsAmong name names
  available_among name version some = at (standing_record given.start name version) refl (index_package given.indices name version) refl some
    where
      at : (r : Option Record) → standing_record given.start name version ≡ r → (l : Option IndexPackage)
          → index_package given.indices name version ≡ l
          → IsSome (option_or (option_map pkg_of r) (option_map (λ (listed : IndexPackage). listed.pkg) l)) → IsAmong name names
      at (Some item) stood l from has =
          let there = standing_record-is given.start name version item stood in
          record_among item there.0 name there.1
      at None none (Some item) from has =
          let there = ordered_found (all_listed given.indices) names.ordered are.ordered name version item from in
          inr (Any-intro (λ (p : IndexPackage). p.pkg.name ≡ name) names.ordered item there.0 there.1.0)
      at None none None from has = absurd (let e : false ≡ true = has in cc)

  offered_among : (name version : List ℕ) → IsOffered inputs name version → IsAmong name names
  unfolding IsOffered
  offered_among name version (inl top) = available_among name version (eligible_counting inputs name version top.0 top.1.eligible)
  offered_among name version (inr (inl asks)) = available_among name version asks.0
  offered_among name version (inr (inr every)) = available_among name version (eligible_counting inputs name version every.1.0 every.1.1)

  admitted_among : (name version : List ℕ) → IsAdmitted inputs name version → IsAmong name names
  unfolding IsAdmitted
  admitted_among name version (inl stood) =
      let from = StandsAs-is given.start name version stood in
      record_among from.0 from.1 name from.2
  admitted_among name version (inr offered) = offered_among name version offered.1

  -- at the start nothing is behind
  pub AreBehind-start : AreBehind inputs names [] []
  AreBehind-start = record {
    drawn = record {
      pairs_are = λ pair within. absurd (Contains-nil pair within);
      candidates_are = λ one within. absurd (Contains-nil one within);
    };
    pairs_covered = λ name version admitted. inl (admitted_among name version admitted);
    candidates_covered = λ name version priority top. inl (available_among name version (eligible_counting inputs name version priority top.eligible));
  }

pub AreAscending-start : AreAscending [] []
unfolding IsStrictlySortedBy
AreAscending-start = record { of_pairs = tt; of_candidates = tt }

pub AreBefore-start : (names : NameTable) → AreBefore names [] []
AreBefore-start names = record {
  pairs_are = λ pair within. absurd (Contains-nil pair within);
  candidates_are = λ one within. absurd (Contains-nil one within);
}

-- where nothing is left no name is
none_among : (left : NameTable) → left.known ≡ [] → left.ordered ≡ [] → (name : List ℕ) → IsAmong name left → ⊥
none_among left no_records no_stanzas name among = elim among [
  | inl some ↦ Any-elim (λ (item : Record). item.name ≡ name) left.known ⊥
      (λ item within is. Contains-nil item (subst (λ (xs : List Record). Contains xs item) no_records within)) some
  | inr some ↦ Any-elim (λ (item : IndexPackage). item.pkg.name ≡ name) left.ordered ⊥
      (λ item within is. Contains-nil item (subst (λ (xs : List IndexPackage). Contains xs item) no_stanzas within)) some
]

-- at the end all are behind
pub AreAdmitted-end : (of : Inputs) (left : NameTable) (pairs : List Pair) (candidates : List Candidate) → left.known ≡ [] → left.ordered ≡ []
    → AreBehind of left pairs candidates → AreAdmitted of pairs candidates
AreAdmitted-end of left pairs candidates no_records no_stanzas behind = record {
  drawn = behind.drawn;
  pairs_covered = λ name version admitted. elim (behind.pairs_covered name version admitted) [
    | inl among ↦ absurd (none_among left no_records no_stanzas name among)
    | inr there ↦ there
  ];
  candidates_covered = λ name version priority top. elim (behind.candidates_covered name version priority top) [
    | inl among ↦ absurd (none_among left no_records no_stanzas name among)
    | inr there ↦ there
  ];
}
