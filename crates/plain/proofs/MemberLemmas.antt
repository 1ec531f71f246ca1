-- The members of a selection: each is the package of a pair, and there is one of a name.
use Rattle.std.proofs.Common.{◌≡◌, ◌≢◌, ℕ, ◌+◌, Bool, true, false, cond, ◌&&◌, List, [], ◌∷◌, ◌⊎◌, Option, Some, None, MatchOption, refl, sym, ap, subst, ◌∙◌, bytes_eq, ◌||◌}
use Rattle.std.specs.Cmp.{tied_itself, Equal-is}
use Rattle.std.specs.Cmp.Lexicographic.{nat_list_cmp_total}
use Rattle.std.specs.List.{All, AllPairs, Contains, find}
use Rattle.std.specs.Option.{option_and_then, option_map, option_or}
use Rattle.std.specs.Ordering.{ordering_then}
use Rattle.std.specs.declared.cmp.Ordering.{Ordering}
use Rattle.std.specs.declared.cmp.Ordering.TheVariants.{Less, Equal}
use Rattle.std.proofs.lemmas.List.Elements.{All-contains}
use Rattle.std.proofs.lemmas.Option.{same_Some}
use Rattle.rules.specs.Available.{Inputs, is_of, same_version, counting_package, index_package, standing_record}
use Rattle.rules.specs.Database.{Record, HasDistinctNames, IsInstalled, HasSoundFlag, Stands, stands, pkg_of}
use Rattle.rules.specs.ElementLaws.{All-intro, Any-intro, Any-elim, Contains-cons, Contains-head, Contains-nil, Contains-rest}
use Rattle.rules.specs.Name.{name_cmp}
use Rattle.rules.specs.NamedLaws.{bytes_eq-true, bytes_eq-same}
use Rattle.rules.specs.Package.{Pkg}
use Rattle.rules.specs.Sound.{HasOneVersionEach, AgreesWith, IsAcceptable, selected, selected_from}
use Rattle.rules.specs.State.{is_unconfigured_state}
use Rattle.rules.specs.Step.{IndexPackage, is_named}
use Rattle.rules.specs.Universe.{Universe, IsUniverse, Pair, StandsAs, listed_of, pair_cmp}
use Rattle.rules.specs.Version.{SameVersion, version_cmp}
use Rattle.rules.specs.VersionOrderLaws.{same_version_equivalence}
use Rattle.rules.proofs.EndLemmas.{both_true}
use Rattle.rules.proofs.Rising.{pairs_head, pairs_tail}
use Rattle.rules.proofs.QuietLemmas.{one_record}
use Rattle.plain.specs.Change.{IsPlainChange, IsToUnpack, Stays}
use Rattle.plain.specs.Counted.{HasItsPackage, HasItsListed}
use Rattle.plain.specs.Laws.{UniverseIsCounted}
use mathlib.Core.Logic.{inl, inr}

-- two elements of a list in order are one, or the one is before the other
either_before : {X : Type 0} (R : X → X → Type 0) (xs : List X) → AllPairs R xs → (x y : X) → Contains xs x → Contains xs y
    → (x ≡ y) ⊎ (R x y ⊎ R y x)
either_before R [] pairs x y within there = absurd (Contains-nil x within)
either_before {X} R (z ∷ zs) pairs x y within there = at (Contains-cons z zs x within) (Contains-cons z zs y there)
    (λ one two. either_before R zs (pairs_tail R z zs pairs) x y one two)
  where
    at : (z ≡ x) ⊎ Contains zs x → (z ≡ y) ⊎ Contains zs y
        → (Contains zs x → Contains zs y → (x ≡ y) ⊎ (R x y ⊎ R y x)) → (x ≡ y) ⊎ (R x y ⊎ R y x)
    at (inl here) (inl also) later = inl (sym here ∙ also)
    at (inl here) (inr behind) later = inr (inl (subst (λ w. R w y) here (All-contains (R z) zs y (pairs_head R z zs pairs) behind)))
    at (inr behind) (inl here) later = inr (inr (subst (λ w. R w x) here (All-contains (R z) zs x (pairs_head R z zs pairs) behind)))
    at (inr behind) (inr further) later = later behind further

-- what a test finds, where one element passes alone, and where none does
find_only : {X : Type 0} (p : X → Bool) (xs : List X) (x : X) → Contains xs x → p x ≡ true
    → ((y : X) → Contains xs y → p y ≡ true → y ≡ x) → find p xs ≡ Some x
find_only p [] x within passes only = absurd (Contains-nil x within)
find_only {X} p (y ∷ ys) x within passes only = at (p y) refl (Contains-cons y ys x within)
    (λ there. find_only p ys x there passes (λ z behind. only z (Contains-rest y ys z behind)))
  where
    at : (b : Bool) → p y ≡ b → (y ≡ x) ⊎ Contains ys x → (Contains ys x → find p ys ≡ Some x)
        → cond b (Some y) (find p ys) ≡ Some x
    at true is either later = ap (λ (z : X). Some z) (only y (Contains-head y ys) is)
    at false is (inl same) later = absurd (let e : true ≡ false = sym passes ∙ ap p (sym same) ∙ is in cc)
    at false is (inr there) later = later there

pub find_nothing : {X : Type 0} (p : X → Bool) (xs : List X) → ((y : X) → Contains xs y → ¬ (p y ≡ true)) → find p xs ≡ None
find_nothing p [] none = refl
find_nothing {X} p (y ∷ ys) none = at (p y) refl (find_nothing p ys (λ z behind. none z (Contains-rest y ys z behind)))
  where
    at : (b : Bool) → p y ≡ b → find p ys ≡ None → cond b (Some y) (find p ys) ≡ None
    at true is later = absurd (none y (Contains-head y ys) is)
    at false is later = later

-- two pairs of one name and version are one
one_pair : (u : Universe) → AllPairs (λ earlier later. pair_cmp earlier later ≡ Less) u.pairs → (pair other : Pair)
    → Contains u.pairs pair → Contains u.pairs other → other.pkg.name ≡ pair.pkg.name
    → SameVersion other.pkg.version pair.pkg.version → other ≡ pair
one_pair u ascending pair other within there names versions =
    elim (either_before (λ (a b : Pair). pair_cmp a b ≡ Less) u.pairs ascending other pair there within) [
      | inl same ↦ same
      | inr (inl below) ↦ absurd (not_below other pair names versions below)
      | inr (inr below) ↦ absurd (not_below pair other (sym names)
          (same_version_equivalence.symmetric other.pkg.version pair.pkg.version versions) below)
    ]
  where
    not_below : (a b : Pair) → a.pkg.name ≡ b.pkg.name → SameVersion a.pkg.version b.pkg.version → ¬ (pair_cmp a b ≡ Less)
    not_below a b alike same below =
        let named : name_cmp a.pkg.name b.pkg.name ≡ Equal = subst (λ n. name_cmp a.pkg.name n ≡ Equal) alike
        (tied_itself nat_list_cmp_total a.pkg.name) in
        let tied : pair_cmp a b ≡ Equal = ap (λ (o : Ordering). ordering_then o (version_cmp a.pkg.version b.pkg.version)) named ∙ same in
        let e : Less ≡ Equal = sym below ∙ tied in absurd (cc)

-- a member is the package of a pair
pub picked_from : (number : ℕ) (selection : ℕ → Bool) (pairs : List Pair) (pkg : Pkg)
    → Contains (selected_from number selection pairs) pkg → (pair : Pair) × Contains pairs pair × (pair.pkg ≡ pkg)
picked_from number selection [] pkg within = absurd (Contains-nil pkg within)
picked_from number selection (pair ∷ rest) pkg within =
    at (selection number) (λ there. picked_from (number + 1) selection rest pkg there) within
  where
    behind : (other : Pair) × Contains rest other × (other.pkg ≡ pkg)
        → (other : Pair) × Contains (pair ∷ rest) other × (other.pkg ≡ pkg)
    behind later_pair = (later_pair.0, Contains-rest pair rest later_pair.0 later_pair.1, later_pair.2)

    at : (b : Bool)
        → (Contains (selected_from (number + 1) selection rest) pkg → (other : Pair) × Contains rest other × (other.pkg ≡ pkg))
        → Contains (cond b (pair.pkg ∷ selected_from (number + 1) selection rest) (selected_from (number + 1) selection rest)) pkg
        → (other : Pair) × Contains (pair ∷ rest) other × (other.pkg ≡ pkg)
    at false later there = behind (later there)
    at true later there = elim (Contains-cons pair.pkg (selected_from (number + 1) selection rest) pkg there) [
      | inl same ↦ (pair, Contains-head pair rest, same)
      | inr further ↦ behind (later further)
    ]

pub picked : (u : Universe) (selection : ℕ → Bool) (pkg : Pkg) → Contains (selected u selection) pkg
    → (pair : Pair) × Contains u.pairs pair × (pair.pkg ≡ pkg)
unfolding selected
picked u selection pkg within = picked_from 1 selection u.pairs pkg within

-- an installed record with flag ok stands
pub installed_stands : (entry : Record) → IsInstalled entry → HasSoundFlag entry → Stands entry
installed_stands entry is sound = rw (is, sound) (or_true (is_unconfigured_state entry.state))
  where
    or_true : (b : Bool) → ((b || true) && true) ≡ true
    or_true true = refl
    or_true false = refl

module _ (u : Universe) (start : List Record) (selection : ℕ → Bool) (change : IsPlainChange u start selection) where
  -- two members of one name are one
  pub one_member : (pkg other : Pkg) → Contains (selected u selection) pkg → Contains (selected u selection) other
      → other.name ≡ pkg.name → other ≡ pkg
  unfolding IsAcceptable HasOneVersionEach AgreesWith
  one_member pkg other within there names =
      let mine = picked u selection pkg within in
      let their = picked u selection other there in
      let alike : SameVersion other.version pkg.version = All-contains (AgreesWith other) (selected u selection) pkg
      (All-contains (λ m. All (AgreesWith m) (selected u selection)) (selected u selection) other change.acceptable.one_version there) within (sym names) in
      let same : their.0 ≡ mine.0 = one_pair u change.counted.ascending mine.0 their.0 mine.1 their.1
      (ap (λ (p : Pkg). p.name) their.2 ∙ names ∙ sym (ap (λ (p : Pkg). p.name) mine.2))
      (subst (λ (p : Pkg). SameVersion p.version mine.0.pkg.version) (sym their.2)
      (subst (λ (p : Pkg). SameVersion other.version p.version) (sym mine.2) alike)) in
      sym their.2 ∙ ap (λ (p : Pair). p.pkg) same ∙ mine.2

  -- the record of a member's version that stands at the start has the member's package
  pub standing_package : (pkg : Pkg) → Contains (selected u selection) pkg → (entry : Record) → Contains start entry
      → entry.name ≡ pkg.name → Stands entry → SameVersion entry.version pkg.version → pkg_of entry ≡ pkg
  standing_package pkg within entry there named stands same =
      let mine = picked u selection pkg within in
      let has : HasItsPackage mine.0 entry = All-contains (HasItsPackage mine.0) start entry
      (All-contains (λ (pair : Pair). All (HasItsPackage pair) start) u.pairs mine.0 change.counted.standing mine.1) there in
      has (named ∙ sym (ap (λ (p : Pkg). p.name) mine.2)) stands
      (subst (λ (p : Pkg). SameVersion entry.version p.version) (sym mine.2) same) ∙ mine.2

  -- the record of a member that stands at the start
  pub standing_record_of : (pkg : Pkg) → Contains (selected u selection) pkg → StandsAs start pkg.name pkg.version
      → (entry : Record) × Contains start entry × Stands entry × (pkg_of entry ≡ pkg)
  unfolding StandsAs
  standing_record_of pkg within stands = Any-elim (λ (r : Record). (r.name ≡ pkg.name) × (Stands r × SameVersion r.version pkg.version)) start
      ((entry : Record) × Contains start entry × Stands entry × (pkg_of entry ≡ pkg))
      (λ entry there is. (entry, there, is.1.0, standing_package pkg within entry there is.0 is.1.0 is.1.1)) stands

  -- the record of a member that stays
  pub staying_record_of : (pkg : Pkg) → Contains (selected u selection) pkg → Stays start pkg
      → (entry : Record) × Contains start entry × IsInstalled entry × HasSoundFlag entry × (pkg_of entry ≡ pkg)
  unfolding Stays
  staying_record_of pkg within stays = Any-elim
      (λ (r : Record). (r.name ≡ pkg.name) × (IsInstalled r × HasSoundFlag r × SameVersion r.version pkg.version)) start
      ((entry : Record) × Contains start entry × IsInstalled entry × HasSoundFlag entry × (pkg_of entry ≡ pkg))
      (λ entry there is. (
        entry,
        there,
        is.1.0,
        is.1.1,
        standing_package pkg within entry there is.0 (installed_stands entry is.1.0 is.1.1) is.1.2,
      )) stays

  -- what stays stands
  pub staying_stands : (pkg : Pkg) → Contains (selected u selection) pkg → Stays start pkg → StandsAs start pkg.name pkg.version
  unfolding StandsAs
  staying_stands pkg within stays =
      let entry = staying_record_of pkg within stays in
      Any-intro (λ (r : Record). (r.name ≡ pkg.name) × (Stands r × SameVersion r.version pkg.version)) start entry.0 entry.1 (
        ap (λ (p : Pkg). p.name) entry.4,
        (
          installed_stands entry.0 entry.2 entry.3,
          subst (λ (p : Pkg). SameVersion entry.0.version p.version) entry.4 (same_version_equivalence.reflexive entry.0.version),
        ),
      )

  -- a member whose version stands at the start isn't of a name to be unpacked
  pub not_to_unpack : (pkg : Pkg) → Contains (selected u selection) pkg → StandsAs start pkg.name pkg.version
      → (other : Pkg) → IsToUnpack start (selected u selection) other → other.name ≢ pkg.name
  not_to_unpack pkg within stands other unpack same =
      unpack.1 (subst (λ (p : Pkg). StandsAs start p.name p.version) (sym (one_member pkg other within unpack.0 same)) stands)

  -- what is to be unpacked is in the indices
  pub listed_package : (pkg : Pkg) → IsToUnpack start (selected u selection) pkg
      → (listed : IndexPackage) × (listed_of u pkg.name pkg.version ≡ Some listed) × (listed.pkg ≡ pkg)
  listed_package pkg unpack = at mine.0.listed refl
      (All-contains (HasItsListed start) u.pairs mine.0 change.counted.listed mine.1
      (λ stands. unpack.1 (subst (λ (p : Pkg). StandsAs start p.name p.version) mine.2 stands)))
    where
      mine : (pair : Pair) × Contains u.pairs pair × (pair.pkg ≡ pkg)
      mine = picked u selection pkg unpack.0

      passes : is_of pkg.name pkg.version mine.0.pkg ≡ true
      passes = subst (λ (p : Pkg). is_of p.name p.version mine.0.pkg ≡ true) mine.2
          (rw (bytes_eq-same mine.0.pkg.name mine.0.pkg.name refl)
          ((Equal-is (version_cmp mine.0.pkg.version mine.0.pkg.version)).1 (same_version_equivalence.reflexive mine.0.pkg.version)))

      only : (other : Pair) → Contains u.pairs other → is_of pkg.name pkg.version other.pkg ≡ true → other ≡ mine.0
      only other there is =
          let both = both_true (bytes_eq other.pkg.name pkg.name) (same_version other.pkg.version pkg.version) is in
          one_pair u change.counted.ascending mine.0 other mine.1 there
          (bytes_eq-true other.pkg.name pkg.name both.0 ∙ sym (ap (λ (p : Pkg). p.name) mine.2))
          (subst (λ (p : Pkg). SameVersion other.pkg.version p.version) (sym mine.2)
          ((Equal-is (version_cmp other.pkg.version pkg.version)).0 both.1))

      is_listed : listed_of u pkg.name pkg.version ≡ mine.0.listed
      is_listed = ap (λ (o : Option Pair). option_and_then (λ (p : Pair). p.listed) o)
          (find_only (λ (p : Pair). is_of pkg.name pkg.version p.pkg) u.pairs mine.0 mine.1 passes only)

      at : (listed : Option IndexPackage) → mine.0.listed ≡ listed → MatchOption mine.0.listed ⊥ (λ (l : IndexPackage). l.pkg ≡ mine.0.pkg)
          → (listed : IndexPackage) × (listed_of u pkg.name pkg.version ≡ Some listed) × (listed.pkg ≡ pkg)
      at None is has = absurd (subst (λ (o : Option IndexPackage). MatchOption o ⊥ (λ (l : IndexPackage). l.pkg ≡ mine.0.pkg)) is has)
      at (Some listed) is has = (
        listed,
        is_listed ∙ is,
        subst (λ (o : Option IndexPackage). MatchOption o ⊥ (λ (l : IndexPackage). l.pkg ≡ mine.0.pkg)) is has ∙ mine.2,
      )

module _ (inputs : Inputs) (u : Universe) (distinct : HasDistinctNames inputs.start) (is : IsUniverse inputs u) where
  -- the pair's package is the counting one
  counts : (pair : Pair) → Contains u.pairs pair
      → counting_package inputs pair.pkg.name pair.pkg.version ≡ Some pair.pkg
  counts pair within = All-contains (λ (p : Pair). counting_package inputs p.pkg.name p.pkg.version ≡ Some p.pkg) u.pairs pair is.counting within

  -- the test of the record that stands in a version
  abbrev is_it : Pair → Record → Bool
  is_it pair entry = is_named pair.pkg.name entry && stands entry && same_version entry.version pair.pkg.version

  it_is : (pair : Pair) (entry : Record) → is_it pair entry ≡ true
      → (entry.name ≡ pair.pkg.name) × Stands entry × SameVersion entry.version pair.pkg.version
  it_is pair entry passes =
      let one = both_true (is_named pair.pkg.name entry && stands entry) (same_version entry.version pair.pkg.version) passes in
      let two = both_true (is_named pair.pkg.name entry) (stands entry) one.0 in
      (bytes_eq-true entry.name pair.pkg.name two.0, two.1, (Equal-is (version_cmp entry.version pair.pkg.version)).0 one.1)

  it_passes : (pair : Pair) (entry : Record) → entry.name ≡ pair.pkg.name → Stands entry
      → SameVersion entry.version pair.pkg.version → is_it pair entry ≡ true
  it_passes pair entry named stands same =
      rw (bytes_eq-same entry.name pair.pkg.name named, stands) ((Equal-is (version_cmp entry.version pair.pkg.version)).1 same)

  standing_counts : (pair : Pair) → Contains u.pairs pair → (entry : Record) → Contains inputs.start entry
      → HasItsPackage pair entry
  standing_counts pair within entry there named stands same =
      let here : standing_record inputs.start pair.pkg.name pair.pkg.version ≡ Some entry =
      find_only (is_it pair) inputs.start entry there (it_passes pair entry named stands same)
      (λ other also passes. one_record inputs.start distinct entry other there also ((it_is pair other passes).0 ∙ sym named)) in
      let e : counting_package inputs pair.pkg.name pair.pkg.version ≡ Some (pkg_of entry) =
      ap (λ (r : Option Record). option_or (option_map pkg_of r)
      (option_map (λ (l : IndexPackage). l.pkg) (index_package inputs.indices pair.pkg.name pair.pkg.version))) here in
      same_Some (pkg_of entry) pair.pkg (sym e ∙ counts pair within)

  listed_counts : (pair : Pair) → Contains u.pairs pair → HasItsListed inputs.start pair
  unfolding StandsAs
  listed_counts pair within none = at pair.listed
      (All-contains (λ (p : Pair). index_package inputs.indices p.pkg.name p.pkg.version ≡ p.listed) u.pairs pair is.listed within)
    where
      nothing : standing_record inputs.start pair.pkg.name pair.pkg.version ≡ None
      nothing = find_nothing (is_it pair) inputs.start (λ entry there passes.
          let it = it_is pair entry passes in
          none (Any-intro (λ (r : Record). (r.name ≡ pair.pkg.name) × (Stands r × SameVersion r.version pair.pkg.version)) inputs.start entry there
          (it.0, (it.1, it.2))))

      by_index : option_map (λ (l : IndexPackage). l.pkg) (index_package inputs.indices pair.pkg.name pair.pkg.version) ≡ Some pair.pkg
      by_index = sym (ap (λ (r : Option Record). option_or (option_map pkg_of r)
          (option_map (λ (l : IndexPackage). l.pkg) (index_package inputs.indices pair.pkg.name pair.pkg.version))) nothing) ∙ counts pair within

      at : (listed : Option IndexPackage) → index_package inputs.indices pair.pkg.name pair.pkg.version ≡ listed
          → MatchOption listed ⊥ (λ (l : IndexPackage). l.pkg ≡ pair.pkg)
      at None same = absurd (let e : None ≡ Some pair.pkg = sym (ap (λ (o : Option IndexPackage). option_map (λ (l : IndexPackage). l.pkg) o) same) ∙ by_index in cc)
      at (Some listed) same = same_Some listed.pkg pair.pkg
          (sym (ap (λ (o : Option IndexPackage). option_map (λ (l : IndexPackage). l.pkg) o) same) ∙ by_index)

pub universe_is_counted : UniverseIsCounted
universe_is_counted inputs u distinct is = record {
  ascending = is.ascending;
  standing = All-intro (λ (pair : Pair). All (HasItsPackage pair) inputs.start) u.pairs (λ pair within.
      All-intro (HasItsPackage pair) inputs.start (λ entry there. standing_counts inputs u distinct is pair within entry there));
  listed = All-intro (HasItsListed inputs.start) u.pairs (λ pair within. listed_counts inputs u distinct is pair within);
}
