-- The names split behind the least of them: what has the name, and what is left.
use Rattle.std.proofs.Common.{◌≡◌, ◌≢◌, ℕ, ◌+◌, ◌<◌, ◌≤◌, Bool, true, false, cond, not, List, [], ◌∷◌, length, take, drop, Option, Some, None, ◌⊎◌, refl, sym, ap, subst, ◌∙◌, arith, bytes_eq}
use Rattle.std.specs.Cmp.{on_total, tied_itself}
use Rattle.std.specs.Cmp.Lexicographic.{nat_list_cmp_total}
use Rattle.std.specs.List.{All, Any, Contains, filter, prefix_len}
use Rattle.std.specs.List.Sorted.{IsSorted, IsStrictlySortedBy}
use Rattle.std.specs.Ordering.{is_lt, on, ordering_reverse}
use Rattle.std.specs.declared.cmp.Ordering.TheVariants.{Less, Equal}
use Rattle.std.proofs.lemmas.List.Elements.{All-contains}
use Rattle.std.proofs.lemmas.List.Kept.{IsSortedBy-filter, IsStrictlySortedBy-filter}
use Rattle.std.proofs.lemmas.List.Sorted.{ranks_by}
use Rattle.std.proofs.lemmas.Option.{same_Some}
use Rattle.rules.specs.Available.{Index, is_of}
use Rattle.rules.specs.Database.{Record}
use Rattle.rules.specs.ElementLaws.{All-intro, Any-elim, Any-intro, Contains-cons, Contains-filter, Contains-filter_intro, Contains-head, Contains-map_intro, Contains-nil}
use Rattle.rules.specs.Name.{name_cmp}
use Rattle.rules.specs.NamedLaws.{bytes_eq-same, bytes_eq-true}
use Rattle.rules.specs.Step.{IndexPackage, is_named}
use Rattle.rules.specs.Version.{version_cmp}
use Rattle.universe_parts.specs.FindLaws.{not_back}
use Rattle.universe_parts.specs.PairLaws.{is_of-parts, of_itself}
use Rattle.candidates.specs.Least.{least_of, lesser}
use Rattle.candidates.specs.Names.{AreNames, InOrder, IsAmong, IsBefore, IsSplit, NameTable, OfName, part_of}
use Rattle.candidates.specs.Place.{AreSorted, Place, has_place_name, place_cmp, places_of, stanzas_of}
use Rattle.candidates.specs.Recorded.{IsByName, record_cmp}
use Rattle.candidates.specs.RecordedLaws.{record_cmp_total}
use Rattle.candidates.specs.Stanza.{IsOrdered, has_stanza_name, listed_cmp}
use Rattle.candidates.specs.StanzaLaws.{listed_cmp_total, place_cmp_total}
use Rattle.candidates.proofs.Filtered.{filter-decided, filter-within, find-decided}
use Rattle.candidates.proofs.Given.{IsOrdered-given}
use Rattle.candidates.proofs.NameParts.{by_name_first, is_behind, not_less_then, not_lower, parts}
use Rattle.candidates.proofs.Ordered.{ordered_stanza}
use Rattle.candidates.proofs.Runs.{not_below_first}
use mathlib.Core.Logic.{inl, inr}

-- what has names of a kind: the records, the places and the stanzas
abbrev pub kept_records : (List ℕ → Bool) → List Record → List Record
kept_records test known = filter (λ item. test item.name) known

abbrev pub kept_places : (List ℕ → Bool) → List Place → List Place
kept_places test places = filter (λ place. test place.listed.pkg.name) places

abbrev pub kept_stanzas : (List ℕ → Bool) → List IndexPackage → List IndexPackage
kept_stanzas test listed = filter (λ item. test item.pkg.name) listed

-- the stanzas of the places that have names of a kind
stanzas_of-kept : (test : List ℕ → Bool) (places : List Place) → stanzas_of (kept_places test places) ≡ kept_stanzas test (stanzas_of places)
stanzas_of-kept test [] = refl
stanzas_of-kept test (place ∷ places) = at (test place.listed.pkg.name) (stanzas_of-kept test places)
  where
    at : (b : Bool) → stanzas_of (kept_places test places) ≡ kept_stanzas test (stanzas_of places)
        → stanzas_of (cond b (place ∷ kept_places test places) (kept_places test places))
        ≡ cond b (place.listed ∷ kept_stanzas test (stanzas_of places)) (kept_stanzas test (stanzas_of places))
    at true rest = ap (λ (xs : List IndexPackage). place.listed ∷ xs) rest
    at false rest = rest

-- the earliest stanzas that have names of a kind
IsOrdered-kept : (test : List ℕ → Bool) (listed ordered : List IndexPackage) → IsOrdered listed ordered
    → IsOrdered (kept_stanzas test listed) (kept_stanzas test ordered)
IsOrdered-kept test listed ordered is = record {
  ascending = IsStrictlySortedBy-filter listed_cmp (λ item. test item.pkg.name) ordered is.ascending;
  earliest = λ name version.
      let p : IndexPackage → Bool = λ item. is_of name version item.pkg in
      let q : IndexPackage → Bool = λ item. test item.pkg.name in
      let same : (item : IndexPackage) → p item ≡ true → q item ≡ test name =
      λ item passes. ap test (is_of-parts name version item.pkg passes).0 in
      find-decided p q (test name) same ordered
      ∙ ap (λ (o : Option IndexPackage). cond (test name) o None) (is.earliest name version)
      ∙ sym (find-decided p q (test name) same listed);
}

-- places in order that have names of a kind
sorted_kept : (test : List ℕ → Bool) (places : List Place) → IsSorted place_cmp places → IsSorted place_cmp (kept_places test places)
sorted_kept test places up = IsSortedBy-filter (λ x y. is_lt (place_cmp x y)) (ranks_by place_cmp_total (λ place. place))
    (λ place. test place.listed.pkg.name) places up

-- what has names of a kind is in order
pub InOrder-kept : (test : List ℕ → Bool) (known : List Record) (places : List Place) (ordered : List IndexPackage)
    → InOrder known places ordered → InOrder (kept_records test known) (kept_places test places) (kept_stanzas test ordered)
InOrder-kept test known places ordered are = record {
  records = IsStrictlySortedBy-filter record_cmp (λ item. test item.name) known are.records;
  stanzas = sorted_kept test places are.stanzas;
  earliest = subst (λ (listed : List IndexPackage). IsOrdered listed (kept_stanzas test ordered)) (sym (stanzas_of-kept test places))
      (IsOrdered-kept test (stanzas_of places) ordered are.earliest);
}

-- records, places and stanzas in order ascend by name
pub records_ascend : (known : List Record) → IsStrictlySortedBy record_cmp known → IsSorted (on (λ (item : Record). item.name) name_cmp) known
records_ascend known up = not_back record_cmp record_cmp_total.antisymm known up

pub places_ascend : (places : List Place) → IsSorted place_cmp places
    → IsSorted (on (λ (place : Place). place.listed.pkg.name) name_cmp) places
places_ascend places up = by_name_first (λ (place : Place). place.listed.pkg.name)
    (λ place other. version_cmp place.listed.pkg.version other.listed.pkg.version) places up

pub stanzas_ascend : (ordered : List IndexPackage) → IsStrictlySortedBy listed_cmp ordered
    → IsSorted (on (λ (item : IndexPackage). item.pkg.name) name_cmp) ordered
stanzas_ascend ordered up = by_name_first (λ (item : IndexPackage). item.pkg.name)
    (λ item other. version_cmp item.pkg.version other.pkg.version) ordered (not_back listed_cmp listed_cmp_total.antisymm ordered up)

-- what is at the front with the least name is all that has it, and the others follow
pub record_parts : (known : List Record) (name : List ℕ) → IsStrictlySortedBy record_cmp known
    → All (λ item. name_cmp item.name name ≢ Less) known
    → (take (prefix_len (is_named name) known) known ≡ filter (is_named name) known)
    × (drop (prefix_len (is_named name) known) known ≡ filter (λ item. not (is_named name item)) known)
record_parts known name up least = parts (λ (item : Record). item.name) name known (records_ascend known up)
    (λ item within. All-contains (λ (r : Record). name_cmp r.name name ≢ Less) known item least within)

pub place_parts : (places : List Place) (name : List ℕ) → IsSorted place_cmp places
    → All (λ place. name_cmp place.listed.pkg.name name ≢ Less) places
    → (take (prefix_len (has_place_name name) places) places ≡ filter (has_place_name name) places)
    × (drop (prefix_len (has_place_name name) places) places ≡ filter (λ place. not (has_place_name name place)) places)
place_parts places name up least = parts (λ (place : Place). place.listed.pkg.name) name places (places_ascend places up)
    (λ place within. All-contains (λ (p : Place). name_cmp p.listed.pkg.name name ≢ Less) places place least within)

pub stanza_parts : (ordered : List IndexPackage) (name : List ℕ) → IsStrictlySortedBy listed_cmp ordered
    → All (λ item. name_cmp item.pkg.name name ≢ Less) ordered
    → (take (prefix_len (has_stanza_name name) ordered) ordered ≡ filter (has_stanza_name name) ordered)
    × (drop (prefix_len (has_stanza_name name) ordered) ordered ≡ filter (λ item. not (has_stanza_name name item)) ordered)
stanza_parts ordered name up least = parts (λ (item : IndexPackage). item.pkg.name) name ordered (stanzas_ascend ordered up)
    (λ item within. All-contains (λ (l : IndexPackage). name_cmp l.pkg.name name ≢ Less) ordered item least within)

-- it is a name among these, and none of them is before it
pub record IsLeast (name : List ℕ) (names : NameTable) : Type 0 where
  pub among : IsAmong name names
  pub records : All (λ item. name_cmp item.name name ≢ Less) names.known
  pub stanzas : All (λ item. name_cmp item.pkg.name name ≢ Less) names.ordered

-- where no stanza in order is before the name, no place is
pub least_place : (places : List Place) (ordered : List IndexPackage) → IsOrdered (stanzas_of places) ordered → (name : List ℕ)
    → All (λ item. name_cmp item.pkg.name name ≢ Less) ordered → All (λ place. name_cmp place.listed.pkg.name name ≢ Less) places
least_place places ordered is name least = All-intro (λ (place : Place). name_cmp place.listed.pkg.name name ≢ Less) places
    (λ place within below.
    let there = ordered_stanza (stanzas_of places) ordered is place.listed (Contains-map_intro (λ (p : Place). p.listed) places place within)
    place.listed.pkg.name place.listed.pkg.version (of_itself place.listed.pkg) in
    All-contains (λ (item : IndexPackage). name_cmp item.pkg.name name ≢ Less) ordered there.0 least there.1
    (ap (λ (n : List ℕ). name_cmp n name) there.2.0 ∙ below))

-- no name is before itself
not_itself : (name : List ℕ) → name_cmp name name ≢ Less
not_itself name below = let e : Equal ≡ Less = sym (tied_itself nat_list_cmp_total name) ∙ below in cc

-- neither of two names is before the lesser one
not_before_lesser : (name other : List ℕ) (b : Bool) → is_lt (name_cmp other name) ≡ b
    → (name_cmp name (cond b other name) ≢ Less) × (name_cmp other (cond b other name) ≢ Less)
not_before_lesser name other true below = (
  λ before.
      let turned : is_lt (name_cmp other name) ≡ false = ap is_lt (nat_list_cmp_total.antisymm other name ∙ ap ordering_reverse before) in
      let e : true ≡ false = sym below ∙ turned in cc,
  not_itself other,
)
not_before_lesser name other false not_below = (not_itself name, not_lower (name_cmp other name) not_below)

-- the lesser of two names is one of them
lesser_either : (name other : List ℕ) (b : Bool) → (name ≡ cond b other name) ⊎ (other ≡ cond b other name)
lesser_either name other true = inr refl
lesser_either name other false = inl refl

-- none of a list in order is before a name that the first isn't before
none_before : {X : Type 0} (key : X → List ℕ) (name : List ℕ) (first : X) (rest : List X) → IsSorted (on key name_cmp) (first ∷ rest)
    → name_cmp (key first) name ≢ Less → All (λ x. name_cmp (key x) name ≢ Less) (first ∷ rest)
none_before {X} key name first rest up not_less = All-intro (λ (x : X). name_cmp (key x) name ≢ Less) (first ∷ rest)
    (λ x within. not_less_then nat_list_cmp_total name (key first) (key x)
    (not_lower (name_cmp (key x) (key first)) (not_below_first (on_total key nat_list_cmp_total) first rest up x within)) not_less)

-- what holds of all of none
of_none : {X : Type 0} (P : X → Type 0) → All P []
of_none P = All-intro P [] (λ x within. absurd (Contains-nil x within))

module _ (places : List Place) where
  -- these names
  abbrev these : List Record → List IndexPackage → NameTable
  these known ordered = record { known = known; places = places; ordered = ordered }

  -- the first record has a name among these, and so has the first stanza
  first_record : (first : Record) (known : List Record) (ordered : List IndexPackage) (name : List ℕ) → first.name ≡ name
      → IsAmong name (these (first ∷ known) ordered)
  first_record first known ordered name same =
      inl (Any-intro (λ (item : Record). item.name ≡ name) (first ∷ known) first (Contains-head first known) same)

  first_stanza : (known : List Record) (first : IndexPackage) (ordered : List IndexPackage) (name : List ℕ) → first.pkg.name ≡ name
      → IsAmong name (these known (first ∷ ordered))
  first_stanza known first ordered name same =
      inr (Any-intro (λ (item : IndexPackage). item.pkg.name ≡ name) (first ∷ ordered) first (Contains-head first ordered) same)

  records_from : (first : Record) (known : List Record) → IsStrictlySortedBy record_cmp (first ∷ known) → (name : List ℕ)
      → name_cmp first.name name ≢ Less → All (λ item. name_cmp item.name name ≢ Less) (first ∷ known)
  records_from first known up name not_less =
      none_before (λ (item : Record). item.name) name first known (records_ascend (first ∷ known) up) not_less

  stanzas_from : (first : IndexPackage) (ordered : List IndexPackage) → IsStrictlySortedBy listed_cmp (first ∷ ordered) → (name : List ℕ)
      → name_cmp first.pkg.name name ≢ Less → All (λ item. name_cmp item.pkg.name name ≢ Less) (first ∷ ordered)
  stanzas_from first ordered up name not_less =
      none_before (λ (item : IndexPackage). item.pkg.name) name first ordered (stanzas_ascend (first ∷ ordered) up) not_less

  -- the lesser of the first names is the least
  IsLeast-from : (known : List Record) (ordered : List IndexPackage) → IsStrictlySortedBy record_cmp known
      → IsStrictlySortedBy listed_cmp ordered → (name : List ℕ) → least_of known ordered ≡ Some name → IsLeast name (these known ordered)
  IsLeast-from [] [] up up' name is = absurd (let e : None ≡ Some name = is in cc)
  IsLeast-from (first ∷ known) [] up up' name is = subst (λ (n : List ℕ). IsLeast n (these (first ∷ known) [])) (same_Some first.name name is) (record {
    among = first_record first known [] first.name refl;
    records = records_from first known up first.name (not_itself first.name);
    stanzas = of_none (λ (item : IndexPackage). name_cmp item.pkg.name first.name ≢ Less);
  })
  IsLeast-from [] (item ∷ ordered) up up' name is =
      subst (λ (n : List ℕ). IsLeast n (these [] (item ∷ ordered))) (same_Some item.pkg.name name is) (record {
        among = first_stanza [] item ordered item.pkg.name refl;
        records = of_none (λ (first : Record). name_cmp first.name item.pkg.name ≢ Less);
        stanzas = stanzas_from item ordered up' item.pkg.name (not_itself item.pkg.name);
      })
  IsLeast-from (first ∷ known) (item ∷ ordered) up up' name is =
      let least : List ℕ = lesser first.name item.pkg.name in
      let neither = not_before_lesser first.name item.pkg.name (is_lt (name_cmp item.pkg.name first.name)) refl in
      subst (λ (n : List ℕ). IsLeast n (these (first ∷ known) (item ∷ ordered))) (same_Some least name is) (record {
        among = elim (lesser_either first.name item.pkg.name (is_lt (name_cmp item.pkg.name first.name))) [
          | inl same ↦ first_record first known (item ∷ ordered) least same
          | inr same ↦ first_stanza (first ∷ known) item ordered least same
        ];
        records = records_from first known up least neither.0;
        stanzas = stanzas_from item ordered up' least neither.1;
      })

pub least_is : (known : List Record) (places : List Place) (ordered : List IndexPackage) → InOrder known places ordered → (name : List ℕ)
    → least_of known ordered ≡ Some name → IsLeast name (record { known = known; places = places; ordered = ordered })
least_is known places ordered are name is = IsLeast-from places known ordered are.records are.earliest.ascending name is

-- a list is no shorter than what is kept of it, and longer where one isn't kept
kept_no_longer : {X : Type 0} (p : X → Bool) (xs : List X) → length (filter p xs) ≤ length xs
kept_no_longer p [] = omega arith
kept_no_longer {X} p (x ∷ xs) = at (p x) (kept_no_longer p xs)
  where
    at : (b : Bool) → length (filter p xs) ≤ length xs → length (cond b (x ∷ filter p xs) (filter p xs)) ≤ length (x ∷ xs)
    at true rest = omega (arith, rest)
    at false rest = omega (arith, rest)

kept_shorter : {X : Type 0} (p : X → Bool) (xs : List X) (y : X) → Contains xs y → p y ≡ false → length (filter p xs) < length xs
kept_shorter p [] y within fails = absurd (Contains-nil y within)
kept_shorter {X} p (x ∷ xs) y within fails = at (p x) refl (λ later. kept_shorter p xs y later fails)
  where
    at : (b : Bool) → p x ≡ b → (Contains xs y → length (filter p xs) < length xs)
        → length (cond b (x ∷ filter p xs) (filter p xs)) < length (x ∷ xs)
    at false here rest = let no_longer = kept_no_longer p xs in omega (arith, no_longer)
    at true here rest = elim (Contains-cons x xs y within) [
      | inl same ↦ absurd (let e : true ≡ false = sym here ∙ ap p same ∙ fails in cc)
      | inr later ↦ let shorter = rest later in omega (arith, shorter)
    ]

-- the tests of a name and of the other names
abbrev pub this : List ℕ → List ℕ → Bool
this name other = bytes_eq other name

abbrev pub other_than : List ℕ → List ℕ → Bool
other_than name other = not (bytes_eq other name)

-- one name is not another
other_name : (name other : List ℕ) → other_than name other ≡ true → bytes_eq other name ≡ false
other_name name other passes = at (bytes_eq other name) passes
  where
    at : (b : Bool) → not b ≡ true → b ≡ false
    at false passes = refl
    at true passes = absurd (let e : false ≡ true = passes in cc)

-- what is left behind a name
abbrev pub rest_of : NameTable → List ℕ → NameTable
rest_of names name = record {
  known = kept_records (other_than name) names.known;
  places = kept_places (other_than name) names.places;
  ordered = kept_stanzas (other_than name) names.ordered;
}

-- what there is of a name
abbrev pub own_of : List ℕ → List Record → List Place → List IndexPackage → OfName
own_of name known places ordered = record { name = name; known = known; places = places; ordered = ordered }

module _ (names : NameTable) (name : List ℕ) (least : IsLeast name names) where
  abbrev rest : NameTable
  rest = rest_of names name

  -- all that is left is behind the name
  before : IsBefore name rest
  before = record {
    records = All-intro (λ (item : Record). name_cmp name item.name ≡ Less) rest.known (λ item within.
        let there = Contains-filter (λ (r : Record). other_than name r.name) names.known item within in
        is_behind (λ (r : Record). r.name) name item
        (All-contains (λ (r : Record). name_cmp r.name name ≢ Less) names.known item least.records there.0)
        (other_name name item.name there.1));
    stanzas = All-intro (λ (item : IndexPackage). name_cmp name item.pkg.name ≡ Less) rest.ordered (λ item within.
        let there = Contains-filter (λ (l : IndexPackage). other_than name l.pkg.name) names.ordered item within in
        is_behind (λ (l : IndexPackage). l.pkg.name) name item
        (All-contains (λ (l : IndexPackage). name_cmp l.pkg.name name ≢ Less) names.ordered item least.stanzas there.0)
        (other_name name item.pkg.name there.1));
  }

  -- another name among these is left
  left : (other : List ℕ) → bytes_eq other name ≡ false → IsAmong other names → IsAmong other rest
  left other apart (inl some) = inl (Any-elim (λ (item : Record). item.name ≡ other) names.known
      (Any (λ (item : Record). item.name ≡ other) rest.known)
      (λ item within is. Any-intro (λ (r : Record). r.name ≡ other) rest.known item
      (Contains-filter_intro (λ (r : Record). other_than name r.name) names.known item within
      (ap (other_than name) is ∙ ap not apart)) is) some)
  left other apart (inr some) = inr (Any-elim (λ (item : IndexPackage). item.pkg.name ≡ other) names.ordered
      (Any (λ (item : IndexPackage). item.pkg.name ≡ other) rest.ordered)
      (λ item within is. Any-intro (λ (l : IndexPackage). l.pkg.name ≡ other) rest.ordered item
      (Contains-filter_intro (λ (l : IndexPackage). other_than name l.pkg.name) names.ordered item within
      (ap (other_than name) is ∙ ap not apart)) is) some)

  either : (other : List ℕ) → IsAmong other names → (other ≡ name) ⊎ IsAmong other rest
  either other among = at (bytes_eq other name) refl
    where
      at : (b : Bool) → bytes_eq other name ≡ b → (other ≡ name) ⊎ IsAmong other rest
      at true same = inl (bytes_eq-true other name same)
      at false apart = inr (left other apart among)

  -- a name that is left is among these, and another
  of_these : (other : List ℕ) → IsAmong other rest → IsAmong other names × (other_than name other ≡ true)
  of_these other (inl some) = Any-elim (λ (item : Record). item.name ≡ other) rest.known
      (IsAmong other names × (other_than name other ≡ true))
      (λ item within is.
      let there = Contains-filter (λ (r : Record). other_than name r.name) names.known item within in (
        inl (Any-intro (λ (r : Record). r.name ≡ other) names.known item there.0 is),
        ap (other_than name) (sym is) ∙ there.1,
      )) some
  of_these other (inr some) = Any-elim (λ (item : IndexPackage). item.pkg.name ≡ other) rest.ordered
      (IsAmong other names × (other_than name other ≡ true))
      (λ item within is.
      let there = Contains-filter (λ (l : IndexPackage). other_than name l.pkg.name) names.ordered item within in (
        inr (Any-intro (λ (l : IndexPackage). l.pkg.name ≡ other) names.ordered item there.0 is),
        ap (other_than name) (sym is) ∙ there.1,
      )) some

  -- what has the name is left of what has another
  has_other : (other held : List ℕ) → other_than name other ≡ true → bytes_eq held other ≡ true → other_than name held ≡ true
  has_other other held apart same = ap (other_than name) (bytes_eq-true held other same) ∙ apart

  -- of another name as much is left as there was
  same_part : (other : List ℕ) → other_than name other ≡ true → part_of rest other ≡ part_of names other
  same_part other apart =
      let known : filter (is_named other) rest.known ≡ filter (is_named other) names.known =
      filter-within (is_named other) (λ (r : Record). other_than name r.name) (λ r passes. has_other other r.name apart passes) names.known in
      let places : filter (has_place_name other) rest.places ≡ filter (has_place_name other) names.places =
      filter-within (has_place_name other) (λ (p : Place). other_than name p.listed.pkg.name)
      (λ p passes. has_other other p.listed.pkg.name apart passes) names.places in
      let ordered : filter (has_stanza_name other) rest.ordered ≡ filter (has_stanza_name other) names.ordered =
      filter-within (has_stanza_name other) (λ (l : IndexPackage). other_than name l.pkg.name)
      (λ l passes. has_other other l.pkg.name apart passes) names.ordered in
      ap (λ (k : List Record). own_of other k (filter (has_place_name other) rest.places) (filter (has_stanza_name other) rest.ordered)) known
      ∙ ap (λ (p : List Place). own_of other (filter (is_named other) names.known) p (filter (has_stanza_name other) rest.ordered)) places
      ∙ ap (own_of other (filter (is_named other) names.known) (filter (has_place_name other) names.places)) ordered

  -- the names split behind the least
  pub IsSplit-least : IsSplit names (part_of names name) rest
  IsSplit-least = record {
    first = refl;
    among = least.among;
    before = before;
    either = either;
    behind = λ other among. let there = of_these other among in (there.0, same_part other there.1);
  }

  -- there are fewer left
  pub fewer_left : length rest.known + length rest.ordered < length names.known + length names.ordered
  fewer_left = at least.among
    where
      no_more_records : length rest.known ≤ length names.known
      no_more_records = kept_no_longer (λ (r : Record). other_than name r.name) names.known

      no_more_stanzas : length rest.ordered ≤ length names.ordered
      no_more_stanzas = kept_no_longer (λ (l : IndexPackage). other_than name l.pkg.name) names.ordered

      dropped : (held : List ℕ) → held ≡ name → other_than name held ≡ false
      dropped held same = ap not (bytes_eq-same held name same)

      at : IsAmong name names → length rest.known + length rest.ordered < length names.known + length names.ordered
      at (inl some) = Any-elim (λ (item : Record). item.name ≡ name) names.known
          (length rest.known + length rest.ordered < length names.known + length names.ordered)
          (λ item within is.
          let shorter : length rest.known < length names.known =
          kept_shorter (λ (r : Record). other_than name r.name) names.known item within (dropped item.name is) in
          omega (arith, shorter, no_more_stanzas)) some
      at (inr some) = Any-elim (λ (item : IndexPackage). item.pkg.name ≡ name) names.ordered
          (length rest.known + length rest.ordered < length names.known + length names.ordered)
          (λ item within is.
          let shorter : length rest.ordered < length names.ordered =
          kept_shorter (λ (l : IndexPackage). other_than name l.pkg.name) names.ordered item within (dropped item.pkg.name is) in
          omega (arith, shorter, no_more_records)) some

-- the records of a name are in order what the start has of it
IsByName-named : (db known : List Record) → IsByName db known → (name : List ℕ)
    → IsByName (filter (is_named name) db) (filter (is_named name) known)
IsByName-named db known are name = record {
  ascending = IsStrictlySortedBy-filter record_cmp (is_named name) known are.ascending;
  same = λ other.
      let same : (item : Record) → is_named other item ≡ true → is_named name item ≡ bytes_eq other name =
      λ item passes. ap (λ (n : List ℕ). bytes_eq n name) (bytes_eq-true item.name other passes) in
      find-decided (is_named other) (is_named name) (bytes_eq other name) same known
      ∙ ap (λ (o : Option Record). cond (bytes_eq other name) o None) (are.same other)
      ∙ sym (find-decided (is_named other) (is_named name) (bytes_eq other name) same db);
}

-- the places of a name are in order those that the indices have of it
AreSorted-named : (places sorted : List Place) → AreSorted places sorted → (name : List ℕ)
    → AreSorted (filter (has_place_name name) places) (filter (has_place_name name) sorted)
AreSorted-named places sorted are name = record {
  ascending = sorted_kept (this name) sorted are.ascending;
  kept = λ other version.
      let p : Place → Bool = λ place. is_of other version place.listed.pkg in
      let same : (place : Place) → p place ≡ true → has_place_name name place ≡ bytes_eq other name =
      λ place passes. ap (λ (n : List ℕ). bytes_eq n name) (is_of-parts other version place.listed.pkg passes).0 in
      filter-decided p (has_place_name name) (bytes_eq other name) same sorted
      ∙ ap (λ (xs : List Place). cond (bytes_eq other name) xs []) (are.kept other version)
      ∙ sym (filter-decided p (has_place_name name) (bytes_eq other name) same places);
}

-- the records and the places in order have the names of the start and of the indices
pub AreNames-from : (db : List Record) (indices : List Index) (known : List Record) (places : List Place) (ordered : List IndexPackage)
    → IsByName db known → AreSorted (places_of indices) places → IsOrdered (stanzas_of places) ordered
    → AreNames db indices (record { known = known; places = places; ordered = ordered })
AreNames-from db indices known places ordered named sorted is = record {
  known = named;
  ordered = IsOrdered-given indices places ordered sorted is;
  whole = λ name among. record {
    known = IsByName-named db known named name;
    places = AreSorted-named (places_of indices) places sorted name;
  };
}
