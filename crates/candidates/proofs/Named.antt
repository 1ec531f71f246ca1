-- What the record of a name says, where names are distinct.
use Rattle.std.proofs.Common.{◌≡◌, ◌≢◌, ℕ, suc, Bool, true, false, ◌&&◌, List, [], ◌∷◌, Option, Some, None, ◌⊎◌, refl, sym, ap, ◌∙◌, arith}
use Rattle.std.specs.Cmp.{Equal-is}
use Rattle.std.specs.List.{Contains, find}
use Rattle.std.specs.Option.{option_map_or}
use Rattle.std.specs.Ordering.{is_eq, is_lt}
use Rattle.std.specs.declared.cmp.Ordering.{Ordering}
use Rattle.std.specs.declared.cmp.Ordering.TheVariants.{Less, Equal, Greater}
use Rattle.std.proofs.lemmas.Bool.{and_parts, and_from}
use Rattle.std.proofs.lemmas.List.Elements.{All-contains}
use Rattle.rules.specs.Available.{same_version, standing_record}
use Rattle.rules.specs.Database.{HasDistinctNames, HasRecord, IsHeld, Record, Stands, stands}
use Rattle.rules.specs.ElementLaws.{Any-elim, Any-intro, Contains-cons, Contains-nil}
use Rattle.rules.specs.NamedLaws.{bytes_eq-true, bytes_eq-same}
use Rattle.rules.specs.State.{is_hold}
use Rattle.rules.specs.Step.{is_named}
use Rattle.rules.specs.Universe.{StandsAs}
use Rattle.rules.specs.Version.{SameVersion, version_cmp}
use Rattle.rules.specs.VersionOrderLaws.{version_cmp-same_left, version_cmp-same_right}
use Rattle.universe_parts.specs.FindLaws.{find-exists, find-some}
use Rattle.candidates.specs.Recorded.{IsByName, is_downgrade, is_held, is_of_record, stands_above, stands_as}
use Rattle.candidates.proofs.RecordOrder.{one_record}
use mathlib.Core.Logic.{inl, inr}

-- of two records with one name there is one
pub the_record : (db : List Record) → HasDistinctNames db → (entry other : Record) → Contains db entry → Contains db other
    → other.name ≡ entry.name → other ≡ entry
unfolding HasDistinctNames
the_record [] distinct entry other within there same = absurd (Contains-nil entry within)
the_record (first ∷ rest) distinct entry other within there same =
    at (Contains-cons first rest entry within) (Contains-cons first rest other there)
    (λ later behind. the_record rest (λ i j d before inside. distinct (suc i) (suc j) d (omega arith) (omega arith)) entry other later behind same)
  where
    alone : (r : Record) → Contains rest r → first.name ≢ r.name
    alone r behind = All-contains (λ (b : Record). first.name ≢ b.name) rest r
        (λ k d inside. distinct 0 (suc k) d (omega arith) (omega arith)) behind

    at : (first ≡ entry) ⊎ Contains rest entry → (first ≡ other) ⊎ Contains rest other
        → (Contains rest entry → Contains rest other → other ≡ entry) → other ≡ entry
    at (inl here) (inl also) later = sym also ∙ here
    at (inl here) (inr behind) later = absurd (alone other behind (ap (λ (r : Record). r.name) here ∙ sym same))
    at (inr behind) (inl also) later = absurd (alone entry behind (ap (λ (r : Record). r.name) also ∙ same))
    at (inr behind) (inr further) later = later behind further

-- a record is the one that is found of its name
pub found_record : (db : List Record) → HasDistinctNames db → (name : List ℕ) (entry : Record) → Contains db entry
    → entry.name ≡ name → find (is_named name) db ≡ Some entry
found_record db distinct name entry within named =
    let first = find-exists (is_named name) db entry within (bytes_eq-same entry.name name named) in
    let there = find-some (is_named name) db first.0 first.1 in
    first.1 ∙ ap Some (the_record db distinct entry first.0 within there.0 (bytes_eq-true first.0.name name there.1 ∙ sym named))

-- the test of a name's record says what a record of the name has
pub of_record-is : (test : Record → Bool) (db : List Record) (name : List ℕ) → is_of_record test db name ≡ true
    → (entry : Record) × Contains db entry × (entry.name ≡ name) × (test entry ≡ true)
of_record-is test db name passes = at (find (is_named name) db) refl passes
  where
    at : (o : Option Record) → find (is_named name) db ≡ o → option_map_or test o false ≡ true
        → (entry : Record) × Contains db entry × (entry.name ≡ name) × (test entry ≡ true)
    at None none whole = absurd (let e : false ≡ true = whole in cc)
    at (Some entry) some whole =
        let there = find-some (is_named name) db entry some in
        (entry, there.0, bytes_eq-true entry.name name there.1, whole)

pub of_record-from : (test : Record → Bool) (db : List Record) → HasDistinctNames db → (name : List ℕ) (entry : Record)
    → Contains db entry → entry.name ≡ name → is_of_record test db name ≡ test entry
of_record-from test db distinct name entry within named =
    ap (λ (o : Option Record). option_map_or test o false) (found_record db distinct name entry within named)

-- the test of a name's record is the same among the records in order
pub of_record-known : (test : Record → Bool) (db known : List Record) → IsByName db known → (name : List ℕ)
    → is_of_record test known name ≡ is_of_record test db name
of_record-known test db known are name = ap (λ (o : Option Record). option_map_or test o false) (are.same name)

-- the records in order are the records
pub known_within : (db known : List Record) → IsByName db known → (entry : Record) → Contains known entry → Contains db entry
known_within db known are entry within =
    let own : is_named entry.name entry ≡ true = bytes_eq-same entry.name entry.name refl in
    let first = find-exists (is_named entry.name) known entry within own in
    let there = find-some (is_named entry.name) known first.0 first.1 in
    let same : first.0 ≡ entry = one_record known entry.name are.ascending first.0 entry there.0 within there.1 own in
    (find-some (is_named entry.name) db entry (sym (are.same entry.name) ∙ first.1 ∙ ap Some same)).0

pub within_known : (db known : List Record) → HasDistinctNames db → IsByName db known → (entry : Record) → Contains db entry
    → Contains known entry
within_known db known distinct are entry within =
    (find-some (is_named entry.name) known entry (are.same entry.name ∙ found_record db distinct entry.name entry within refl)).0

-- held
pub held-is : (db : List Record) (name : List ℕ) → is_held db name ≡ true → HasRecord IsHeld name db
held-is db name passes =
    let there = of_record-is (λ (entry : Record). is_hold entry.want) db name passes in
    Any-intro (λ (entry : Record). (entry.name ≡ name) × IsHeld entry) db there.0 there.1 (there.2, there.3)

pub held-from : (db : List Record) → HasDistinctNames db → (name : List ℕ) → HasRecord IsHeld name db → is_held db name ≡ true
held-from db distinct name some = Any-elim (λ (entry : Record). (entry.name ≡ name) × IsHeld entry) db (is_held db name ≡ true)
    (λ entry within is. of_record-from (λ (entry : Record). is_hold entry.want) db distinct name entry within is.0 ∙ is.1) some

-- the test of what stands as a version
abbrev pub stands_in : List ℕ → Record → Bool
stands_in version entry = stands entry && same_version entry.version version

-- a version that stands is a record's
pub standing-is : (db : List Record) (name version : List ℕ) → stands_as db name version ≡ true
    → (entry : Record) × Contains db entry × (entry.name ≡ name) × (stands entry ≡ true) × SameVersion entry.version version
standing-is db name version passes =
    let there = of_record-is (stands_in version) db name passes in
    let both = and_parts (stands there.0) (same_version there.0.version version) there.3 in
    (there.0, there.1, there.2, both.0, (Equal-is (version_cmp there.0.version version)).0 both.1)

pub standing-from : (db : List Record) → HasDistinctNames db → (name version : List ℕ) (entry : Record) → Contains db entry
    → entry.name ≡ name → stands entry ≡ true → SameVersion entry.version version → stands_as db name version ≡ true
standing-from db distinct name version entry within named stood same =
    of_record-from (stands_in version) db distinct name entry within named
    ∙ and_from (stands entry) (same_version entry.version version) stood ((Equal-is (version_cmp entry.version version)).1 same)

pub StandsAs-is : (db : List Record) (name version : List ℕ) → StandsAs db name version
    → (entry : Record) × Contains db entry × (entry.name ≡ name) × (stands entry ≡ true) × SameVersion entry.version version
unfolding StandsAs
StandsAs-is db name version some =
    Any-elim (λ (entry : Record). (entry.name ≡ name) × (Stands entry × SameVersion entry.version version)) db
    ((entry : Record) × Contains db entry × (entry.name ≡ name) × (stands entry ≡ true) × SameVersion entry.version version)
    (λ entry within is. (entry, within, is.0, is.1.0, is.1.1)) some

pub StandsAs-from : (db : List Record) (name version : List ℕ) (entry : Record) → Contains db entry → entry.name ≡ name
    → stands entry ≡ true → SameVersion entry.version version → StandsAs db name version
unfolding StandsAs
StandsAs-from db name version entry within named stood same =
    Any-intro (λ (entry : Record). (entry.name ≡ name) × (Stands entry × SameVersion entry.version version)) db entry within
    (named, (stood, same))

-- the record of a version that stands
pub standing_record-is : (db : List Record) (name version : List ℕ) (entry : Record) → standing_record db name version ≡ Some entry
    → Contains db entry × (entry.name ≡ name) × (stands entry ≡ true) × SameVersion entry.version version
standing_record-is db name version entry some =
    let there = find-some (λ (entry : Record). is_named name entry && stands entry && same_version entry.version version) db entry some in
    let outer = and_parts (is_named name entry && stands entry) (same_version entry.version version) there.1 in
    let inner = and_parts (is_named name entry) (stands entry) outer.0 in
    (there.0, bytes_eq-true entry.name name inner.0, inner.1, (Equal-is (version_cmp entry.version version)).0 outer.1)

pub standing_record-exists : (db : List Record) (name version : List ℕ) (entry : Record) → Contains db entry → entry.name ≡ name
    → stands entry ≡ true → SameVersion entry.version version → (other : Record) × (standing_record db name version ≡ Some other)
standing_record-exists db name version entry within named stood same =
    find-exists (λ (entry : Record). is_named name entry && stands entry && same_version entry.version version) db entry within
    (and_from (is_named name entry && stands entry) (same_version entry.version version)
    (and_from (is_named name entry) (stands entry) (bytes_eq-same entry.name name named) stood)
    ((Equal-is (version_cmp entry.version version)).1 same))

pub standing_record-one : (db : List Record) → HasDistinctNames db → (name version : List ℕ) (entry : Record) → Contains db entry
    → entry.name ≡ name → stands entry ≡ true → SameVersion entry.version version → standing_record db name version ≡ Some entry
standing_record-one db distinct name version entry within named stood same =
    let first = standing_record-exists db name version entry within named stood same in
    let there = standing_record-is db name version first.0 first.1 in
    first.1 ∙ ap Some (the_record db distinct entry first.0 within there.0 (there.1 ∙ sym named))

pub standing_record-none : (db : List Record) → HasDistinctNames db → (name version : List ℕ) → stands_as db name version ≡ false
    → standing_record db name version ≡ None
standing_record-none db distinct name version fails = at (standing_record db name version) refl
  where
    at : (o : Option Record) → standing_record db name version ≡ o → standing_record db name version ≡ None
    at None none = none
    at (Some entry) some =
        let there = standing_record-is db name version entry some in
        absurd (let e : false ≡ true = sym fails ∙ standing-from db distinct name version entry there.0 there.1 there.2 there.3 in cc)

-- the texts of one version stand alike, and are lower alike
option_alike : (p q : Record → Bool) → ((entry : Record) → p entry ≡ q entry) → (o : Option Record)
    → option_map_or p o false ≡ option_map_or q o false
option_alike p q same None = refl
option_alike p q same (Some entry) = same entry

pub stands_as-same : (db : List Record) (name version other : List ℕ) → SameVersion version other
    → stands_as db name version ≡ stands_as db name other
stands_as-same db name version other same = option_alike (stands_in version) (stands_in other)
    (λ entry. ap (λ (o : Ordering). stands entry && is_eq o) (version_cmp-same_right entry.version version other same)) (find (is_named name) db)

pub downgrade-same : (db : List Record) (name version other : List ℕ) → SameVersion version other
    → is_downgrade db name version ≡ is_downgrade db name other
downgrade-same db name version other same = option_alike (stands_above version) (stands_above other)
    (λ entry. ap (λ (o : Ordering). stands entry && is_lt o) (version_cmp-same_left version other entry.version same)) (find (is_named name) db)

-- less, as a test
lt-is : (o : Ordering) → is_lt o ≡ true → o ≡ Less
lt-is Less passes = refl
lt-is Equal passes = absurd (let e : false ≡ true = passes in cc)
lt-is Greater passes = absurd (let e : false ≡ true = passes in cc)

-- a version that is lower than what stands
pub downgrade-is : (db : List Record) (name version : List ℕ) → is_downgrade db name version ≡ true
    → HasRecord (λ entry. Stands entry × (version_cmp version entry.version ≡ Less)) name db
downgrade-is db name version passes =
    let there = of_record-is (stands_above version) db name passes in
    let both = and_parts (stands there.0) (is_lt (version_cmp version there.0.version)) there.3 in
    Any-intro (λ (entry : Record). (entry.name ≡ name) × (Stands entry × (version_cmp version entry.version ≡ Less))) db there.0 there.1
    (there.2, (both.0, lt-is (version_cmp version there.0.version) both.1))

pub downgrade-from : (db : List Record) → HasDistinctNames db → (name version : List ℕ)
    → HasRecord (λ entry. Stands entry × (version_cmp version entry.version ≡ Less)) name db → is_downgrade db name version ≡ true
downgrade-from db distinct name version some =
    Any-elim (λ (entry : Record). (entry.name ≡ name) × (Stands entry × (version_cmp version entry.version ≡ Less))) db
    (is_downgrade db name version ≡ true)
    (λ entry within is. of_record-from (stands_above version) db distinct name entry within is.0
    ∙ and_from (stands entry) (is_lt (version_cmp version entry.version)) is.1.0 (ap is_lt is.1.1)) some
