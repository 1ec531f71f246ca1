-- A step that is allowed by the rules can be taken in the status file, and leaves the same records.
use Rattle.std.proofs.Common.{◌≡◌, ℕ, Bool, true, false, cond, ◌&&◌, List, [], ◌∷◌, Option, Some, None, MatchOption, refl, ap, subst, ◌∙◌, bytes_eq, lit<}
use Rattle.std.specs.Prelude.{⊤, IsSome}
use Rattle.std.specs.List.{All, Contains, find}
use Rattle.std.specs.Option.{option_and_then, option_map}
use Rattle.std.specs.Ordering.{is_eq}
use Rattle.std.specs.declared.cmp.Ordering.{Ordering}
use Rattle.std.specs.declared.cmp.Ordering.TheVariants.{Equal, Greater, Less}
use Rattle.std.proofs.lemmas.List.Elements.{All-contains, All-head, All-tail}
use Rattle.rules.specs.Available.{is_of, same_version}
use Rattle.rules.specs.Configure.{AreConfigurable, HasConfigurable, IsConfigurable}
use Rattle.rules.specs.Database.{HasRecord, HasSoundFlag, IsInstalled, IsPresent, IsRemoved, Record}
use Rattle.rules.specs.ElementLaws.{Any-elim, Contains-head, Contains-rest, list_any-from_contains}
use Rattle.rules.specs.FileRecord.{IndexStanza, records_of}
use Rattle.rules.specs.Legal.{Allowed}
use Rattle.rules.specs.NamedLaws.{bytes_eq-same, bytes_eq-true}
use Rattle.rules.specs.Package.{Pkg}
use Rattle.rules.specs.State.{is_present_state, is_sound_flag, is_unconfigured_state}
use Rattle.rules.specs.Step.{IndexPackage, after_unpack, is_named, result_of}
use Rattle.rules.specs.Universe.{IsOf, Pair, Universe, listed_among, listed_for, listed_of}
use Rattle.rules.specs.Verdict.{IsBuiltOn}
use Rattle.rules.specs.Version.{version_cmp}
use Rattle.rules.specs.VersionOrderLaws.{SameVersion-trans}
use Rattle.rules.specs.declared.step.Rule.TheVariants as rule
use Rattle.rules.specs.declared.step.Step.{Step}
use Rattle.rules.specs.declared.step.Step.TheVariants as step
use Rattle.rules.proofs.EntryLemmas.{written_as_left}
use Rattle.status_text.specs.Slot.{FileSlot, entries_of, slot_records}
use Rattle.status_text.specs.declared.slot.Slot.TheVariants.{Recorded, Foreign}
use Rattle.status.specs.Applicable.{first_unready, has_record, is_configurable, is_deconfigurable, is_indexed_as, is_purgeable, is_removable}
use Rattle.status.specs.Left.{slots_after, stored_after}
use Rattle.status.proofs.LeftLemmas.{entries_are_written}
use Rattle.applied_end.specs.Step.{AllowedIsApplicable, IsStanzaOf, RecordsAreLeft, StoringKeepsRecords}

-- The records that are left

pub stored_records : StoringKeepsRecords
stored_records [] = refl
stored_records (Foreign stanza ∷ slots) = stored_records slots
stored_records (Recorded entry ∷ slots) = ap (λ later. entry.status ∷ later) (stored_records slots)

-- an unpacking takes the package of a stanza, and whether it is essential
unpack_alike : (listed other : IndexPackage) (db : List Record) → listed.pkg ≡ other.pkg → listed.is_essential ≡ other.is_essential
    → after_unpack listed db ≡ after_unpack other db
unpack_alike listed other db pkg essential = λ i. after_unpack (record { pkg = pkg i; is_essential = essential i; says_essential = other.says_essential; place = other.place }) db

-- what is handed in leaves what the rules' stanza leaves
left_alike : (listed : Option IndexPackage) (indexed : Option IndexStanza) (taken : Step) (db : List Record) → IsStanzaOf listed indexed
    → result_of (option_map (λ (stanza : IndexStanza). stanza.listed) indexed) taken db ≡ result_of listed taken db
left_alike None indexed (step.Unpack name version) db is =
    ap (λ (o : Option IndexStanza). result_of (option_map (λ (stanza : IndexStanza). stanza.listed) o) (step.Unpack name version) db) is
left_alike (Some listed) None (step.Unpack name version) db is = absurd is
left_alike (Some listed) (Some indexed) (step.Unpack name version) db is = unpack_alike indexed.listed listed db is.0 is.1
left_alike listed indexed (step.Deconfigure name) db is = refl
left_alike listed indexed (step.Configure names) db is = refl
left_alike listed indexed (step.Remove name) db is = refl
left_alike listed indexed (step.Purge name) db is = refl

-- what a step leaves has the records of what is handed in
pub records_written : (indexed : Option IndexStanza) (taken : Step) (slots : List FileSlot)
    → slot_records (stored_after indexed taken slots) ≡ result_of (option_map (λ (stanza : IndexStanza). stanza.listed) indexed) taken (slot_records slots)
records_written indexed taken slots =
    stored_records (slots_after indexed taken slots) ∙ ap records_of (entries_are_written indexed taken slots)
    ∙ written_as_left indexed taken (entries_of slots)

pub records_are_left : RecordsAreLeft
records_are_left u taken indexed slots is =
    records_written indexed taken slots ∙ left_alike (listed_for u taken) indexed taken (slot_records slots) is

-- That a step can be taken

both_true : (b c : Bool) → b ≡ true → c ≡ true → (b && c) ≡ true
both_true b c is also = rw (is, also) refl

both : (b c : Bool) → (b && c) ≡ true → (b ≡ true) × (c ≡ true)
both true c is = (refl, is)
both false c is = absurd (let e : false ≡ true = is in cc)

-- a record of the name that has the property passes the test
record_passes : (P : Record → Type 0) (test : Record → Bool) (name : List ℕ) (db : List Record) → ((entry : Record) → P entry → test entry ≡ true)
    → HasRecord P name db → has_record test name db ≡ true
record_passes P test name db passes has = Any-elim (λ (entry : Record). (entry.name ≡ name) × P entry) db (has_record test name db ≡ true)
    (λ entry within is. list_any-from_contains (λ (r : Record). is_named name r && test r) db entry within
    (both_true (is_named name entry) (test entry) (bytes_eq-same entry.name name is.0) (passes entry is.1))) has

-- where each name has such a record, none is unready
all_ready : (test : Record → Bool) (names : List (List ℕ)) (db : List Record) → All (λ name. has_record test name db ≡ true) names
    → first_unready test names db ≡ None
all_ready test [] db ready = refl
all_ready test (name ∷ names) db ready =
    let P : List ℕ → Type 0 = λ n. has_record test n db ≡ true in
    rw (All-head P name names ready) (all_ready test names db (All-tail P name names ready))

one_ready : (test : Record → Bool) (name : List ℕ) (db : List Record) → has_record test name db ≡ true → first_unready test (name ∷ []) db ≡ None
one_ready test name db ready = rw ready refl

-- the stanza that the universe has of a version of a name is of it
listed_is : (start : List Record) (u : Universe) → IsBuiltOn start u → (pairs : List Pair)
    → ((pair : Pair) → Contains pairs pair → Contains u.pairs pair) → (name version : List ℕ) (listed : IndexPackage)
    → listed_among pairs name version ≡ Some listed → is_of name version listed.pkg ≡ true
listed_is start u built [] within name version listed is_listed = absurd (let e : None ≡ Some listed = is_listed in cc)
listed_is start u built (pair ∷ rest) within name version listed is_listed = at (is_of name version pair.pkg) refl is_listed
    (listed_is start u built rest (λ other there. within other (Contains-rest pair rest other there)) name version listed)
  where
    equal : (o : Ordering) → is_eq o ≡ true → o ≡ Equal
    equal Less is = absurd (let e : false ≡ true = is in cc)
    equal Equal is = refl
    equal Greater is = absurd (let e : false ≡ true = is in cc)

    here : is_of name version pair.pkg ≡ true → pair.listed ≡ Some listed → is_of name version listed.pkg ≡ true
    here is same =
        let Q : Option IndexPackage → Type 0 = λ l. MatchOption l ⊤ (λ (l : IndexPackage). IsOf pair.pkg.name pair.pkg.version l.pkg) in
        let of : IsOf pair.pkg.name pair.pkg.version listed.pkg = subst Q same
        (All-contains (λ (p : Pair). MatchOption p.listed ⊤ (λ (l : IndexPackage). IsOf p.pkg.name p.pkg.version l.pkg)) u.pairs pair built.listed (within pair (Contains-head pair rest))) in
        let (named, versions) = both (bytes_eq pair.pkg.name name) (same_version pair.pkg.version version) is in
        both_true (bytes_eq listed.pkg.name name) (same_version listed.pkg.version version)
        (bytes_eq-same listed.pkg.name name (of.0 ∙ bytes_eq-true pair.pkg.name name named))
        (ap is_eq (SameVersion-trans listed.pkg.version pair.pkg.version version of.1 (equal (version_cmp pair.pkg.version version) versions)))

    at : (b : Bool) → is_of name version pair.pkg ≡ b
        → option_and_then (λ (p : Pair). p.listed) (cond b (Some pair) (find (λ (p : Pair). is_of name version p.pkg) rest)) ≡ Some listed
        → (listed_among rest name version ≡ Some listed → is_of name version listed.pkg ≡ true) → is_of name version listed.pkg ≡ true
    at true is same later = here is same
    at false is same later = later same

-- what is handed in for an unpacking is of its name and its version
indexed_is : (name version : List ℕ) (listed : Option IndexPackage) (indexed : Option IndexStanza) → IsSome listed → IsStanzaOf listed indexed
    → ((one : IndexPackage) → listed ≡ Some one → is_of name version one.pkg ≡ true) → is_indexed_as name version indexed ≡ true
indexed_is name version None indexed some is of = absurd (let e : false ≡ true = some in cc)
indexed_is name version (Some listed) None some is of = absurd is
indexed_is name version (Some listed) (Some indexed) some is of = ap (λ (p : Pkg). is_of name version p) is.0 ∙ of listed refl

pub allowed_is_applicable : AllowedIsApplicable
unfolding Allowed AreConfigurable HasConfigurable
allowed_is_applicable u start db (step.Unpack name version) indexed built is allowed =
    rw (indexed_is name version (listed_of u name version) indexed (allowed 0 rule.NotAdmitted (lit< tt)) is
    (λ listed. listed_is start u built u.pairs (λ pair there. there) name version listed)) refl
allowed_is_applicable u start db (step.Deconfigure name) indexed built is allowed =
    one_ready is_deconfigurable name db (record_passes IsInstalled is_deconfigurable name db (λ entry has. has) (allowed 0 rule.WrongState (lit< tt)))
allowed_is_applicable u start db (step.Configure names) indexed built is allowed =
    all_ready is_configurable names db (λ k d within. record_passes IsConfigurable is_configurable _ db
    (λ entry has. both_true (is_unconfigured_state entry.state) (is_sound_flag entry.flag) has.0 has.1)
    (allowed 0 rule.WrongState (lit< tt) k d within))
allowed_is_applicable u start db (step.Remove name) indexed built is allowed =
    one_ready is_removable name db (record_passes (λ entry. IsPresent entry × HasSoundFlag entry) is_removable name db
    (λ entry has. both_true (is_present_state entry.state) (is_sound_flag entry.flag) has.0 has.1) (allowed 0 rule.WrongState (lit< tt)))
allowed_is_applicable u start db (step.Purge name) indexed built is allowed =
    one_ready is_purgeable name db (record_passes IsRemoved is_purgeable name db (λ entry has. has) (allowed 0 rule.WrongState (lit< tt)))
