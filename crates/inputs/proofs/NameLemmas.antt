-- What is read has package names: the records of a status file, and the packages of an index.
use Rattle.std.proofs.Common.{◌≡◌, ℕ, ◌+◌, ◌<◌, Bool, true, false, cond, ◌&&◌, List, [], ◌∷◌, ◌++◌, get_or, length, nat_lt, take, Option, Some, None, Result, Ok, Err, refl, sym, ap, subst, ◌∙◌}
use Rattle.std.specs.Prelude.{IsTrue, if◌then◌else◌}
use Rattle.std.specs.List.{All, Contains, find}
use Rattle.std.specs.Option.{option_map, option_or}
use Rattle.std.proofs.lemmas.Grind.{flat_map-append}
use Rattle.std.proofs.lemmas.List.{append-nil, map-append, take_more}
use Rattle.std.proofs.lemmas.Option.{same_Some}
use Rattle.std.proofs.lemmas.List.Elements.{All-cons, All-nil, All-contains, Contains-append_cases}
use Rattle.index.specs.Index.{ReadIndex, ReadStanzas, entry_then, first_place, indexed_with, is_too_many, next_place, read_entry, read_indexed, read_native, stanzas_of, unless_name_fault, with_release, with_stanzas}
use Rattle.index.specs.Streamed.{read_stream, read_streamed, stanzas_read}
use Rattle.index.specs.declared.error.IndexFault.{IndexFault}
use Rattle.relation.specs.PackageStanza.{counts_for}
use Rattle.relation.specs.PkgFields.{fields_of}
use Rattle.relation.specs.PkgText.{name_fault_in, pkg_fault, pkg_name_fault, pkg_of, read_fields, unless_fault, value_in}
use Rattle.relation.specs.declared.error.PkgFault.{PkgFault}
use Rattle.relation.specs.declared.fields.PkgFields.{PkgFields}
use Rattle.candidates.specs.Inputs.{indices_of}
use Rattle.rules.specs.Available.{Index, Inputs, all_listed, counting_package, index_package, is_of, same_version, standing_record}
use Rattle.rules.specs.Database as database
use Rattle.rules.specs.Database.{Record, stands}
use Rattle.rules.specs.ElementLaws.{All-intro, Contains-head, Contains-rest}
use Rattle.rules.specs.FileRecord.{FileRecord, IndexStanza, records_of}
use Rattle.rules.specs.Name.{is_name}
use Rattle.rules.specs.Names.{HasListedNames, HasNames, HasPairNames}
use Rattle.rules.specs.Package.{Pkg}
use Rattle.rules.specs.Step.{IndexPackage, is_named}
use Rattle.rules.specs.Universe.{IsUniverse, Pair, Universe}
use Rattle.rules.specs.declared.index_place.IndexPlace.{IndexPlace}
use Rattle.rules.specs.declared.limits.TheConstants.{TEXT_BYTES}
use Rattle.stanza.specs.declared.form.Form.TheVariants.{Plain}
use Rattle.stanza.specs.Field.{FieldText}
use Rattle.stanza.specs.Stanza.{StanzaText, items_of}
use Rattle.stanza.specs.Streamed.{read_within}
use Rattle.stanza.specs.declared.error.ReaderError.{ReaderError}
use Rattle.index.specs.Sources.{SourceText}
use Rattle.inputs.specs.Indices.{index_in}
use Rattle.inputs.specs.Reading.{with_fault}
use Rattle.inputs.specs.declared.refusal.Fault.TheVariants as fault
use Rattle.stanza.specs.declared.error.StanzaError.{StanzaError}
use Rattle.status_text.specs.Mark as mark
use Rattle.status_text.specs.Record as slot_read
use Rattle.status_text.specs.Slot.{FileSlot, entries_of}
use Rattle.status_text.specs.Status as status
use Rattle.status_text.specs.declared.error.StatusFault.{StatusFault}
use Rattle.status_text.specs.declared.words.Mark.{Mark}
use Rattle.status_text.specs.declared.slot.Slot.TheVariants.{Recorded, Foreign}
use mathlib.Core.Logic.{inl, inr}

-- the record has a package name
abbrev pub IsNamed : Record → Type 0
IsNamed entry = IsTrue (is_name entry.name)

-- the package of the stanza has a package name
abbrev pub IsListedNamed : IndexPackage → Type 0
IsListedNamed listed = IsTrue (is_name listed.pkg.name)

-- fields whose name isn't refused give a package name
named : (line : ℕ) (field : Option FieldText) → name_fault_in line field ≡ None → is_name (value_in field) ≡ true
named line None is = absurd (let e = is in cc)
named line (Some field) is = at (Rattle.relation.specs.declared.error.PkgFault.TheVariants.BadName field.line (Rattle.relation.specs.PkgText.name_front field.value)) (is_name field.value) is
  where
    at : (fault : PkgFault) (b : Bool) → (if b then None else Some fault) ≡ None → b ≡ true
    at fault true is = refl
    at fault false is = absurd (let e = is in cc)

ok_is : {A E : Type 0} (x y : A) → (let r : Result A E = Ok x in r) ≡ Ok y → x ≡ y
ok_is x y same = cc

-- Records

-- a stanza that has a mark has a package name
named_by_mark : (stanza : StanzaText) (words : Mark) → mark.read_mark stanza ≡ Ok words → is_name (mark.name_in stanza) ≡ true
named_by_mark stanza words is = named stanza.line (fields_of stanza).name
    (at (pkg_name_fault (fields_of stanza)) (mark.mark_in stanza (Rattle.relation.specs.PkgFields.field_named (Rattle.std.specs.Prelude.codes "Status") stanza.fields)) is)
  where
    at : (fault : Option PkgFault) (later : Result Mark StatusFault) → mark.unless_fault fault later ≡ Ok words → fault ≡ None
    at None later is = refl
    at (Some refused) later is = absurd (let e = is in cc)

-- the record of a slot has the name of its stanza
name_of_slot : (arch : List ℕ) (seen : List (List ℕ)) (stanza : StanzaText) (entry : FileRecord)
    → slot_read.read_slot arch seen stanza ≡ Ok (Recorded entry) → IsNamed entry.status
name_of_slot arch seen stanza entry is = at (mark.read_mark stanza) refl is
  where
    new : (words : Mark) (b : Bool) (fault : Option PkgFault)
        → (if b then Err (Rattle.status_text.specs.declared.error.StatusFault.TheVariants.DuplicatePackage (mark.name_in stanza))
        else mark.unless_fault fault (Ok (Recorded (slot_read.entry_of arch stanza words)))) ≡ Ok (Recorded entry)
        → entry.status.name ≡ mark.name_in stanza
    new words true fault is = absurd (let e = is in cc)
    new words false (Some fault) is = absurd (let e = is in cc)
    new words false None is =
        let same : slot_read.entry_of arch stanza words ≡ entry = (let e : Ok (Recorded (slot_read.entry_of arch stanza words)) ≡ Ok (Recorded entry) = is in cc) in
        sym (ap (λ (one : FileRecord). one.status.name) same)

    counted : (words : Mark) (does : Result Bool StatusFault) → slot_read.read_counted arch seen stanza words does ≡ Ok (Recorded entry)
        → entry.status.name ≡ mark.name_in stanza
    counted words (Err refused) is = absurd (let e = is in cc)
    counted words (Ok false) is = absurd (let e = is in cc)
    counted words (Ok true) is = new words (slot_read.is_seen seen (mark.name_in stanza)) (slot_read.later_fault words.state stanza) is

    at : (read : Result Mark StatusFault) → mark.read_mark stanza ≡ read → slot_read.read_marked arch seen stanza read ≡ Ok (Recorded entry)
        → IsNamed entry.status
    at (Err refused) was is = absurd (let e = is in cc)
    at (Ok words) was is =
        let same = counted words (mark.counts arch stanza words.state) is in
        let Is : List ℕ → Type 0 = λ name. is_name name ≡ true in
        subst Is (sym same) (named_by_mark stanza words was)

-- the records of the items have package names
slots_named : (arch : List ℕ) (items : List (Result StanzaText StanzaError)) (seen : List (List ℕ)) (slots : List FileSlot)
    → status.slots_in arch items seen ≡ Ok slots → All IsNamed (records_of (entries_of slots))
slots_named arch [] seen slots is =
    let none : [] ≡ slots = (let e : Ok [] ≡ Ok slots = is in cc) in
    subst (λ (ss : List FileSlot). All IsNamed (records_of (entries_of ss))) none (All-nil IsNamed)
slots_named arch (item ∷ items) seen slots is =
    at (λ later rest so. slots_named arch items later rest so) (status.read_item arch seen item) refl is
  where
    put : (slot : FileSlot) (rest : List FileSlot) → status.read_item arch seen item ≡ Ok slot → All IsNamed (records_of (entries_of rest))
        → All IsNamed (records_of (entries_of (slot ∷ rest)))
    put (Recorded entry) rest was all = All-cons IsNamed entry.status (records_of (entries_of rest)) (of_item item entry was) all
      where
        of_item : (item : Result StanzaText StanzaError) (entry : FileRecord) → status.read_item arch seen item ≡ Ok (Recorded entry) → IsNamed entry.status
        of_item (Err refused) entry was = absurd (let e = was in cc)
        of_item (Ok stanza) entry was = name_of_slot arch seen stanza entry was
    put (Foreign stanza) rest was all = all

    joined : (slot : FileSlot) (later : Result (List FileSlot) StatusFault) → status.read_item arch seen item ≡ Ok slot
        → ((rest : List FileSlot) → later ≡ Ok rest → All IsNamed (records_of (entries_of rest)))
        → status.with_slots (slot ∷ []) later ≡ Ok slots → All IsNamed (records_of (entries_of slots))
    joined slot (Err refused) was all is = absurd (let e = is in cc)
    joined slot (Ok rest) was all is =
        let same : slot ∷ rest ≡ slots = (let e : Ok (slot ∷ rest) ≡ Ok slots = is in cc) in
        subst (λ (ss : List FileSlot). All IsNamed (records_of (entries_of ss))) same (put slot rest was (all rest refl))

    at : ((later : List (List ℕ)) (rest : List FileSlot) → status.slots_in arch items later ≡ Ok rest → All IsNamed (records_of (entries_of rest)))
        → (read : Result FileSlot StatusFault) → status.read_item arch seen item ≡ read
        → status.slot_then seen read (status.slots_in arch items) ≡ Ok slots → All IsNamed (records_of (entries_of slots))
    at all (Err refused) was is = absurd (let e = is in cc)
    at all (Ok slot) was is = joined slot (status.slots_in arch items (Rattle.status_text.specs.Slot.names_with seen slot)) was
        (λ rest so. all (Rattle.status_text.specs.Slot.names_with seen slot) rest so) is

-- the records of a status file have package names
pub status_named : (arch text : List ℕ) (slots : List FileSlot) → status.read_status arch text ≡ Ok slots
    → All IsNamed (records_of (entries_of slots))
status_named arch text slots is = at (nat_lt TEXT_BYTES (length text)) is
  where
    at : (b : Bool) → (if b then Err Rattle.status_text.specs.declared.error.StatusFault.TheVariants.TooLarge else status.slots_in arch (items_of Plain text) []) ≡ Ok slots
        → All IsNamed (records_of (entries_of slots))
    at true is = absurd (let e = is in cc)
    at false is = slots_named arch (items_of Plain text) [] slots is

-- Indices

-- a package that the fields of a stanza give has its name
name_of_fields : (arch : List ℕ) (fields : PkgFields) (fault : Option PkgFault) (pkg : Pkg)
    → unless_fault fault (pkg_of arch fields) ≡ Ok pkg → pkg.name ≡ value_in fields.name
name_of_fields arch fields (Some fault) pkg is = absurd (let e = is in cc)
name_of_fields arch fields None pkg is = sym (ap (λ (p : Pkg). p.name) (ok_is (pkg_of arch fields) pkg is))

-- the package of an entry has a package name
entry_named : (arch : List ℕ) (place : IndexPlace) (stanza : StanzaText) (entry : IndexStanza)
    → read_entry arch place stanza ≡ Ok (Some entry) → IsListedNamed entry.listed
entry_named arch place stanza entry is =
    by (pkg_name_fault (fields_of stanza)) refl is
  where
    with_pkg : (read : Result Pkg PkgFault) → indexed_with place stanza read ≡ Ok (Some entry)
        → (pkg : Pkg) × (read ≡ Ok pkg) × (entry.listed.pkg ≡ pkg)
    with_pkg (Err refused) is = absurd (let e = is in cc)
    with_pkg (Ok pkg) is =
        let same : Rattle.index.specs.Index.indexed_at place stanza pkg ≡ entry =
        (let e : Ok (Some (Rattle.index.specs.Index.indexed_at place stanza pkg)) ≡ Ok (Some entry) = is in cc) in
        (pkg, refl, sym (ap (λ (one : IndexStanza). one.listed.pkg) same))

    counts : (b : Bool) → (if b then read_indexed arch place stanza else Ok None) ≡ Ok (Some entry)
        → entry.listed.pkg.name ≡ value_in (fields_of stanza).name
    counts false is = absurd (let e = is in cc)
    counts true is =
        let (pkg, read, same) = with_pkg (read_fields arch (fields_of stanza)) is in
        ap (λ (p : Pkg). p.name) same ∙ name_of_fields arch (fields_of stanza) (pkg_fault (fields_of stanza)) pkg read

    native : (value : Option (List ℕ)) → read_native arch place stanza value ≡ Ok (Some entry)
        → entry.listed.pkg.name ≡ value_in (fields_of stanza).name
    native None is = absurd (let e = is in cc)
    native (Some value) is = counts (counts_for arch value) is

    by : (fault : Option PkgFault) → pkg_name_fault (fields_of stanza) ≡ fault
        → unless_name_fault fault (read_native arch place stanza (Rattle.stanza.specs.Field.value_named (Rattle.std.specs.Prelude.codes "Architecture") stanza.fields)) ≡ Ok (Some entry)
        → IsListedNamed entry.listed
    by (Some refused) was is = absurd (let e = is in cc)
    by None was is =
        let same = native (Rattle.stanza.specs.Field.value_named (Rattle.std.specs.Prelude.codes "Architecture") stanza.fields) is in
        let Is : List ℕ → Type 0 = λ name. is_name name ≡ true in
        subst Is (sym same) (named stanza.line (fields_of stanza).name was)

-- what an item gives has a package name
item_named : (arch : List ℕ) (place : IndexPlace) (item : Result StanzaText ReaderError) (entry : IndexStanza)
    → read_streamed arch place item ≡ Ok (Some entry) → IsListedNamed entry.listed
item_named arch place (Err refused) entry is = absurd (let e = is in cc)
item_named arch place (Ok stanza) entry is = entry_named arch place stanza entry is

-- the packages of the items have package names
stanzas_named : (arch : List ℕ) (place : IndexPlace) (items : List (Result StanzaText ReaderError)) (count : ℕ) (read : ReadStanzas)
    → stanzas_read arch place items count ≡ Ok read → All IsListedNamed read.listed
stanzas_named arch place [] count read is =
    let same : record { listed = []; skipped = 0 } ≡ read = ok_is _ read is in
    subst (λ (r : ReadStanzas). All IsListedNamed r.listed) same (All-nil IsListedNamed)
stanzas_named arch place (item ∷ items) count read is =
    at (λ later rest so. stanzas_named arch (next_place place) items later rest so) (read_streamed arch place item) refl is
  where
    put : (entry : Option IndexStanza) (rest : ReadStanzas) → read_streamed arch place item ≡ Ok entry → All IsListedNamed rest.listed
        → All IsListedNamed ((stanzas_of entry).listed ++ rest.listed)
    put None rest was all = all
    put (Some entry) rest was all = All-cons IsListedNamed entry.listed rest.listed (item_named arch place item entry was) all

    joined : (entry : Option IndexStanza) (later : Result ReadStanzas IndexFault) → read_streamed arch place item ≡ Ok entry
        → ((rest : ReadStanzas) → later ≡ Ok rest → All IsListedNamed rest.listed)
        → with_stanzas (stanzas_of entry) later ≡ Ok read → All IsListedNamed read.listed
    joined entry (Err refused) was all is = absurd (let e = is in cc)
    joined entry (Ok rest) was all is =
        subst (λ (r : ReadStanzas). All IsListedNamed r.listed) (ok_is _ read is) (put entry rest was (all rest refl))

    few : ((later : ℕ) (rest : ReadStanzas) → stanzas_read arch (next_place place) items later ≡ Ok rest → All IsListedNamed rest.listed)
        → (entry : Option IndexStanza) (b : Bool) → read_streamed arch place item ≡ Ok entry
        → (if b then Err Rattle.index.specs.declared.error.IndexFault.TheVariants.TooLarge
        else with_stanzas (stanzas_of entry) (stanzas_read arch (next_place place) items (count + length (stanzas_of entry).listed))) ≡ Ok read
        → All IsListedNamed read.listed
    few all entry true was is = absurd (let e = is in cc)
    few all entry false was is = joined entry (stanzas_read arch (next_place place) items (count + length (stanzas_of entry).listed)) was
        (λ rest so. all (count + length (stanzas_of entry).listed) rest so) is

    at : ((later : ℕ) (rest : ReadStanzas) → stanzas_read arch (next_place place) items later ≡ Ok rest → All IsListedNamed rest.listed)
        → (answer : Result (Option IndexStanza) IndexFault) → read_streamed arch place item ≡ answer
        → entry_then count answer (stanzas_read arch (next_place place) items) ≡ Ok read → All IsListedNamed read.listed
    at all (Err refused) was is = absurd (let e = is in cc)
    at all (Ok entry) was is = few all entry (is_too_many count entry) was is

-- the packages of an index have package names
pub index_named : (arch : List ℕ) (number : ℕ) (before : ℕ) (source : SourceText) (text : List ℕ) (read : ReadIndex)
    → index_in arch number before source text ≡ Ok read → All IsListedNamed read.index.listed
index_named arch number before source text read is = at (read_stream arch number before text) refl is
  where
    at : (answer : Result ReadStanzas IndexFault) → read_stream arch number before text ≡ answer
        → with_fault fault.Index (with_release source.release answer) ≡ Ok read → All IsListedNamed read.index.listed
    at (Err refused) was is = absurd (let e = is in cc)
    at (Ok rest) was is = subst (λ (r : ReadIndex). All IsListedNamed r.index.listed) (ok_is _ read is)
        (stanzas_named arch (first_place number) (read_within Plain 1 TEXT_BYTES text) before rest was)

-- Packages

-- what is found is an element
found_in : {X : Type 0} (p : X → Bool) (xs : List X) (x : X) → find p xs ≡ Some x → Contains xs x
found_in p [] x is = absurd (let e = is in cc)
found_in {X} p (y ∷ ys) x is = at (p y) is (found_in p ys x)
  where
    at : (b : Bool) → cond b (Some y) (find p ys) ≡ Some x → (find p ys ≡ Some x → Contains ys x) → Contains (y ∷ ys) x
    at true here later = let P : X → Type 0 = λ z. Contains (y ∷ ys) z in subst P (same_Some y x here) (Contains-head y ys)
    at false behind later = Contains-rest y ys x (later behind)

-- the counting package of a pair has a package name
pub package_named : (inputs : Inputs) (name version : List ℕ) (pkg : Pkg) → All IsNamed inputs.start
    → All IsListedNamed (all_listed inputs.indices) → counting_package inputs name version ≡ Some pkg → IsTrue (is_name pkg.name)
package_named inputs name version pkg records listed is = at (standing_record inputs.start name version) refl is
  where
    behind : (stanza : Option IndexPackage) → index_package inputs.indices name version ≡ stanza
        → option_map (λ (one : IndexPackage). one.pkg) stanza ≡ Some pkg → IsTrue (is_name pkg.name)
    behind None was is = absurd (let e : None ≡ Some pkg = is in cc)
    behind (Some one) was is =
        let Is : Pkg → Type 0 = λ p. IsTrue (is_name p.name) in
        subst Is (same_Some one.pkg pkg is) (All-contains IsListedNamed (all_listed inputs.indices) one listed
        (found_in (λ (l : IndexPackage). is_of name version l.pkg) (all_listed inputs.indices) one was))

    at : (entry : Option Record) → standing_record inputs.start name version ≡ entry
        → option_or (option_map database.pkg_of entry) (option_map (λ (one : IndexPackage). one.pkg) (index_package inputs.indices name version)) ≡ Some pkg
        → IsTrue (is_name pkg.name)
    at None was is = behind (index_package inputs.indices name version) refl is
    at (Some one) was is =
        let Is : Pkg → Type 0 = λ p. IsTrue (is_name p.name) in
        subst Is (same_Some (database.pkg_of one) pkg is) (All-contains IsNamed inputs.start one records
        (found_in (λ (r : Record). is_named name r && stands r && same_version r.version version) inputs.start one was))

-- the pairs of a universe have package names
pub pairs_named : (inputs : Inputs) (u : Universe) → HasNames inputs.start → HasListedNames (all_listed inputs.indices) → IsUniverse inputs u → HasPairNames u
pairs_named inputs u records listed is = All-intro (λ (pair : Pair). IsTrue (is_name pair.pkg.name)) u.pairs (λ pair within.
    package_named inputs pair.pkg.name pair.pkg.version pair.pkg records listed
    (All-contains (λ (p : Pair). counting_package inputs p.pkg.name p.pkg.version ≡ Some p.pkg) u.pairs pair is.counting within))

-- stanzas of packages and others behind them
pub listed_append : (some more : List IndexPackage) → All IsListedNamed some → All IsListedNamed more → All IsListedNamed (some ++ more)
listed_append some more first second = All-intro IsListedNamed (some ++ more) (λ one within.
    elim (Contains-append_cases some more one within) [
      | inl here ↦ All-contains IsListedNamed some one first here
      | inr there ↦ All-contains IsListedNamed more one second there
    ])

-- the indices so far and one more
pub named_more : (indices : List ReadIndex) (i : ℕ) (item : ReadIndex) → i < length indices → item ≡ get_or indices i item
    → HasListedNames (all_listed (indices_of (take i indices))) → HasListedNames item.index.listed
    → HasListedNames (all_listed (indices_of (take (i + 1) indices)))
named_more indices i item within is before named =
    let front = take i indices in
    let all : List ReadIndex → List IndexPackage = λ reads. all_listed (indices_of reads) in
    let one : all (item ∷ []) ≡ item.index.listed = append-nil item.index.listed in
    let both : all (front ++ item ∷ []) ≡ all front ++ all (item ∷ []) =
    ap all_listed (map-append (λ (read : ReadIndex). read.index) front (item ∷ []))
    ∙ flat_map-append (λ (index : Index). index.listed) (indices_of front) (indices_of (item ∷ [])) in
    let more : front ++ item ∷ [] ≡ take (i + 1) indices =
    ap (λ (read : ReadIndex). front ++ read ∷ []) is ∙ sym (take_more indices i item within) in
    subst (λ (reads : List ReadIndex). HasListedNames (all reads)) more
    (subst HasListedNames (sym (both ∙ ap (λ (listed : List IndexPackage). all front ++ listed) one))
    (listed_append (all front) item.index.listed before named))
