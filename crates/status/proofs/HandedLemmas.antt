-- What is handed in to be unpacked can be written, and reads back once it is unpacked.
use Rattle.std.proofs.Common.{◌≡◌, ℕ, Bool, true, false, List, [], ◌∷◌, Option, None, Some, Result, Ok, Err, refl, sym, ap, subst, codes, if◌then◌else◌}
use Rattle.std.specs.Prelude.{Contains}
use Rattle.std.specs.Option.{option_or}
use Rattle.index.specs.Alone.{alone_in, unless_refused}
use Rattle.index.specs.Index.{first_place, indexed_at, indexed_with, read_entry, read_indexed, read_native, unless_name_fault}
use Rattle.relation.specs.PackageStanza.{counts_for}
use Rattle.index.specs.declared.error.IndexFault.{IndexFault}
use Rattle.relation.specs.PkgFields.{fields_of}
use Rattle.relation.specs.PkgText.{pkg_fault, pkg_name_fault, pkg_of, pkg_version_fault, relations_fault, unless_fault}
use Rattle.relation.specs.declared.error.PkgFault.{PkgFault}
use Rattle.rules.specs.ElementLaws.{Contains-head}
use Rattle.rules.specs.FileRecord.{FileRecord, IndexStanza, new_entry, unpacked_entry}
use Rattle.rules.specs.Package.{Pkg}
use Rattle.rules.specs.declared.index_place.IndexPlace.{IndexPlace}
use Rattle.stanza.specs.declared.form.Form.TheVariants.{Plain}
use Rattle.stanza.specs.Field.{value_named}
use Rattle.stanza.specs.Stanza.{StanzaText, items_of}
use Rattle.stanza.specs.declared.error.StanzaError.{StanzaError}
use Rattle.status.proofs.SaysLemmas.{none-back, none-front, sound-there, text-value}
use Rattle.status.proofs.ReadBackLemmas.{unpacked_reads_back}
use Rattle.status.specs.ReadBack.{ReadsBack}
use Rattle.status_text.proofs.FoundLemmas.{AreWritable-found}
use Rattle.status_text.specs.Touched.{IsWritableIndexed, IsWritableVersion}
use Rattle.status.proofs.FaithfulLemmas.{text-writable}
use Rattle.status.specs.Applicable.{handed_in}

-- a package of an index that can be unpacked, by itself and over a record
pub record CanUnpack (arch : List ℕ) (indexed : IndexStanza) : Type 0 where
  pub writable : IsWritableIndexed indexed
  pub alone : ReadsBack arch (new_entry indexed)
  pub over : (entry : FileRecord) → ReadsBack arch entry → ReadsBack arch (unpacked_entry indexed entry)

-- what is handed in is read from one stanza
entry-found : (arch : List ℕ) (items : List (Result StanzaText StanzaError)) (indexed : IndexStanza) → alone_in arch items ≡ Some indexed
    → (stanza : StanzaText) × Contains items (Ok stanza) × (read_entry arch (first_place 1) stanza ≡ Ok (Some indexed))
entry-found arch [] indexed h = absurd (let e = h in cc)
entry-found arch (item ∷ next ∷ items) indexed h = absurd (let e = h in cc)
entry-found arch (Err refused ∷ []) indexed h = absurd (let e = h in cc)
entry-found arch (Ok stanza ∷ []) indexed h = (stanza, Contains-head (Ok stanza) [], by (read_entry arch (first_place 1) stanza) h)
  where
    by : (read : Result (Option IndexStanza) IndexFault) → unless_refused read ≡ Some indexed → read ≡ Ok (Some indexed)
    by (Err refused) h = absurd (let e = h in cc)
    by (Ok entry) h = ap (λ (one : Option IndexStanza). Ok one) h

-- the steps of reading it
name-read : (refused : Option PkgFault) (later : Result (Option IndexStanza) IndexFault) (indexed : IndexStanza) → unless_name_fault refused later ≡ Ok (Some indexed)
    → later ≡ Ok (Some indexed)
name-read None later indexed h = h
name-read (Some refused) later indexed h = absurd (let e = h in cc)

native-read : (arch : List ℕ) (place : IndexPlace) (stanza : StanzaText) (value : Option (List ℕ)) (indexed : IndexStanza) → read_native arch place stanza value ≡ Ok (Some indexed)
    → read_indexed arch place stanza ≡ Ok (Some indexed)
native-read arch place stanza None indexed h = absurd (let e = h in cc)
native-read arch place stanza (Some value) indexed h = by (counts_for arch value) (read_indexed arch place stanza) h
  where
    by : (counted : Bool) (read : Result (Option IndexStanza) IndexFault) → (if counted then read else Ok None) ≡ Ok (Some indexed) → read ≡ Ok (Some indexed)
    by true read h = h
    by false read h = absurd (let e : ◌≡◌ {A = Result (Option IndexStanza) IndexFault} (Ok None) (Ok (Some indexed)) = h in cc)

indexed-read : (place : IndexPlace) (stanza : StanzaText) (refused : Option PkgFault) (pkg : Pkg) (indexed : IndexStanza) → indexed_with place stanza (unless_fault refused pkg) ≡ Ok (Some indexed)
    → (refused ≡ None) × (indexed_at place stanza pkg ≡ indexed)
indexed-read place stanza None pkg indexed h = (refl, let e : ◌≡◌ {A = Result (Option IndexStanza) IndexFault} (Ok (Some (indexed_at place stanza pkg))) (Ok (Some indexed)) = h in cc)
indexed-read place stanza (Some refused) pkg indexed h = absurd (let e = h in cc)

indexed-writable : (arch : List ℕ) (place : IndexPlace) (text : List ℕ) (stanza : StanzaText) (indexed : IndexStanza) → Contains (items_of Plain text) (Ok stanza)
    → read_entry arch place stanza ≡ Ok (Some indexed) → IsWritableIndexed indexed
indexed-writable arch place text stanza indexed within read =
    let fields = fields_of stanza in
    let native = native-read arch place stanza (value_named (codes "Architecture") stanza.fields) indexed (name-read (pkg_name_fault fields) _ indexed read) in
    let parts = indexed-read place stanza (pkg_fault fields) (pkg_of arch fields) indexed native in
    let later = none-back (pkg_name_fault fields) (option_or (pkg_version_fault fields) (relations_fault fields)) parts.0 in
    let version = sound-there true fields.line fields.version (none-front (pkg_version_fault fields) (relations_fault fields) later) in
    subst IsWritableIndexed parts.1 (record {
      fields = AreWritable-found text stanza within;
      version = subst IsWritableVersion (sym (text-value fields.version)) (text-writable _ version.1);
    })

pub can-unpack : (arch : List ℕ) (given : Option (List ℕ)) (indexed : IndexStanza) → handed_in arch given ≡ Some indexed → CanUnpack arch indexed
can-unpack arch None indexed h = absurd (let e = h in cc)
can-unpack arch (Some text) indexed h =
    let read = entry-found arch (items_of Plain text) indexed h in
    let back = unpacked_reads_back arch (first_place 1) read.0 indexed read.2 in
    record { writable = indexed-writable arch (first_place 1) text read.0 indexed read.1 read.2; alone = back.0; over = back.1 }
