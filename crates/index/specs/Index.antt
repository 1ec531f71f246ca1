-- An index: the stanzas of a Packages file that count for an architecture, with their packages (Debian Policy 5.3,
-- 5.6.1 and 5.6.8). That the others are skipped, after their Package was tested, is this project's own.
use Rattle.std.specs.Prelude.{ℕ, ◌+◌, Bool, false, List, [], ◌∷◌, ◌++◌, length, Option, Some, None, Result, Ok, Err, codes, nat_le, nat_lt, if◌then◌else◌}
use Rattle.relation.specs.PackageStanza.{counts_for, is_essential, read_stanza, says_essential}
use Rattle.relation.specs.PkgFields.{fields_of}
use Rattle.relation.specs.PkgText.{pkg_name_fault, read_fields}
use Rattle.relation.specs.declared.error.PkgFault.{PkgFault}
use Rattle.rules.specs.Available.{Index}
use Rattle.rules.specs.FileRecord.{IndexStanza}
use Rattle.rules.specs.Package.{Pkg}
use Rattle.rules.specs.Step.{IndexPackage}
use Rattle.rules.specs.declared.index_place.IndexPlace.{IndexPlace}
use Rattle.rules.specs.declared.release.Release.{Release}
use Rattle.rules.specs.declared.limits.TheConstants.{TEXT_BYTES, PACKAGES}
use Rattle.stanza.specs.declared.form.Form.TheVariants.{Plain}
use Rattle.stanza.specs.declared.error.StanzaError.{StanzaError}
use Rattle.stanza.specs.Field.{value_named}
use Rattle.stanza.specs.Stanza.{StanzaText, items_of}
use Rattle.index.specs.declared.error.IndexFault.{IndexFault}
use Rattle.index.specs.declared.error.IndexFault.TheVariants as fault

-- what the stanzas of an index are read as: those that count, in order, and how many were skipped
pub record ReadStanzas : Type 0 where
  pub listed : List IndexPackage
  pub skipped : ℕ

-- an index that was read: as the definitions see it, and how many stanzas were skipped
pub record ReadIndex : Type 0 where
  pub index : Index
  pub skipped : ℕ

-- the stanza at this place, with this package
abbrev pub indexed_at : IndexPlace → StanzaText → Pkg → IndexStanza
indexed_at place stanza pkg = record {
  listed = record { pkg = pkg; is_essential = is_essential stanza.fields; says_essential = says_essential stanza.fields; place = place };
  fields = (read_stanza stanza).fields;
}

-- a stanza with its package, if that isn't refused
abbrev pub indexed_with : IndexPlace → StanzaText → Result Pkg PkgFault → Result (Option IndexStanza) IndexFault
indexed_with place stanza (Err refused) = Err (fault.Pkg refused)
indexed_with place stanza (Ok pkg) = Ok (Some (indexed_at place stanza pkg))

-- a stanza of an architecture that counts with its package, or the package's first refusal: of Version, then the relation fields
abbrev pub read_indexed : List ℕ → IndexPlace → StanzaText → Result (Option IndexStanza) IndexFault
read_indexed arch place stanza = indexed_with place stanza (read_fields arch (fields_of stanza))

-- what a stanza with this value of Architecture gives: it is refused without one, and gives nothing where it doesn't count
abbrev pub read_native : List ℕ → IndexPlace → StanzaText → Option (List ℕ) → Result (Option IndexStanza) IndexFault
read_native arch place stanza None = Err (fault.MissingArchitecture stanza.line)
read_native arch place stanza (Some value) = if counts_for arch value then read_indexed arch place stanza else Ok None

-- the refusal of Package, or else what comes after it
abbrev pub unless_name_fault : Option PkgFault → Result (Option IndexStanza) IndexFault → Result (Option IndexStanza) IndexFault
unless_name_fault (Some refused) later = Err (fault.Pkg refused)
unless_name_fault None later = later

-- what a stanza at this place gives, or its first refusal: of Package, then Architecture, then the package
abbrev pub read_entry : List ℕ → IndexPlace → StanzaText → Result (Option IndexStanza) IndexFault
read_entry arch place stanza =
    unless_name_fault (pkg_name_fault (fields_of stanza)) (read_native arch place stanza (value_named (codes "Architecture") stanza.fields))

-- what an item of the text gives, or its first refusal: the lines of a stanza come first
abbrev pub read_item : List ℕ → IndexPlace → Result StanzaText StanzaError → Result (Option IndexStanza) IndexFault
read_item arch place (Err refused) = Err (fault.Stanza refused)
read_item arch place (Ok stanza) = read_entry arch place stanza

-- the place of the first stanza of an index, and that of the stanza behind one
abbrev pub first_place : ℕ → IndexPlace
first_place number = record { index = number; stanza = 1 }

abbrev pub next_place : IndexPlace → IndexPlace
next_place place = record { index = place.index; stanza = place.stanza + 1 }

-- what one stanza gives
abbrev pub stanzas_of : Option IndexStanza → ReadStanzas
stanzas_of None = record { listed = []; skipped = 1 }
stanzas_of (Some indexed) = record { listed = indexed.listed ∷ []; skipped = 0 }

-- stanzas and then later ones
abbrev pub joined : ReadStanzas → ReadStanzas → ReadStanzas
joined stanzas later = record { listed = stanzas.listed ++ later.listed; skipped = stanzas.skipped + later.skipped }

-- stanzas and then later ones, if those aren't refused
abbrev pub with_stanzas : ReadStanzas → Result ReadStanzas IndexFault → Result ReadStanzas IndexFault
with_stanzas stanzas (Err refused) = Err refused
with_stanzas stanzas (Ok later) = Ok (joined stanzas later)

-- what a stanza gives is a package too many behind so many
abbrev pub is_too_many : ℕ → Option IndexStanza → Bool
is_too_many count None = false
is_too_many count (Some indexed) = nat_le PACKAGES count

-- what a stanza gives behind so many packages, and what is read then behind as many as there are
abbrev pub entry_then : ℕ → Result (Option IndexStanza) IndexFault → (ℕ → Result ReadStanzas IndexFault) → Result ReadStanzas IndexFault
entry_then count (Err refused) later = Err refused
entry_then count (Ok entry) later =
    if is_too_many count entry then Err fault.TooLarge
    else with_stanzas (stanzas_of entry) (later (count + length (stanzas_of entry).listed))

-- what these items, of which the first is at this place, give behind so many packages, or the first refusal
abbrev pub stanzas_in : List ℕ → IndexPlace → List (Result StanzaText StanzaError) → ℕ → Result ReadStanzas IndexFault
stanzas_in arch place [] count = Ok (record { listed = []; skipped = 0 })
stanzas_in arch place (item ∷ items) count = entry_then count (read_item arch place item) (stanzas_in arch (next_place place) items)

-- the stanzas as an index with these release keys, if they aren't refused
abbrev pub with_release : Release → Result ReadStanzas IndexFault → Result ReadIndex IndexFault
with_release release (Err refused) = Err refused
with_release release (Ok stanzas) = Ok (record { index = record { release = release; listed = stanzas.listed }; skipped = stanzas.skipped })

-- the index that a text is for an architecture, as the one of this number, with these release keys and behind so many
-- packages of earlier indices, or its first refusal
abbrev pub read_index : List ℕ → ℕ → Release → ℕ → List ℕ → Result ReadIndex IndexFault
read_index arch number release before text =
    if nat_lt TEXT_BYTES (length text) then Err fault.TooLarge
    else with_release release (stanzas_in arch (first_place number) (items_of Plain text) before)
