-- An index whose text comes piece by piece: its stanzas are read as far as the text is, and a text that is too long is
-- refused where that shows (that limit is this project's own).
use Rattle.std.specs.Prelude.{◌≡◌, ℕ, ⊤, List, [], ◌∷◌, Option, Some, None, Result, Ok, Err, if◌then◌else◌}
use Rattle.relation.specs.PackageStanza.{counts_for}
use Rattle.relation.specs.PkgText.{pkg_fault, pkg_name_fault}
use Rattle.relation.specs.PkgValues.{PkgValues, values_of}
use Rattle.relation.specs.declared.error.PkgFault.{PkgFault}
use Rattle.rules.specs.FileRecord.{IndexStanza}
use Rattle.rules.specs.declared.index_place.IndexPlace.{IndexPlace}
use Rattle.rules.specs.declared.limits.TheConstants.{TEXT_BYTES}
use Rattle.stanza.specs.declared.form.Form.TheVariants.{Plain}
use Rattle.stanza.specs.Stanza.{StanzaText}
use Rattle.stanza.specs.Streamed.{read_within}
use Rattle.stanza.specs.declared.error.ReaderError.{ReaderError}
use Rattle.stanza.specs.declared.error.ReaderError.TheVariants as read
use Rattle.index.specs.Index.{ReadStanzas, entry_then, first_place, next_place, read_entry}
use Rattle.index.specs.Walk.{IndexFields}
use Rattle.index.specs.declared.error.IndexError.{IndexError}
use Rattle.index.specs.declared.error.IndexError.TheVariants as index
use Rattle.index.specs.declared.error.IndexFault.{IndexFault}
use Rattle.index.specs.declared.error.IndexFault.TheVariants as fault
use Rattle.index.specs.declared.stream_error.StreamError.{StreamError}
use Rattle.index.specs.declared.stream_error.StreamError.TheVariants as stream

-- the values of a package, unless they are refused
abbrev pub unless_refused : Option PkgFault → PkgValues → Result (Option PkgValues) IndexFault
unless_refused (Some refused) values = Err (fault.Pkg refused)
unless_refused None values = Ok (Some values)

-- the values that a stanza with this value of Architecture gives: it is refused without one, and gives none where it doesn't count
abbrev pub native_values : List ℕ → ℕ → IndexFields → Option (List ℕ) → Result (Option PkgValues) IndexFault
native_values arch line index_fields None = Err (fault.MissingArchitecture line)
native_values arch line index_fields (Some value) = if counts_for arch value then unless_refused (pkg_fault index_fields.pkg) (values_of index_fields.pkg) else Ok None

-- the refusal of Package, or else what comes after it
abbrev pub after_name : Option PkgFault → Result (Option PkgValues) IndexFault → Result (Option PkgValues) IndexFault
after_name (Some refused) later = Err (fault.Pkg refused)
after_name None later = later

-- the values that what was found in a stanza gives, or its first refusal: of Package, then Architecture, then the package
abbrev pub read_values : List ℕ → ℕ → IndexFields → Result (Option PkgValues) IndexFault
read_values arch line index_fields = after_name (pkg_name_fault index_fields.pkg) (native_values arch line index_fields index_fields.architecture)

-- the refusal of an index that an error of its reader is; the source doesn't fail where its bytes are known
abbrev pub fault_of : ReaderError → IndexFault
fault_of (read.Refused refused) = fault.Stanza refused
fault_of read.TooLarge = fault.TooLarge
fault_of read.Read = fault.TooLarge
fault_of read.OutOfMemory = fault.TooLarge

-- what an item that was read gives, or its first refusal
abbrev pub read_streamed : List ℕ → IndexPlace → Result StanzaText ReaderError → Result (Option IndexStanza) IndexFault
read_streamed arch place (Err error) = Err (fault_of error)
read_streamed arch place (Ok stanza) = read_entry arch place stanza

-- what the items that were read, of which the first is at this place, give behind so many packages, or the first refusal
abbrev pub stanzas_read : List ℕ → IndexPlace → List (Result StanzaText ReaderError) → ℕ → Result ReadStanzas IndexFault
stanzas_read arch place [] count = Ok (record { listed = []; skipped = 0 })
stanzas_read arch place (item ∷ items) count = entry_then count (read_streamed arch place item) (stanzas_read arch (next_place place) items)

-- the stanzas of a text for an architecture, as the index of this number, behind so many packages of earlier indices, or the
-- first refusal
abbrev pub read_stream : List ℕ → ℕ → ℕ → List ℕ → Result ReadStanzas IndexFault
read_stream arch number before text = stanzas_read arch (first_place number) (read_within Plain 1 TEXT_BYTES text) before

-- the error of a reading by an error of its reader, and by one of its stanzas
abbrev pub of_read_error : ReaderError → StreamError
of_read_error (read.Refused refused) = stream.Refused (fault.Stanza refused)
of_read_error read.TooLarge = stream.Refused fault.TooLarge
of_read_error read.Read = stream.Read
of_read_error read.OutOfMemory = stream.OutOfMemory

abbrev pub of_index_error : IndexError → StreamError
of_index_error (index.Refused refused) = stream.Refused refused
of_index_error index.OutOfMemory = stream.OutOfMemory

-- the error is the refusal of this reading, or want of memory
abbrev pub IsStreamFault : {A : Type 0} → StreamError → Result A IndexFault → Type 0
IsStreamFault (stream.Refused refused) read = read ≡ Err refused
IsStreamFault stream.Read read = ⊥
IsStreamFault stream.OutOfMemory read = ⊤
