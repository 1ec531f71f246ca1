-- An index that is read stanza by stanza: what is read at first, and what an error of its reader and of a stanza says.
use Rattle.std.proofs.Common.{◌≡◌, ◌≢◌, ◌⊎◌, ℕ, ◌+◌, ◌≤◌, cond, List, [], ◌∷◌, length, map, Option, Some, Result, Ok, Err, refl, sym, ap, subst, ◌∙◌, inl, inr, arith}
use Rattle.std.proofs.lemmas.Bool.{le-ltb}
use Rattle.rules.specs.FileRecord.{IndexStanza}
use Rattle.rules.specs.declared.index_place.IndexPlace.{IndexPlace}
use Rattle.rules.specs.declared.limits.TheConstants.{TEXT_BYTES}
use Rattle.rules.specs.declared.release.Release.{Release}
use Rattle.stanza.specs.declared.form.Form.TheVariants.{Plain}
use Rattle.stanza.specs.Reading.{Reaches, Reading, begins, to_read}
use Rattle.stanza.specs.Stanza.{StanzaText, items_of}
use Rattle.stanza.specs.Streamed.{as_read, read_within}
use Rattle.stanza.specs.declared.error.ReaderError.{ReaderError}
use Rattle.stanza.specs.declared.error.ReaderError.TheVariants as read
use Rattle.stanza.specs.declared.error.StanzaError.{StanzaError}
use Rattle.index.specs.Error.{IsIndexFault}
use Rattle.index.specs.Index as Index
use Rattle.index.specs.Index.{ReadStanzas, entry_then, first_place, is_too_many, next_place, stanzas_of, read_entry, read_index, with_release, with_stanzas}
use Rattle.index.specs.Row.{stanzas_at}
use Rattle.index.specs.Streamed.{IsStreamFault, of_index_error, of_read_error, read_stream, stanzas_read}
use Rattle.index.specs.declared.error.IndexError.{IndexError}
use Rattle.index.specs.declared.error.IndexError.TheVariants as error
use Rattle.index.specs.declared.error.IndexFault.{IndexFault}
use Rattle.index.specs.declared.error.IndexFault.TheVariants as fault
use Rattle.index.specs.declared.rows.KeptRows.{KeptRows}
use Rattle.index.proofs.IndexLemmas.{with_stanzas-none}

abbrev none : ReadStanzas
none = record { listed = []; skipped = 0 }

-- at first nothing was kept, and all is still to be read
pub start_rows : (arch : List ℕ) (number before : ℕ) (kept : KeptRows) (reader : Reading) (text : List ℕ) → reader ≡ begins Plain TEXT_BYTES
    → kept.rows.items ≡ [] → kept.skipped ≡ 0
    → read_stream arch number before text
    ≡ with_stanzas (stanzas_at arch number kept) (stanzas_read arch (first_place number) (to_read reader text) (before + length kept.rows.items))
start_rows arch number before kept reader text is rows skipped =
    let nothing : stanzas_at arch number kept ≡ none = rw (rows, skipped) refl in
    let same : before + length kept.rows.items ≡ before = rw rows (omega arith) in
    sym (ap (λ (s : ReadStanzas). with_stanzas s (stanzas_read arch (first_place number) (to_read reader text) (before + length kept.rows.items))) nothing
    ∙ with_stanzas-none (stanzas_read arch (first_place number) (to_read reader text) (before + length kept.rows.items))
    ∙ ap (λ (n : ℕ). stanzas_read arch (first_place number) (to_read reader text) n) same
    ∙ ap (λ (r : Reading). stanzas_read arch (first_place number) (to_read r text) before) is)

-- an error that isn't the source's is the refusal of the index, or want of memory
pub refused_read : (arch : List ℕ) (place : IndexPlace) (count : ℕ) (kept : ReadStanzas) (items : List (Result StanzaText ReaderError))
    (stream : Result ReadStanzas IndexFault) (e : ReaderError) → e ≢ read.Read → (e ≡ read.OutOfMemory) ⊎ (items ≡ Err e ∷ [])
    → stream ≡ with_stanzas kept (stanzas_read arch place items count) → IsStreamFault (of_read_error e) stream
refused_read arch place count kept items stream (read.Refused fault) other (inl memory) is = cc
refused_read arch place count kept items stream (read.Refused fault) other (inr refused) is =
    is ∙ ap (λ (list : List (Result StanzaText ReaderError)). with_stanzas kept (stanzas_read arch place list count)) refused
refused_read arch place count kept items stream read.TooLarge other (inl memory) is = cc
refused_read arch place count kept items stream read.TooLarge other (inr refused) is =
    is ∙ ap (λ (list : List (Result StanzaText ReaderError)). with_stanzas kept (stanzas_read arch place list count)) refused
refused_read arch place count kept items stream read.Read other either is = absurd (other refl)
refused_read arch place count kept items stream read.OutOfMemory other either is = tt

-- the stanza that was reached is the first of what was still to be read
pub reached : (at : Option StanzaText) (stanza : StanzaText) (items later : List (Result StanzaText ReaderError)) → at ≡ Some stanza
    → Reaches at items later → items ≡ Ok stanza ∷ later
reached at stanza items later is reaches = subst (λ (there : Option StanzaText). Reaches there items later) is reaches

-- the refusal of a stanza is that of the index
pub refused_stanza : (arch : List ℕ) (place : IndexPlace) (count : ℕ) (kept : ReadStanzas) (items later : List (Result StanzaText ReaderError))
    (stanza : StanzaText) (stream : Result ReadStanzas IndexFault) (e : IndexError) → items ≡ Ok stanza ∷ later
    → IsIndexFault e (entry_then count (read_entry arch place stanza) (stanzas_read arch (next_place place) later))
    → stream ≡ with_stanzas kept (stanzas_read arch place items count) → IsStreamFault (of_index_error e) stream
refused_stanza arch place count kept items later stanza stream (error.Refused fault) first refused is =
    is ∙ ap (λ (list : List (Result StanzaText ReaderError)). with_stanzas kept (stanzas_read arch place list count)) first ∙ ap (with_stanzas kept) refused
refused_stanza arch place count kept items later stanza stream error.OutOfMemory first refused is = tt

entry_same : (count : ℕ) (entry : Result (Option IndexStanza) IndexFault) (later other : ℕ → Result ReadStanzas IndexFault)
    → ((n : ℕ) → later n ≡ other n) → entry_then count entry later ≡ entry_then count entry other
entry_same count (Err refused) later other same = refl
entry_same count (Ok indexed) later other same =
    ap (λ (rest : Result ReadStanzas IndexFault). cond (is_too_many count indexed) (Err fault.TooLarge) (with_stanzas (stanzas_of indexed) rest))
    (same (count + length (stanzas_of indexed).listed))

items_read : (arch : List ℕ) (place : IndexPlace) (items : List (Result StanzaText StanzaError)) (count : ℕ)
    → stanzas_read arch place (map as_read items) count ≡ Index.stanzas_in arch place items count
items_read arch place [] count = refl
items_read arch place (Err fault ∷ items) count = refl
items_read arch place (Ok stanza ∷ items) count =
    entry_same count (read_entry arch place stanza) (stanzas_read arch (next_place place) (map as_read items)) (Index.stanzas_in arch (next_place place) items)
    (items_read arch (next_place place) items)

-- a text that isn't too long is read as it is whole
pub stream_is : (arch : List ℕ) (number before : ℕ) (release : Release) (text : List ℕ) → length text ≤ TEXT_BYTES
    → read_within Plain 1 TEXT_BYTES text ≡ map as_read (items_of Plain text)
    → with_release release (read_stream arch number before text) ≡ read_index arch number release before text
stream_is arch number before release text fits same =
    ap (λ (list : List (Result StanzaText ReaderError)). with_release release (stanzas_read arch (first_place number) list before)) same
    ∙ ap (with_release release) (items_read arch (first_place number) (items_of Plain text) before)
    ∙ sym (rw (le-ltb TEXT_BYTES (length text) fits) refl)
