-- Archives that are found index by index, and where nothing is read a second time.
use Rattle.std.proofs.Common.{◌≡◌, ◌≢◌, ◌∙◌, ◌⊎◌, ◌+◌, ◌<◌, ◌≤◌, ℕ, true, List, [], ◌∷◌, None, Some, Result, Ok, Err, IfErr, OnOk, ap, drop, drop_of_length-le, get_or, inl, inr, length, refl, sym}
use Rattle.cli.specs.Again.{archives_by, no_archives, stanzas_from, stanzas_named, stanzas_then}
use Rattle.index.specs.Error.{IsSourcesFault}
use Rattle.index.specs.Sources.{SourceText, read_sources}
use Rattle.index.specs.declared.error.SourcesError.{SourcesError}
use Rattle.index.specs.declared.error.SourcesError.TheVariants as error
use Rattle.index.specs.declared.error.SourcesFault.{SourcesFault}
use Rattle.inputs.specs.ReadAs.{files_of}
use Rattle.inputs.specs.Reading.{with_fault}
use Rattle.inputs.specs.Texts.{Found, Texts, read_found, sources_in, sources_of}
use Rattle.inputs.specs.declared.refusal.Fault.{Fault}
use Rattle.inputs.specs.declared.refusal.Fault.TheVariants as fault
use Rattle.json_answers.proofs.FoundLemmas.{also_none, also_settled, also_then, archive_none}
use Rattle.json_answers.proofs.ListLemmas.{left_at}
use Rattle.json_answers.specs.Archives.{StepArchives, archive_for, are_settled, found_also, stanzas_of}
use Rattle.stanza.specs.Stanza.{StanzaText}
use Rattle.stanza.specs.declared.error.ReaderError.{ReaderError}
use Rattle.stanza.specs.declared.error.ReaderError.TheVariants as read_error

-- the index that is next
pub next_file : (sources : List SourceText) (i : ℕ) (source : SourceText) (file : List ℕ) → i < length sources → source ≡ get_or sources i source
    → file ≡ source.file → files_of (drop i sources) ≡ file ∷ files_of (drop (i + 1) sources)
next_file sources i source file less is named = left_at (λ (s : SourceText). s.file) sources i source less
    ∙ ap (λ (f : List ℕ). f ∷ files_of (drop (i + 1) sources)) (ap (λ (s : SourceText). s.file) (sym is) ∙ sym named)

module _ (arch : List ℕ) (index : ℕ → List ℕ → Found) (number : ℕ) (whole : StepArchives) where
  -- an index was read: those behind it are left
  pub index_read : (files more : List (List ℕ)) (file text : List ℕ) (old new : StepArchives) → files ≡ file ∷ more → index number file ≡ Some text
      → new ≡ found_also arch (stanzas_of text) old → found_also arch (stanzas_from index number files) old ≡ whole
      → found_also arch (stanzas_from index (number + 1) more) new ≡ whole
  index_read files more file text old new first there made so_far =
      let rest = stanzas_from index (number + 1) more in
      ap (found_also arch rest) made ∙ also_then arch (stanzas_of text) rest old
      ∙ ap (λ (found : Found). found_also arch (stanzas_then found rest) old) (sym there)
      ∙ ap (λ (fs : List (List ℕ)). found_also arch (stanzas_from index number fs) old) (sym first) ∙ so_far

  -- an index isn't found: none is read any more
  pub index_missing : (files more : List (List ℕ)) (file : List ℕ) (old new : StepArchives) → files ≡ file ∷ more → index number file ≡ None
      → new ≡ old → found_also arch (stanzas_from index number files) old ≡ whole → new ≡ whole
  index_missing files more file old new first missing same so_far =
      let rest = stanzas_from index (number + 1) more in
      same ∙ sym (also_none arch old)
      ∙ ap (λ (found : Found). found_also arch (stanzas_then found rest) old) (sym missing)
      ∙ ap (λ (fs : List (List ℕ)). found_also arch (stanzas_from index number fs) old) (sym first) ∙ so_far

  -- no index is left
  pub indices_read : (sources : List SourceText) (i : ℕ) (old : StepArchives) → length sources ≤ i
      → found_also arch (stanzas_from index number (files_of (drop i sources))) old ≡ whole → old ≡ whole
  indices_read sources i old past so_far = sym (also_none arch old)
      ∙ ap (λ (rest : List SourceText). found_also arch (stanzas_from index number (files_of rest)) old) (sym (drop_of_length-le sources past)) ∙ so_far

  -- all archives are found
  pub archives_found : (stanzas : List StanzaText) (old : StepArchives) → are_settled old.steps old.archives ≡ true
      → found_also arch stanzas old ≡ whole → old ≡ whole
  archives_found stanzas old settled so_far = sym (also_settled arch stanzas old settled) ∙ so_far

-- Where nothing is read a second time

stanzas_none : (index : ℕ → List ℕ → Found) → ((number : ℕ) (file : List ℕ) → index number file ≡ None) → (sources : Result (List SourceText) Fault)
    → stanzas_named index sources ≡ []
stanzas_none index none (Ok []) = refl
stanzas_none index none (Ok (source ∷ sources)) =
    ap (λ (found : Found). stanzas_then found (stanzas_from index 2 (files_of sources))) (none 1 source.file)
stanzas_none index none (Err refused) = refl

-- where no index is found there are no archives
pub archives_none : (texts : Texts) → ((number : ℕ) (file : List ℕ) → texts.index number file ≡ None) → archives_by texts ≡ no_archives
archives_none texts none = ap (archive_for texts.arch) (stanzas_none texts.index none (sources_of texts)) ∙ (λ i. λ s. archive_none texts.arch s i)

-- What the sources name

-- sources that aren't found name no index
pub sources_missing : (index : ℕ → List ℕ → Found) (sources : Found) → sources ≡ None → stanzas_named index (read_found sources_in sources) ≡ []
sources_missing index sources missing = ap (λ (found : Found). stanzas_named index (read_found sources_in found)) missing

-- sources that are read name these indices
pub sources_read : (index : ℕ → List ℕ → Found) (sources : Found) (text : List ℕ) (listed : List SourceText) → sources ≡ Some text
    → read_sources text ≡ Ok listed → stanzas_named index (read_found sources_in sources) ≡ stanzas_from index 1 (files_of listed)
sources_read index sources text listed there read = ap (λ (found : Found). stanzas_named index (read_found sources_in found)) there
    ∙ ap (λ (r : Result (List SourceText) SourcesFault). stanzas_named index (with_fault fault.Sources r)) read

-- sources that are refused name none
pub sources_refused : (index : ℕ → List ℕ → Found) (sources : Found) (text : List ℕ) (e : SourcesError) → sources ≡ Some text
    → IsSourcesFault e (read_sources text) → (e ≡ error.OutOfMemory → ⊥) → stanzas_named index (read_found sources_in sources) ≡ []
sources_refused index sources text (error.Refused refused) there is apart =
    ap (λ (found : Found). stanzas_named index (read_found sources_in found)) there
    ∙ ap (λ (r : Result (List SourceText) SourcesFault). stanzas_named index (with_fault fault.Sources r)) is
sources_refused index sources text error.OutOfMemory there is apart = absurd (apart refl)

-- An archive that is found in a text

-- what is found whether the text has a fault or not, where that isn't for want of memory
pub found_anyway : {A : Type 0} (P : Type 0) (read : Result A ReaderError) → OnOk read P → IfErr read (λ e. (e ≡ read_error.OutOfMemory) ⊎ P)
    → read ≢ Err read_error.OutOfMemory → P
found_anyway P (Ok done) known faulty apart = known
found_anyway P (Err e) known (inl memory) apart = absurd (apart (ap (λ (why : ReaderError). Err why) memory))
found_anyway P (Err e) known (inr found) apart = found
