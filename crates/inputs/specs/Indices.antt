-- The indices of a request: one for each stanza of the sources, in their order.
use Rattle.std.specs.Prelude.{◌≡◌, ◌⊎◌, ℕ, ◌+◌, List, [], ◌∷◌, ◌++◌, length, Result, Ok, Err}
use Rattle.index.specs.Index.{ReadIndex, ReadStanzas, with_release}
use Rattle.index.specs.Sources.{SourceText}
use Rattle.index.specs.Streamed.{read_stream}
use Rattle.rules.specs.Available.{Index}
use Rattle.rules.specs.declared.release.Release.{Release}
use Rattle.inputs.specs.Reading.{out_of_memory, with_fault}
use Rattle.inputs.specs.Texts.{Found, read_found}
use Rattle.inputs.specs.declared.refusal.Fault.{Fault}
use Rattle.inputs.specs.declared.refusal.Fault.TheVariants as fault
use Rattle.inputs.specs.declared.refusal.Input.TheVariants as place
use Rattle.inputs.specs.declared.refusal.Refusal.{Refusal}

-- what the text of an index is read as, with the release keys of its source: it has this number, and so many packages are in
-- those before it; a text that is too long is refused behind the refusals of its stanzas
abbrev pub index_in : List ℕ → ℕ → ℕ → SourceText → List ℕ → Result ReadIndex Fault
index_in arch number before source text = with_fault fault.Index (with_release source.release (read_stream arch number before text))

-- these indices and then the later ones, if those aren't refused
abbrev pub with_indices : List Index → Result (List Index) Refusal → Result (List Index) Refusal
with_indices indices (Err refused) = Err refused
with_indices indices (Ok later) = Ok (indices ++ later)

-- the index of this number and what is read behind it, or its refusal at its place
abbrev pub index_then : ℕ → Result ReadIndex Fault → (ℕ → Result (List Index) Refusal) → Result (List Index) Refusal
index_then number (Err refused) later = Err (record { place = place.Index number; fault = refused })
index_then number (Ok read) later = with_indices (read.index ∷ []) (later (length read.index.listed))

-- what the index of this number is read as, where the text of its source is found
abbrev pub index_of : List ℕ → (ℕ → List ℕ → Found) → ℕ → ℕ → SourceText → Result ReadIndex Fault
index_of arch index_texts number before source = read_found (index_in arch number before source) (index_texts number source.file)

-- the indices of these sources, each with the release keys of its source, or the first refusal: the first index has this
-- number, and so many packages are in those before it
abbrev pub indices_from : List ℕ → (ℕ → List ℕ → Found) → ℕ → ℕ → List SourceText → Result (List Index) Refusal
indices_from arch index_texts number before [] = Ok []
indices_from arch index_texts number before (source ∷ sources) =
    index_then number (index_of arch index_texts number before source) (λ count. indices_from arch index_texts (number + 1) (before + count) sources)

-- the indices of the sources, or the first refusal; they are counted from 1
unfoldable pub read_indices : List ℕ → (ℕ → List ℕ → Found) → List SourceText → Result (List Index) Refusal
read_indices arch index_texts sources = indices_from arch index_texts 1 0 sources

-- the index that was kept, with these release keys
abbrev pub with_keys : Release → ReadStanzas → ReadIndex
with_keys release stanzas = record { index = record { release = release; listed = stanzas.listed }; skipped = stanzas.skipped }

-- the index of this number is refused so, or memory was wanting
abbrev pub IsRefusedIndex : ℕ → Result ReadIndex Fault → Refusal → Type 0
IsRefusedIndex number read refused = ((read ≡ Err refused.fault) × (refused.place ≡ place.Index number)) ⊎ (refused ≡ out_of_memory)

-- the indices that were kept, each with its release keys
abbrev pub released : List Release → List ReadStanzas → List Index
released [] kept = []
released (release ∷ releases) [] = []
released (release ∷ releases) (stanzas ∷ kept) = (with_keys release stanzas).index ∷ released releases kept
