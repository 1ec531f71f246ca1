-- The universe of a request is built on the start, and the refusal of an index is one of all texts.
use Rattle.std.proofs.Common.{◌≡◌, ℕ, ◌+◌, ◌⊎◌, List, [], ◌∷◌, length, Result, Ok, Err, refl, sym, ap, subst, ◌∙◌}
use Rattle.candidates.specs.Inputs.{inputs_of}
use Rattle.index.specs.Index.{ReadIndex}
use Rattle.index.specs.Sources.{SourceText}
use Rattle.pins.specs.Prefs.{Preferences}
use Rattle.rules.specs.Available.{Index}
use Rattle.rules.specs.Database.{HasDistinctNames}
use Rattle.rules.specs.FileRecord.{FileRecord, records_of}
use Rattle.rules.specs.Universe.{IsUniverse, Universe}
use Rattle.rules.specs.Verdict.{IsBuiltOn, UniverseIsBuilt}
use Rattle.universe_request.specs.Request.{ReadRequest}
use Rattle.inputs.specs.Before.{HasStatus, IsRefusalBefore}
use Rattle.inputs.specs.Indices.{index_of, index_then, indices_from, read_indices, with_indices}
use Rattle.inputs.specs.Meaning.{IsRequested, asked_of}
use Rattle.inputs.specs.Reading.{out_of_memory}
use Rattle.inputs.specs.Texts.{Found, Texts, sources_of}
use Rattle.inputs.specs.declared.refusal.Fault.{Fault}
use Rattle.inputs.specs.declared.refusal.Input.TheVariants as place
use Rattle.inputs.specs.declared.refusal.Refusal.{Refusal}
use mathlib.Core.Logic.{inl, inr}

-- the universe of a request over these records is built on them
pub built_on : UniverseIsBuilt → (arch : List ℕ) (request : Found) (u : Universe) (lent entries : List FileRecord) (indices : List Index) (prefs : Preferences)
    → lent ≡ entries → HasDistinctNames (records_of entries)
    → ((asked : ReadRequest) × IsRequested arch request (records_of lent) indices prefs asked u) → IsBuiltOn (records_of entries) u
built_on law arch request u lent entries indices prefs same distinct requested =
    law (inputs_of (records_of entries) indices prefs (asked_of requested.0)) u distinct
    (subst (λ es. IsUniverse (inputs_of (records_of es) indices prefs (asked_of requested.0)) u) same requested.1.built.universe)

-- there is a number such that the refusal is at the index of this number
abbrev IsAtAnIndex : Refusal → Type 0
IsAtAnIndex refused = (at : ℕ) × (refused.place ≡ place.Index at)

-- a refusal behind indices that are read is one of what follows them
behind : (some : List Index) (later : Result (List Index) Refusal) (refused : Refusal) → with_indices some later ≡ Err refused
    → later ≡ Err refused
behind some (Ok indices) refused same = absurd (let e = same in cc)
behind some (Err reason) refused same = same

-- the refusal of indices is at the place of one
index_place : (arch : List ℕ) (texts : ℕ → List ℕ → Found) (number before : ℕ) (sources : List SourceText) (refused : Refusal)
    → indices_from arch texts number before sources ≡ Err refused → IsAtAnIndex refused
index_place arch texts number before [] refused same = absurd (let e = same in cc)
index_place arch texts number before (source ∷ sources) refused same = here (index_of arch texts number before source) same
    (λ count. index_place arch texts (number + 1) (before + count) sources refused)
  where
    err-same : (one other : Refusal) (made : Result (List Index) Refusal) → made ≡ Err one → made ≡ Err other → other ≡ one
    err-same one other made first second = let e = sym first ∙ second in cc

    here : (read : Result ReadIndex Fault)
        → index_then number read (λ count. indices_from arch texts (number + 1) (before + count) sources) ≡ Err refused
        → ((count : ℕ) → indices_from arch texts (number + 1) (before + count) sources ≡ Err refused → IsAtAnIndex refused)
        → IsAtAnIndex refused
    here (Err reason) same later = (
      number,
      ap (λ (r : Refusal). r.place)
          (err-same (record { place = place.Index number; fault = reason }) refused
          (Err (record { place = place.Index number; fault = reason })) refl same),
    )
    here (Ok read) same later = later (length read.index.listed) (behind (read.index ∷ [])
        (indices_from arch texts (number + 1) (before + length read.index.listed) sources) refused same)

-- the first refusal of the indices is that of all texts, where those before them are read
pub index_refused : (texts : Texts) (sources : List SourceText) (refused : Refusal) → HasStatus texts
    → sources_of texts ≡ Ok sources
    → (refused ≡ out_of_memory) ⊎ (read_indices texts.arch texts.index sources ≡ Err refused) → IsRefusalBefore texts refused
unfolding read_indices
index_refused texts sources refused status read (inl wanting) = subst (IsRefusalBefore texts) (sym wanting) refl
index_refused texts sources refused status read (inr index_is) =
    let at = index_place texts.arch texts.index 1 0 sources refused index_is in
    let is : refused ≡ record { place = place.Index at.0; fault = refused.fault } = ap (λ p. record { place = p; fault = refused.fault }) at.1 in
    subst (IsRefusalBefore texts) (sym is)
    (record { sources = sources; status = status; sources_are = read; refused = index_is ∙ ap Err is })
