-- What is read can be solved, and so can what texts denote.
use Rattle.std.proofs.Common.{◌≡◌, ℕ, ◌+◌, List, [], ◌∷◌, length, Result, Ok, Err, refl, sym, subst, arith}
use Rattle.std.specs.List.{All}
use Rattle.std.proofs.lemmas.List.Elements.{All-nil}
use Rattle.candidates.specs.Inputs.{indices_of, inputs_of}
use Rattle.index.specs.Index.{ReadIndex}
use Rattle.index.specs.Sources.{SourceText}
use Rattle.rules.specs.Available.{Index, Inputs, all_listed}
use Rattle.rules.specs.Database.{Record}
use Rattle.rules.specs.Universe.{Universe}
use Rattle.rules.specs.Verdict.{IsBuiltOn}
use Rattle.rules.proofs.VerdictLemmas.{universe_is_built}
use Rattle.universe_parts.specs.Parts.{HaveDistinctNames}
use Rattle.universe_build.proofs.StartsApart.{starts_apart}
use Rattle.inputs.specs.Meaning.{asked_of}
use Rattle.inputs.specs.Before.{HasIndices, HasStart}
use Rattle.inputs.specs.Indices.{index_in, index_of, index_then, indices_from, read_indices, with_indices}
use Rattle.inputs.specs.ReadAs.{IsOver, start_of}
use Rattle.inputs.specs.Texts.{Found, Texts}
use Rattle.inputs.specs.declared.before.Before.{Before}
use Rattle.inputs.specs.declared.refusal.Fault.{Fault}
use Rattle.inputs.specs.declared.refusal.Refusal.{Refusal}
use Rattle.inputs.proofs.DistinctLemmas.{distinct_start, found-ok, status-read}
use Rattle.inputs.proofs.NameLemmas.{IsListedNamed, IsNamed, index_named, listed_append, pairs_named, status_named}
use Rattle.plain.proofs.MemberLemmas.{universe_is_counted}
use Rattle.refutation.proofs.NeededLemmas.{universe_has_needed_pairs}
use Rattle.solver.specs.Solvable.{IsSolvable}
use Rattle.cli_engine.specs.Solution.{MeaningIsSolvable}
use Rattle.cli_engine.proofs.RefutedLemmas.{counted-by-start, needed-pairs}

ok_indices : (one other : List Index) → (let r : Result (List Index) Refusal = Ok one in r) ≡ Ok other → one ≡ other
ok_indices one other same = cc

-- the packages of an index that is read have package names
found_named : (arch : List ℕ) (texts : ℕ → List ℕ → Found) (number before : ℕ) (source : SourceText) (read : ReadIndex)
    → index_of arch texts number before source ≡ Ok read → All IsListedNamed read.index.listed
found_named arch texts number before source read is =
    let (text, there, was) = found-ok (index_in arch number before source) (texts number source.file) read is in
    index_named arch number before source text read was

-- the packages of indices that are read have package names
indices_named : (arch : List ℕ) (texts : ℕ → List ℕ → Found) (number before : ℕ) (sources : List SourceText) (indices : List Index)
    → indices_from arch texts number before sources ≡ Ok indices → All IsListedNamed (all_listed indices)
indices_named arch texts number before [] indices is =
    subst (λ (all : List Index). All IsListedNamed (all_listed all)) (ok_indices [] indices is) (All-nil IsListedNamed)
indices_named arch texts number before (source ∷ sources) indices is =
    at (index_of arch texts number before source) refl
    (λ count rest so. indices_named arch texts (number + 1) (before + count) sources rest so) is
  where
    joined : (read : ReadIndex) (later : Result (List Index) Refusal) → index_of arch texts number before source ≡ Ok read
        → ((rest : List Index) → later ≡ Ok rest → All IsListedNamed (all_listed rest))
        → with_indices (read.index ∷ []) later ≡ Ok indices → All IsListedNamed (all_listed indices)
    joined read (Err refused) was all is = absurd (let e = is in cc)
    joined read (Ok rest) was all is =
        subst (λ (every : List Index). All IsListedNamed (all_listed every)) (ok_indices (read.index ∷ rest) indices is)
        (listed_append read.index.listed (all_listed rest) (found_named arch texts number before source read was) (all rest refl))

    at : (read : Result ReadIndex Fault) → index_of arch texts number before source ≡ read
        → ((count : ℕ) (rest : List Index) → indices_from arch texts (number + 1) (before + count) sources ≡ Ok rest
        → All IsListedNamed (all_listed rest))
        → index_then number read (λ count. indices_from arch texts (number + 1) (before + count) sources) ≡ Ok indices
        → All IsListedNamed (all_listed indices)
    at (Err refused) was later is = absurd (let e = is in cc)
    at (Ok read) was later is = joined read (indices_from arch texts (number + 1) (before + length read.index.listed) sources) was
        (λ rest so. later (length read.index.listed) rest so) is

-- the records that texts are read as have package names
records_named : (texts : Texts) (start : List Record) → HasStart texts start → All IsNamed start
records_named texts start is =
    let (text, read) = status-read texts is.slots is.status in
    subst (λ (db : List Record). All IsNamed db) (sym is.start_is) (status_named texts.arch text is.slots read)

-- and so have the stanzas of their indices
stanzas_are_named : (texts : Texts) (indices : List Index) → HasIndices texts indices → All IsListedNamed (all_listed indices)
unfolding read_indices
stanzas_are_named texts indices is = indices_named texts.arch texts.index 1 0 is.sources indices is.indices_are

pub meaning_is_solvable : MeaningIsSolvable
meaning_is_solvable texts u start is = record {
  built = built;
  counted = counted-by-start texts u start is;
  few = (let bounded = is.requested.built.bounded in omega (arith, bounded));
  distinct = subst HaveDistinctNames (sym built.starts) (starts_apart start built.distinct);
  ascending = (needed-pairs texts u start is).0;
  needed = (needed-pairs texts u start is).1;
  start_names = records_named texts start is.read.listed.started;
  pair_names = pairs_named (inputs_of start is.indices is.prefs (asked_of is.asked)) u
      (records_named texts start is.read.listed.started) (stanzas_are_named texts is.indices is.read.listed.indexed) is.requested.built.universe;
}
  where
    built : IsBuiltOn start u
    built = universe_is_built (inputs_of start is.indices is.prefs (asked_of is.asked)) u
        (distinct_start texts start is.read.listed.started) is.requested.built.universe

-- the universe of a request over what is read can be solved
pub over_is_solvable : (before : Before) (u : Universe) → IsOver before u → IsSolvable (start_of before) u
over_is_solvable before u is = record {
  built = is.built;
  counted = universe_is_counted inputs u is.start is.universe;
  few = is.few;
  distinct = is.distinct;
  ascending = (universe_has_needed_pairs inputs u is.start is.universe).0;
  needed = (universe_has_needed_pairs inputs u is.start is.universe).1;
  start_names = is.start_names;
  pair_names = is.pair_names;
}
  where
    inputs : Inputs
    inputs = inputs_of (start_of before) (indices_of before.indices.now) before.prefs.now is.request
