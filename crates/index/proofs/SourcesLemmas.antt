-- Indices before others: none change nothing, and those before those before others are all before the others.
use Rattle.std.proofs.Common.{◌≡◌, List, [], ◌++◌, Result, Ok, Err, refl, sym, ap, append_assoc}
use Rattle.index.specs.declared.error.SourcesFault.{SourcesFault}
use Rattle.index.specs.Sources.{SourceText, with_sources}

pub with_sources-none : (later : Result (List SourceText) SourcesFault) → with_sources [] later ≡ later
with_sources-none (Err fault) = refl
with_sources-none (Ok later) = refl

pub with_sources-twice : (first second : List SourceText) (later : Result (List SourceText) SourcesFault) → with_sources first (with_sources second later) ≡ with_sources (first ++ second) later
with_sources-twice first second (Err fault) = refl
with_sources-twice first second (Ok later) = ap Ok (sym (append_assoc first second later))
