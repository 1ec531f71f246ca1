-- What is found so far, with what is in the indices that are left, makes what is found in all.
use Rattle.std.proofs.Common.{◌≡◌, ◌+◌, Some, drop}
use Rattle.cli.proofs.archives.find_in_indices.Given as goal
use Rattle.cli.specs.Again.{stanzas_from}
use Rattle.inputs.specs.ReadAs.{files_of}
use Rattle.inputs.specs.Texts.{Shelved}
use Rattle.json_answers.specs.Archives.{found_also}

abbrev pub invariant-loop-source : goal.invariant-loop-source
invariant-loop-source g l = record {
  number : l.number ≡ l.source-index;
  same : g.S.Shelf.known_texts l.shelf ≡ g.S.Shelf.known_texts l.fn.shelf;
  held : g.S.Shelf.holds l.fn.shelf l.shelf;
  so_far : (at : Shelved) → g.S.Shelf.known_texts l.fn.shelf ≡ Some at
      → found_also l.arch (stanzas_from at.index (l.number + 1) (files_of (drop l.source-index l.sources))) l.archives
      ≡ found_also l.arch (stanzas_from at.index 1 (files_of l.sources)) l.fn.archives;
}
