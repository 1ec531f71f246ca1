-- What is found so far, with what is still to be read, makes what is found in the text.
use Rattle.std.proofs.Common.{◌≡◌, ◌+◌, ℕ, List, length, None, Some}
use Rattle.json_answers.proofs.reading.read_stanzas.Given as goal
use Rattle.json_answers.specs.Archives.{found_also, stanzas_before, stanzas_of}
use Rattle.stanza.specs.Reading.{to_read}

abbrev pub invariant-loop-reader : goal.invariant-loop-reader
invariant-loop-reader g l = record {
  sound : l.reader.failed ≡ None;
  steps : l.archives.steps ≡ l.fn.archives.steps;
  so_far : (text : List ℕ) → g.S.Source.left l.fn.source ≡ Some text
      → (more : List ℕ) × (g.S.Source.left l.source ≡ Some more)
      × (found_also l.arch (stanzas_before (to_read l.reader more)) l.archives ≡ found_also l.arch (stanzas_of text) l.fn.archives);
}

-- each stanza has a byte or more
abbrev pub decreases-loop-reader : goal.decreases-loop-reader
decreases-loop-reader g l = length l.reader.pending + l.reader.room
