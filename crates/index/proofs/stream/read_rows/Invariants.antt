-- What was kept so far, with what is still to be read, makes what is read of the text.
use Rattle.std.proofs.Common.{◌≡◌, ◌+◌, ℕ, List, length, None, Some, true}
use Rattle.stanza.specs.Reading.{to_read}
use Rattle.index.specs.Index.{with_stanzas}
use Rattle.index.specs.Row.{AreRows, stanzas_at}
use Rattle.index.specs.Streamed.{read_stream, stanzas_read}
use Rattle.index.proofs.stream.read_rows.Given as goal

abbrev pub invariant-loop-reader : goal.invariant-loop-reader
invariant-loop-reader g l = record {
  sound : l.reader.failed ≡ None;
  rows : AreRows l.kept.arena.items l.kept.rows.items;
  number : l.place.index ≡ l.number;
  sure : g.S.Source.is_sure l.fn.source ≡ true → g.S.Source.is_sure l.source ≡ true;
  faults : g.S.Source.faults l.source ≡ g.S.Source.faults l.fn.source;
  so_far : (text : List ℕ) → g.S.Source.left l.fn.source ≡ Some text
      → (more : List ℕ) × (g.S.Source.left l.source ≡ Some more)
      × (read_stream l.arch l.number l.before text
      ≡ with_stanzas (stanzas_at l.arch l.number l.kept) (stanzas_read l.arch l.place (to_read l.reader more) (l.before + length l.kept.rows.items)));
}

-- each stanza has a byte or more
abbrev pub decreases-loop-reader : goal.decreases-loop-reader
decreases-loop-reader g l = length l.reader.pending + l.reader.room
