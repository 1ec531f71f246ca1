-- The table got those of the stanzas so far.
use Rattle.std.proofs.Common.{take}
use Rattle.input_notes.specs.Keys.{AddsKeys}
use Rattle.input_notes.proofs.indices.insert_all.Given as goal

abbrev pub invariant-loop-entry : goal.invariant-loop-entry
invariant-loop-entry l = AddsKeys l.initial.table.keys l.table.keys (take l.entry-index l.entries)
