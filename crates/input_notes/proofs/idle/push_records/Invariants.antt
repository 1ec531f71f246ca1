-- What is written, with the lines of the records that are left, is what was written before, with the lines of all.
use Rattle.std.proofs.Common.{◌≡◌, ◌++◌, drop}
use Rattle.std.specs.List.{enumerate_from, flat_map}
use Rattle.input_notes.specs.Idle.{idle_record, idle_records}
use Rattle.input_notes.proofs.idle.push_records.Given as goal

abbrev pub invariant-loop-place : goal.invariant-loop-place
invariant-loop-place l = l.text.items
    ++ flat_map (λ placed. idle_record l.records l.indices placed.0 placed.1) (enumerate_from l.place (drop l.place l.preferences))
    ≡ l.initial.text.items ++ idle_records l.records l.indices l.preferences
