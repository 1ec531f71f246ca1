-- One record more.
use Rattle.std.proofs.Common.{ℕ}
use Rattle.rules.specs.declared.release.Preference.{Preference}
use Rattle.input_notes.specs.Idle.{idle_record}
use Rattle.input_notes.proofs.RecordLemmas.{said_next}
use Rattle.input_notes.proofs.idle.push_records.Goals as goal

pub loop-place-preserved : goal.loop-place-preserved
loop-place-preserved c = said_next (λ (placed : ℕ × Preference). idle_record c.args.records.now c.args.indices.now placed.0 placed.1)
    c.args.preferences.now c.loop-place.place c.index-preferences-place.result c.loop-place.text.items c.push_record.new.text.items _
    c.loop-place-test.true c.index-preferences-place.is c.in_ok-push_record.ensures c.loop-place.invariant
