-- One index more.
use Rattle.std.proofs.Common.{ℕ, refl, subst}
use Rattle.index.specs.Index.{ReadIndex}
use Rattle.input_notes.specs.Indices.{idle_index}
use Rattle.input_notes.specs.Keys.{AddsKeys}
use Rattle.input_notes.proofs.IndexLemmas.{keys_next, none_in, said_of}
use Rattle.input_notes.proofs.RecordLemmas.{said_next}
use Rattle.input_notes.proofs.indices.push_indices.Goals as goal

pub loop-place-init : goal.loop-place-init
loop-place-init c = (none_in _ c.args.indices.now c.new-table.ensures.empty, refl)

pub loop-place-preserved : goal.loop-place-preserved
loop-place-preserved c =
    let indices = c.args.indices.now in
    let place = c.loop-place.place in
    let read = c.index-indices-place.result in (
      keys_next c.loop-place.table.keys c.insert_all.new.table.keys indices place read c.loop-place-test.true c.index-indices-place.is
          c.loop-place.invariant.0
          (subst (AddsKeys c.loop-place.table.keys c.insert_all.new.table.keys) c.packages-entries.ensures.items c.in_ok-insert_all.ensures),
      said_next (λ (placed : ℕ × ReadIndex). idle_index indices placed.0 placed.1) indices place read c.loop-place.text.items
          c.push_index.new.text.items _ c.loop-place-test.true c.index-indices-place.is
          (said_of c.loop-place.table.keys indices place read c.packages-entries.result.now c.loop-place.text.items c.push_index.new.text.items
          c.loop-place.invariant.0 c.packages-entries.ensures.items c.in_ok-push_index.ensures) c.loop-place.invariant.1,
    )
