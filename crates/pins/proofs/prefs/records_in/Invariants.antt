-- The records so far, before those of the items that are left, are the text's.
use Rattle.std.proofs.Common.{◌≡◌}
use Rattle.stanza.specs.declared.form.Form.TheVariants.{Commented}
use Rattle.stanza.specs.Stanza.{items_of}
use Rattle.pins.specs.Prefs.{records_in, with_records}
use Rattle.pins.proofs.prefs.records_in.Given as goal

abbrev pub invariant-loop-item : goal.invariant-loop-item
invariant-loop-item l =
    (goal.iterator-loop-item).can_next l.item-iterator ×
    (goal.iterator-loop-item).is_finite l.item-iterator ×
    (records_in (items_of Commented l.text) ≡ with_records l.records.items (records_in l.item-iterator))
