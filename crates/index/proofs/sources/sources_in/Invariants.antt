use Rattle.std.proofs.Common.{◌≡◌, length}
use Rattle.stanza.specs.declared.form.Form.TheVariants.{Commented}
use Rattle.stanza.specs.Stanza.{items_of}
use Rattle.index.specs.Sources.{sources_in, with_sources}
use Rattle.index.proofs.sources.sources_in.Given as goal

-- the indices so far, before those of the items that are left, are the text's
abbrev pub invariant-loop-item : goal.invariant-loop-item
invariant-loop-item l =
    (goal.iterator-loop-item).can_next l.item-iterator ×
    (goal.iterator-loop-item).is_finite l.item-iterator ×
    (sources_in (items_of Commented l.text) 0 ≡ with_sources l.sources.items (sources_in l.item-iterator (length l.sources.items)))
