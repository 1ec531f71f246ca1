use Rattle.std.proofs.Common.{◌≡◌, ℕ, List, map, Bor}
use Rattle.stanza.specs.declared.form.Form.TheVariants.{Plain}
use Rattle.stanza.specs.Stanza.{items_of}
use Rattle.stanza.specs.Collect.{values_in}
use Rattle.stanza.proofs.CollectLemmas.{with_front}
use Rattle.test_calls.proofs.collecting.values_of.Given as goal

-- the values so far, before those of what is left, are the text's
abbrev pub invariant-loop-item : goal.invariant-loop-item
invariant-loop-item l =
    (goal.iterator-loop-item).can_next l.item-iterator ×
    (goal.iterator-loop-item).is_finite l.item-iterator ×
    (values_in l.name (items_of Plain l.text) ≡ with_front (map (λ (value : Bor (List ℕ)). value.now) l.values.items) (values_in l.name l.item-iterator))
