use Rattle.std.proofs.Common.{◌∙◌, ap, List, ℕ, Some}
use Rattle.status.proofs.TextLemmas.{entry-in, entry-out}
use Rattle.status.specs.Places.{entry_at}
use Rattle.status_text.specs.Alone.{alone}
use Rattle.status.proofs.table.record_at.Goals as goal
use Rattle.std.specs.Arc.{arc_slice_items}

pub returns-in-Some : goal.returns-in-Some
returns-in-Some c =
    c.record_in.ensures ∙ ap (λ (text : List ℕ). entry_at (Some (alone c.args.arch.now text))) c.as_slice.ensures.value
    ∙ entry-in (λ t. arc_slice_items t) c.args.arch.now c.args.places.now c.args.place c.in-Some.text.now c.in-Some.ensures

pub returns-in-None : goal.returns-in-None
returns-in-None c = entry-out (λ t. arc_slice_items t) c.args.arch.now c.args.places.now c.args.place c.in-None.ensures
