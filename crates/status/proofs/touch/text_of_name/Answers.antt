use Rattle.std.specs.Arc.{arc_slice_items}
use Rattle.std.proofs.Common.{◌∙◌, sym, true≢false, ◌≡◌, true}
use Rattle.status.proofs.FoundLemmas.{ready-none, ready-some}
use Rattle.status.proofs.StepLemmas.{after-text, named-good}
use Rattle.status.proofs.TouchLemmas.{if-ok}
use Rattle.status.specs.Action.{starts_from}
use Rattle.status.proofs.touch.text_of_name.Goals as goal

pub text_after-requires : goal.text_after-requires
text_after-requires c =
    sym (ready-some c.args.name.now (starts_from c.args.action) c.args.table.now.slots c.in-Some.entry c.is_sound.ensures.distinct (sym c.in-Some.ensures))
    ∙ c.requires

pub unreachable-requires : goal.unreachable-requires
unreachable-requires c =
    true≢false (sym c.requires ∙ ready-none (starts_from c.args.action) c.args.name.now c.args.table.now.slots (sym c.in-None.ensures))

pub returns : goal.returns
returns c =
    let slots = c.args.table.now.slots in
    let starts : starts_from c.args.action c.in-Some.entry.status ≡ true =
    sym (ready-some c.args.name.now (starts_from c.args.action) slots c.in-Some.entry c.is_sound.ensures.distinct (sym c.in-Some.ensures)) ∙ c.requires in
    if-ok c.from_vec.result (λ text is. record {
      old = c.in-Some.entry;
      there = sym c.in-Some.ensures;
      starts = starts;
      text_is = after-text c.args.table.now.arch (arc_slice_items text) c.args.action c.in-Some.entry starts
          (named-good c.args.table.now.arch c.args.name.now slots c.in-Some.entry c.is_sound.ensures.each (sym c.in-Some.ensures)) (is ∙ c.in_ok-text_after-in-Some.ensures);
    }) c.from_vec.ensures
