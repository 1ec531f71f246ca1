use Rattle.std.proofs.Common.{◌≡◌, ◌∙◌, true, not, sym, ap, Some, None}
use Rattle.std.proofs.Common.{cond}
use Rattle.std.specs.List.{filter}
use Rattle.status.proofs.TouchLemmas.{filter-stored}
use Rattle.status_text.specs.Slot.{slot_records}
use Rattle.status.specs.Applicable.{has_record, is_purgeable}
use Rattle.status.specs.Slots.{is_slot_named}
use Rattle.status.proofs.apply.purge.Goals as goal

pub returns-then-is_purgeable : goal.returns-then-is_purgeable
returns-then-is_purgeable c =
    let slots = c.args.table.now.slots in
    let ready : has_record is_purgeable c.args.name.now (slot_records slots) ≡ true =
    ap (λ n. has_record is_purgeable n (slot_records slots)) (sym c.as_bytes.ensures.bytes) ∙ sym c.if-is_purgeable.ensures in (
      ap (λ b. cond (not b) (Some c.args.name.now) None) ready,
      c.delete.ensures ∙ (λ i. record {
        arch = c.args.table.now.arch;
        slots = (ap (λ n. filter (λ slot. not (is_slot_named n slot)) slots) c.as_bytes-then-is_purgeable.ensures.bytes
            ∙ sym (filter-stored (λ slot. not (is_slot_named c.args.name.now slot)) slots c.is_sound.ensures.stored)) i;
      }),
    )
