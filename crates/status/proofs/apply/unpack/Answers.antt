use Rattle.std.proofs.Common.{◌≡◌, ◌∙◌, ◌++◌, ◌∷◌, [], List, ℕ, true, false, Option, Some, None, IfSome, MatchOption, ap, subst, sym, true≢false, if◌then◌else◌}
use Rattle.std.specs.Option.{option_copied}
use Rattle.rules.specs.FileRecord.{FileRecord, IndexStanza}
use Rattle.rules.specs.Step.{is_named}
use Rattle.rules.specs.declared.step.Step.TheVariants as step
use Rattle.status.proofs.TouchLemmas.{unpacked-taken}
use Rattle.status_text.specs.Alone.{alone}
use Rattle.status_text.specs.Slot.{Store}
use Rattle.status_text.specs.declared.slot.Slot.TheVariants.{Recorded}
use Rattle.status.specs.Applicable.{handed_in, is_indexed_as}
use Rattle.status.specs.Change.{IsTextUnpacked}
use Rattle.status.specs.Faithful.{IsSound}
use Rattle.status.specs.Left.{stored_after}
use Rattle.status.specs.Slots.{changed_slots, entry_named, has_name}
use Rattle.status.specs.Stored.{written}
use Rattle.status.specs.Written.{entry_over}
use Rattle.status.proofs.apply.unpack.Goals as goal
use Rattle.std.specs.Arc.{arc_slice_items}

-- what was put is what the unpacking leaves
taken : (listed : Option IndexStanza) (name version spelled text : List ℕ) (old new : Store) → IsSound old → spelled ≡ name
    → is_indexed_as name version listed ≡ true → IfSome listed (λ indexed. IsTextUnpacked indexed old name text)
    → ((entry : FileRecord) → alone old.arch text ≡ Some (Recorded entry) → new ≡ record old {
      slots = if has_name spelled old.slots then changed_slots (is_named spelled) (λ _. entry) old.slots else old.slots ++ Recorded entry ∷ [];
    })
    → ((if is_indexed_as name version listed then None else Some name) ≡ None) × (new ≡ record old { slots = stored_after listed (step.Unpack name version) old.slots })
taken None name version spelled text old new sound spells passes is put = absurd (true≢false (sym passes))
taken (Some indexed) name version spelled text old new sound spells passes is put = (
  ap (λ b. if b then None else Some name) passes,
  put (written (entry_over indexed (entry_named name old.slots))) is.text_is.read
      ∙ (λ i. record old { slots = unpacked-taken indexed old.slots name spelled is.named spells sound.distinct sound.stored i }),
)

pub returns-in_ok-put-in-Some : goal.returns-in_ok-put-in-Some
returns-in_ok-put-in-Some c =
    let name = c.args.name.now in
    let version = c.args.version.now in
    let listed = handed_in c.args.table.now.arch (option_copied c.args.given) in
    let answer = subst (λ answer. MatchOption answer (is_indexed_as name version listed ≡ false)
    (λ text. (is_indexed_as name version listed ≡ true) × IfSome listed (λ indexed. IsTextUnpacked indexed c.args.table.now name (arc_slice_items text))))
    c.in-Some.is c.in_ok-text.ensures.text in
    taken listed name version c.as_bytes.result.now (arc_slice_items c.in-Some.text) c.args.table.now c.put.new.self c.is_sound.ensures c.as_bytes.ensures.bytes answer.0 answer.1
    c.in_ok-put-in-Some.ensures.ok
