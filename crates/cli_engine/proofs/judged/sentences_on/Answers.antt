-- The start is that of the status file.
use Rattle.std.proofs.Common.{◌≡◌, ◌∙◌, List, ap, map, subst}
use Rattle.plan_sentences.specs.No.{TellsVerdict}
use Rattle.rules.specs.Database.{Record}
use Rattle.rules.specs.FileRecord.{records_of}
use Rattle.status_text.specs.Slot.{entries_of, slot_records}
use Rattle.cli_engine.proofs.judged.sentences_on.Goals as goal

pub returns : goal.returns
returns c =
    let slots = c.args.status_file.now.slots in
    let same : map (λ r. r.now) c.as_slice-2.result.now ≡ entries_of slots = rw c.as_slice-2.ensures.value c.in_ok-records.ensures.records in
    let start : c.in_ok-start.start ≡ slot_records slots = c.in_ok-start.ensures ∙ ap records_of same in
    subst (λ (db : List Record). TellsVerdict c.args.universe.now db c.args.steps.now c.args.verdict.now c.in_ok-text.text.items) start c.in_ok-text.ensures
