use Rattle.std.proofs.Common.{◌≡◌, ◌∙◌, ◌++◌, ◌≤◌, List, ℕ, length, ap, sym}
use Rattle.status_text.specs.Slot.{Store}
use Rattle.std.specs.Option.{option_copied}
use Rattle.journal.specs.Fault.{HasHeader, IsMarked}
use Rattle.journal.specs.File.{magic_of}
use Rattle.journal.specs.History.{Reaches}
use Rattle.journal.specs.Ledger.{history_of}
use Rattle.journal.proofs.FaultLemmas.{records_fault, records_read, start_fault}
use Rattle.journal.proofs.HistoryLemmas.{begun_reaches}
use Rattle.journal.proofs.reading.read_journal.Goals as goal

pub returns-in-Err-clause-fault : goal.returns-in-Err-clause-fault
returns-in-Err-clause-fault c =
    let file = c.args.file.now in
    let header = c.in-Some-read_header.header in
    let marked : IsMarked file = record { version = c.in-Some.version; rest = c.in-Some.rest.now; enough = c.in-Some.ensures.0; is = c.in-Some.ensures.1 } in
    let has : HasHeader file (option_copied header.name) header.start.now header.records.now =
    (c.in-Some-read_header.ensures.0, c.in-Some.ensures.1 ∙ c.in-Some-read_header.ensures.1) in
    start_fault c.args.arch.now file (option_copied header.name) header.start.now header.records.now c.in-Err.e marked has
    (c.names_another.ensures.same c.if-names_another.false) c.in-Err.ensures.err

pub returns-clause-read : goal.returns-clause-read
returns-clause-read c =
    let file = c.args.file.now in
    let header = c.in-Some-read_header.header in
    let begun = c.begun-begun in
    let arch = ap (λ (db : Store). db.arch) begun.ensures.database ∙ c.in-Ok.ensures.arch in
    let reaches = begun_reaches file begun.result (option_copied header.name) c.args.arch.now header.start.now header.records.now c.in-Ok.database.slots
    c.in-Some-read_header.ensures.0 (c.names_another.ensures.same c.if-names_another.false) c.in-Ok.ensures.ok (c.in-Some.ensures.1 ∙ c.in-Some-read_header.ensures.1)
    begun.ensures.start begun.ensures.steps arch (ap (λ (db : Store). db.slots) begun.ensures.database) begun.ensures.gate in
    records_read c.args.arch.now file header.records.now begun.result c.push_records.result arch reaches c.push_records.ensures.read

pub returns-clause-fault : goal.returns-clause-fault
returns-clause-fault c =
    let file = c.args.file.now in
    let header = c.in-Some-read_header.header in
    let begun = c.begun-begun in
    let arch = ap (λ (db : Store). db.arch) begun.ensures.database ∙ c.in-Ok.ensures.arch in
    let marked : IsMarked file = record { version = c.in-Some.version; rest = c.in-Some.rest.now; enough = c.in-Some.ensures.0; is = c.in-Some.ensures.1 } in
    let reaches = begun_reaches file begun.result (option_copied header.name) c.args.arch.now header.start.now header.records.now c.in-Ok.database.slots
    c.in-Some-read_header.ensures.0 (c.names_another.ensures.same c.if-names_another.false) c.in-Ok.ensures.ok (c.in-Some.ensures.1 ∙ c.in-Some-read_header.ensures.1)
    begun.ensures.start begun.ensures.steps arch (ap (λ (db : Store). db.slots) begun.ensures.database) begun.ensures.gate in
    records_fault c.args.arch.now file header.records.now begun.result c.push_records.result marked arch reaches c.push_records.ensures.fault
