use Rattle.std.proofs.Common.{◌≡◌, ◌+◌, ◌∷◌, [], ◌++◌, List, ℕ, ap, refl}
use Rattle.status_text.specs.Slot.{Store}
use Rattle.journal.specs.File.{Entry}
use Rattle.journal.specs.Payload.{RecordedStep}
use Rattle.journal.specs.Reading.{IsTaken}
use Rattle.journal.proofs.reading.push_record.Goals as goal

pub returns-clause-pushed : goal.returns-clause-pushed
returns-clause-pushed c =
    let taken = c.in-Some.taken in
    let it : IsTaken c.args.rest.now c.args.ledger.now.database c.take_record.new.database taken = rw c.in-Some.is at c.in_ok-taken.ensures in
    let at : Entry = (taken.gate, it.payload) in
    let steps : c.push.new.self.items ≡ c.args.ledger.now.steps.items ++ taken.recorded ∷ [] = c.in_ok-push.ensures.items in
    record {
      entry = at;
      recorded = taken.recorded;
      record_is = it.record_is;
      is = it.is;
      applicable = it.applicable;
      history = λ i. record {
        arch = ap (λ (db : Store). db.arch) it.left i;
        start = c.args.ledger.now.start.now;
        steps = steps i;
        slots = ap (λ (db : Store). db.slots) it.left i;
      };
      gate = ap (λ n. c.args.ledger.now.gate + (5 + n)) it.size;
      whole = refl;
    }
