use Rattle.std.proofs.Common.{◌≡◌, ℕ, ◌+◌, ◌≤◌, List, length, false}
use Rattle.journal.specs.History.{Reaches}
use Rattle.journal.specs.Ledger.{history_of}
use Rattle.journal.proofs.reading.push_records.Given as goal

abbrev pub invariant-loop-rest : goal.invariant-loop-rest
invariant-loop-rest l = record {
  reaches : (file : List ℕ) → Reaches file (history_of l.initial.ledger) l.initial.ledger.gate l.fn.records → Reaches file (history_of l.ledger) l.ledger.gate l.rest;
  arch : l.ledger.database.arch ≡ l.initial.ledger.database.arch;
  whole : l.ledger.broken ≡ false;
  size : l.ledger.gate + length l.rest ≡ l.initial.ledger.gate + length l.fn.records;
}

abbrev pub decreases-loop-rest : goal.decreases-loop-rest
decreases-loop-rest l = length l.rest
