-- How far the run has come: part of the way, with the steps from this place on before it.
use Rattle.std.proofs.Common.{◌≡◌, ◌↔◌, ◌++◌, ◌≤◌, drop, length, map, IsTrue}
use Rattle.std.specs.Option.{option_copied}
use Rattle.disk.specs.Facts.{LeavesOnly}
use Rattle.journal.specs.Ledger.{history_of, IsSettled}
use Rattle.apply.specs.Planned.{planned}
use Rattle.apply.specs.Progress.{IsPartTaken, ShowsUpTo}
use Rattle.apply.proofs.catching.append_missing.Given as goal

abbrev pub invariant-loop-i : goal.invariant-loop-i
invariant-loop-i g l = record {
  within : l.i ≤ length l.steps;
  begun : length (history_of l.fn.ledger).steps ≤ l.i;
  first : l.i ≡ length (history_of l.fn.ledger).steps → (l.ledger ≡ l.fn.ledger) × (l.disk ≡ l.fn.disk);
  broken : IsTrue l.fn.ledger.broken → (l.ledger ≡ l.fn.ledger) × (l.disk ≡ l.fn.disk);
  part_taken : IsPartTaken (planned l.steps (map option_copied l.texts)) (history_of l.fn.ledger) (history_of l.ledger);
  left : planned l.steps (map option_copied l.texts)
      ≡ (history_of l.ledger).steps ++ planned (drop l.i l.steps) (drop l.i (map option_copied l.texts));
  honest : g.D.Disk.honest l.disk ↔ g.D.Disk.honest l.fn.disk;
  run : g.D.Disk.honest l.fn.disk → IsSettled l.fn.ledger (g.D.Disk.facts l.fn.disk)
      → LeavesOnly (ShowsUpTo (planned l.steps (map option_copied l.texts)) (history_of l.fn.ledger)) (g.D.Disk.facts l.fn.disk) (g.D.Disk.facts l.disk);
  settled : g.D.Disk.honest l.fn.disk → IsSettled l.fn.ledger (g.D.Disk.facts l.fn.disk) → IsSettled l.ledger (g.D.Disk.facts l.disk);
  count : g.D.Disk.faults l.disk ≡ g.D.Disk.faults l.fn.disk;
}
