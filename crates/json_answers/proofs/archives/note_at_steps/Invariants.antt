-- The steps before the place are gone through, and those behind it are left.
use Rattle.std.proofs.Common.{◌≡◌, ◌++◌, drop, length, take}
use Rattle.json_answers.proofs.archives.note_at_steps.Given as goal
use Rattle.json_answers.specs.Archives.{found_or}
use Rattle.json_answers.specs.Unpacked.{archive_where}

abbrev pub invariant-loop-step : goal.invariant-loop-step
invariant-loop-step l = record {
  place : l.place ≡ l.step-index;
  size : length l.archives.items ≡ length l.steps;
  left : take l.step-index l.archives.items
      ++ found_or (archive_where l.offer.name.now l.offer.version l.stanza) (drop l.step-index l.steps) (drop l.step-index l.archives.items)
      ≡ found_or (archive_where l.offer.name.now l.offer.version l.stanza) l.steps l.fn.archives.items;
}
