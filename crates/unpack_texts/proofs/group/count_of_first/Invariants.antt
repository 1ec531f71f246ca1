-- The stanzas so far are of the one index.
use Rattle.std.proofs.Common.{◌-◌, ◌<◌, ◌≤◌, length, take}
use Rattle.unpack_texts.specs.Wanted.{AreOfIndex}
use Rattle.unpack_texts.proofs.group.count_of_first.Given as goal

abbrev pub invariant-loop-count : goal.invariant-loop-count
invariant-loop-count l = record {
  some : 0 < l.count;
  within : l.count ≤ length l.wanted;
  of_one : AreOfIndex l.number (take l.count l.wanted);
}

abbrev pub decreases-loop-count : goal.decreases-loop-count
decreases-loop-count l = length l.wanted - l.count
