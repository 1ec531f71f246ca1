-- The wishes to upgrade the names so far stand behind the others.
use Rattle.std.proofs.Common.{◌≡◌, ◌++◌, map, take}
use Rattle.request_lines.specs.Spelled.{AreReadBy, lines_in, upgrade_line}
use Rattle.request_lines.proofs.spelled.push_upgrades.Given as goal

abbrev pub invariant-loop-name : goal.invariant-loop-name
invariant-loop-name l = record {
  lines : lines_in l.wishes.items ≡ lines_in l.fn.wishes.items ++ map upgrade_line (map (λ name. name.now) (take l.name-index l.names));
  read : AreReadBy l.arch l.fn.wishes.items → AreReadBy l.arch l.wishes.items;
}
