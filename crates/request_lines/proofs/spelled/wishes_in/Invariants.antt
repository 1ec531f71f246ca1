-- What the lines so far wish.
use Rattle.std.proofs.Common.{◌≡◌, map, take}
use Rattle.request_lines.specs.Spelled.{AreReadBy, lines_by_each, lines_in}
use Rattle.request_lines.proofs.spelled.wishes_in.Given as goal

abbrev pub invariant-loop-line : goal.invariant-loop-line
invariant-loop-line l = record {
  lines : lines_in l.wishes.items
      ≡ lines_by_each l.arch (map (λ name. name.now) l.names) (map (λ line. line.now) (take l.line-index l.lines));
  read : AreReadBy l.arch l.wishes.items;
}
