-- Nothing passes without any of the lost names, and the whole has all ready names.
use Rattle.std.specs.List.{All}
use Rattle.plancheck_group.specs.Part.{HaveSameNames, NothingWithout}
use Rattle.plancheck_group.proofs.group.lose.Given as goal

abbrev pub invariant-loop-name : goal.invariant-loop-name
invariant-loop-name l = record {
  lost : All (NothingWithout l.db l.ready) l.lost;
  whole : HaveSameNames l.whole l.ready;
}
