-- What was read, and what is left to be read, are together what the value spells.
use Rattle.std.proofs.Common.{◌≡◌, ◌++◌, map}
use Rattle.relation_text.specs.Cut.{parts_left, len_left}
use Rattle.relation_text.specs.Spelling.{atoms_between, clauses_of, items_of}
use Rattle.relation.specs.Value.{HaveGoodParts}
use Rattle.relation_text.specs.declared.cut.Separator.TheVariants.{Bar, Comma}
use Rattle.relation.proofs.parse.clauses_of.Given as goal

abbrev pub invariant-loop-left : goal.invariant-loop-left
invariant-loop-left l = record {
  same : l.clauses.items ++ map (atoms_between Bar l.arch) (items_of (parts_left Comma l.left)) ≡ clauses_of l.arch l.value;
  good : HaveGoodParts (parts_left Comma l.left);
}

abbrev pub decreases-loop-left : goal.decreases-loop-left
decreases-loop-left l = len_left l.left
