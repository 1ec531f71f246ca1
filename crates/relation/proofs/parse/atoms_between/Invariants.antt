-- What was read, and what is left to be read, are together what the value spells.
use Rattle.std.proofs.Common.{◌≡◌, ◌++◌, map}
use Rattle.relation_text.specs.Cut.{parts_left, len_left}
use Rattle.relation_text.specs.Spelling.{atom_of, atoms_between, items_of}
use Rattle.relation.specs.Value.{HaveGoodVersions}
use Rattle.relation.proofs.parse.atoms_between.Given as goal

abbrev pub invariant-loop-left : goal.invariant-loop-left
invariant-loop-left l = record {
  same : l.atoms.items ++ map (atom_of l.arch) (items_of (parts_left l.separator l.left)) ≡ atoms_between l.separator l.arch l.value;
  good : HaveGoodVersions (parts_left l.separator l.left);
}

abbrev pub decreases-loop-left : goal.decreases-loop-left
decreases-loop-left l = len_left l.left
