-- What was read, and what is left to be read, are together what the value spells.
use Rattle.std.proofs.Common.{◌≡◌, ◌++◌, map}
use Rattle.relation_text.specs.Cut.{parts_left, len_left}
use Rattle.relation_text.specs.Spelling.{items_of, provided_items_of, provided_of}
use Rattle.relation.specs.Value.{HaveGoodVersions}
use Rattle.relation_text.specs.declared.cut.Separator.TheVariants.{Comma}
use Rattle.relation.proofs.parse.provided_items_of.Given as goal

abbrev pub invariant-loop-left : goal.invariant-loop-left
invariant-loop-left l = record {
  same : l.items.items ++ map (provided_of l.arch) (items_of (parts_left Comma l.left)) ≡ provided_items_of l.arch l.value;
  good : HaveGoodVersions (parts_left Comma l.left);
}

abbrev pub decreases-loop-left : goal.decreases-loop-left
decreases-loop-left l = len_left l.left
