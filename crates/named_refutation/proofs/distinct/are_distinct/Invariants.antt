-- The literals so far are new, and they are those that are kept.
use Rattle.std.proofs.Common.{◌≡◌, [], take, drop}
use Rattle.named_refutation.specs.Derived.{are_new}
use Rattle.named_refutation.proofs.distinct.are_distinct.Given as goal

abbrev pub invariant-loop-literal : goal.invariant-loop-literal
invariant-loop-literal l = record {
  same : are_new (take l.literal-index l.literals) (drop l.literal-index l.literals) ≡ are_new [] l.literals;
  kept : l.seen ≡ take l.literal-index l.literals;
}
