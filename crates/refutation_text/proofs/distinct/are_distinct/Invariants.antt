-- The literals so far are new, and their keys are kept.
use Rattle.std.proofs.Common.{◌≡◌, [], take, drop, map}
use Rattle.refutation_text.specs.Derived.{are_new, literal_key}
use Rattle.refutation_text.proofs.distinct.are_distinct.Given as goal

abbrev pub invariant-loop-literal : goal.invariant-loop-literal
invariant-loop-literal l = record {
  same : are_new (take l.literal-index l.literals) (drop l.literal-index l.literals) ≡ are_new [] l.literals;
  keys : l.keys.keys ≡ map literal_key (take l.literal-index l.literals);
}
