-- The numbers are those that the literals so far select.
use Rattle.std.proofs.Common.{ℕ, take}
use Rattle.std.specs.Prelude.{◌↔◌}
use Rattle.std.specs.List.{Contains}
use Rattle.refutation.specs.declared.literal.Literal.TheVariants as literal
use Rattle.refutation_sentences.proofs.lists.selected_in.Given as goal

abbrev pub invariant-loop-literal : goal.invariant-loop-literal
invariant-loop-literal l = (number : ℕ) → Contains l.numbers.keys number ↔ Contains (take l.literal-index l.clause) (literal.Selected number)
