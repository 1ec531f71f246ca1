-- What is asked for, sorted.
use Rattle.std.proofs.Common.{List, sym, subst, ◌∙◌}
use Rattle.std.specs.List.Sorted.{IsPermutation}
use Rattle.rules.specs.declared.goal.GoalLine.{GoalLine}
use Rattle.universe_build.specs.Choice.{Exact, exact_of}
use Rattle.universe_build.proofs.Sought.{filter_map-map}
use Rattle.universe_build.proofs.asked.exacts_of.Goals as goal

pub returns : goal.returns
returns c = record {
  ascending = c.in_ok-sort.ensures.sorted;
  same = subst (λ (asked : List Exact). IsPermutation asked c.sort.new.self.items)
      (c.in_ok-exacts.ensures ∙ sym (filter_map-map exact_of (λ (line : GoalLine). line.goal) c.args.lines.now)) c.sort.ensures.permutation;
}
