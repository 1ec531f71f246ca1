-- Each record may be left.
use Rattle.std.proofs.Common.{ℕ, List, subst}
use Rattle.std.specs.Prelude.{◌↔◌}
use Rattle.std.specs.List.{Contains}
use Rattle.rules.specs.declared.goal.Goal.{Goal}
use Rattle.rules.specs.declared.goal.Goal.TheVariants as wanted
use Rattle.plainness.proofs.LeftLemmas.{left}
use Rattle.plainness.proofs.left.are_purges_plain.Goals as goal

pub returns : goal.returns
returns c =
    let Table : List Goal → Type 0 = λ goals. (name : List ℕ) → Contains c.in_ok-names.names name ↔ Contains goals (wanted.Purge name) in
    let both = left c.args.universe.now c.args.start.now c.in_ok-names.names (subst Table c.goals.ensures c.in_ok-names.ensures) in (
      λ plain. both.0 (c.all_may_be_left-plain.ensures.0 plain),
      λ parts. c.all_may_be_left-plain.ensures.1 (both.1 parts),
    )
