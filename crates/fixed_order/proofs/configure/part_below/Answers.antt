-- What may pass of the names has what passes of them.
use Rattle.std.proofs.Common.{ℕ, List, subst}
use Rattle.std.specs.Option.{option_copied}
use Rattle.rules.specs.Configure.{IsGreatestPart}
use Rattle.fixed_order.proofs.BeginningLemmas.{greatest_below}
use Rattle.fixed_order.proofs.configure.part_below.Goals as goal

pub returns : goal.returns
returns c = greatest_below c.args.db.now c.args.names.now c.in_ok-lower.lower.items c.in_ok-part.part.items (option_copied c.args.bound)
    c.in_ok-lower.ensures c.requires (subst (λ (names : List (List ℕ)). IsGreatestPart c.args.db.now names c.in_ok-part.part.items)
    c.as_slice.ensures.value c.in_ok-part.ensures)
