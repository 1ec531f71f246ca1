-- The literals of the numbers of all that are asked for.
use Rattle.std.proofs.Common.{rules}
use Rattle.encode.specs.Numbers.{IsAsked}
use Rattle.encode.proofs.LiteralLemmas.{only_selected}
use Rattle.encode.proofs.literals.some_asked.Goals as goal

pub returns : goal.returns
returns c = only_selected c.args.facts.now (IsAsked c.args.query) c.in_ok-numbers.numbers.items c.as_slice.result.now
    c.as_slice.ensures.value c.in_ok-numbers.ensures _ c.push_selected.new.literals.items c.in_ok-push_selected.ensures (search rules)
