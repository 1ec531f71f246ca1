-- The literals of the numbers of all that match, behind the one of the pair itself.
use Rattle.std.proofs.Common.{rules}
use Rattle.rules.specs.Package.{MatchesSome}
use Rattle.refutation.specs.declared.literal.Literal.TheVariants as literal
use Rattle.encode.proofs.LiteralLemmas.{one_or_selected}
use Rattle.encode.proofs.literals.out_or_matching.Goals as goal

pub returns : goal.returns
returns c = one_or_selected c.args.facts.now (λ pkg. MatchesSome pkg c.args.atoms.now) c.in_ok-numbers.numbers.keys c.as_slice.result.now
    c.as_slice.ensures.keys c.in_ok-numbers.ensures (literal.Unselected c.args.number) c.push.new.self.items
    c.push_selected.new.literals.items c.in_ok-push_selected.ensures (search rules)
