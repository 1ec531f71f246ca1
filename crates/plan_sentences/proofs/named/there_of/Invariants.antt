-- Each item so far tells of a present package that has a name of the clause.
use Rattle.std.specs.List.{All}
use Rattle.rules.specs.Database.{HasDistinctNames}
use Rattle.plan_sentences.specs.No.{IsThere}
use Rattle.plan_sentences.proofs.named.there_of.Given as goal

abbrev pub invariant-loop-atom : goal.invariant-loop-atom
invariant-loop-atom l = HasDistinctNames l.db → All (λ item. IsThere l.db l.atoms item.items) l.items.items
