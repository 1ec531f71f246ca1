-- The key of a package is the number of its stanza.
use Rattle.std.proofs.Common.{rules, tests, Bor}
use Rattle.std.proofs.lemmas.List.Sorted.{IsNonDecreasingBy-from_sort_by_key}
use Rattle.rules.specs.Step.{IndexPackage}
use Rattle.unpack_texts.proofs.fetching.in_order.Goals as goal

pub returns-clause-order : goal.returns-clause-order
returns-clause-order c = IsNonDecreasingBy-from_sort_by_key (λ (entry : Bor IndexPackage). entry.now.place.stanza) c.sort_by_key.new.self.items
    c.in_ok-sort_by_key.ensures.sorted (λ a r f k. search (rules, tests))
