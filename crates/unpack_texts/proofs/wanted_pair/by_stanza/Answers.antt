-- The key of a stanza is its number.
use Rattle.std.proofs.Common.{rules, tests}
use Rattle.std.proofs.lemmas.List.Sorted.{IsNonDecreasingBy-from_sort_by_key}
use Rattle.unpack_texts.specs.Stanzas.{WantedStanza}
use Rattle.unpack_texts.proofs.wanted_pair.by_stanza.Goals as goal

pub returns-clause-order : goal.returns-clause-order
returns-clause-order c = IsNonDecreasingBy-from_sort_by_key (λ (one : WantedStanza). one.listed.place.stanza) c.sort_by_key.new.self.items
    c.in_ok-sort_by_key.ensures.sorted (λ a r f k. search (rules, tests))
