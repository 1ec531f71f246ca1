-- One list is longer, and the others are as they were.
use Rattle.std.proofs.Common.{ℕ, ◌<◌, ◌++◌, ◌∷◌, [], length, get_or, sym, ap, ◌∙◌, arith, List}
use Rattle.search_settle.proofs.OccurrenceLemmas.{seen_other, seen_same, seen_at, length-seen}
use Rattle.search_settle.proofs.occurrences.Occurrences.push.Goals as goal

pub returns-clause-others : goal.returns-clause-others
returns-clause-others c = λ at other.
    seen_other (λ list. list.items) c.self.inside.lists.items c.args.place c.push.new.self at other
    ∙ ap (λ (lists : List (List ℕ)). get_or lists at []) c.self.view_is

pub returns-clause-pushed : goal.returns-clause-pushed
returns-clause-pushed c = λ within.
    let lt : c.args.place < length c.self.inside.lists.items = omega (arith, ap length c.self.view_is, length-seen (λ list. list.items) c.self.inside.lists.items, within) in
    seen_same (λ list. list.items) c.self.inside.lists.items c.args.place c.push.new.self lt
    ∙ c.in_ok-push.ensures.items
    ∙ ap (λ (xs : List ℕ). xs ++ c.args.clause ∷ []) (sym (sym (ap (λ (lists : List (List ℕ)). get_or lists c.args.place []) c.self.view_is)
    ∙ seen_at (λ list. list.items) c.self.inside.lists.items c.args.place c.index_mut.result.now lt
    ∙ sym (ap (λ list. list.items) c.index_mut.ensures.value)))
