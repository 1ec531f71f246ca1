-- A binary search in what is sought.
use Rattle.std.proofs.Common.{rules, ◌∙◌}
use Rattle.universe_build.specs.Choice.{Exact, exact_at, exact_cmp}
use Rattle.std.proofs.lemmas.Fn.{always_returns_same}
use Rattle.universe_build.proofs.Searching.{searched_exact}
use Rattle.universe_build.proofs.asked.is_asked.Goals as goal

pub returns : goal.returns
returns c = c.is_ok.ensures.value ∙ searched_exact c.args.exacts.now c.args.stanza.now c.binary_search_by.result c.requires
    c.binary_search_by.ensures.bound
    (c.binary_search_by.ensures.position (λ (exact : Exact). exact_cmp exact (exact_at c.args.stanza.now)) (always_returns_same _ _ _ (λ a r f k. search rules)))
