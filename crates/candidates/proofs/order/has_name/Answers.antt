-- A binary search among the stanzas in order.
use Rattle.std.proofs.Common.{rules, ◌∙◌}
use Rattle.rules.specs.Name.{name_cmp}
use Rattle.rules.specs.Step.{IndexPackage}
use Rattle.std.proofs.lemmas.Fn.{always_returns_same}
use Rattle.candidates.proofs.Searching.{searched_name}
use Rattle.candidates.proofs.order.has_name.Goals as goal

pub returns : goal.returns
returns c = c.is_ok.ensures.value ∙ searched_name c.args.ordered.now c.args.name.now c.binary_search_by.result c.requires
    c.binary_search_by.ensures.bound
    (c.binary_search_by.ensures.position (λ (stanza : IndexPackage). name_cmp stanza.pkg.name c.args.name.now) (always_returns_same _ _ _ (λ a r f k. search rules)))
