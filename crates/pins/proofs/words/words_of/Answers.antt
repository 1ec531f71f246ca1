-- What is kept of the parts.
use Rattle.std.proofs.Common.{rules, ◌∙◌, ℕ, List, ap, map, not}
use Rattle.std.proofs.lemmas.Fn.{filter_same}
use Rattle.std.specs.List.{filter}
use Rattle.pins.specs.Words.{is_nothing}
use Rattle.pins.proofs.WordLemmas.{map-filter}
use Rattle.pins.proofs.words.words_of.Goals as goal

pub returns : goal.returns
returns c =
    let kept = filter_same _ (λ word. not (is_nothing word.now)) _ (λ x b f' k. search rules) _ _ c.retain.ensures.filtered in
    ap (map (λ word. word.now)) kept
    ∙ map-filter (λ word. word.now) (λ (word : List ℕ). not (is_nothing word)) c.in_ok-words.words.items
    ∙ ap (filter (λ (word : List ℕ). not (is_nothing word))) c.in_ok-words.ensures
