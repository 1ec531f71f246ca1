-- Words that are lent are names where each of them is one.
use Rattle.std.proofs.Common.{◌≡◌, ℕ, ◌==◌, ◌&&◌, true, not, List, length, map, refl, sym, ◌∙◌}
use Rattle.std.proofs.lemmas.Bool.{and_parts}
use Rattle.std.proofs.lemmas.List.{length-map}
use Rattle.std.proofs.lemmas.List.Folds.{list_all-map}
use Rattle.std.proofs.lemmas.List.Sums.{AllPass-from_list_all}
use Rattle.std.specs.Borrow.{Bor}
use Rattle.std.specs.List.{AllPass, list_all}
use Rattle.rules.specs.Name.{is_name}
use Rattle.pins.specs.Names.{are_names}

pub are_names-lent : (words : List (Bor (List ℕ)))
    → are_names (map (λ word. word.now) words) ≡ (not (length words == 0) && list_all (λ word. is_name word.now) words)
are_names-lent words = rw (length-map words (λ word. word.now), list_all-map is_name (λ word. word.now) words) refl

pub are_names-each : (words : List (Bor (List ℕ))) → are_names (map (λ word. word.now) words) ≡ true
    → AllPass (λ word. is_name word.now) words
are_names-each words names = AllPass-from_list_all (λ word. is_name word.now) words
    (and_parts (not (length words == 0)) (list_all (λ word. is_name word.now) words) (sym (are_names-lent words) ∙ names)).1
