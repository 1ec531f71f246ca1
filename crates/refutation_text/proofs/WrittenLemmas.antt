-- Words with spaces between them, as they are written one behind the other.
use Rattle.std.proofs.Common.{◌≡◌, ℕ, List, [], ◌∷◌, ◌++◌, map, sym, ap, ◌∙◌, append_assoc}
use Rattle.std.proofs.lemmas.Grind.{flat_map-append}
use Rattle.std.proofs.lemmas.List.Folds.{flat_map-map}
use Rattle.std.specs.List.{flat_map, join_with_byte}
use Rattle.std.specs.Prelude.{codes, decimal}
use Rattle.refutation.specs.declared.line.Line.TheVariants.{Derived}
use Rattle.refutation.specs.declared.literal.Literal.{Literal}
use Rattle.refutation_text.specs.LineText.{words_of}
use Rattle.refutation_text.specs.Number.{literal_word}
use Rattle.plantext.proofs.AgainLemmas.{joined_behind}

others_written : (literals : List Literal) (hints : List ℕ)
    → flat_map (λ word. 32 ∷ word) (map literal_word literals ++ codes ":" ∷ map decimal hints)
    ≡ flat_map (λ literal. 32 ∷ literal_word literal) literals ++ 32 ∷ 58 ∷ flat_map (λ hint. 32 ∷ decimal hint) hints
others_written literals hints =
    flat_map-append (λ (word : List ℕ). 32 ∷ word) (map literal_word literals) (codes ":" ∷ map decimal hints)
    ∙ ap (λ (text : List ℕ). text ++ 32 ∷ 58 ∷ flat_map (λ (word : List ℕ). 32 ∷ word) (map decimal hints)) (flat_map-map (λ (word : List ℕ). 32 ∷ word) literal_word literals)
    ∙ ap (λ (text : List ℕ). flat_map (λ literal. 32 ∷ literal_word literal) literals ++ 32 ∷ 58 ∷ text) (flat_map-map (λ (word : List ℕ). 32 ∷ word) decimal hints)

pub derived_written : (text : List ℕ) (literals : List Literal) (hints : List ℕ)
    → (((text ++ codes "derive") ++ flat_map (λ literal. 32 ∷ literal_word literal) literals) ++ (32 ∷ 58 ∷ [])) ++ flat_map (λ hint. 32 ∷ decimal hint) hints
    ≡ text ++ join_with_byte 32 (words_of (Derived literals hints))
derived_written text literals hints =
    let A : List ℕ = flat_map (λ literal. 32 ∷ literal_word literal) literals in
    let B : List ℕ = flat_map (λ hint. 32 ∷ decimal hint) hints in
    append_assoc ((text ++ codes "derive") ++ A) (32 ∷ 58 ∷ []) B
    ∙ append_assoc (text ++ codes "derive") A (32 ∷ 58 ∷ B)
    ∙ append_assoc text (codes "derive") (A ++ 32 ∷ 58 ∷ B)
    ∙ ap (λ (others : List ℕ). text ++ (codes "derive" ++ others)) (sym (others_written literals hints))
    ∙ ap (λ (written : List ℕ). text ++ written) joined where
      joined : codes "derive" ++ flat_map (λ (word : List ℕ). 32 ∷ word) (map literal_word literals ++ codes ":" ∷ map decimal hints)
          ≡ join_with_byte 32 (words_of (Derived literals hints))
      joined = sym (joined_behind 32 (codes "derive") (map literal_word literals ++ codes ":" ∷ map decimal hints))
