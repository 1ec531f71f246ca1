-- Words with spaces between them, as they are written one behind the other.
use Rattle.std.proofs.Common.{◌≡◌, ℕ, List, [], ◌∷◌, ◌++◌, map, refl, sym, ap, ◌∙◌, append_assoc}
use Rattle.std.proofs.lemmas.Grind.{flat_map-append}
use Rattle.std.proofs.lemmas.List.Folds.{flat_map-map}
use Rattle.std.specs.List.{flat_map, join_with_byte}
use Rattle.std.specs.Prelude.{codes, decimal}
use Rattle.plantext.proofs.AgainLemmas.{joined_behind}
use Rattle.named_refutation.specs.Derived.{literal_words}
use Rattle.named_refutation.specs.LineText.{words_of}
use Rattle.named_refutation.specs.declared.named.NamedLine.TheVariants.{Derived}
use Rattle.named_refutation.specs.declared.named.NamedLiteral.{NamedLiteral}

-- words with a space before each
abbrev pub spaced : List (List ℕ) → List ℕ
spaced words = flat_map (λ word. 32 ∷ word) words

literals_spaced : (literals : List NamedLiteral) → spaced (flat_map literal_words literals) ≡ flat_map (λ literal. spaced (literal_words literal)) literals
literals_spaced [] = refl
literals_spaced (literal ∷ later) =
    flat_map-append (λ (word : List ℕ). 32 ∷ word) (literal_words literal) (flat_map literal_words later)
    ∙ ap (λ (text : List ℕ). spaced (literal_words literal) ++ text) (literals_spaced later)

others_written : (literals : List NamedLiteral) (hints : List ℕ)
    → spaced (flat_map literal_words literals ++ codes ":" ∷ map decimal hints)
    ≡ flat_map (λ literal. spaced (literal_words literal)) literals ++ 32 ∷ 58 ∷ flat_map (λ hint. 32 ∷ decimal hint) hints
others_written literals hints =
    flat_map-append (λ (word : List ℕ). 32 ∷ word) (flat_map literal_words literals) (codes ":" ∷ map decimal hints)
    ∙ ap (λ (text : List ℕ). text ++ 32 ∷ 58 ∷ spaced (map decimal hints)) (literals_spaced literals)
    ∙ ap (λ (text : List ℕ). flat_map (λ literal. spaced (literal_words literal)) literals ++ 32 ∷ 58 ∷ text) (flat_map-map (λ (word : List ℕ). 32 ∷ word) decimal hints)

pub derived_written : (text : List ℕ) (literals : List NamedLiteral) (hints : List ℕ)
    → (((text ++ codes "derive") ++ flat_map (λ literal. spaced (literal_words literal)) literals) ++ (32 ∷ 58 ∷ [])) ++ flat_map (λ hint. 32 ∷ decimal hint) hints
    ≡ text ++ join_with_byte 32 (words_of (Derived literals hints))
derived_written text literals hints =
    let A : List ℕ = flat_map (λ literal. spaced (literal_words literal)) literals in
    let B : List ℕ = flat_map (λ hint. 32 ∷ decimal hint) hints in
    append_assoc ((text ++ codes "derive") ++ A) (32 ∷ 58 ∷ []) B
    ∙ append_assoc (text ++ codes "derive") A (32 ∷ 58 ∷ B)
    ∙ append_assoc text (codes "derive") (A ++ 32 ∷ 58 ∷ B)
    ∙ ap (λ (others : List ℕ). text ++ (codes "derive" ++ others)) (sym (others_written literals hints))
    ∙ ap (λ (written : List ℕ). text ++ written) joined where
      joined : codes "derive" ++ spaced (flat_map literal_words literals ++ codes ":" ∷ map decimal hints)
          ≡ join_with_byte 32 (words_of (Derived literals hints))
      joined = sym (joined_behind 32 (codes "derive") (flat_map literal_words literals ++ codes ":" ∷ map decimal hints))
