-- Which packages provide a name (Policy 7.5), in a sentence.
use Rattle.std.specs.Prelude.{ℕ, Bool, List, [], ◌∷◌, ◌++◌, codes, fold, map}
use Rattle.std.specs.List.{filter, list_any}
use Rattle.index.specs.Index.{ReadIndex}
use Rattle.index.specs.Names.{names_of, with_name}
use Rattle.index.specs.Providers.{is_item_of}
use Rattle.rules.specs.Step.{IndexPackage}
use Rattle.input_notes.specs.Inputs.{stanzas_of}
use Rattle.input_notes.specs.Words.{names_words, printed_word}

-- the package provides the name, in whatever version
abbrev pub provides_name : List ℕ → IndexPackage → Bool
provides_name name listed = list_any (is_item_of name) listed.pkg.relations.provides

-- the names of the packages of the indices that provide the name, each once, in the order in which they come
abbrev pub provider_names : List ReadIndex → List ℕ → List (List ℕ)
provider_names indices name = names_of (filter (provides_name name) (stanzas_of indices))

-- names, with those of the packages that provide the name behind them, each once
abbrev pub with_providers : List (List ℕ) → List ℕ → List IndexPackage → List (List ℕ)
with_providers names name listed = fold with_name names (map (λ one. one.pkg.name) (filter (provides_name name) listed))

-- that the name is provided by packages of these names
abbrev pub provided_line : List ℕ → List (List ℕ) → List ℕ
provided_line name names = printed_word name ++ (codes " is provided by " ++ (names_words names ++ codes ".\n"))

-- the same, where there are some
abbrev pub provided_words : List ℕ → List (List ℕ) → List ℕ
provided_words name [] = []
provided_words name (first ∷ others) = provided_line name (first ∷ others)

-- which packages of the indices provide the name
abbrev pub providers_words : List ReadIndex → List ℕ → List ℕ
providers_words indices name = provided_words name (provider_names indices name)
