-- What an answer of the search promises: of a selection and of a limit all that is said of them, of a refutation nothing,
-- since a checker judges it.
use Rattle.std.specs.Prelude.{◌≡◌, ℕ, ◌<◌, ◌≤◌, List, ⊤}
use Rattle.std.specs.List.{All, AllPairs, Any}
use Rattle.clauses.specs.Clause.{MakesAllTrue}
use Rattle.clauses.specs.Clauses.{Clauses}
use Rattle.search.specs.Choice.{HasTwo}
use Rattle.search.specs.declared.answer.SearchAnswer.{SearchAnswer}
use Rattle.search.specs.declared.answer.SearchAnswer.TheVariants.{Selection, Refutation, Limit}

-- numbers as a selection has them: ascending, from 1 to the greatest
abbrev pub IsSelection : ℕ → List ℕ → Type 0
IsSelection greatest numbers = AllPairs (λ earlier later. earlier < later) numbers
    × All (λ number. (1 ≤ number) × (number ≤ greatest)) numbers

-- a selection makes every clause true, and a limit is the one handed in and comes only where some clause says of
-- two numbers that one is selected
abbrev pub IsAnswer : Clauses → ℕ → SearchAnswer → Type 0
IsAnswer clauses limit (Selection numbers) = IsSelection clauses.numbers numbers.items
    × MakesAllTrue numbers.items clauses.clauses
IsAnswer clauses limit (Refutation refutation) = ⊤
IsAnswer clauses limit (Limit reached) = (reached ≡ limit) × Any HasTwo clauses.clauses
