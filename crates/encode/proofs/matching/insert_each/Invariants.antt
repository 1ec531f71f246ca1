-- The numbers are those before with those of the places so far.
use Rattle.std.proofs.Common.{◌≡◌, ◌+◌, ◌⊎◌, ℕ, take}
use Rattle.std.specs.Prelude.{◌↔◌}
use Rattle.std.specs.List.{Any, Contains}
use Rattle.encode.proofs.matching.insert_each.Given as goal

abbrev pub invariant-loop-place : goal.invariant-loop-place
invariant-loop-place l = (number : ℕ) → Contains l.numbers.keys number ↔ (Contains l.fn.numbers.keys number
    ⊎ Any (λ place. number ≡ place + 1) (take l.place-index l.places))
