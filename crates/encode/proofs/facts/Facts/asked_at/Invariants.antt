-- The numbers are those of the places so far.
use Rattle.std.proofs.Common.{ℕ, take}
use Rattle.std.specs.Prelude.{◌↔◌}
use Rattle.std.specs.List.{Any, Contains}
use Rattle.encode.specs.Numbers.{IsAsked, IsNumberAt}
use Rattle.encode.proofs.facts.Facts.asked_at.Given as goal

abbrev pub invariant-loop-place : goal.invariant-loop-place
invariant-loop-place l = (number : ℕ) → Contains l.numbers.items number
    ↔ Any (λ place. IsNumberAt l.self (IsAsked l.query) place number) (take l.place-index l.places)
