-- The numbers are those before with those at the places so far.
use Rattle.std.proofs.Common.{◌⊎◌, ℕ, take}
use Rattle.std.specs.Prelude.{◌↔◌}
use Rattle.std.specs.List.{Any, Contains}
use Rattle.universe_parts.specs.Parts.{packages_of}
use Rattle.refutation_sentences.specs.Offers.{IsBy, IsNumberAt}
use Rattle.refutation_sentences.proofs.context.Context.push_places.Given as goal

abbrev pub invariant-loop-place : goal.invariant-loop-place
invariant-loop-place l = (number : ℕ) → Contains l.numbers.items number ↔ (Contains l.fn.numbers.items number
    ⊎ Any (λ place. IsNumberAt (packages_of l.self.premises.now.pairs) (IsBy l.by l.name) place number) (take l.place-index l.places))
