-- The stanzas that the steps so far unpack.
use Rattle.std.proofs.Common.{◌≡◌, ◌<◌, ℕ}
use Rattle.std.specs.List.{All, Any}
use Rattle.rules.specs.Step.{IndexPackage}
use Rattle.unpack_texts.specs.Wanted.{IsWanted, Unpacks}
use Rattle.unpack_texts.proofs.wanted.wanted_by.Given as goal

abbrev pub invariant-loop-i : goal.invariant-loop-i
invariant-loop-i l = record {
  each : All (IsWanted l.universe l.steps) l.wanted.items;
  every : (place : ℕ) (listed : IndexPackage) → place < l.i → Unpacks l.universe l.steps place listed → Any (λ one. one.step ≡ place) l.wanted.items;
}
