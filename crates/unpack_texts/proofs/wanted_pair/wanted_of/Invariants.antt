-- The stanzas of the index that the pairs so far have.
use Rattle.std.proofs.Common.{◌≡◌, ◌<◌, ℕ}
use Rattle.std.specs.List.{All, Any}
use Rattle.rules.specs.Step.{IndexPackage}
use Rattle.unpack_texts.specs.Stanzas.{IsAt, IsWanted}
use Rattle.unpack_texts.proofs.wanted_pair.wanted_of.Given as goal

abbrev pub invariant-loop-i : goal.invariant-loop-i
invariant-loop-i l = record {
  each : All (IsWanted l.number l.stanzas) l.wanted.items;
  every : (place : ℕ) (listed : IndexPackage) → place < l.i → IsAt l.number l.stanzas place listed → Any (λ one. one.place ≡ place) l.wanted.items;
}
