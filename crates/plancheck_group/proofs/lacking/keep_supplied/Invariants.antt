-- What is left is narrowed, and supplied where the last walk dropped nothing.
use Rattle.std.proofs.Common.{◌≡◌, ◌+◌, length}
use Rattle.std.specs.List.{All, Contains}
use Rattle.plancheck_group.specs.Part.{IsNarrowed, IsSupplied}
use Rattle.plancheck_group.proofs.lacking.keep_supplied.Given as goal

abbrev pub invariant-turns : goal.invariant-turns
invariant-turns l = record {
  narrowed : IsNarrowed l.db l.initial.part l.part;
  settled : length l.gone.items ≡ 0 → All (λ name. Contains l.part name → IsSupplied l.db l.part name) l.names;
}

abbrev pub decreases-turns : goal.decreases-turns
decreases-turns l = length l.part + length l.gone.items
