-- The literals are those before with what is selected at the places so far.
use Rattle.std.proofs.Common.{take, ◌⊎◌}
use Rattle.std.specs.Prelude.{◌↔◌}
use Rattle.std.specs.List.{Any, Contains}
use Rattle.refutation.specs.declared.literal.Literal.{Literal}
use Rattle.universe_parts.specs.Parts.{packages_of}
use Rattle.refutecheck.specs.Sought.{IsSelectedAt, IsSought}
use Rattle.refutecheck.proofs.premises.Premises.push_places.Given as goal

abbrev pub invariant-loop-place : goal.invariant-loop-place
invariant-loop-place l = (literal : Literal) → Contains l.literals.items literal ↔ (Contains l.fn.literals.items literal
    ⊎ Any (λ place. IsSelectedAt (packages_of l.self.pairs) (IsSought l.sought) place literal) (take l.place-index l.places))
