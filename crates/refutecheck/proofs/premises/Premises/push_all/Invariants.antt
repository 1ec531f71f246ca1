-- The literals of the places so far are behind those before.
use Rattle.std.proofs.Common.{◌≡◌, ◌+◌, ◌++◌, map, take}
use Rattle.refutation.specs.declared.literal.Literal.TheVariants as literal
use Rattle.refutecheck.proofs.premises.Premises.push_all.Given as goal

abbrev pub invariant-loop-place : goal.invariant-loop-place
invariant-loop-place l = l.literals.items ≡ l.fn.literals.items ++ map (λ place. literal.Selected (place + 1)) (take l.place-index l.places)
