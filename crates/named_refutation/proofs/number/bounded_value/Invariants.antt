-- The value so far is that of the digits before the index, and within the bound.
use Rattle.std.proofs.Common.{◌≡◌, ◌≤◌, take}
use Rattle.std.specs.Str.Parse.{digits_value}
use Rattle.refutation_text.specs.declared.limits.TheConstants.{NUMBER}
use Rattle.named_refutation.proofs.number.bounded_value.Given as goal

abbrev pub invariant-loop-digit : goal.invariant-loop-digit
invariant-loop-digit l = (l.value ≡ digits_value 10 (take l.digit-index l.digits)) × (l.value ≤ NUMBER)
