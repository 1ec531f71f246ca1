-- What holds of a value in a result.
use Rattle.std.proofs.Common.{◌≡◌, Result, Ok, Err, IfOk, refl}

-- what holds of the value that the result has holds of it in the result
pub of_value : {A E : Type 0} (r : Result A E) (P : A → Type 0) → ((a : A) → r ≡ Ok a → P a) → IfOk r P
of_value (Ok a) P holds = holds a refl
of_value (Err e) P holds = tt
