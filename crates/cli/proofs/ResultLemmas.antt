-- What holds of a value in a result.
use Rattle.std.proofs.Common.{Result, Ok, Err, IfErr, IfOk}

-- what holds of a value holds of it in a result
pub if_ok : {A E : Type 0} (r : Result A E) (P Q : A → Type 0) → ((a : A) → P a → Q a) → IfOk r P → IfOk r Q
if_ok (Ok a) P Q then holds = then a holds
if_ok (Err e) P Q then holds = tt

-- what holds in each case of a value in a result holds of it in each case
pub over_ok : {A E I : Type 0} (r : Result A E) (K : I → Type 0) (P : I → A → Type 0) → ((i : I) → K i → IfOk r (P i))
    → IfOk r (λ a. (i : I) → K i → P i a)
over_ok (Ok a) K P holds = holds
over_ok (Err e) K P holds = tt

-- what holds anyway holds behind an error
pub always_err : {A E : Type 0} (r : Result A E) (P : Type 0) → P → IfErr r (λ _. P)
always_err (Ok a) P holds = tt
always_err (Err e) P holds = holds
