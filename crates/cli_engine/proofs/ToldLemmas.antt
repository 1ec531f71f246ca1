-- What is told of an answer, where memory isn't refused for it.
use Rattle.std.proofs.Common.{◌≡◌, ℕ, Bool, true, List, Option, Result, Ok, Err, IfOk, subst, sym}
use Rattle.cli_engine.specs.Reasons.{IsToldWhere, told_if}

-- where it is wanted, what is told is the text of which the fact holds
pub told-where : {V E : Type 0} (items : V → List ℕ) (wanted : Bool) (Holds : List ℕ → Type 0) (text : Result V E) (told : Option (List ℕ))
    → wanted ≡ true → IfOk text (λ one. Holds (items one)) → told ≡ told_if items text → IsToldWhere wanted Holds told
told-where items wanted Holds (Err e) told want holds is = subst (IsToldWhere wanted Holds) (sym is) tt
told-where items wanted Holds (Ok one) told want holds is = subst (IsToldWhere wanted Holds) (sym is) (want, holds)
