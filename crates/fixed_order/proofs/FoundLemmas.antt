-- What is known of an option, where it is something and where it isn't.
use Rattle.std.proofs.Common.{◌≡◌, Option, Some, None, MatchOption, refl, subst}

pub where_some : {X : Type 0} (N : Type 0) (P : X → Type 0) (maybe : Option X) (x : X) → maybe ≡ Some x → MatchOption maybe N P → P x
where_some {X} N P maybe x is known = subst (λ (o : Option X). MatchOption o N P) is known

pub where_none : {X : Type 0} (N : Type 0) (P : X → Type 0) (maybe : Option X) → ((x : X) → maybe ≡ Some x → ⊥)
    → MatchOption maybe N P → N
where_none N P None not_some known = known
where_none N P (Some x) not_some known = absurd (not_some x refl)
