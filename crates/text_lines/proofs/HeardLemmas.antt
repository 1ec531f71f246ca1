-- What is taken of a text that is left: first of the bytes that wait, and then of the source.
use Rattle.std.proofs.Common.{◌≡◌, ℕ, List, [], ◌++◌, Option, None, Some, ap, ◌∙◌}
use Rattle.std.proofs.lemmas.List.{append_assoc}
use Rattle.std.specs.Io.KnownBytes.{Consumes, prepend_known}

-- bytes that waited are taken
pub Consumes-waiting : (waited waits front : List ℕ) (known : Option (List ℕ)) → waited ≡ front ++ waits
    → Consumes (prepend_known waited known) (prepend_known waits known) front
Consumes-waiting waited waits front None is = tt
Consumes-waiting waited waits front (Some bytes) is = ap (λ xs. xs ++ bytes) is ∙ append_assoc front waits bytes

-- no more was taken
pub Consumes-no_more : (a b c : Option (List ℕ)) (bytes : List ℕ) → Consumes a b bytes → Consumes b c [] → Consumes a c bytes
Consumes-no_more None b c bytes first then = tt
Consumes-no_more (Some xs) None c bytes first then = absurd first
Consumes-no_more (Some xs) (Some ys) None bytes first then = absurd then
Consumes-no_more (Some xs) (Some ys) (Some zs) bytes first then = first ∙ ap (λ rest. bytes ++ rest) then
