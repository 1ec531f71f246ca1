-- Records by their names, as tests and as facts.
use Rattle.std.proofs.Common.{◌≡◌, ℕ, true, List, refl, sym, subst}
use Rattle.std.specs.Prelude.{bytes_eq}
use Rattle.std.specs.List.{Contains}
use Rattle.std.proofs.lemmas.Slice.Eq.{bytes_eq-Decides}
use Rattle.rules.specs.Database.{Record}
use Rattle.rules.specs.ElementLaws.{Any-elim, Any-from_list_any, list_any-from_contains}
use Rattle.rules.specs.Step.{is_among, is_named}

-- equal texts pass the test, and only they
pub bytes_eq-true : (xs ys : List ℕ) → bytes_eq xs ys ≡ true → xs ≡ ys
bytes_eq-true xs ys passes = (bytes_eq-Decides xs ys).0 passes

pub bytes_eq-same : (xs ys : List ℕ) → xs ≡ ys → bytes_eq xs ys ≡ true
bytes_eq-same xs ys same = (bytes_eq-Decides xs ys).1 same

-- the record is among the names where they contain its name
pub is_among-contains : (names : List (List ℕ)) (entry : Record) → Contains names entry.name → is_among names entry ≡ true
is_among-contains names entry within =
    list_any-from_contains (λ name. is_named name entry) names entry.name within (bytes_eq-same entry.name entry.name refl)

pub contains-is_among : (names : List (List ℕ)) (entry : Record) → is_among names entry ≡ true → Contains names entry.name
contains-is_among names entry passes = Any-elim (λ name. is_named name entry ≡ true) names (Contains names entry.name)
    (λ name within holds. subst (Contains names) (sym (bytes_eq-true entry.name name holds)) within)
    (Any-from_list_any (λ name. is_named name entry) names passes)
