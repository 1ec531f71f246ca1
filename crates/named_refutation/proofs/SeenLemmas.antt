-- A key is that of an earlier literal exactly where the literals are the same.
use Rattle.std.proofs.Common.{◌≡◌, ℕ, ◌+◌, Bool, true, false, List, [], ◌∷◌, ◌++◌, ◌&&◌, map, refl, sym, ap, ◌∙◌, take, drop, bytes_eq}
use Rattle.std.specs.Borrow.{Bor}
use mathlib.Core.Bool.{beq}
use Rattle.std.specs.List.{list_any}
use Rattle.named_refutation.specs.Derived.{are_new, is_same}
use Rattle.named_refutation.specs.Seen.{literal_by}
use Rattle.named_refutation.specs.declared.named.NamedLiteral.{NamedLiteral}

-- what a literal is told apart by
abbrev pub Key : Type 0
Key = Bool × Bor (List ℕ) × Bor (List ℕ)

-- the keys are equal
abbrev pub key_eq : Key → Key → Bool
key_eq key other = (beq key.0 other.0 && bytes_eq key.1.now other.1.now) && bytes_eq key.2.now other.2.now

key_same : (selected other_selected : Bool) (name version other other_version : Bor (List ℕ))
    → key_eq (selected, name, version) (other_selected, other, other_version)
    ≡ is_same (literal_by (selected, name, version)) (literal_by (other_selected, other, other_version))
key_same true true name version other other_version = refl
key_same true false name version other other_version = refl
key_same false true name version other other_version = refl
key_same false false name version other other_version = refl

-- a key is among those of literals exactly where its literal is among them
pub any_seen : (key : Key) (keys : List Key) → list_any (key_eq key) keys ≡ list_any (is_same (literal_by key)) (map literal_by keys)
any_seen key [] = refl
any_seen key (other ∷ later) = rw (key_same key.0 other.0 key.1 key.2 other.1 other.2, any_seen key later) refl

-- a literal that is among the earlier ones isn't new
pub repeated : (literals : List NamedLiteral) (i : ℕ) (x : NamedLiteral) (seen : List NamedLiteral) → drop i literals ≡ x ∷ drop (i + 1) literals
    → seen ≡ take i literals → list_any (is_same x) seen ≡ true → are_new (take i literals) (drop i literals) ≡ false
repeated literals i x seen here kept is =
    let among : list_any (is_same x) (take i literals) ≡ true = ap (list_any (is_same x)) (sym kept) ∙ is in
    ap (are_new (take i literals)) here ∙ rw among refl

-- a literal that isn't among the earlier ones is new
pub fresh : (literals : List NamedLiteral) (i : ℕ) (x : NamedLiteral) (seen : List NamedLiteral) → drop i literals ≡ x ∷ drop (i + 1) literals
    → take (i + 1) literals ≡ take i literals ++ x ∷ [] → seen ≡ take i literals → list_any (is_same x) seen ≡ false
    → are_new (take (i + 1) literals) (drop (i + 1) literals) ≡ are_new (take i literals) (drop i literals)
fresh literals i x seen here more kept is =
    let among : list_any (is_same x) (take i literals) ≡ false = ap (list_any (is_same x)) (sym kept) ∙ is in
    sym (ap (are_new (take i literals)) here ∙ rw among (ap (λ (earlier : List NamedLiteral). are_new earlier (drop (i + 1) literals)) (sym more)))
