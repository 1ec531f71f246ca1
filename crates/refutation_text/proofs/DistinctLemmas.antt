-- Literals are the same exactly where their keys are.
use Rattle.std.proofs.Common.{◌≡◌, ℕ, ◌+◌, ◌*◌, Bool, true, false, List, [], ◌∷◌, ◌++◌, not, map, refl, sym, ap, ◌∙◌, arith, eqb, eq-eqb, take, drop}
use Rattle.std.proofs.lemmas.Bool.{eqb-true, false≢true}
use Rattle.std.specs.List.{list_any}
use Rattle.indexmap.specs.IndexSet.{insert_key}
use Rattle.refutation.specs.declared.literal.Literal.{Literal}
use Rattle.refutation.specs.declared.literal.Literal.TheVariants.{Selected, Unselected}
use Rattle.refutation_text.specs.Derived.{are_new, is_same, literal_key}

bool_same : (a b : Bool) → (a ≡ true → b ≡ true) → (b ≡ true → a ≡ true) → a ≡ b
bool_same true b to from = sym (to refl)
bool_same false true to from = from refl
bool_same false false to from = refl

pub key_same : (x y : Literal) → is_same x y ≡ eqb (literal_key x) (literal_key y)
key_same (Selected a) (Selected b) = bool_same (eqb a b) (eqb (a * 2) (b * 2))
    (λ h. eq-eqb (a * 2) (b * 2) (ap (λ n. n * 2) (eqb-true a b h))) (λ h. eq-eqb a b (omega (arith, eqb-true (a * 2) (b * 2) h)))
key_same (Selected a) (Unselected b) = bool_same false (eqb (a * 2) (b * 2 + 1))
    (λ h. absurd (false≢true h)) (λ h. absurd (omega (arith, eqb-true (a * 2) (b * 2 + 1) h)))
key_same (Unselected a) (Selected b) = bool_same false (eqb (a * 2 + 1) (b * 2))
    (λ h. absurd (false≢true h)) (λ h. absurd (omega (arith, eqb-true (a * 2 + 1) (b * 2) h)))
key_same (Unselected a) (Unselected b) = bool_same (eqb a b) (eqb (a * 2 + 1) (b * 2 + 1))
    (λ h. eq-eqb (a * 2 + 1) (b * 2 + 1) (ap (λ n. n * 2 + 1) (eqb-true a b h))) (λ h. eq-eqb a b (omega (arith, eqb-true (a * 2 + 1) (b * 2 + 1) h)))

pub any_key : (x : Literal) (literals : List Literal) → list_any (is_same x) literals ≡ list_any (eqb (literal_key x)) (map literal_key literals)
any_key x [] = refl
any_key x (y ∷ literals) = rw (key_same x y, any_key x literals) refl

map-push : (literals : List Literal) (x : Literal) → map literal_key (literals ++ x ∷ []) ≡ map literal_key literals ++ literal_key x ∷ []
map-push [] x = refl
map-push (y ∷ literals) x = ap (λ (keys : List ℕ). literal_key y ∷ keys) (map-push literals x)

-- a literal whose key is kept is among those so far
pub repeated : (literals : List Literal) (i : ℕ) (x : Literal) (keys : List ℕ) → drop i literals ≡ x ∷ drop (i + 1) literals
    → keys ≡ map literal_key (take i literals) → list_any (eqb (literal_key x)) keys ≡ true → are_new (take i literals) (drop i literals) ≡ false
repeated literals i x keys here kept is =
    let among : list_any (is_same x) (take i literals) ≡ true = any_key x (take i literals) ∙ ap (list_any (eqb (literal_key x))) (sym kept) ∙ is in
    ap (are_new (take i literals)) here ∙ rw among refl

-- a literal whose key isn't kept is new
pub fresh : (literals : List Literal) (i : ℕ) (x : Literal) (keys : List ℕ) → drop i literals ≡ x ∷ drop (i + 1) literals
    → take (i + 1) literals ≡ take i literals ++ x ∷ []
    → keys ≡ map literal_key (take i literals) → list_any (eqb (literal_key x)) keys ≡ false
    → are_new (take (i + 1) literals) (drop (i + 1) literals) ≡ are_new (take i literals) (drop i literals)
fresh literals i x keys here more kept is =
    let among : list_any (is_same x) (take i literals) ≡ false = any_key x (take i literals) ∙ ap (list_any (eqb (literal_key x))) (sym kept) ∙ is in
    sym (ap (are_new (take i literals)) here ∙ rw among (ap (λ (earlier : List Literal). are_new earlier (drop (i + 1) literals)) (sym more)))

pub kept_more : (literals : List Literal) (i : ℕ) (x : Literal) (keys after : List ℕ) → take (i + 1) literals ≡ take i literals ++ x ∷ []
    → keys ≡ map literal_key (take i literals) → list_any (eqb (literal_key x)) keys ≡ false
    → after ≡ insert_key eqb keys (literal_key x) → after ≡ map literal_key (take (i + 1) literals)
kept_more literals i x keys after more kept is put =
    put ∙ rw is (ap (λ (so_far : List ℕ). so_far ++ literal_key x ∷ []) kept ∙ sym (map-push (take i literals) x) ∙ ap (map literal_key) (sym more))

-- what is said of whether a key was put
pub was_there : (put there : Bool) → put ≡ not there → put ≡ false → there ≡ true
was_there put true e h = refl
was_there put false e h = absurd (false≢true (sym h ∙ e))

pub was_absent : (put there : Bool) → put ≡ not there → put ≡ true → there ≡ false
was_absent put false e h = refl
was_absent put true e h = absurd (false≢true (sym e ∙ h))
