-- What is decided: each fact of the definitions holds or not, which no axiom is needed for.
use Rattle.std.proofs.Common.{bytes_eq, ◌≡◌, ℕ, Bool, true, false, List, [], ◌∷◌, ◌⊎◌, refl, sym, subst}
use Rattle.std.specs.Prelude.{IsTrue}
use Rattle.std.specs.Bool.{Decides}
use Rattle.std.specs.List.{All, Any, Contains}
use Rattle.std.specs.declared.cmp.Ordering.{Ordering}
use Rattle.std.specs.declared.cmp.Ordering.TheVariants.{Less, Equal, Greater}
use Rattle.std.proofs.lemmas.Slice.Eq.{bytes_eq-Decides}
use Rattle.std.proofs.lemmas.List.Elements.{All-cons, All-nil, All-head, All-tail}
use Rattle.rules.specs.ElementLaws.{Any-contains, Any-intro, Any-elim, Contains-cons, Contains-head, Contains-rest, Contains-nil}
use mathlib.Core.Logic.{inl, inr}

-- a fact that a test decides is decided
unfoldable pub dec_Decides : {P : Type 0} (r : Bool) → Decides r P → Dec P
dec_Decides true decides = yes (decides.0 refl)
dec_Decides false decides = no (λ holds. absurd (let e : false ≡ true = decides.1 holds in cc))

-- a test is true or not
unfoldable pub dec_IsTrue : (b : Bool) → Dec (IsTrue b)
dec_IsTrue true = yes refl
dec_IsTrue false = no (λ e. absurd (let f : false ≡ true = e in cc))

-- a test is false or not
unfoldable pub dec_IsFalse : (b : Bool) → Dec (b ≡ false)
dec_IsFalse false = yes refl
dec_IsFalse true = no (λ e. absurd (let f : true ≡ false = e in cc))

unfoldable pub dec_and : {P Q : Type 0} → Dec P → Dec Q → Dec (P × Q)
dec_and (yes p) (yes q) = yes (p, q)
dec_and (yes p) (no n) = no (λ both. n both.1)
dec_and (no n) other = no (λ both. n both.0)

-- three facts in a row
unfoldable pub dec_and3 : {P Q R : Type 0} → Dec P → Dec Q → Dec R → Dec (P × Q × R)
dec_and3 (yes p) (yes q) (yes r) = yes (p, q, r)
dec_and3 (yes p) (yes q) (no n) = no (λ all. n all.2)
dec_and3 (yes p) (no n) other = no (λ all. n all.1)
dec_and3 (no n) other another = no (λ all. n all.0)

unfoldable pub dec_or : {P Q : Type 0} → Dec P → Dec Q → Dec (P ⊎ Q)
dec_or (yes p) other = yes (inl p)
dec_or (no n) (yes q) = yes (inr q)
dec_or (no n) (no m) = no (λ either. elim either [ inl p ↦ n p | inr q ↦ m q ])

unfoldable pub dec_not : {P : Type 0} → Dec P → Dec (¬ P)
dec_not (yes p) = no (λ n. n p)
dec_not (no n) = yes n

unfoldable pub dec_implies : {P Q : Type 0} → Dec P → Dec Q → Dec (P → Q)
dec_implies (yes p) (yes q) = yes (λ _. q)
dec_implies (yes p) (no n) = no (λ f. n (f p))
dec_implies (no n) other = yes (λ p. absurd (n p))

-- a fact that is equivalent to a decided one is decided
unfoldable pub dec_like : {P Q : Type 0} → (P → Q) → (Q → P) → Dec P → Dec Q
dec_like to back (yes p) = yes (to p)
dec_like to back (no n) = no (λ q. n (back q))

-- of each element, where it is decided of each
unfoldable pub dec_All : {X : Type 0} (P : X → Type 0) → ((x : X) → Dec (P x)) → (xs : List X) → Dec (All P xs)
dec_All P each [] = yes (All-nil P)
dec_All P each (x ∷ xs) = dec_like
    (λ both. All-cons P x xs both.0 both.1) (λ all. (All-head P x xs all, All-tail P x xs all))
    (dec_and (each x) (dec_All P each xs))

-- of some element, where it is decided of each
unfoldable pub dec_Any : {X : Type 0} (P : X → Type 0) → ((x : X) → Dec (P x)) → (xs : List X) → Dec (Any P xs)
dec_Any P each [] = no (Any-elim P [] ⊥ (λ x within holds. Contains-nil x within))
dec_Any {X} P each (x ∷ xs) = dec_like to back (dec_or (each x) (dec_Any P each xs))
  where
    to : P x ⊎ Any P xs → Any P (x ∷ xs)
    to (inl here) = Any-intro P (x ∷ xs) x (Contains-head x xs) here
    to (inr later) = Any-elim P xs (Any P (x ∷ xs)) (λ y within holds. Any-intro P (x ∷ xs) y (Contains-rest x xs y within) holds) later

    back : Any P (x ∷ xs) → P x ⊎ Any P xs
    back some = Any-elim P (x ∷ xs) (P x ⊎ Any P xs) (λ y within holds. elim (Contains-cons x xs y within)
        [ inl same ↦ inl (subst P (sym same) holds) | inr later ↦ inr (Any-intro P xs y later holds) ]) some

-- whether two texts are equal
unfoldable pub dec_text : (xs ys : List ℕ) → Dec (xs ≡ ys)
dec_text xs ys = dec_Decides (bytes_eq xs ys) (bytes_eq-Decides xs ys)

-- whether an order is this one
unfoldable pub dec_Equal : (o : Ordering) → Dec (o ≡ Equal)
dec_Equal Less = no (λ e. cc)
dec_Equal Equal = yes refl
dec_Equal Greater = no (λ e. cc)

-- whether a text is an element
unfoldable pub dec_Contains : (xs : List (List ℕ)) (x : List ℕ) → Dec (Contains xs x)
dec_Contains xs x = dec_like
    (λ some. subst (Contains xs) some.4 (Any-contains (λ y. y ≡ x) xs some))
    (λ within. Any-intro (λ y. y ≡ x) xs x within refl)
    (dec_Any (λ y. y ≡ x) (λ y. dec_text y x) xs)

-- where it is decided of each element, it holds of all or fails for some
unfoldable pub all_or_some : {X : Type 0} (P : X → Type 0) → ((x : X) → Dec (P x)) → (xs : List X) → All P xs ⊎ Any (λ x. ¬ P x) xs
all_or_some P each [] = inl (All-nil P)
all_or_some {X} P each (x ∷ xs) = at_head (each x) (all_or_some P each xs)
  where
    at_head : Dec (P x) → All P xs ⊎ Any (λ y. ¬ P y) xs → All P (x ∷ xs) ⊎ Any (λ y. ¬ P y) (x ∷ xs)
    at_head (no fails) rest = inr (Any-intro (λ y. ¬ P y) (x ∷ xs) x (Contains-head x xs) fails)
    at_head (yes here) (inl rest) = inl (All-cons P x xs here rest)
    at_head (yes here) (inr some) = inr (Any-elim (λ y. ¬ P y) xs (Any (λ y. ¬ P y) (x ∷ xs))
        (λ y within fails. Any-intro (λ z. ¬ P z) (x ∷ xs) y (Contains-rest x xs y within) fails) some)
