-- Packages that are asked about, one more at a time.
use Rattle.std.proofs.Common.{◌≡◌, ℕ, ◌<◌, Bool, false, nat_eq, ◌||◌, List, [], ◌∷◌, ◌++◌, get_or, length, map, Bor, bytes_eq, sym, ap, ◌∙◌}
use Rattle.std.specs.List.{AllZip, Any, list_any}
use Rattle.std.proofs.lemmas.List.{length-map}
use Rattle.index.proofs.NameLemmas.{list_any-map}
use Rattle.rules.specs.ElementLaws.{Any-intro}
use Rattle.rules.specs.Step.{IndexPackage}
use Rattle.installable.specs.Asked.{is_asked}

-- where there are names, those that have one of them are
pub asked_named : (names : List (Bor (List ℕ))) (stanza : IndexPackage) (answer : Bool) → nat_eq (length names) 0 ≡ false
    → answer ≡ list_any (λ (name : Bor (List ℕ)). bytes_eq name.now stanza.pkg.name) names
    → answer ≡ is_asked (map (λ (name : Bor (List ℕ)). name.now) names) stanza
asked_named names stanza answer some is =
    is
    ∙ sym (list_any-map (λ (name : List ℕ). bytes_eq name stanza.pkg.name) (λ (name : Bor (List ℕ)). name.now) names)
    ∙ sym (ap (λ (b : Bool). b || list_any (λ (name : List ℕ). bytes_eq name stanza.pkg.name) (map (λ (name : Bor (List ℕ)). name.now) names))
    (ap (λ (n : ℕ). nat_eq n 0) (length-map names (λ (name : Bor (List ℕ)). name.now)) ∙ some))

-- one more pair at the ends of two lists
pub zip_more : {A B : Type 0} (R : A → B → Type 0) (xs : List A) (ys : List B) (x : A) (y : B) → AllZip R xs ys → R x y
    → AllZip R (xs ++ x ∷ []) (ys ++ y ∷ [])
zip_more R [] [] x y all here = (here, tt)
zip_more R [] (b ∷ ys) x y all here = absurd all
zip_more R (a ∷ xs) [] x y all here = absurd all
zip_more R (a ∷ xs) (b ∷ ys) x y all here = (all.0, zip_more R xs ys x y all.1 here)

-- what is so of the item at a place is so of some item
pub some_at : {A : Type 0} (P : A → Type 0) (xs : List A) (place : ℕ) (x : A) → place < length xs → get_or xs place x ≡ x → P x → Any P xs
some_at P xs place x within is so = Any-intro P xs x (place, within, is) so
