-- What is left of a list of words behind one more of them, and what one more makes of those before it.
use Rattle.std.proofs.Common.{◌≡◌, ◌∙◌, ◌++◌, ◌<◌, ◌+◌, ℕ, suc, Bool, true, false, cond, List, [], ◌∷◌, Option, None, Some, MatchOption, ap, append_assoc, arith, drop, drop-cons, get_or, inl, inr, length, map, refl, sym}
use Rattle.std.proofs.lemmas.Bool.{cases_Bool}
use Rattle.std.proofs.lemmas.List.{map-append}
use Rattle.std.proofs.lemmas.Slice.Eq.{bytes_eq-Decides}
use Rattle.std.specs.Borrow.{Bor}
use Rattle.std.specs.Str.{bytes_eq}
use Rattle.command_line.specs.Joined.{Text, ends_options, joined_behind, takes_value}
use Rattle.command_line.specs.Place.{left, place_behind}
use Rattle.command_line.specs.declared.join.Place.{Place}
use Rattle.command_line.specs.declared.join.Place.TheVariants.{Free, Behind, Operands}

pub left_from : {X : Type 0} (f : X → Text) (xs : List X) (i : ℕ) (x : X) → i < length xs → x ≡ get_or xs i x
    → map f (drop i xs) ≡ f x ∷ map f (drop (i + 1) xs)
left_from f xs i x lt at =
    let next : suc i ≡ i + 1 = omega arith in
    ap (map f) (drop-cons xs i x lt) ∙ ap (λ y. f y ∷ map f (drop (suc i) xs)) (sym at) ∙ ap (λ k. f x ∷ map f (drop k xs)) next

pub left_at : {X : Type 0} (f : X → Text) (xs : List X) (i : ℕ) (d : X) → i < length xs
    → map f (drop i xs) ≡ f (get_or xs i d) ∷ map f (drop (i + 1) xs)
left_at f xs i d lt =
    let next : suc i ≡ i + 1 = omega arith in
    ap (map f) (drop-cons xs i d lt) ∙ ap (λ k. f (get_or xs i d) ∷ map f (drop k xs)) next

-- one more value at the end of a list is one more text
pub one_more : {X : Type 0} (f : X → Text) (before after : List X) (x : X) (text : Text) → after ≡ before ++ x ∷ [] → f x ≡ text
    → map f after ≡ map f before ++ text ∷ []
one_more f before after x text e is = ap (map f) e ∙ map-append f before (x ∷ []) ∙ ap (λ t. map f before ++ t ∷ []) is

pub whole : {X : Type 0} (f : X → Text) (before after : List X) (text : Text) (next : List Text) → map f after ≡ map f before ++ text ∷ []
    → map f after ++ next ≡ map f before ++ text ∷ next
whole f before after text next e = ap (λ ts. ts ++ next) e ∙ append_assoc (map f before) (text ∷ []) next

pub option_left : (word : Bor Text) (rest : List Text) → takes_value word.now ≡ true → left (Behind word) rest ≡ left Free (word.now ∷ rest)
option_left word rest takes = rw takes refl

pub word_left : (word : Text) (rest : List Text) → takes_value word ≡ false → word ∷ left (place_behind word) rest ≡ left Free (word ∷ rest)
word_left word rest takes = rw takes (go (ends_options word))
  where
    go : (ends : Bool) → word ∷ left (cond ends Operands Free) rest ≡ cond ends (word ∷ rest) (word ∷ joined_behind None rest)
    go true = refl
    go false = refl

pub own_put : {X : Type 0} (f : X → Text) (before after : List X) (word : Text) (next : Place) (rest : List Text) → takes_value word ≡ false
    → map f after ≡ map f before ++ word ∷ [] → next ≡ place_behind word → map f after ++ left next rest ≡ map f before ++ left Free (word ∷ rest)
own_put f before after word next rest takes e is =
    ap (λ (p : Place). map f after ++ left p rest) is ∙ whole f before after word (left (place_behind word) rest) e
    ∙ ap (λ ts. map f before ++ ts) (word_left word rest takes)

-- what a search that found nothing says
pub where_none : {X : Type 0} (N : Type 0) (P : X → Type 0) (item : Option X) → ((x : X) → item ≡ Some x → ⊥) → MatchOption item N P → N
where_none N P None not_some known = known
where_none N P (Some x) not_some known = absurd (not_some x refl)

-- a word that isn't an option doesn't equal it
pub unlike : (option word : Text) → ¬ (word ≡ option) → bytes_eq option word ≡ false
unlike option word differs = elim (cases_Bool (bytes_eq option word)) [
  | inl same ↦ absurd (differs (sym ((bytes_eq-Decides option word).0 same)))
  | inr other ↦ other
]
