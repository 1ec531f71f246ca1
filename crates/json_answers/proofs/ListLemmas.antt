-- Lists that grow by one: strings of lines, and values that are related to the items before them.
use Rattle.std.proofs.Common.{◌≡◌, ◌∙◌, ◌++◌, ◌<◌, ◌+◌, ℕ, suc, List, [], ◌∷◌, ap, append_assoc, arith, drop, drop-cons, get_or, length, map, subst, sym, take, take-append-drop}
use Rattle.std.proofs.lemmas.List.{take_more}
use Rattle.std.specs.List.{AllZip, enumerate_from, flat_map}
use Rattle.json_answers.specs.TextLines.{line_data}
use Rattle.serde_json.specs.Data.{Data}

-- the string of one more line
pub one_part : (old after : List Data) (line : List ℕ) (lines more : List (List ℕ)) → after ≡ old ++ line_data line → lines ≡ line ∷ more
    → after ++ flat_map line_data more ≡ old ++ flat_map line_data lines
one_part old after line lines more e first = ap (λ (ds : List Data). ds ++ flat_map line_data more) e
    ∙ append_assoc old (line_data line) (flat_map line_data more)
    ∙ sym (ap (λ (ls : List (List ℕ)). old ++ flat_map line_data ls) first)

-- what is left from an item on is the item and what is left behind it
pub left_at : {X Y : Type 0} (f : X → Y) (xs : List X) (i : ℕ) (d : X) → i < length xs
    → map f (drop i xs) ≡ f (get_or xs i d) ∷ map f (drop (i + 1) xs)
left_at f xs i d lt =
    let next : suc i ≡ i + 1 = omega arith in
    ap (map f) (drop-cons xs i d lt) ∙ ap (λ k. f (get_or xs i d) ∷ map f (drop k xs)) next

-- what is left begins with this item
pub next_item : {X : Type 0} (xs : List X) (i : ℕ) (x : X) → i < length xs → x ≡ get_or xs i x → drop i xs ≡ x ∷ drop (i + 1) xs
next_item xs i x lt is =
    let next : suc i ≡ i + 1 = omega arith in
    drop-cons xs i x lt ∙ ap (λ k. get_or xs i x ∷ drop k xs) next ∙ ap (λ y. y ∷ drop (i + 1) xs) (sym is)

-- a list is cut at one of its items
pub cut_at : {X : Type 0} (xs : List X) (i : ℕ) (x : X) → i < length xs → x ≡ get_or xs i x → xs ≡ take i xs ++ x ∷ drop (suc i) xs
cut_at xs i x lt is = sym (take-append-drop i xs)
    ∙ ap (λ ys. take i xs ++ ys) (drop-cons xs i x lt ∙ ap (λ y. y ∷ drop (suc i) xs) (sym is))

module _ {X Y : Type 0} (R : ℕ → X → Y → Type 0) where
  -- one more item with its number and the value that is related to both
  pub numbered_push : (first : ℕ) (xs : List X) (ys : List Y) (x : X) (y : Y) → AllZip (λ numbered value. R numbered.0 numbered.1 value) (enumerate_from first xs) ys
      → R (first + length ys) x y → AllZip (λ numbered value. R numbered.0 numbered.1 value) (enumerate_from first (xs ++ x ∷ [])) (ys ++ y ∷ [])
  numbered_push first [] [] x y are r = let same : first + 0 ≡ first = omega arith in (subst (λ (n : ℕ). R n x y) same r, tt)
  numbered_push first [] (b ∷ ys) x y are r = absurd are
  numbered_push first (a ∷ xs) [] x y are r = absurd are
  numbered_push first (a ∷ xs) (b ∷ ys) x y are r =
      let same : first + suc (length ys) ≡ first + 1 + length ys = omega arith in
      (are.0, numbered_push (first + 1) xs ys x y are.1 (subst (λ (n : ℕ). R n x y) same r))

  -- so of the items up to a place, which are numbered from 1
  pub numbered_more : (xs : List X) (ys zs : List Y) (i : ℕ) (x : X) (y : Y) (count : ℕ) → i < length xs → x ≡ get_or xs i x
      → AllZip (λ numbered value. R numbered.0 numbered.1 value) (enumerate_from 1 (take i xs)) ys → count ≡ length ys → R (count + 1) x y
      → zs ≡ ys ++ y ∷ [] → AllZip (λ numbered value. R numbered.0 numbered.1 value) (enumerate_from 1 (take (i + 1) xs)) zs
  numbered_more xs ys zs i x y count lt is are counted r e =
      let same : count + 1 ≡ 1 + length ys = omega (arith, counted) in
      subst (AllZip (λ numbered value. R numbered.0 numbered.1 value) (enumerate_from 1 (take (i + 1) xs))) (sym e)
      (subst (λ (l : List X). AllZip (λ numbered value. R numbered.0 numbered.1 value) (enumerate_from 1 l) (ys ++ y ∷ []))
      (ap (λ z. take i xs ++ z ∷ []) is ∙ sym (take_more xs i x lt))
      (numbered_push 1 (take i xs) ys x y are (subst (λ (n : ℕ). R n x y) same r)))
