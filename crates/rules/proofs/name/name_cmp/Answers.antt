-- Where one name is over, the longer one is greater.
use Rattle.std.proofs.Common.{◌≡◌, ℕ, ◌+◌, ◌-◌, ◌<◌, ◌≤◌, List, [], ◌∷◌, drop, length, min, refl, sym, ◌∙◌, arith, inl, inr}
use Rattle.std.proofs.lemmas.List.{length-drop}
use Rattle.std.specs.Cmp.{nat_cmp_is}
use Rattle.std.specs.Ordering.{MatchOrdering}
use Rattle.std.specs.declared.cmp.Ordering.{Ordering}
use Rattle.std.specs.declared.cmp.Ordering.TheVariants.{Less, Equal, Greater}
use Rattle.rules.specs.Name.{name_cmp}
use Rattle.rules.proofs.name.name_cmp.Goals as goal

-- of two texts one of which is empty
one_empty : (front back : List ℕ) → min (length front) (length back) ≡ 0
    → MatchOrdering (name_cmp front back) (length front < length back) (length front ≡ length back) (length back < length front)
one_empty [] [] empty = refl
one_empty [] (y ∷ ys) empty = omega arith
one_empty (x ∷ xs) [] empty = omega arith
one_empty (x ∷ xs) (y ∷ ys) empty = absurd (omega (arith, empty))

-- lengths compare as what is left of them
both_more : (r : Ordering) (a b c d n : ℕ) → a ≡ c - n → b ≡ d - n → n ≤ c → n ≤ d
    → MatchOrdering r (a < b) (a ≡ b) (b < a) → MatchOrdering r (c < d) (c ≡ d) (d < c)
both_more Less a b c d n first second within inside less = omega (arith, first, second, within, inside, less)
both_more Equal a b c d n first second within inside same = omega (arith, first, second, within, inside, same)
both_more Greater a b c d n first second within inside more = omega (arith, first, second, within, inside, more)

pub returns : goal.returns
returns c =
    let xs = c.args.name.now in
    let ys = c.args.other.now in
    let n = c.loop-place.place in
    let at : n ≡ min (length xs) (length ys) = omega (arith, c.loop-place.auto.place-end, c.loop-place-test.false, c.min-place-end.ensures) in
    let first = length-drop n xs in
    let second = length-drop n ys in
    let left = one_empty (drop n xs) (drop n ys) (omega (arith, first, second, at)) in
    c.cmp-2.ensures
    ∙ sym (nat_cmp_is (length xs) (length ys) (name_cmp (drop n xs) (drop n ys))
    (both_more (name_cmp (drop n xs) (drop n ys)) (length (drop n xs)) (length (drop n ys)) (length xs) (length ys) n first second
    (omega (arith, at)) (omega (arith, at)) left))
    ∙ c.loop-place.invariant
