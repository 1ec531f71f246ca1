-- All clauses are true of a selection exactly where the clause of every premise is.
use Rattle.std.proofs.Common.{◌≡◌, ◌⊎◌, ℕ, ℤ, pos, negsuc, ◌<◌, ◌≤◌, ◌+◌, ◌*◌, ◌∷◌, [], Bool, true, false, List, length, get_or, map, Some, None, refl, sym, ap, subst, ◌∙◌, arith, zero, suc}
use Rattle.std.specs.Prelude.{slice_get, not}
use Rattle.std.specs.List.{Any, AllZip, Contains}
use Rattle.std.proofs.lemmas.Option.{slice_get_within, get_or_from_slice_get}
use Rattle.rules.specs.ElementLaws.{Any-from_list_any, list_any-from_contains, Contains-map, Contains-map_intro}
use Rattle.rules.specs.Package.{Pkg}
use Rattle.rules.specs.Universe.{Universe}
use Rattle.rules.specs.declared.goal.Goal.TheVariants as goal
use Rattle.refutation.specs.Clause.{HasAt, IsTrueOf, item_at}
use Rattle.refutation.specs.Laws.{AllPremisesTrue}
use Rattle.refutation.specs.Premise.{IsEitherOut, IsInPremise, IsPremise, IsSaidBy, PairHas, Selects}
use Rattle.refutation.specs.declared.line.Premise.{Premise}
use Rattle.refutation.specs.declared.line.Premise.TheVariants as premise
use Rattle.refutation.specs.declared.literal.Literal.{Literal}
use Rattle.refutation.specs.declared.literal.Literal.TheVariants as literal
use Rattle.encode.specs.Encoding.{IsClauseOf, signed_number}
use Rattle.search_settle.specs.Encoded.{IsGivenBy}
use Rattle.search_settle.specs.Given.{Given, clause_at, places_without}
use Rattle.search_settle.specs.Truth.{AreTrue, is_true_of}
use mathlib.Core.Logic.{inl, inr}

-- what is within a list is found there
pub some_at : {X : Type 0} (xs : List X) (place : ℕ) (d : X) → place < length xs → slice_get xs place ≡ Some (get_or xs place d)
some_at [] place d within = absurd (omega arith)
some_at (x ∷ xs) zero d within = refl
some_at (x ∷ xs) (suc place) d within = some_at xs place d (omega arith)

-- an element has its place
pub place_in : {X : Type 0} (xs : List X) (x : X) → Contains xs x → (place : ℕ) × (slice_get xs place ≡ Some x)
place_in {X} xs x within = (within.0, some_at xs within.0 x within.1 ∙ ap (λ (y : X). Some y) within.2)

-- what is found is an element
pub found_in : {X : Type 0} (xs : List X) (place : ℕ) (x : X) → slice_get xs place ≡ Some x → Contains xs x
found_in xs place x there = (place, slice_get_within xs place x there, get_or_from_slice_get xs place x x there)

-- what a list is mapped to is found at the same place
pub mapped_at : {X Y : Type 0} (f : X → Y) (xs : List X) (place : ℕ) (x : X) → slice_get xs place ≡ Some x → slice_get (map f xs) place ≡ Some (f x)
mapped_at f [] place x there = absurd (let e : None ≡ Some x = there in cc)
mapped_at {X} {Y} f (y ∷ xs) zero x there = let e : y ≡ x = cc in ap (λ (z : X). Some (f z)) e
mapped_at f (y ∷ xs) (suc place) x there = mapped_at f xs place x there

-- the items of two lists that stand so to each other place by place
left_item : {X Y : Type 0} (R : X → Y → Type 0) (xs : List X) (ys : List Y) → AllZip R xs ys → (place : ℕ) (x : X)
    → slice_get xs place ≡ Some x → (y : Y) × (slice_get ys place ≡ Some y) × R x y
left_item R [] ys all place x there = absurd (let e : None ≡ Some x = there in cc)
left_item R (z ∷ xs) [] all place x there = absurd all
left_item {X} {Y} R (z ∷ xs) (w ∷ ys) all zero x there =
    (w, refl, (let e : z ≡ x = cc in subst (λ (k : X). R k w) e all.0))
left_item R (z ∷ xs) (w ∷ ys) all (suc place) x there = left_item R xs ys all.1 place x there

right_item : {X Y : Type 0} (R : X → Y → Type 0) (xs : List X) (ys : List Y) → AllZip R xs ys → (place : ℕ) (y : Y)
    → slice_get ys place ≡ Some y → (x : X) × (slice_get xs place ≡ Some x) × R x y
right_item R xs [] all place y there = absurd (let e : None ≡ Some y = there in cc)
right_item R [] (w ∷ ys) all place y there = absurd all
right_item {X} {Y} R (z ∷ xs) (w ∷ ys) all zero y there =
    (z, refl, (let e : w ≡ y = cc in subst (λ (k : Y). R z k) e all.0))
right_item R (z ∷ xs) (w ∷ ys) all (suc place) y there = right_item R xs ys all.1 place y there

-- a pair that is there hasn't the number 0
pub not_zero : {X : Type 0} (xs : List X) (number : ℕ) (x : X) → item_at xs number ≡ Some x → 1 ≤ number
not_zero xs zero x there = absurd (let e : None ≡ Some x = there in cc)
not_zero xs (suc place) x there = omega arith

-- the number of the pair that a literal speaks of
abbrev pub number_of : Literal → ℕ
number_of (literal.Selected number) = number
number_of (literal.Unselected number) = number

either : (number other : ℕ) (item : Literal) → 1 ≤ number → 1 ≤ other → IsEitherOut number other item → 1 ≤ number_of item
either number other item one two (inl is) = subst (λ (l : Literal). 1 ≤ number_of l) (sym is) one
either number other item one two (inr is) = subst (λ (l : Literal). 1 ≤ number_of l) (sym is) two

selects_one : (u : Universe) (P : Pkg → Type 0) (item : Literal) → Selects u P item → 1 ≤ number_of item
selects_one u P (literal.Selected number) has = not_zero u.pairs number has.0 has.1
selects_one u P (literal.Unselected number) has = absurd has

out_or_selects : (u : Universe) (P : Pkg → Type 0) (number : ℕ) (item : Literal) → 1 ≤ number
    → (item ≡ literal.Unselected number) ⊎ Selects u P item → 1 ≤ number_of item
out_or_selects u P number item one (inl is) = subst (λ (l : Literal). 1 ≤ number_of l) (sym is) one
out_or_selects u P number item one (inr has) = selects_one u P item has

-- what a premise speaks of hasn't the number 0
pub positive : (u : Universe) (reason : Premise) (item : Literal) → IsPremise u reason → IsInPremise u reason item → 1 ≤ number_of item
positive u (premise.Same number other) item is within =
    either number other item (not_zero u.pairs number is.1.0 is.1.1) (not_zero u.pairs other is.1.2.0 is.1.2.1) within
positive u (premise.PreDepends number clause) item is within =
    out_or_selects u (λ other. PairHas u number (λ pkg. HasAt pkg.relations.pre_depends clause (Rattle.rules.specs.Package.MatchesSome other)))
    number item (not_zero u.pairs number is.0 is.1) within
positive u (premise.Depends number clause) item is within =
    out_or_selects u (λ other. PairHas u number (λ pkg. HasAt pkg.relations.depends clause (Rattle.rules.specs.Package.MatchesSome other)))
    number item (not_zero u.pairs number is.0 is.1) within
positive u (premise.Conflicts number other) item is within =
    either number other item (not_zero u.pairs number is.0 is.1) (not_zero u.pairs other is.2.0 is.2.1) within
positive u (premise.Breaks number other) item is within =
    either number other item (not_zero u.pairs number is.0 is.1) (not_zero u.pairs other is.2.0 is.2.1) within
positive u (premise.Goal number) item is within =
    selects_one u (λ pkg. HasAt u.goals number (λ asked. Rattle.refutation.specs.Premise.IsAskedBy u asked pkg)) item within
positive u (premise.GoalOn number pair) item is within = said within.0 within.2
  where
    one : 1 ≤ pair
    one = not_zero u.pairs pair is.2.0 is.2.1

    said : (asked : Rattle.rules.specs.declared.goal.Goal.Goal) → IsSaidBy asked pair item → 1 ≤ number_of item
    said (goal.Install name restriction) says = absurd says
    said (goal.Remove name) says = subst (λ (l : Literal). 1 ≤ number_of l) (sym says) one
    said (goal.Purge name) says = subst (λ (l : Literal). 1 ≤ number_of l) (sym says) one
    said (goal.Upgrade name) says = absurd says
    said goal.UpgradeAll says = subst (λ (l : Literal). 1 ≤ number_of l) (sym says) one
    said goal.NoRemove says = absurd says
positive u (premise.Hold number) item is within = subst (λ (l : Literal). 1 ≤ number_of l) (sym within) (not_zero u.pairs number is.0 is.1)
positive u (premise.Essential name) item is within = selects_one u (λ pkg. pkg.name ≡ name) item within
positive u (premise.Keep name) item is within = selects_one u (λ pkg. pkg.name ≡ name) item within

-- a literal as a number is true where it is
signed_true : (selection : ℕ → Bool) (item : Literal) → 1 ≤ number_of item → IsTrueOf selection item → is_true_of selection (signed_number item) ≡ true
signed_true selection (literal.Selected number) one is = is
signed_true selection (literal.Unselected zero) one is = absurd (omega arith)
signed_true selection (literal.Unselected (suc below)) one is =
    let e : below + 1 ≡ suc below = omega arith in ap not (ap selection e ∙ is)

true_signed : (selection : ℕ → Bool) (item : Literal) → 1 ≤ number_of item → is_true_of selection (signed_number item) ≡ true → IsTrueOf selection item
true_signed selection (literal.Selected number) one is = is
true_signed selection (literal.Unselected zero) one is = absurd (omega arith)
true_signed selection (literal.Unselected (suc below)) one is =
    let e : suc below ≡ below + 1 = omega arith in ap selection e ∙ at (selection (below + 1)) is
  where
    at : (b : Bool) → not b ≡ true → b ≡ false
    at false is = refl
    at true is = absurd (let e : false ≡ true = is in cc)

-- a literal that selects is signed alone so
pub selected_signed : (item : Literal) (number : ℕ) → 1 ≤ number_of item → signed_number item ≡ pos number → item ≡ literal.Selected number
selected_signed (literal.Selected other) number one is = ap (λ (n : ℕ). literal.Selected n) cc
selected_signed (literal.Unselected zero) number one is = absurd (omega arith)
selected_signed (literal.Unselected (suc below)) number one is = absurd (cc)

module _ (u : Universe) (premises : List Premise) (given : Given) (by : IsGivenBy u premises given) where
  -- the place of a premise's clause
  pub clause_of : (reason : Premise) → IsPremise u reason → (place : ℕ) × (slice_get premises place ≡ Some reason)
      × (place < length given.clauses) × IsClauseOf u reason (clause_at given place)
  clause_of reason is =
      let there = place_in premises reason (by.every reason is) in
      let item = left_item (IsClauseOf u) premises given.clauses by.clauses there.0 reason there.1 in (
        there.0,
        there.1,
        slice_get_within given.clauses there.0 item.0 item.1,
        subst (IsClauseOf u reason) (sym (get_or_from_slice_get given.clauses there.0 item.0 [] item.1)) item.2,
      )

  -- the premise of a clause
  pub premise_of : (place : ℕ) → place < length given.clauses → (reason : Premise) × (slice_get premises place ≡ Some reason)
      × IsPremise u reason × IsClauseOf u reason (clause_at given place)
  premise_of place within =
      let item = right_item (IsClauseOf u) premises given.clauses by.clauses place (clause_at given place) (some_at given.clauses place [] within) in
      (item.0, item.1, by.sound item.0 (found_in premises place item.0 item.1), item.2)

  -- a literal of a premise is in its clause
  pub literal_in : (reason : Premise) (clause : List ℤ) (item : Literal) → IsClauseOf u reason clause → IsInPremise u reason item
      → Contains clause (signed_number item)
  unfolding IsClauseOf
  literal_in reason clause item is within = subst (λ (xs : List ℤ). Contains xs (signed_number item)) (sym is.2)
      (Contains-map_intro signed_number is.0 item ((is.1 item).1 within))

  -- a literal that selects is one of the premise
  pub selected_in : (reason : Premise) (clause : List ℤ) (number : ℕ) → IsPremise u reason → IsClauseOf u reason clause → Contains clause (pos number)
      → IsInPremise u reason (literal.Selected number)
  unfolding IsClauseOf
  selected_in reason clause number premise is within =
      let from = Contains-map signed_number is.0 (pos number) (subst (λ (xs : List ℤ). Contains xs (pos number)) is.2 within) in
      let has : IsInPremise u reason from.0 = (is.1 from.0).0 from.1 in
      subst (IsInPremise u reason) (selected_signed from.0 number (positive u reason from.0 premise has) from.2) has

  -- where all clauses are true the clause of every premise is
  pub premises_true : (selection : ℕ → Bool) → AreTrue selection given.clauses → AllPremisesTrue u selection
  unfolding AreTrue IsClauseOf
  premises_true selection all reason is =
      let there = clause_of reason is in
      let some : Any (λ literal. is_true_of selection literal ≡ true) (clause_at given there.0) =
      Any-from_list_any (is_true_of selection) (clause_at given there.0) (all there.0 there.2) in
      let from = Contains-map signed_number there.3.0 some.1 (subst (λ (xs : List ℤ). Contains xs some.1) there.3.2 (some.0, some.2, some.3)) in
      let has : IsInPremise u reason from.0 = (there.3.1 from.0).0 from.1 in
      (from.0, has, true_signed selection from.0 (positive u reason from.0 is has) (ap (is_true_of selection) from.2 ∙ some.4))

  -- and the other way round
  pub clauses_true : (selection : ℕ → Bool) → AllPremisesTrue u selection → AreTrue selection given.clauses
  unfolding AreTrue
  clauses_true selection all place within =
      let reason = premise_of place within in
      let item = all reason.0 reason.2 in
      list_any-from_contains (is_true_of selection) (clause_at given place) (signed_number item.0) (literal_in reason.0 (clause_at given place) item.0 reason.3 item.1)
      (signed_true selection item.0 (positive u reason.0 item.0 reason.2 item.1) item.2)

  -- a clause in which a number isn't selected is among those without it
  pub without_in : (reason : Premise) (place number : ℕ) → 1 ≤ number → number ≤ given.numbers → place < length given.clauses
      → IsClauseOf u reason (clause_at given place) → IsInPremise u reason (literal.Unselected number) → Contains (places_without given number) place
  without_in reason place zero one within below is has = absurd (omega arith)
  without_in reason place (suc number) one within below is has =
      let e : 2 * (number + 1) + 1 ≡ 2 * suc number + 1 = omega arith in
      subst (λ (k : ℕ). Contains (get_or given.lists k []) place) e
      (by.indexed.lists.each place (negsuc number) below (literal_in reason (clause_at given place) (literal.Unselected (suc number)) is has)
      (omega (arith, within, by.indexed.long)))
