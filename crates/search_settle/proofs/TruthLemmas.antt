-- Which clauses a change can make false: those with the literals that it makes false.
use Rattle.std.proofs.Common.{◌≡◌, ◌≢◌, ◌⊎◌, ℕ, ℤ, pos, negsuc, ◌<◌, ◌+◌, ◌*◌, ◌∷◌, [], Bool, true, false, List, length, get_or, refl, sym, ap, subst, ◌∙◌, arith}
use Rattle.std.specs.Prelude.{◌↔◌, not, ◌&&◌, ◌||◌, ◌==◌}
use Rattle.std.specs.List.{Any, Contains, list_all}
use Rattle.std.proofs.lemmas.Bool.Decides.{eqb_tells}
use Rattle.rules.specs.ElementLaws.{Any-from_list_any, list_any-from_contains, Contains-cons, Contains-head, Contains-rest, Contains-nil}
use Rattle.rules.specs.Minimal.{with_pair, without_pair}
use Rattle.search_settle.specs.Change.{after, IsWithin}
use Rattle.search_settle.specs.Given.{Given, IsIndexed, clause_at}
use Rattle.search_settle.specs.Occurrences.{place_of}
use Rattle.search_settle.specs.Truth.{AreTrue, is_clause_true, is_true_of}
use Rattle.search_settle.specs.declared.change.Change.{Change}
use Rattle.search_settle.specs.declared.change.Change.TheVariants.{Leave, Replace, Add}
use mathlib.Core.Logic.{inl, inr}

-- what passes for each element passes for all
all_pass : {X : Type 0} (p : X → Bool) (xs : List X) → ((x : X) → Contains xs x → p x ≡ true) → list_all p xs ≡ true
all_pass p [] each = refl
all_pass p (x ∷ xs) each =
    let here : p x ≡ true = each x (Contains-head x xs) in
    rw here (all_pass p xs (λ y within. each y (Contains-rest x xs y within)))

-- where all pass each does
each_passes : {X : Type 0} (p : X → Bool) (xs : List X) → list_all p xs ≡ true → (x : X) → Contains xs x → p x ≡ true
each_passes p [] all x within = absurd (Contains-nil x within)
each_passes {X} p (y ∷ ys) all x within = at (p y) refl all (λ rest later. each_passes p ys rest x later)
  where
    at : (b : Bool) → p y ≡ b → (b && list_all p ys) ≡ true → (list_all p ys ≡ true → Contains ys x → p x ≡ true) → p x ≡ true
    at true is rest further = elim (Contains-cons y ys x within) [
      | inl same ↦ subst (λ z. p z ≡ true) same is
      | inr later ↦ further rest later
    ]
    at false is rest further = absurd (let e : false ≡ true = rest in cc)

-- a selection makes all clauses true that are true of another, where each clause with a literal that is true of the other
-- alone is true
pub stays_true : (selection other : ℕ → Bool) (clauses : List (List ℤ)) → AreTrue selection clauses
    → ((place : ℕ) (literal : ℤ) → place < length clauses → Contains (get_or clauses place []) literal → is_true_of selection literal ≡ true
    → is_true_of other literal ≡ false → is_clause_true other (get_or clauses place []) ≡ true)
    → AreTrue other clauses
unfolding AreTrue
stays_true selection other clauses all each place within =
    let true_literal : Any (λ literal. is_true_of selection literal ≡ true) (get_or clauses place []) =
    Any-from_list_any (is_true_of selection) (get_or clauses place []) (all place within) in
    at true_literal.1 (true_literal.0, true_literal.2, true_literal.3) true_literal.4 (is_true_of other true_literal.1) refl
  where
    at : (literal : ℤ) → Contains (get_or clauses place []) literal → is_true_of selection literal ≡ true → (b : Bool) → is_true_of other literal ≡ b
        → is_clause_true other (get_or clauses place []) ≡ true
    at literal in_clause is true still = list_any-from_contains (is_true_of other) (get_or clauses place []) literal in_clause still
    at literal in_clause is false gone = each place literal within in_clause is gone

-- a number that is no more selected where one is left out is that one
left : (selection : ℕ → Bool) (out number : ℕ) → selection number ≡ true → without_pair selection out number ≡ false → number ≡ out
left selection out number was is = elim (eqb_tells number out) [
  | inl same ↦ same.1
  | inr other ↦ absurd (let e : true ≡ false = sym (rw (was, other.0) refl) ∙ is in cc)
]

left_none : (selection : ℕ → Bool) (out number : ℕ) → not (selection number) ≡ true → not (without_pair selection out number) ≡ false → ⊥
left_none selection out number was is = at (selection number) (number == out) was is
  where
    at : (b c : Bool) → not b ≡ true → not (b && not c) ≡ false → ⊥
    at true c was is = absurd (cc)
    at false c was is = absurd (cc)

-- a number that is selected where one is taken, and wasn't, is that one
taken_one : (selection : ℕ → Bool) (taken number : ℕ) → not (selection number) ≡ true → not (with_pair selection taken number) ≡ false → number ≡ taken
taken_one selection taken number was is = at (selection number) refl (eqb_tells number taken)
  where
    at : (b : Bool) → selection number ≡ b → ((number == taken) ≡ true × number ≡ taken) ⊎ ((number == taken) ≡ false × (number ≢ taken)) → number ≡ taken
    at b so (inl same) = same.1
    at true so (inr other) = absurd (let e : false ≡ true = rw so at was in cc)
    at false so (inr other) = absurd (let e : true ≡ false = rw (so, other.0) at is in cc)

taken_none : (selection : ℕ → Bool) (taken number : ℕ) → selection number ≡ true → with_pair selection taken number ≡ false → ⊥
taken_none selection taken number was is = absurd (let e : true ≡ false = rw was at is in cc)

replaced_out : (selection : ℕ → Bool) (out taken number : ℕ) → selection number ≡ true
    → with_pair (without_pair selection out) taken number ≡ false → number ≡ out
replaced_out selection out taken number was is = left selection out number was (first (without_pair selection out number) (number == taken) is)
  where
    first : (b c : Bool) → (b || c) ≡ false → b ≡ false
    first true c is = is
    first false c is = refl

replaced_taken : (selection : ℕ → Bool) (out taken number : ℕ) → not (selection number) ≡ true
    → not (with_pair (without_pair selection out) taken number) ≡ false → number ≡ taken
replaced_taken selection out taken number was is = taken_one (without_pair selection out) taken number (still (selection number) (number == out) was) is
  where
    still : (b c : Bool) → not b ≡ true → not (b && not c) ≡ true
    still true c was = absurd (let e : false ≡ true = was in cc)
    still false c was = refl

module _ (given : Given) (indexed : IsIndexed given) (selection : ℕ → Bool) (before : AreTrue selection given.clauses) where
  -- where all clauses are true so are those of a list
  pub list_is_true : (other : ℕ → Bool) (list : ℕ) → AreTrue other given.clauses
      → list_all (λ place. is_clause_true other (clause_at given place)) (get_or given.lists list []) ≡ true
  unfolding AreTrue
  list_is_true other list all = all_pass (λ place. is_clause_true other (clause_at given place)) (get_or given.lists list [])
      (λ place within. all place (indexed.lists.within list place within))

  -- a clause with a literal is true where those in its list are
  clause_in_list : (other : ℕ → Bool) (literal : ℤ) → place_of literal < length given.lists
      → list_all (λ place. is_clause_true other (clause_at given place)) (get_or given.lists (place_of literal) []) ≡ true
      → (place : ℕ) → place < length given.clauses → Contains (clause_at given place) literal
      → is_clause_true other (clause_at given place) ≡ true
  clause_in_list other literal has all place within in_clause =
      each_passes (λ place. is_clause_true other (clause_at given place)) (get_or given.lists (place_of literal) []) all place
      (indexed.lists.each place literal within in_clause has)

  -- a change that makes at most these two literals false keeps all clauses true where those in their lists are
  -- (the lemmas below name them)
  change_is_true : (other : ℕ → Bool) (Gone : ℤ → Type 0)
      → ((literal : ℤ) → is_true_of selection literal ≡ true → is_true_of other literal ≡ false → Gone literal)
      → ((literal : ℤ) → Gone literal → place_of literal < length given.lists)
      → ((literal : ℤ) → Gone literal
      → list_all (λ place. is_clause_true other (clause_at given place)) (get_or given.lists (place_of literal) []) ≡ true)
      → AreTrue other given.clauses
  change_is_true other Gone gone has all = stays_true selection other given.clauses before
      (λ place literal below in_clause was is. clause_in_list other literal (has literal (gone literal was is))
      (all literal (gone literal was is)) place below in_clause)

  -- leaving out a number makes its literal false alone
  pub leave_is_true : (out : ℕ) → IsWithin given.numbers (Leave out)
      → list_all (λ place. is_clause_true (after (Leave out) selection) (clause_at given place)) (get_or given.lists (2 * out) []) ≡ true
      → AreTrue (after (Leave out) selection) given.clauses
  leave_is_true out within all = change_is_true (without_pair selection out) (λ literal. literal ≡ pos out) gone
      (λ literal is. subst (λ (l : ℤ). place_of l < length given.lists) (sym is) (omega (arith, within.1, indexed.long)))
      (λ literal is. subst (λ (l : ℤ). list_all (λ place. is_clause_true (without_pair selection out) (clause_at given place)) (get_or given.lists (place_of l) []) ≡ true) (sym is) all)
    where
      gone : (literal : ℤ) → is_true_of selection literal ≡ true → is_true_of (without_pair selection out) literal ≡ false → literal ≡ pos out
      gone (pos number) was is = ap pos (left selection out number was is)
      gone (negsuc below) was is = absurd (left_none selection out (below + 1) was is)

  -- taking a number makes the literal false that it isn't selected
  pub add_is_true : (taken : ℕ) → IsWithin given.numbers (Add taken)
      → list_all (λ place. is_clause_true (after (Add taken) selection) (clause_at given place)) (get_or given.lists (2 * taken + 1) []) ≡ true
      → AreTrue (after (Add taken) selection) given.clauses
  add_is_true taken within all = change_is_true (with_pair selection taken) (λ literal. place_of literal ≡ 2 * taken + 1) gone
      (λ literal is. omega (arith, is, within.1, indexed.long))
      (λ literal is. subst (λ (k : ℕ). list_all (λ place. is_clause_true (with_pair selection taken) (clause_at given place)) (get_or given.lists k []) ≡ true) (sym is) all)
    where
      gone : (literal : ℤ) → is_true_of selection literal ≡ true → is_true_of (with_pair selection taken) literal ≡ false → place_of literal ≡ 2 * taken + 1
      gone (pos number) was is = absurd (taken_none selection taken number was is)
      gone (negsuc below) was is = let e : below + 1 ≡ taken = taken_one selection taken (below + 1) was is in omega (arith, e)

  -- putting one in place of another does both
  pub replace_is_true : (out taken : ℕ) → IsWithin given.numbers (Replace out taken)
      → list_all (λ place. is_clause_true (after (Replace out taken) selection) (clause_at given place)) (get_or given.lists (2 * out) []) ≡ true
      → list_all (λ place. is_clause_true (after (Replace out taken) selection) (clause_at given place)) (get_or given.lists (2 * taken + 1) []) ≡ true
      → AreTrue (after (Replace out taken) selection) given.clauses
  replace_is_true out taken within all also = change_is_true (after (Replace out taken) selection)
      (λ literal. (place_of literal ≡ 2 * out) ⊎ (place_of literal ≡ 2 * taken + 1)) gone has every
    where
      other : ℕ → Bool
      other = with_pair (without_pair selection out) taken

      gone : (literal : ℤ) → is_true_of selection literal ≡ true → is_true_of (with_pair (without_pair selection out) taken) literal ≡ false
          → (place_of literal ≡ 2 * out) ⊎ (place_of literal ≡ 2 * taken + 1)
      gone (pos number) was is = let e : number ≡ out = replaced_out selection out taken number was is in inl (omega (arith, e))
      gone (negsuc below) was is = let e : below + 1 ≡ taken = replaced_taken selection out taken (below + 1) was is in inr (omega (arith, e))

      has : (literal : ℤ) → (place_of literal ≡ 2 * out) ⊎ (place_of literal ≡ 2 * taken + 1) → place_of literal < length given.lists
      has literal (inl is) = omega (arith, is, within.1, indexed.long)
      has literal (inr is) = omega (arith, is, within.3, indexed.long)

      every : (literal : ℤ) → (place_of literal ≡ 2 * out) ⊎ (place_of literal ≡ 2 * taken + 1)
          → list_all (λ place. is_clause_true (with_pair (without_pair selection out) taken) (clause_at given place)) (get_or given.lists (place_of literal) []) ≡ true
      every literal (inl is) = subst (λ (k : ℕ). list_all (λ place. is_clause_true (with_pair (without_pair selection out) taken) (clause_at given place)) (get_or given.lists k []) ≡ true) (sym is) all
      every literal (inr is) = subst (λ (k : ℕ). list_all (λ place. is_clause_true (with_pair (without_pair selection out) taken) (clause_at given place)) (get_or given.lists k []) ≡ true) (sym is) also

  -- whether the clauses in its list are true decides of leaving out a number
  pub leave_decides : (change : Change) (out list : ℕ) (result : Bool) → change ≡ Leave out → list ≡ 2 * out → IsWithin given.numbers change
      → result ≡ list_all (λ place. is_clause_true (without_pair selection out) (clause_at given place)) (get_or given.lists list [])
      → (result ≡ true) ↔ AreTrue (after change selection) given.clauses
  leave_decides change out list result is at within all =
      let every = all ∙ ap (λ (k : ℕ). list_all (λ place. is_clause_true (without_pair selection out) (clause_at given place)) (get_or given.lists k [])) at in
      subst (λ (one : Change). (result ≡ true) ↔ AreTrue (after one selection) given.clauses) (sym is) (
        (λ so. leave_is_true out (subst (IsWithin given.numbers) is within) (sym every ∙ so)),
        (λ made. every ∙ list_is_true (without_pair selection out) (2 * out) made),
      )

  -- so it does of taking one
  pub add_decides : (change : Change) (taken list : ℕ) (result : Bool) → change ≡ Add taken → list ≡ 2 * taken + 1 → IsWithin given.numbers change
      → result ≡ list_all (λ place. is_clause_true (with_pair selection taken) (clause_at given place)) (get_or given.lists list [])
      → (result ≡ true) ↔ AreTrue (after change selection) given.clauses
  add_decides change taken list result is at within all =
      let every = all ∙ ap (λ (k : ℕ). list_all (λ place. is_clause_true (with_pair selection taken) (clause_at given place)) (get_or given.lists k [])) at in
      subst (λ (one : Change). (result ≡ true) ↔ AreTrue (after one selection) given.clauses) (sym is) (
        (λ so. add_is_true taken (subst (IsWithin given.numbers) is within) (sym every ∙ so)),
        (λ made. every ∙ list_is_true (with_pair selection taken) (2 * taken + 1) made),
      )

  -- a list in which a clause isn't true decides against putting one in place of another
  pub replace_fails : (change : Change) (out taken list : ℕ) (result : Bool) → change ≡ Replace out taken → result ≡ false
      → result ≡ list_all (λ place. is_clause_true (with_pair (without_pair selection out) taken) (clause_at given place)) (get_or given.lists list [])
      → (result ≡ true) ↔ AreTrue (after change selection) given.clauses
  replace_fails change out taken list result is fails all =
      subst (λ (one : Change). (result ≡ true) ↔ AreTrue (after one selection) given.clauses) (sym is) (
        (λ so. absurd (let e : true ≡ false = sym so ∙ fails in cc)),
        (λ made. all ∙ list_is_true (with_pair (without_pair selection out) taken) list made),
      )

  -- where those of the one are true, the other list decides
  pub replace_decides : (change : Change) (out taken list further : ℕ) (first second : Bool) → change ≡ Replace out taken → list ≡ 2 * out
      → further ≡ 2 * taken + 1 → IsWithin given.numbers change → first ≡ true
      → first ≡ list_all (λ place. is_clause_true (with_pair (without_pair selection out) taken) (clause_at given place)) (get_or given.lists list [])
      → second ≡ list_all (λ place. is_clause_true (with_pair (without_pair selection out) taken) (clause_at given place)) (get_or given.lists further [])
      → (second ≡ true) ↔ AreTrue (after change selection) given.clauses
  replace_decides change out taken list further first second is at to within holds one two =
      let every = sym holds ∙ one ∙ ap (λ (k : ℕ). list_all (λ place. is_clause_true (with_pair (without_pair selection out) taken) (clause_at given place)) (get_or given.lists k [])) at in
      let also = two ∙ ap (λ (k : ℕ). list_all (λ place. is_clause_true (with_pair (without_pair selection out) taken) (clause_at given place)) (get_or given.lists k [])) to in
      subst (λ (one : Change). (second ≡ true) ↔ AreTrue (after one selection) given.clauses) (sym is) (
        (λ so. replace_is_true out taken (subst (IsWithin given.numbers) is within) (sym every) (sym also ∙ so)),
        (λ made. also ∙ list_is_true (with_pair (without_pair selection out) taken) (2 * taken + 1) made),
      )
