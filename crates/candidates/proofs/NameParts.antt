-- The part of a list that has a name and the part behind it, where the list ascends by name.
use Rattle.std.proofs.Common.{◌≡◌, ◌≢◌, ℕ, ◌+◌, Bool, true, false, cond, not, List, [], ◌∷◌, take, drop, refl, sym, ap, ◌∙◌, one-add, bytes_eq}
use Rattle.std.specs.Cmp.{IsTotalOrder, on_total, tied_itself}
use Rattle.std.specs.Cmp.Lexicographic.{nat_list_cmp_total}
use Rattle.std.specs.List.{Contains, filter, prefix_len}
use Rattle.std.specs.List.Sorted.{IsSorted}
use Rattle.std.specs.Ordering.{is_eq, is_lt, on, ordering_reverse, ordering_then}
use Rattle.std.specs.declared.cmp.Ordering.{Ordering}
use Rattle.std.specs.declared.cmp.Ordering.TheVariants.{Less, Equal, Greater}
use Rattle.std.proofs.lemmas.Map.Text.{is_eq-slice_cmp}
use Rattle.rules.specs.ElementLaws.{Contains-head, Contains-rest}
use Rattle.rules.specs.Name.{name_cmp}
use Rattle.rules.specs.NamedLaws.{bytes_eq-true}
use Rattle.candidates.proofs.Filtered.{filter_all, filter_none}
use Rattle.candidates.proofs.Runs.{not_below_first, sorted_behind}

-- what is no less isn't lower
pub not_lower : (o : Ordering) → is_lt o ≡ false → o ≢ Less
not_lower o fails is = let e : true ≡ false = ap is_lt (sym is) ∙ fails in cc

-- one order after another is at least as fine
names_rise : (o w : Ordering) → is_lt (ordering_then o w) ≡ false → is_lt o ≡ false
names_rise Less w fails = fails
names_rise Equal w fails = refl
names_rise Greater w fails = refl

-- what is in the order of names and of something behind that is in the order of names
pub by_name_first : {X : Type 0} (key : X → List ℕ) (behind : X → X → Ordering) (xs : List X)
    → IsSorted (λ x y. ordering_then (name_cmp (key x) (key y)) (behind x y)) xs → IsSorted (on key name_cmp) xs
by_name_first key behind xs up k d low high = names_rise _ _ (up k d low high)

-- what is less than one is less than what isn't less than that one
pub less_then : {X : Type 0} {R : X → X → Ordering} (o : IsTotalOrder R) (a b c : X) → R a b ≡ Less → R c b ≢ Less → R a c ≡ Less
less_then {X} {R} o a b c below not_less = at (R c b) refl
  where
    turned : R b a ≡ Greater
    turned = o.antisymm b a ∙ ap ordering_reverse below

    at : (w : Ordering) → R c b ≡ w → R a c ≡ Less
    at Less is = absurd (not_less is)
    at Equal is = o.antisymm a c ∙ ap ordering_reverse (o.congr c b a is ∙ turned)
    at Greater is = o.trans a b c below (o.antisymm b c ∙ ap ordering_reverse is)

-- what isn't less than one isn't less than what that one isn't less than
pub not_less_then : {X : Type 0} {R : X → X → Ordering} (o : IsTotalOrder R) (a b c : X) → R c b ≢ Less → R b a ≢ Less → R c a ≢ Less
not_less_then o a b c one two below = one (less_then o c a b below two)

module _ {X : Type 0} (key : X → List ℕ) (name : List ℕ) where
  abbrev pub has : X → Bool
  has x = bytes_eq (key x) name

  -- what isn't before the name and hasn't it is behind it
  pub is_behind : (x : X) → name_cmp (key x) name ≢ Less → has x ≡ false → name_cmp name (key x) ≡ Less
  is_behind x not_less apart = at (name_cmp (key x) name) refl
    where
      at : (w : Ordering) → name_cmp (key x) name ≡ w → name_cmp name (key x) ≡ Less
      at Less is = absurd (not_less is)
      at Equal is = absurd (let e : true ≡ false = sym (ap is_eq is) ∙ is_eq-slice_cmp (key x) name ∙ apart in cc)
      at Greater is = nat_list_cmp_total.antisymm name (key x) ∙ ap ordering_reverse is

  -- what is behind the name hasn't it
  pub has_not : (x : X) → name_cmp name (key x) ≡ Less → has x ≡ false
  has_not x behind = at (has x) refl
    where
      at : (b : Bool) → has x ≡ b → has x ≡ false
      at false apart = apart
      at true here =
          let tied : name_cmp name name ≡ Equal = tied_itself nat_list_cmp_total name in
          absurd (let e : Equal ≡ Less = sym tied ∙ ap (name_cmp name) (sym (bytes_eq-true (key x) name here)) ∙ behind in cc)

  -- where one has not the name, what follows it hasn't either
  none_behind : (x : X) (xs : List X) → IsSorted (on key name_cmp) (x ∷ xs) → name_cmp (key x) name ≢ Less → has x ≡ false
      → (y : X) → Contains xs y → has y ≡ false
  none_behind x xs up not_less apart y within = has_not y (less_then nat_list_cmp_total name (key x) (key y) (is_behind x not_less apart)
      (not_lower (name_cmp (key y) (key x)) (not_below_first by_key x xs up y (Contains-rest x xs y within))))
    where
      by_key : IsTotalOrder (on key name_cmp)
      by_key = on_total key nat_list_cmp_total

  -- as many as are at the front with the name are all that have it
  pub parts : (xs : List X) → IsSorted (on key name_cmp) xs → ((x : X) → Contains xs x → name_cmp (key x) name ≢ Less)
      → (take (prefix_len has xs) xs ≡ filter has xs) × (drop (prefix_len has xs) xs ≡ filter (λ x. not (has x)) xs)
  parts [] up not_less = (refl, refl)
  parts (x ∷ xs) up not_less = at (has x) refl
      (parts xs (sorted_behind (on key name_cmp) 1 (x ∷ xs) up) (λ y within. not_less y (Contains-rest x xs y within)))
    where
      at : (b : Bool) → has x ≡ b
          → (take (prefix_len has xs) xs ≡ filter has xs) × (drop (prefix_len has xs) xs ≡ filter (λ x. not (has x)) xs)
          → (take (cond b (1 + prefix_len has xs) 0) (x ∷ xs) ≡ cond b (x ∷ filter has xs) (filter has xs))
          × (drop (cond b (1 + prefix_len has xs) 0) (x ∷ xs)
          ≡ cond (not b) (x ∷ filter (λ x. not (has x)) xs) (filter (λ x. not (has x)) xs))
      at true here rest = (rw one-add (ap (λ (ys : List X). x ∷ ys) rest.0), rw one-add rest.1)
      at false apart rest =
          let none = none_behind x xs up (not_less x (Contains-head x xs)) apart in (
            sym (filter_none has xs none),
            ap (λ (ys : List X). x ∷ ys) (sym (filter_all (λ (x : X). not (has x)) xs (λ y within. ap not (none y within)))),
          )
