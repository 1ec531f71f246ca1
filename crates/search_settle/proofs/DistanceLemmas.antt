-- How far a selection is from the start after a change.
use Rattle.std.proofs.Common.{◌≡◌, ◌≢◌, ℕ, ◌<◌, ◌≤◌, ◌+◌, Bool, true, false, refl, sym, ap, subst, ◌∙◌, arith, zero, suc}
use Rattle.std.specs.Prelude.{not, ◌&&◌, ◌||◌, ◌==◌}
use Rattle.std.proofs.lemmas.Bool.{cases_lt}
use Rattle.std.proofs.lemmas.Bool.Decides.{eqb_tells}
use Rattle.rules.specs.Minimal.{with_pair, without_pair}
use Rattle.search_settle.specs.Change.{after, IsWithin}
use Rattle.search_settle.specs.Given.{Given}
use Rattle.search_settle.specs.Moves.{cost, cost_in, distance, sum_below, Known, IsNearer}
use Rattle.search_settle.specs.Reach.{IsClosedIn, part_of}
use Rattle.search_settle.specs.Truth.{holds}
use Rattle.search_settle.specs.declared.change.Change.{Change}
use Rattle.search_settle.specs.declared.change.Change.TheVariants.{Leave, Replace, Add}
use mathlib.Core.Logic.{inl, inr}

-- what is nowhere more is no more in sum
sum_no_more : (value other : ℕ → ℕ) (bound : ℕ) → ((k : ℕ) → k < bound → value k ≤ other k) → sum_below value bound ≤ sum_below other bound
sum_no_more value other zero below = omega arith
sum_no_more value other (suc bound) below =
    omega (arith, below bound (omega arith), sum_no_more value other bound (λ k within. below k (omega arith)))

-- what is the same everywhere is the same in sum
sum_same : (value other : ℕ → ℕ) (bound : ℕ) → ((k : ℕ) → k < bound → value k ≡ other k) → sum_below value bound ≡ sum_below other bound
sum_same value other zero same = refl
sum_same value other (suc bound) same =
    omega (arith, same bound (omega arith), sum_same value other bound (λ k below. same k (omega arith)))

-- what is nowhere more, and less somewhere, is less in sum
sum_less : (value other : ℕ → ℕ) (bound at : ℕ) → ((k : ℕ) → k < bound → value k ≤ other k) → at < bound → value at < other at
    → sum_below value bound < sum_below other bound
sum_less value other zero at below within less = absurd (omega arith)
sum_less value other (suc bound) at below within less = elim (cases_lt at bound) [
  | inl before ↦ omega (arith, below bound (omega arith), sum_less value other bound at (λ k within. below k (omega arith)) before less)
  | inr last ↦ let same : at ≡ bound = omega arith in
      omega (arith, sum_no_more value other bound (λ k within. below k (omega arith)), subst (λ (k : ℕ). value k < other k) same less)
]

-- what differs at one place differs so in sum
sum_one : (value other : ℕ → ℕ) (bound at : ℕ) → ((k : ℕ) → k ≢ at → value k ≡ other k) → at < bound
    → sum_below value bound + other at ≡ sum_below other bound + value at
sum_one value other zero at same within = absurd (omega arith)
sum_one value other (suc bound) at same within = elim (cases_lt at bound) [
  | inl before ↦ omega (arith, same bound (λ e. omega (arith, e, before)), sum_one value other bound at same before)
  | inr last ↦ let e : at ≡ bound = omega arith in
      let f : value at ≡ value bound = ap value e in
      let g : other at ≡ other bound = ap other e in
      omega (arith, f, g, sum_same value other bound (λ k below. same k (λ is. omega (arith, is, below, last))))
]

-- a number besides the one that is left out is as it was
left_other : (selection : ℕ → Bool) (out k : ℕ) → k ≢ out → without_pair selection out k ≡ selection k
left_other selection out k other = elim (eqb_tells k out) [
  | inl same ↦ absurd (other same.1)
  | inr is ↦ at (selection k) (k == out) is.0
]
  where
    at : (b c : Bool) → c ≡ false → (b && not c) ≡ b
    at true false is = refl
    at false false is = refl
    at true true is = absurd (let e : true ≡ false = is in cc)
    at false true is = absurd (let e : true ≡ false = is in cc)

-- the one that is left out isn't selected
left_out : (selection : ℕ → Bool) (out : ℕ) → without_pair selection out out ≡ false
left_out selection out = elim (eqb_tells out out) [
  | inl same ↦ at (selection out) (out == out) same.0
  | inr other ↦ absurd (other.1 refl)
]
  where
    at : (b c : Bool) → c ≡ true → (b && not c) ≡ false
    at true true is = refl
    at false c is = refl
    at true false is = absurd (let e : false ≡ true = is in cc)

taken_other : (selection : ℕ → Bool) (taken k : ℕ) → k ≢ taken → with_pair selection taken k ≡ selection k
taken_other selection taken k other = elim (eqb_tells k taken) [
  | inl same ↦ absurd (other same.1)
  | inr is ↦ at (selection k) (k == taken) is.0
]
  where
    at : (b c : Bool) → c ≡ false → (b || c) ≡ b
    at true c is = refl
    at false c is = is

taken_in : (selection : ℕ → Bool) (taken : ℕ) → with_pair selection taken taken ≡ true
taken_in selection taken = elim (eqb_tells taken taken) [
  | inl same ↦ at (selection taken) (taken == taken) same.0
  | inr other ↦ absurd (other.1 refl)
]
  where
    at : (b c : Bool) → c ≡ true → (b || c) ≡ true
    at true c is = refl
    at false c is = is

module _ (known : Known) (numbers : ℕ) (selection : ℕ → Bool) where
  -- two selections that have a number alike have it at the same cost
  alike : (one two : ℕ → Bool) (k : ℕ) → one k ≡ two k → cost_in known one k ≡ cost_in known two k
  alike one two k same = ap (λ (b : Bool). cost (holds known.present k) (holds known.stood k) b) same

  -- the costs of leaving out a member whose name wasn't present, and of adding one whose name was
  less_out : (present stood before later : Bool) → present ≡ false → before ≡ true → later ≡ false
      → cost present stood later < cost present stood before
  less_out false true true false p b l = omega arith
  less_out false false true false p b l = omega arith
  less_out true stood before later p b l = absurd (cc)
  less_out false stood false later p b l = absurd (cc)
  less_out false stood true true p b l = absurd (cc)

  less_in : (present stood before later : Bool) → present ≡ true → before ≡ false → later ≡ true
      → cost present stood later < cost present stood before
  less_in true true false true p b l = omega arith
  less_in true false false true p b l = omega arith
  less_in false stood before later p b l = absurd (cc)
  less_in true stood true later p b l = absurd (cc)
  less_in true stood false false p b l = absurd (cc)

  leave_nearer : (out : ℕ) → out ≤ numbers → selection out ≡ true → holds known.present out ≡ false
      → distance known numbers (without_pair selection out) < distance known numbers selection
  leave_nearer out within chosen absent =
      let here = less_out (holds known.present out) (holds known.stood out) (selection out) (without_pair selection out out) absent chosen (left_out selection out) in
      sum_less (cost_in known (without_pair selection out)) (cost_in known selection) (numbers + 1) out
      (λ k below. elim (eqb_tells k out) [
        | inl same ↦ subst (λ (n : ℕ). cost_in known (without_pair selection out) n ≤ cost_in known selection n) (sym same.1) (omega (arith, here))
        | inr other ↦ omega (arith, alike (without_pair selection out) selection k (left_other selection out k other.1))
      ]) (omega arith) here

  add_nearer : (taken : ℕ) → taken ≤ numbers → selection taken ≡ false → holds known.present taken ≡ true
      → distance known numbers (with_pair selection taken) < distance known numbers selection
  add_nearer taken within free present =
      let here = less_in (holds known.present taken) (holds known.stood taken) (selection taken) (with_pair selection taken taken) present free (taken_in selection taken) in
      sum_less (cost_in known (with_pair selection taken)) (cost_in known selection) (numbers + 1) taken
      (λ k below. elim (eqb_tells k taken) [
        | inl same ↦ subst (λ (n : ℕ). cost_in known (with_pair selection taken) n ≤ cost_in known selection n) (sym same.1) (omega (arith, here))
        | inr other ↦ omega (arith, alike (with_pair selection taken) selection k (taken_other selection taken k other.1))
      ]) (omega arith) here

  -- putting back the version that stood costs less than the other did
  less_back : (present also stood was : Bool) (before mid final : ℕ) (first gone free taken : Bool) → also ≡ present → was ≡ false → stood ≡ true
      → first ≡ true → gone ≡ false → free ≡ false → taken ≡ true
      → mid + cost present was first ≡ before + cost present was gone → final + cost also stood free ≡ mid + cost also stood taken → final < before
  less_back true true true false before mid final true false false true a w s f g r t one two = omega (arith, one, two)
  less_back false false true false before mid final true false false true a w s f g r t one two = omega (arith, one, two)
  less_back present also stood was before mid final first gone free taken a w s f g r t one two = absurd (cc)

  replace_nearer : (out taken : ℕ) → out ≤ numbers → taken ≤ numbers → selection out ≡ true → selection taken ≡ false
      → holds known.stood out ≡ false → holds known.stood taken ≡ true → holds known.present taken ≡ holds known.present out
      → distance known numbers (with_pair (without_pair selection out) taken) < distance known numbers selection
  replace_nearer out taken within also chosen free unstood stood same =
      let mid : ℕ → Bool = without_pair selection out in
      let final : ℕ → Bool = with_pair mid taken in
      less_back (holds known.present out) (holds known.present taken) (holds known.stood taken) (holds known.stood out)
      (distance known numbers selection) (distance known numbers mid) (distance known numbers final)
      (selection out) (mid out) (mid taken) (final taken) same unstood stood chosen (left_out selection out)
      (ap (λ (b : Bool). b && not (taken == out)) free) (taken_in mid taken)
      (sum_one (cost_in known mid) (cost_in known selection) (numbers + 1) out (λ k other. alike mid selection k (left_other selection out k other)) (omega arith))
      (sum_one (cost_in known final) (cost_in known mid) (numbers + 1) taken (λ k other. alike final mid k (taken_other mid taken k other)) (omega arith))

  -- a change that brings nearer does
  pub change_nearer : (given : Given) (change : Change) → IsWithin numbers change → IsNearer given known selection change
      → distance known numbers (after change selection) < distance known numbers selection
  change_nearer given (Leave out) within nearer = leave_nearer out within.1 nearer.0 nearer.1
  change_nearer given (Replace out taken) within nearer = replace_nearer out taken within.1 within.3 nearer.0 nearer.1.2 nearer.1.1 nearer.1.0 nearer.1.3
  change_nearer given (Add taken) within nearer = add_nearer taken within.1 nearer.0 nearer.1

  -- so does leaving out what isn't reached
  pub part_nearer : (given : Given) (set : ℕ → Bool) (at : ℕ) → given.numbers ≡ numbers → IsClosedIn given known selection set
      → ((number : ℕ) → holds known.present number ≡ true → holds known.wanted number ≡ true)
      → at ≤ numbers → selection at ≡ true → set at ≡ false
      → distance known numbers (part_of selection set) < distance known numbers selection
  part_nearer given set at same closed covered within chosen unreached =
      sum_less (cost_in known (part_of selection set)) (cost_in known selection) (numbers + 1) at
      (λ k below. part_cost (holds known.present k) (holds known.stood k) (selection k) (set k) (absent k (omega arith)))
      (omega arith)
      (less_out (holds known.present at) (holds known.stood at) (selection at) (part_of selection set at) (absent at within chosen unreached)
      chosen (neither (selection at) (set at) unreached))
    where
      absent : (k : ℕ) → k ≤ numbers → selection k ≡ true → set k ≡ false → holds known.present k ≡ false
      absent k below is isnt = by (holds known.present k) refl
        where
          by : (b : Bool) → holds known.present k ≡ b → holds known.present k ≡ false
          by false so = so
          by true so = absurd (let e : false ≡ true = sym isnt ∙ closed.wanted k (omega (arith, below, same)) is (covered k so) in cc)

      neither : (b c : Bool) → c ≡ false → (b && c) ≡ false
      neither true c isnt = isnt
      neither false c isnt = refl

      part_cost : (present stood b c : Bool) → (b ≡ true → c ≡ false → present ≡ false) → cost present stood (b && c) ≤ cost present stood b
      part_cost present stood false c lost = omega arith
      part_cost present stood true true lost = omega arith
      part_cost false stood true false lost = omega arith
      part_cost true stood true false lost = absurd (let e : true ≡ false = lost refl refl in cc)
