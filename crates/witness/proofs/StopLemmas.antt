-- Where a plan stops, the steps before are a run, and what stands against the step is its witness.
use Rattle.std.proofs.Common.{◌≡◌, ℕ, suc, ◌+◌, ◌-◌, ◌<◌, ◌≤◌, true, false, Bool, List, [], ◌∷◌, ◌++◌, Option, None, Some, MatchOption, Result, Ok, Err, IfOk, length, take, drop, get_or, refl, sym, ap, subst, ◌∙◌, arith, length-append}
use Rattle.rules.specs.Database.{Record}
use Rattle.rules.specs.Legal.{Asks, IsFirstFailing, IsFirstUnkept, UnpackAsks, rules_of}
use Rattle.rules.specs.Run.{Run, StopsAt}
use Rattle.rules.specs.RunStepLaws.{length-before, split-at_place}
use Rattle.rules.specs.Step.{IndexPackage}
use Rattle.rules.specs.Universe.{Universe, listed_for}
use Rattle.rules.specs.declared.step.Rule.{Rule}
use Rattle.rules.specs.declared.step.Step.{Step}
use Rattle.rules.specs.declared.step.Step.TheVariants as step
use Rattle.rules.proofs.RunLemmas.{one_end}
use Rattle.witness.specs.Found.{IsFoundAt}
use Rattle.witness.specs.Turn.{HasRun}
use Rattle.witness.specs.Witness.{IsAgainstUnpack, IsWitness, has_witness, unpack_has_witness}
use Rattle.witness.specs.declared.witness.Witness.{Witness}
use mathlib.Core.Logic.{inl, inr}

-- the number is one of a step
pub stop_counts : (u : Universe) (start : List Record) (steps : List Step) (number : ℕ) (failed : Rule)
    → StopsAt u start steps number failed → 0 < number
stop_counts u start steps number failed stop = let e = stop.number_is in omega arith

-- as many steps as stand before and the one behind them are within
pub stop_within : (u : Universe) (start : List Record) (steps : List Step) (number : ℕ) (failed : Rule)
    → StopsAt u start steps number failed → number - 1 < length steps
stop_within u start steps number failed stop =
    let whole : length steps ≡ length stop.before + suc (length stop.rest) =
    ap length stop.place ∙ length-append stop.before (stop.step ∷ stop.rest) in
    let e = stop.number_is in omega arith

-- a list is its front and what follows
front_of : (before : List Step) (step : Step) (rest : List Step) → take (length before) (before ++ step ∷ rest) ≡ before
front_of [] step rest = refl
front_of (first ∷ before) step rest = ap (λ ss. first ∷ ss) (front_of before step rest)

behind_front : (before : List Step) (step d : Step) (rest : List Step) → get_or (before ++ step ∷ rest) (length before) d ≡ step
behind_front [] step d rest = refl
behind_front (first ∷ before) step d rest = behind_front before step d rest

one_less : (n m : ℕ) → n ≡ m + 1 → n - 1 ≡ m
one_less n m same = omega arith

-- the steps before are those of the stop
before_stop : (u : Universe) (start : List Record) (steps : List Step) (number : ℕ) (failed : Rule)
    (stop : StopsAt u start steps number failed) → take (number - 1) steps ≡ stop.before
before_stop u start steps number failed stop =
    ap (λ (n : ℕ). take n steps) (one_less number (length stop.before) stop.number_is)
    ∙ ap (λ (ss : List Step). take (length stop.before) ss) stop.place
    ∙ front_of stop.before stop.step stop.rest

-- and the step at the number is that of the stop
step_of_stop : (u : Universe) (start : List Record) (steps : List Step) (number : ℕ) (failed : Rule) (d : Step)
    (stop : StopsAt u start steps number failed) → get_or steps (number - 1) d ≡ stop.step
step_of_stop u start steps number failed d stop =
    ap (λ (n : ℕ). get_or steps n d) (one_less number (length stop.before) stop.number_is)
    ∙ ap (λ (ss : List Step). get_or ss (length stop.before) d) stop.place
    ∙ behind_front stop.before stop.step d stop.rest

-- the steps before are a run
pub stop_runs : (u : Universe) (start : List Record) (steps : List Step) (number : ℕ) (failed : Rule)
    → StopsAt u start steps number failed → HasRun u start (take (number - 1) steps)
stop_runs u start steps number failed stop = (
  stop.reached,
  subst (λ (ss : List Step). Run u start ss stop.reached) (sym (before_stop u start steps number failed stop)) stop.run,
)

-- the first rule that isn't kept isn't kept
unkept_fails : (IsKept : Rule → Type 0) (rules : List Rule) (unkept : Rule) → IsFirstUnkept IsKept rules unkept → ¬ IsKept unkept
unkept_fails IsKept [] unkept none = absurd none
unkept_fails IsKept (first ∷ rest) unkept is_first = elim is_first [
  | inl here ↦ λ kept. here.1 (subst IsKept here.0 kept)
  | inr later ↦ unkept_fails IsKept rest unkept later.1
]

-- the step at the number fails the rule in the database to which those before lead
fails_here : (u : Universe) (start db : List Record) (steps : List Step) (number : ℕ) (failed : Rule) (d : Step)
    → StopsAt u start steps number failed → Run u start (take (number - 1) steps) db
    → ¬ Asks u db (get_or steps (number - 1) d) failed
unfolding IsFirstFailing
fails_here u start db steps number failed d stop run =
    let here : db ≡ stop.reached = one_end u start db stop.reached (take (number - 1) steps) run
    (subst (λ (ss : List Step). Run u start ss stop.reached) (sym (before_stop u start steps number failed stop)) stop.run) in
    let at = step_of_stop u start steps number failed d stop in
    subst (λ (reached : List Record). ¬ Asks u reached (get_or steps (number - 1) d) failed) (sym here)
    (subst (λ (step : Step). ¬ Asks u stop.reached step failed) (sym at)
    (unkept_fails (Asks u stop.reached stop.step) (rules_of stop.step) failed stop.failing))

-- what is found of the step
abbrev pub IsFoundOf : Option IndexPackage → List Record → Step → Rule → Option Witness → Type 0
IsFoundOf listed db step failed witness = MatchOption witness
    ((u : Universe) → listed ≡ listed_for u step → has_witness step failed ≡ true → Asks u db step failed)
    (IsWitness listed db step failed)

-- a rule that isn't kept and has witnesses has one that is found
shown_by : (u : Universe) (listed : Option IndexPackage) (db : List Record) (step : Step) (failed : Rule) (witness : Option Witness)
    → listed ≡ listed_for u step → ¬ Asks u db step failed → IsFoundOf listed db step failed witness
    → MatchOption witness (has_witness step failed ≡ false) (IsWitness (listed_for u step) db step failed)
shown_by u listed db step failed None same fails kept = by (has_witness step failed) refl
  where
    by : (b : Bool) → has_witness step failed ≡ b → has_witness step failed ≡ false
    by true has = absurd (fails (kept u same has))
    by false hasnt = hasnt
shown_by u listed db step failed (Some witness) same fails shown =
    subst (λ (it : Option IndexPackage). IsWitness it db step failed witness) same shown

-- it is the witness of the stop
pub found_at : (u : Universe) (start db : List Record) (steps : List Step) (number : ℕ) (failed : Rule) (d : Step)
    (listed : Option IndexPackage) (witness : Option Witness) → StopsAt u start steps number failed
    → Run u start (take (number - 1) steps) db → listed ≡ listed_for u (get_or steps (number - 1) d)
    → IsFoundOf listed db (get_or steps (number - 1) d) failed witness → IsFoundAt u start steps number failed witness
found_at u start db steps number failed d listed witness stop run same shown =
    let within = stop_within u start steps number failed stop in record {
      before = take (number - 1) steps;
      step = get_or steps (number - 1) d;
      rest = drop (suc (number - 1)) steps;
      reached = db;
      place = split-at_place steps (number - 1) d within;
      number_is = let e = length-before steps (number - 1) within in
          let f = stop_counts u start steps number failed stop in omega arith;
      run = run;
      shown = shown_by u listed db (get_or steps (number - 1) d) failed witness same
          (fails_here u start db steps number failed d stop run) shown;
    }

-- what is found of an unpacking is found of the step
pub unpack_shown : {E : Type 0} (listed : Option IndexPackage) (db : List Record) (taken : Step) (name version : List ℕ) (failed : Rule)
    (result : Result (Option Witness) E) → taken ≡ step.Unpack name version
    → IfOk result (λ maybe_witness. MatchOption maybe_witness
    ((n v : List ℕ) → unpack_has_witness failed ≡ true → UnpackAsks listed db n v failed)
    (λ witness. MatchOption listed ⊥ (λ it. IsAgainstUnpack db it.pkg failed witness)))
    → IfOk result (IsFoundOf listed db taken failed)
unpack_shown {E} listed db taken name version failed result is shown =
    subst (λ (step : Step). IfOk result (IsFoundOf listed db step failed)) (sym is) (by result shown)
  where
    by : (result : Result (Option Witness) E) → IfOk result (λ maybe_witness. MatchOption maybe_witness
        ((n v : List ℕ) → unpack_has_witness failed ≡ true → UnpackAsks listed db n v failed)
        (λ witness. MatchOption listed ⊥ (λ it. IsAgainstUnpack db it.pkg failed witness)))
        → IfOk result (IsFoundOf listed db (step.Unpack name version) failed)
    by (Ok None) kept = λ u same has. subst (λ (it : Option IndexPackage). UnpackAsks it db name version failed) same (kept name version has)
    by (Ok (Some witness)) holds = holds
    by (Err e) holds = holds
