-- What is found against a step stands in the database to which the steps before it lead.
use Rattle.std.proofs.Common.{◌≡◌, ℕ, suc, ◌+◌, ◌-◌, List, [], ◌∷◌, ◌++◌, Option, None, Some, MatchOption, length, take, get_or, refl, sym, ap, subst, ◌∙◌, arith}
use Rattle.std.specs.Prelude.{codes, ⊤}
use Rattle.rules.specs.Database.{Record}
use Rattle.rules.specs.Run.{Run}
use Rattle.rules.specs.Step.{IndexPackage}
use Rattle.rules.specs.Universe.{Universe, listed_for}
use Rattle.rules.specs.declared.step.Rule.{Rule}
use Rattle.rules.specs.declared.step.Step.{Step}
use Rattle.rules.proofs.RunLemmas.{one_end}
use Rattle.witness.specs.Found.{IsFoundAt}
use Rattle.witness.specs.declared.witness.Witness.{Witness}
use Rattle.plan_sentences.specs.No.{IsWitnessTold, TellsStep, step_words}

-- a list is its front and what follows
front_of : (before : List Step) (step : Step) (rest : List Step) → take (length before) (before ++ step ∷ rest) ≡ before
front_of [] step rest = refl
front_of (first ∷ before) step rest = ap (λ ss. first ∷ ss) (front_of before step rest)

behind_front : (before : List Step) (step d : Step) (rest : List Step) → get_or (before ++ step ∷ rest) (length before) d ≡ step
behind_front [] step d rest = refl
behind_front (first ∷ before) step d rest = behind_front before step d rest

one_less : (n m : ℕ) → n ≡ m + 1 → n - 1 ≡ m
one_less n m same = omega arith

-- the steps before the one that was found
before_found : (u : Universe) (start : List Record) (steps : List Step) (number : ℕ) (failed : Rule) (witness : Option Witness)
    (found : IsFoundAt u start steps number failed witness) → take (number - 1) steps ≡ found.before
before_found u start steps number failed witness found =
    ap (λ (n : ℕ). take n steps) (one_less number (length found.before) found.number_is)
    ∙ ap (λ (ss : List Step). take (length found.before) ss) found.place
    ∙ front_of found.before found.step found.rest

-- the one that was found
pub step_found : (u : Universe) (start : List Record) (steps : List Step) (number : ℕ) (failed : Rule) (witness : Option Witness) (d : Step)
    (found : IsFoundAt u start steps number failed witness) → get_or steps (number - 1) d ≡ found.step
step_found u start steps number failed witness d found =
    ap (λ (n : ℕ). get_or steps n d) (one_less number (length found.before) found.number_is)
    ∙ ap (λ (ss : List Step). get_or ss (length found.before) d) found.place
    ∙ behind_front found.before found.step d found.rest

-- the steps before lead to one database
reached_found : (u : Universe) (start db : List Record) (steps : List Step) (number : ℕ) (failed : Rule) (witness : Option Witness)
    (found : IsFoundAt u start steps number failed witness) → Run u start (take (number - 1) steps) db → db ≡ found.reached
reached_found u start db steps number failed witness found run = one_end u start db found.reached found.before
    (subst (λ (ss : List Step). Run u start ss db) (before_found u start steps number failed witness found) run) found.run

-- what is told in this database of this stanza is told of what was found
moved : (listed other : Option IndexPackage) (db reached : List Record) (witness : Option Witness) (said : List ℕ)
    → listed ≡ other → db ≡ reached → MatchOption witness ⊤ (λ it. IsWitnessTold listed db it said)
    → MatchOption witness ⊤ (λ it. IsWitnessTold other reached it said)
moved listed other db reached witness said same here told =
    subst (λ (at : List Record). MatchOption witness ⊤ (λ it. IsWitnessTold other at it said)) here
    (subst (λ (it : Option IndexPackage). MatchOption witness ⊤ (λ one. IsWitnessTold it db one said)) same told)

-- the text tells the step
pub step_told : (u : Universe) (start db : List Record) (steps : List Step) (number : ℕ) (failed : Rule) (witness : Option Witness)
    (listed : Option IndexPackage) (step : Step) (said text : List ℕ) → (found : IsFoundAt u start steps number failed witness)
    → Run u start (take (number - 1) steps) db → step ≡ found.step → listed ≡ listed_for u step
    → MatchOption witness ⊤ (λ it. IsWitnessTold listed db it said)
    → text ≡ step_words number step failed ++ (said ++ codes ".\n")
    → TellsStep u start steps number failed text
step_told u start db steps number failed witness listed step said text found run same is told text_is = record {
  witness = witness;
  stop = found;
  said = said;
  told = moved listed (listed_for u found.step) db found.reached witness said (is ∙ ap (listed_for u) same)
      (reached_found u start db steps number failed witness found run) told;
  text_is = subst (λ (one : Step). text ≡ step_words number one failed ++ (said ++ codes ".\n")) same text_is;
}
