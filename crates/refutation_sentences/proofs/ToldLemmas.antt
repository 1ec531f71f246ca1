-- Words that are written, as what they tell.
use Rattle.std.proofs.Common.{◌≡◌, ◌++◌, ◌∙◌, ℕ, List, [], Some, Result, Ok, Err, ap, append_assoc}
use Rattle.std.specs.Prelude.{IfOk, OnOk}
use Rattle.std.specs.List.{All, Contains}
use Rattle.index.specs.Index.{ReadIndex}
use Rattle.indexmap.proofs.MapLemmas.{OnOk-map}
use Rattle.refutation.specs.Clause.{item_at}
use Rattle.refutation.specs.declared.line.Line.{Line}
use Rattle.refutation.specs.declared.line.Line.TheVariants as line
use Rattle.refutation.specs.declared.line.Premise.{Premise}
use Rattle.refutation_sentences.specs.Sentences.{HasAlternative, IsAlternativeAt, IsAlternativeOf, StaysTruthful}
use Rattle.refutation_sentences.specs.Words.{Grows, package_at}
use Rattle.rules.specs.ElementLaws.{All-intro}
use Rattle.rules.specs.Package.{Atom, Pkg}
use Rattle.rules.specs.Universe.{Universe}

-- these words tell it
pub grows_by : {T E : Type 0} (r : Result T E) (P : List ℕ → Type 0) (old new words : List ℕ) → P words → OnOk r (new ≡ old ++ words)
    → OnOk r (Grows P old new)
grows_by r P old new words holds is = OnOk-map r (new ≡ old ++ words) (Grows P old new) (λ same. (words, same, holds)) is

-- what tells the one thing tells the other
pub grows_as : {T E : Type 0} (r : Result T E) (P Q : List ℕ → Type 0) (old new : List ℕ) → ((said : List ℕ) → P said → Q said)
    → OnOk r (Grows P old new) → OnOk r (Grows Q old new)
grows_as r P Q old new as_other grown =
    OnOk-map r (Grows P old new) (Grows Q old new) (λ by. (by.0, by.1, as_other by.0 by.2)) grown

-- what is told behind words
pub grows_behind : {T E : Type 0} (r : Result T E) (P Q : List ℕ → Type 0) (old middle new before : List ℕ) → middle ≡ old ++ before
    → ((said : List ℕ) → P said → Q (before ++ said)) → OnOk r (Grows P middle new) → OnOk r (Grows Q old new)
grows_behind r P Q old middle new before is with_before grown = OnOk-map r (Grows P middle new) (Grows Q old new)
    (λ by. (before ++ by.0, by.1 ∙ ap (λ text. text ++ by.0) is ∙ append_assoc old before by.0, with_before by.0 by.2)) grown

-- lines stay truthful where a fact holds from which the other follows
pub stays_by : {T E : Type 0} (r : Result T E) (u : Universe) (indices : List ReadIndex) (P Q : List Line → Type 0) (old new : List (List ℕ))
    → ((lines : List Line) → Q lines → P lines) → OnOk r (StaysTruthful u indices P old new) → OnOk r (StaysTruthful u indices Q old new)
stays_by r u indices P Q old new follows stays = OnOk-map r (StaysTruthful u indices P old new) (StaysTruthful u indices Q old new)
    (λ by lines holds truthful. by lines (follows lines holds) truthful) stays

-- the atoms of the clause of a premise are its alternatives
pub alternatives : (u : Universe) (lines : List Line) (claim : Premise) (number clause : ℕ) (pkg : Pkg) (clauses_of : Pkg → List (List Atom))
    (atoms : List Atom) → package_at u number ≡ Some pkg → item_at (clauses_of pkg) clause ≡ Some atoms
    → ((asked : Atom) → IsAlternativeAt u number clauses_of clause asked → IsAlternativeOf u claim asked)
    → Contains lines (line.Premise claim) → All (HasAlternative u lines) atoms
alternatives u lines claim number clause pkg clauses_of atoms at is as_claim within =
    All-intro (HasAlternative u lines) atoms (λ asked there. (claim, within, as_claim asked (pkg, at, (atoms, is, there))))

-- what is so is so where there are no numbers
pub only_if_none : {T E : Type 0} (r : Result T E) (numbers : List ℕ) (P : T → Type 0) → IfOk r P → IfOk r (λ text. numbers ≡ [] → P text)
only_if_none (Ok text) numbers P holds = λ none. holds
only_if_none (Err error) numbers P holds = holds
