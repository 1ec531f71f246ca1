-- What is told of a witness against an unpacking is told of the witness.
use Rattle.std.proofs.Common.{◌≡◌, ℕ, List, Option, Some, refl}
use Rattle.rules.specs.Database.{Record}
use Rattle.rules.specs.Step.{IndexPackage}
use Rattle.witness.specs.declared.witness.ClauseField.{ClauseField}
use Rattle.witness.specs.declared.witness.Witness.{Witness}
use Rattle.witness.specs.declared.witness.Witness.TheVariants as witness
use Rattle.plan_sentences.specs.No.{IsUnpackTold, IsWitnessTold}

pub unpack_told : (listed : Option IndexPackage) (db : List Record) (it : Witness) (said : List ℕ)
    → ((name breaker : List ℕ) → ¬ (it ≡ witness.BrokenBy name breaker))
    → ((name : List ℕ) (by : ClauseField) (place : ℕ) → ¬ (it ≡ witness.Unmet name by place))
    → ((name : List ℕ) (by : ClauseField) (place : ℕ) → ¬ (it ≡ witness.Needs name by place))
    → ((one : IndexPackage) → listed ≡ Some one → IsUnpackTold db one.pkg it said) → IsWitnessTold listed db it said
unpack_told listed db (witness.Unsatisfied place) said not_broken not_unmet not_needed told = told
unpack_told listed db (witness.Conflicting whose name) said not_broken not_unmet not_needed told = told
unpack_told listed db (witness.Broken name) said not_broken not_unmet not_needed told = told
unpack_told listed db (witness.BrokenBy name breaker) said not_broken not_unmet not_needed told = absurd (not_broken name breaker refl)
unpack_told listed db (witness.Unmet name by place) said not_broken not_unmet not_needed told = absurd (not_unmet name by place refl)
unpack_told listed db (witness.Needs name by place) said not_broken not_unmet not_needed told = absurd (not_needed name by place refl)
