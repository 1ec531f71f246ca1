-- What satisfies an atom of Pre-Depends has its name or provides it (Policy 7.2).
use Rattle.std.proofs.Common.{◌≡◌, List, ℕ, Option, None, Some, MatchOption, inl, inr, true}
use Rattle.rules.specs.Database.{Record}
use Rattle.rules.specs.Package.{Atom}
use Rattle.rules.specs.Step.{last_configured}
use Rattle.rules.specs.Unpack.{FitsFromBefore, FitsThenAndNow, SatisfiesAtom}
use Rattle.plancheck_state.specs.HolderLaws.{matching-holds, named-holds, providing-holds}
use Rattle.plancheck_state.specs.Holders.{is_holder}

-- what fits then and now has the name or provides it
then-and-now-holds : (entry : Record) (atom : Atom) (version : List ℕ) → FitsThenAndNow entry atom version → is_holder atom.name entry ≡ true
unfolding FitsThenAndNow
then-and-now-holds entry atom version fits = elim fits [
  | inl own ↦ named-holds atom.name entry own.0
  | inr provided ↦ providing-holds entry atom provided
]

from-before-holds : (entry : Record) (atom : Atom) → FitsFromBefore entry atom → is_holder atom.name entry ≡ true
unfolding FitsFromBefore
from-before-holds entry atom fits = by (last_configured entry) fits.1
  where
    by : (version : Option (List ℕ)) → MatchOption version ⊥ (FitsThenAndNow entry atom) → is_holder atom.name entry ≡ true
    by None never = absurd never
    by (Some version) fits = then-and-now-holds entry atom version fits

pub satisfying-holds : (entry : Record) (atom : Atom) → SatisfiesAtom entry atom → is_holder atom.name entry ≡ true
unfolding SatisfiesAtom
satisfying-holds entry atom satisfies = elim satisfies.1 [
  | inl installed ↦ matching-holds entry atom installed.1
  | inr before ↦ from-before-holds entry atom before
]
