-- What is printed of words that spell no call.
use Rattle.std.proofs.Common.{◌≡◌, ◌≢◌, MatchOption, None, Option, Some, inl, inr, subst}
use Rattle.clap.specs.Kinds.{HasKind, Kinds}
use Rattle.clap.specs.Values.{kind_of}
use Rattle.clap.specs.declared.error.Error.{Error}
use Rattle.clap.specs.declared.error.kind.ErrorKind.TheVariants as kind
use Rattle.cli.specs.Words.{IsOutcomeOfUsage}
use Rattle.outcomes.specs.Outcome.{IsOutcomeOfKind}
use Rattle.outcomes.specs.declared.outcome.Outcome.{Outcome}

-- what is printed of an error that isn't want of memory is what is printed of one of its kinds
pub usage_by : (kinds : Kinds) (e : Error) (outcome : Outcome) → HasKind kinds e
    → (kind_of e ≢ kind.OutOfMemory) × IsOutcomeOfKind (kind_of e) outcome → IsOutcomeOfUsage kinds outcome
usage_by kinds e outcome (inl memory) is = absurd (is.0 memory)
usage_by kinds e outcome (inr among) is = (kind_of e, among, is.1)

-- what holds where there is nothing
pub holds_of_none : {A : Type 0} (item : Option A) (N : Type 0) (P : A → Type 0) → item ≡ None → MatchOption item N P → N
holds_of_none None N P is holds = holds
holds_of_none (Some a) N P is holds = absurd (let e : Some a ≡ None = is in cc)

-- what holds of what there is
pub holds_of_some : {A : Type 0} (item : Option A) (a : A) (N : Type 0) (P : A → Type 0) → item ≡ Some a → MatchOption item N P → P a
holds_of_some None a N P is holds = absurd (let e : None ≡ Some a = is in cc)
holds_of_some (Some b) a N P is holds = subst P (let e : Some b ≡ Some a = is in cc) holds
