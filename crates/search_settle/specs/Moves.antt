-- What is known of the numbers, which changes bring a selection nearer to the start, and how near it is.
use Rattle.std.specs.Prelude.{◌≡◌, ℕ, zero, suc, ◌+◌, Bool, true, false, List}
use Rattle.search_settle.specs.Change.{after, IsWithin}
use Rattle.search_settle.specs.Given.{Given, AreSiblings}
use Rattle.search_settle.specs.Truth.{AreTrue, holds}
use Rattle.search_settle.specs.declared.change.Change.{Change}
use Rattle.search_settle.specs.declared.change.Change.TheVariants.{Leave, Replace, Add}

-- for each number: whether its name was present, whether it is the version that stood, and whether it is wanted
pub record Known : Type 0 where
  pub present : List Bool
  pub stood : List Bool
  pub wanted : List Bool

-- how far a pair is from the start: a member of a name that wasn't present counts against, one of a name that was
-- present counts for; the version that stood weighs more
abbrev pub cost : Bool → Bool → Bool → ℕ
cost true stood true = 0
cost true true false = 2
cost true false false = 1
cost false stood false = 0
cost false true true = 1
cost false false true = 2

-- the sum of the values at the numbers below a bound
abbrev pub sum_below : (ℕ → ℕ) → ℕ → ℕ
sum_below value zero = 0
sum_below value (suc bound) = value bound + sum_below value bound

-- how far a number is from the start in a selection
abbrev pub cost_in : Known → (ℕ → Bool) → ℕ → ℕ
cost_in known selection number = cost (holds known.present number) (holds known.stood number) (selection number)

-- how far a selection is from the start
abbrev pub distance : Known → ℕ → (ℕ → Bool) → ℕ
distance known numbers selection = sum_below (cost_in known selection) (numbers + 1)

-- putting the second number in place of the first brings the selection nearer: the second stood, and the first didn't
abbrev pub IsBetter : Known → (ℕ → Bool) → ℕ → ℕ → Type 0
IsBetter known selection out taken = (holds known.stood taken ≡ true) × (holds known.stood out ≡ false)
    × (selection taken ≡ false) × (holds known.present taken ≡ holds known.present out)

-- a change that brings the selection nearer: leaving out a member whose name wasn't present, putting the version that stood
-- in place of another, or adding a member of a name that was present and has none
abbrev pub IsNearer : Given → Known → (ℕ → Bool) → Change → Type 0
IsNearer given known selection (Leave out) = (selection out ≡ true) × (holds known.present out ≡ false)
IsNearer given known selection (Replace out taken) = (selection out ≡ true) × IsBetter known selection out taken
    × AreSiblings given out taken
IsNearer given known selection (Add taken) = (selection taken ≡ false) × (holds known.present taken ≡ true)
    × ((other : ℕ) → AreSiblings given taken other → selection other ≡ false)

-- the number that the change is about: the one that is left out, or else the one that is taken
abbrev pub number_of : Change → ℕ
number_of (Leave out) = out
number_of (Replace out taken) = out
number_of (Add taken) = taken

-- the change doesn't bring nearer, or some clause isn't true after it
abbrev pub IsRefused : Given → Known → (ℕ → Bool) → Change → Type 0
IsRefused given known selection change = IsWithin given.numbers change → IsNearer given known selection change
    → ¬ AreTrue (after change selection) given.clauses

-- each change about this number is refused
unfoldable pub IsAtRest : Given → Known → (ℕ → Bool) → ℕ → Type 0
IsAtRest given known selection number = (change : Change) → number_of change ≡ number → IsRefused given known selection change

-- the change brings the selection nearer, and all clauses stay true
pub record IsMove (given : Given) (known : Known) (selection : ℕ → Bool) (change : Change) : Type 0 where
  pub within : IsWithin given.numbers change
  pub nearer : IsNearer given known selection change
  pub makes_true : AreTrue (after change selection) given.clauses
