-- The changes of a selection by which it may come nearer to the start.
use Rattle.std.specs.Prelude.{ℕ, ◌≤◌, Bool}
use Rattle.rules.specs.Minimal.{with_pair, without_pair}
use Rattle.search_settle.specs.declared.change.Change.{Change}
use Rattle.search_settle.specs.declared.change.Change.TheVariants.{Leave, Replace, Add}

-- a selection after the change
abbrev pub after : Change → (ℕ → Bool) → ℕ → Bool
after (Leave out) selection = without_pair selection out
after (Replace out taken) selection = with_pair (without_pair selection out) taken
after (Add taken) selection = with_pair selection taken

-- the numbers of the change are from 1 to the greatest
abbrev pub IsWithin : ℕ → Change → Type 0
IsWithin greatest (Leave out) = (1 ≤ out) × (out ≤ greatest)
IsWithin greatest (Replace out taken) = (1 ≤ out) × (out ≤ greatest) × (1 ≤ taken) × (taken ≤ greatest)
IsWithin greatest (Add taken) = (1 ≤ taken) × (taken ≤ greatest)
