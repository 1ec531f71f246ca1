-- Shards of a list: every so many-th of its items, so that some of the work can be done elsewhere (this project's own).
use Rattle.std.specs.Prelude.{◌≡◌, ℕ, ◌+◌, ◌*◌, ◌/◌, ◌%◌, ◌≤◌, List, slice_get}
use Rattle.rules.specs.Step.{IndexPackage}
use Rattle.installable.specs.declared.shard.Shard.{Shard}

-- the items of the shard are those of the list behind as many as come before its first, with as many left out between two of it
abbrev pub IsShardOf : {A : Type 0} → Shard → List A → List A → Type 0
IsShardOf shard all part = (place : ℕ) → slice_get part place ≡ slice_get all (shard.before + place * (shard.between + 1))

-- the shard that has so many before its first item
abbrev pub shard_behind : ℕ → ℕ → Shard
shard_behind between before = record { before = before; between = between }

-- the shards of a list put together in order are the list: with so many items left out between two of a shard, each item of the list is
-- one of the shard that has as many before its first as the item has behind the last whole round
abbrev pub ShardsAreTheWhole : Type 0
ShardsAreTheWhole = (between : ℕ) (all : List IndexPackage) (parts : ℕ → List IndexPackage)
    → ((before : ℕ) → before ≤ between → IsShardOf (shard_behind between before) all (parts before))
    → (place : ℕ) → slice_get all place ≡ slice_get (parts (place % (between + 1))) (place / (between + 1))
