-- What waits to be configured (this project's own).
use Rattle.std.specs.Prelude.{◌≡◌, ℕ, true, List, length}
use Rattle.std.specs.List.{Contains}
use Rattle.rules.specs.Configure.{ArePreDependsInstalled}
use Rattle.rules.specs.Database.{Record}
use Rattle.rules.specs.Name.{IsAscending}
use Rattle.plain.specs.Underway.{unconfigured_of}
use Rattle.fixed_order.specs.Askers.{AreAskers, AreMarked, AreMarkedAnew}
use Rattle.fixed_order.specs.Turn.{HasRings}
use Rattle.fixed_order.specs.declared.waiting.Waiting.{Waiting}

-- ascending names, with each of these among them
pub record AscendWith (others names : List (List ℕ)) : Type 0 where
  pub ascending : IsAscending names
  pub all : (name : List ℕ) → Contains others name → Contains names name

-- the names have installed Pre-Depends, it is noted for whom each asks, and what has all that it asks for is marked
pub record IsKnownIn (db : List Record) (waiting : Waiting) : Type 0 where
  pub pre_depends : ArePreDependsInstalled db waiting.names.items
  pub askers : AreAskers db waiting.askers waiting.names.items
  pub marked : AreMarked db waiting.names.items waiting.marks.items

-- what isn't configured is among the names, the rings are theirs, and what is said to be known is so
pub record IsWaitingIn (db : List Record) (waiting : Waiting) : Type 0 where
  pub names : AscendWith (unconfigured_of db) waiting.names.items
  pub rings : HasRings db waiting.names.items waiting.rings.names.items
  pub long : length waiting.marks.items ≡ length waiting.names.items
  pub known : waiting.is_known ≡ true → IsKnownIn db waiting

-- the names at these places are marked anew, and all else is as it was
pub record IsMarkedAnew (db : List Record) (places : List ℕ) (old new : Waiting) : Type 0 where
  pub names : new.names.items ≡ old.names.items
  pub rings : new.rings.names.items ≡ old.rings.names.items
  pub askers : new.askers ≡ old.askers
  pub known : new.is_known ≡ old.is_known
  pub long : length new.marks.items ≡ length new.names.items
  pub anew : AreMarkedAnew (Contains places) db old.names.items old.marks.items new.marks.items
