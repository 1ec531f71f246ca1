-- What stands on a stream, and whether a write on it failed.
use Rattle.std.specs.Prelude.{◌≡◌, Bool, List, Option, ℕ}
use Rattle.std.specs.Io.KnownBytes.{Appends}
use Rattle.conversation.specs.declared.stream.Stream.{Stream}

-- the bytes on a stream, where they are known, and whether a write on it failed
pub record Written : Type 0 where
  pub contents : Option (List ℕ)
  pub has_failed : Bool

-- what stands on the stream, by what its writer holds
abbrev pub written_on : {W : Type 0} → (W → Option (List ℕ)) → Stream W → Written
written_on contents stream = record { contents = contents stream.writer; has_failed = stream.has_failed }

-- the text stands behind what was written before, and nothing failed meanwhile
pub record IsBehind (old new : Written) (text : List ℕ) : Type 0 where
  pub appended : Appends old.contents new.contents text
  pub failed : new.has_failed ≡ old.has_failed
