-- The parts of a version's text (Policy 5.6.12).
use Rattle.std.specs.Prelude.{◌≡◌, ℕ, ◌<◌, Bool, true, false, List, None, length, slice_index}
use Rattle.std.specs.Str.Parse.{digits_value}
use Rattle.rules.specs.Version.{epoch_of, revision_of, upstream_of}
use Rattle.rules.specs.VersionFault.{first_fault}

-- a text without fault was read: the value of its epoch, its upstream version and its revision
pub record IsRead (text : List ℕ) (epoch : ℕ) (upstream revision : List ℕ) : Type 0 where
  pub faultless : first_fault text ≡ None
  pub epoch_is : epoch ≡ digits_value 10 (epoch_of text)
  pub upstream_is : upstream ≡ upstream_of text
  pub revision_is : revision ≡ revision_of text

-- the element at i is the last that passes the test
pub record IsLastAt (test : ℕ → Bool) (bytes : List ℕ) (i : ℕ) : Type 0 where
  pub within : i < length bytes
  pub passes : test (slice_index bytes i) ≡ true
  pub last : (k : ℕ) → i < k → k < length bytes → test (slice_index bytes k) ≡ false
