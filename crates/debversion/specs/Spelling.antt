-- The grammar of a version, `[epoch:]upstream[-revision]` (Policy 5.6.12, deb-version(7)).
use Rattle.std.specs.Prelude.{◌≡◌, ℕ, ◌<◌, ◌≤◌, ◌↔◌, false, List, ◌∷◌, ◌++◌, length, Option, Some, None, IfSome, IfNone}
use Rattle.std.specs.Char.{is_ascii_digit}
use Rattle.std.specs.List.{AllPass, list_any}
use Rattle.std.specs.Str.Parse.{digits_value}
use Rattle.rules.specs.Version.{is_colon, is_hyphen}
use Rattle.rules.specs.VersionFault.{first_fault, greatest_epoch, is_revision_byte, is_upstream_byte}

-- an epoch: one digit or more, of a value that isn't too large
pub record IsEpoch (bytes : List ℕ) : Type 0 where
  pub written : 0 < length bytes
  pub digits : AllPass is_ascii_digit bytes
  pub small : digits_value 10 bytes ≤ greatest_epoch

-- an upstream version: one byte or more, of those that it may have
pub record IsUpstream (bytes : List ℕ) : Type 0 where
  pub written : 0 < length bytes
  pub allowed : AllPass is_upstream_byte bytes

-- a revision: one byte or more, of those that it may have
pub record IsRevision (bytes : List ℕ) : Type 0 where
  pub written : 0 < length bytes
  pub allowed : AllPass is_revision_byte bytes

-- an epoch, if there is one, and its colon before the rest
abbrev pub behind_epoch : Option (List ℕ) → List ℕ → List ℕ
behind_epoch None rest = rest
behind_epoch (Some epoch) rest = epoch ++ 58 ∷ rest

-- an upstream version, and behind it a hyphen and a revision, if there is one
abbrev pub before_hyphen : List ℕ → Option (List ℕ) → List ℕ
before_hyphen upstream None = upstream
before_hyphen upstream (Some revision) = upstream ++ 45 ∷ revision

-- a text is spelled as a version: its upstream version has a colon only behind an epoch, and a hyphen only before a
-- revision
pub record IsSpelled (text : List ℕ) : Type 0 where
  pub epoch : Option (List ℕ)
  pub upstream : List ℕ
  pub revision : Option (List ℕ)
  pub text_is : text ≡ behind_epoch epoch (before_hyphen upstream revision)
  pub epoch_is : IfSome epoch IsEpoch
  pub upstream_is : IsUpstream upstream
  pub revision_is : IfSome revision IsRevision
  pub no_colon : IfNone epoch (list_any is_colon upstream ≡ false)
  pub no_hyphen : IfNone revision (list_any is_hyphen upstream ≡ false)

-- a text has no fault exactly where it is spelled as a version
abbrev pub FaultlessIsSpelled : List ℕ → Type 0
FaultlessIsSpelled text = (first_fault text ≡ None) ↔ IsSpelled text
