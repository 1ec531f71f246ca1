-- The first bytes of names as numbers.
use Rattle.std.specs.Prelude.{◌≡◌, ◌<◌, ℕ, zero, suc, ◌+◌, ◌*◌, ◌^◌, List, [], ◌∷◌, slice_index}

-- as many first bytes of a text as a number to the base of 256, the first byte its highest digit, with zeros behind a shorter
-- text
unfoldable pub leading : ℕ → List ℕ → ℕ
leading zero text = 0
leading (suc count) [] = 0
leading (suc count) (byte ∷ text) = byte * 256 ^ count + leading count text

-- the number is the first eight bytes of a name, which is of bytes
pub record IsPrefix (prefix : ℕ) (name : List ℕ) : Type 0 where
  pub value : prefix ≡ leading 8 name
  pub bytes : (k : ℕ) → slice_index name k < 256
