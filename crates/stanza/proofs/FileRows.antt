-- Worked rows, after Debian Policy 5.1: what the definitions give of a few texts, and one text that is a file by its grouping.
use Rattle.std.proofs.Common.{◌≡◌, [], ◌∷◌, ◌++◌, Ok, Err, refl}
use Rattle.std.specs.Prelude.{codes}
use Rattle.stanza.specs.declared.error.StanzaError.TheVariants.{BadLine, BadFieldName, DuplicateField}
use Rattle.stanza.specs.declared.form.Form.TheVariants.{Plain, Commented}
use Rattle.stanza.specs.Stanza.{items_of}
use Rattle.stanza.specs.File.{Comment, Group, IsFile}

-- `Package: a`, `Version: 1`, `package: b`
repeated : items_of Plain (codes "Package: a" ++ 10 ∷ codes "Version: 1" ++ 10 ∷ codes "package: b" ++ 10 ∷ []) ≡ Err (DuplicateField 3) ∷ []
unfolding items_of
repeated = refl

-- ` x`, `Package: a`
loose : items_of Plain (codes " x" ++ 10 ∷ codes "Package: a" ++ 10 ∷ []) ≡ Err (BadLine 1) ∷ []
unfolding items_of
loose = refl

-- `Package a`
no_colon : items_of Plain (codes "Package a" ++ 10 ∷ []) ≡ Err (BadLine 1) ∷ []
unfolding items_of
no_colon = refl

-- `#c: 1` in the plain form, and in the form with comments
bad_name : items_of Plain (codes "#c: 1" ++ 10 ∷ []) ≡ Err (BadFieldName 1) ∷ []
unfolding items_of
bad_name = refl

comment : items_of Commented (codes "#c: 1" ++ 10 ∷ []) ≡ []
unfolding items_of
comment = refl

-- `A:`, ` b`, without the last newline
value : items_of Plain (codes "A:" ++ 10 ∷ codes " b") ≡ Ok (record { line = 1; raw = codes "A:" ++ 10 ∷ codes " b"; fields = record { name = codes "A"; value = 10 ∷ codes " b"; line = 1 } ∷ [] }) ∷ []
unfolding items_of
value = refl

-- `#x`, `A: 1`, `#y`: the second line is a group, between two comments
grouped : IsFile Commented (codes "#x" ++ 10 ∷ codes "A: 1" ++ 10 ∷ codes "#y" ++ 10 ∷ [])
    (record { line = 2; raw = codes "A: 1" ++ 10 ∷ []; fields = record { name = codes "A"; value = codes "1"; line = 2 } ∷ [] } ∷ [])
grouped = (
  Comment (codes "#x" ++ 10 ∷ []) ∷ Group (codes "A: 1" ++ 10 ∷ []) [] ∷ Comment (codes "#y" ++ 10 ∷ []) ∷ [],
  record {
    lines = refl;
    each = (refl, ((record { begins = refl; colon = refl; name = refl }, tt), (refl, tt)));
    names = (tt, tt);
  },
  ([], refl, refl),
)
