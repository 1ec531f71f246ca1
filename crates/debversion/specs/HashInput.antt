-- What a version feeds a hasher: the same for every text of one version (Policy 5.6.12).
use Rattle.std.specs.Prelude.{ℕ, ◌&&◌, List, [], ◌∷◌, ◌++◌, if◌then◌else◌}
use Rattle.std.specs.Hash.{HashWrites, u32}
use Rattle.std.specs.List.{flat_map}
use Rattle.std.specs.Str.Parse.{digits_value}
use Rattle.rules.specs.Version.{Piece, epoch_of, pieces_of, revision_of, upstream_of}
use Rattle.rules.specs.VersionFault.{is_nothing}
use Rattle.debversion.specs.Zeros.{without_zeros}

-- a piece: its word, and its number without zeros in front
-- one with no word and the number 0 feeds nothing, as a piece does that isn't written
abbrev pub piece_input : Piece → HashWrites
piece_input piece =
    if is_nothing piece.word && is_nothing (without_zeros piece.digits) then []
    else piece.word ∷ without_zeros piece.digits ∷ []

-- a part: its pieces in turn
abbrev pub part_input : List ℕ → HashWrites
part_input part = flat_map piece_input (pieces_of part)

-- a version: its epoch's value, its upstream version and its revision
unfoldable pub version_input : List ℕ → HashWrites
version_input version =
    u32 (digits_value 10 (epoch_of version)) ++ (part_input (upstream_of version) ++ part_input (revision_of version))
