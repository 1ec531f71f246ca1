-- What is wanted beside an answer, by the format that it is written in.
use Rattle.std.specs.Prelude.{◌≡◌, Bool, true, false, ⊤}
use Rattle.command_line.specs.declared.call.Format.{Format}
use Rattle.command_line.specs.declared.call.Format.TheVariants as format

-- whether the answer is written as a document
abbrev pub is_document : Format → Bool
is_document format.Text = false
is_document format.Json = true

-- the reasons of the answer are told, or aren't; in a document they are
abbrev pub AreToldIn : Format → Bool → Type 0
AreToldIn format.Text tells_reasons = ⊤
AreToldIn format.Json tells_reasons = tells_reasons ≡ true

-- it is said so, with the reasons of the answer told or not; in a document they are
abbrev pub IsSaidIn : Format → (Bool → Type 0) → Type 0
IsSaidIn written Says = (tells_reasons : Bool) × AreToldIn written tells_reasons × Says tells_reasons
