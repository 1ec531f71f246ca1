-- A refutation as it is written (docs/FORMATS.md): its pairs have numbers, which is version 1 of the text, or are named, which is
-- version 2.
use Rattle.std.specs.Prelude.{ℕ, Bool, List, nat_eq, Result, Ok, Err, codes, if◌then◌else◌}
use Rattle.std.specs.List.{starts_with}
use Rattle.std.specs.Option.{option_map_or}
use Rattle.refutation.specs.declared.line.Line.{Line}
use Rattle.refutation_text.specs.Text.{read_refutation, refutation_text}
use Rattle.refutation_text.specs.declared.error.RefutationFault.{RefutationFault}
use Rattle.rules.specs.Universe.{Pair}
use Rattle.named_refutation.specs.Text.{named_text, read_named}
use Rattle.named_lines.specs.Naming.{refutation_named}
use Rattle.written_refutation.specs.declared.written.WrittenRefutation.{WrittenRefutation}
use Rattle.written_refutation.specs.declared.written.WrittenRefutation.TheVariants as written

-- pairs are named in the text: its first line says so
abbrev pub names_pairs : List ℕ → Bool
names_pairs text = starts_with nat_eq text (codes "refutation 2\n")

-- what is read, as a refutation that is written so
abbrev pub written_as : {A : Type 0} → (A → WrittenRefutation) → Result A RefutationFault → Result WrittenRefutation RefutationFault
written_as write (Ok value) = Ok (write value)
written_as write (Err fault) = Err fault

-- the refutation of a text, or its first refusal
unfoldable pub read_written : List ℕ → Result WrittenRefutation RefutationFault
read_written text =
    if names_pairs text then written_as written.Named (read_named text) else written_as written.Numbered (read_refutation text)

-- the text of lines by numbers, with the pairs of a universe named; by numbers where one of them has no name
unfoldable pub naming_text : List Pair → List Line → List ℕ
naming_text pairs lines = option_map_or named_text (refutation_named pairs lines) (refutation_text lines)
