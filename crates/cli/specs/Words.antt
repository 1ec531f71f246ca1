-- What the program answers to the words of a command line, and what it leaves.
use Rattle.std.specs.Prelude.{◌≡◌, ◌⊎◌, IsUtf8, List, [], ◌∷◌, Option, Some}
use Rattle.std.specs.List.{All}
use Rattle.clap.specs.Kinds.{IsAmong, Kinds}
use Rattle.clap.specs.declared.error.kind.ErrorKind.{ErrorKind}
use Rattle.clap.specs.declared.error.kind.ErrorKind.TheVariants as kind
use Rattle.cli.specs.Calls.{IsOutcomeOfAsked}
use Rattle.cli.specs.Files.{Files}
use Rattle.cli.specs.Kept.{Kept, Untouched}
use Rattle.cli.specs.Leaving.{IsLeftOfAsked, Leaving}
use Rattle.command_line.specs.Asked.{Asked}
use Rattle.command_line.specs.Joined.{Text, joined_words}
use Rattle.command_line.specs.Spelled.{faults_of, spelled}
use Rattle.disk.specs.Facts.{DiskFacts}
use Rattle.outcomes.specs.Outcome.{IsOutcomeOfKind}
use Rattle.outcomes.specs.declared.outcome.Outcome.{Outcome}

-- one of these kinds is what is printed of the words
abbrev pub IsOutcomeOfUsage : Kinds → Outcome → Type 0
IsOutcomeOfUsage kinds outcome = (said : ErrorKind) × IsAmong said kinds × IsOutcomeOfKind said outcome

-- the outcome is that of the call that the words spell, by the files, where they are known
abbrev pub IsOutcomeOfSpelled : Option Files → List Text → Outcome → Type 0
IsOutcomeOfSpelled files words outcome =
    (asked : Asked) × (spelled (joined_words words) ≡ Some asked) × ((at : Files) → files ≡ Some at → IsOutcomeOfAsked at asked outcome)

-- the outcome is usage: the words spell no call, or one of them isn't UTF-8
abbrev pub IsOutcomeOfNoCall : List Text → Outcome → Type 0
IsOutcomeOfNoCall words outcome = (All IsUtf8 words × IsOutcomeOfUsage (faults_of (joined_words words)) outcome)
    ⊎ (¬ All IsUtf8 words × IsOutcomeOfUsage (kind.ValueValidation ∷ []) outcome)

-- the outcome is that of the words: of the call that they spell, or usage exactly where they spell none or one of them
-- isn't UTF-8
abbrev pub IsOutcomeOfWords : Option Files → List Text → Outcome → Type 0
IsOutcomeOfWords files words outcome = (All IsUtf8 words × IsOutcomeOfSpelled files words outcome) ⊎ IsOutcomeOfNoCall words outcome

-- what is left is that of the call that the words spell
abbrev pub IsLeftOfSpelled : {J : Type 0} → (J → Type 0) → (J → DiskFacts) → List Text → Files → Kept J → Leaving J
IsLeftOfSpelled honest facts words at was outcome files kept =
    (asked : Asked) × (spelled (joined_words words) ≡ Some asked) × IsLeftOfAsked honest facts asked at was outcome files kept

-- what is left is that of the words: of the call that they spell; and behind usage nothing is changed
abbrev pub IsLeftOfWords : {J : Type 0} → (J → Type 0) → (J → DiskFacts) → List Text → Files → Kept J → Leaving J
IsLeftOfWords honest facts words at was outcome files kept = (All IsUtf8 words × IsLeftOfSpelled honest facts words at was outcome files kept)
    ⊎ (IsOutcomeOfNoCall words outcome × Untouched at was files kept)
