-- What a call keeps of the journals of a host, whatever is printed.
use Rattle.std.specs.Prelude.{◌≡◌, ℕ, List, Option, Some}
use Rattle.apply.specs.Kept.{KeepsHistory}
use Rattle.cli.specs.Kept.{Kept}
use Rattle.command_line.specs.Asked as ask
use Rattle.command_line.specs.Asked.{Given, RequestSource}
use Rattle.command_line.specs.Joined.{Text, joined_words}
use Rattle.command_line.specs.Spelled.{spelled}
use Rattle.disk.specs.Facts.{DiskFacts}

-- the words ask for a plan to be carried out by the journal at this path
abbrev pub AskForJournal : List Text → List ℕ → Type 0
AskForJournal words path = (given : Given) × (request : RequestSource) × (plan : Text) × (output : Text)
    × (spelled (joined_words words) ≡ Some (ask.apply given request plan path output))

-- an honest disk is one still, and if a journal was made of its file, a crash at any moment leaves no less than one could leave before
abbrev pub KeepsJournal : {J : Type 0} → (J → Type 0) → (J → DiskFacts) → J → J → Type 0
KeepsJournal honest facts old new = honest old → honest new × KeepsHistory (facts old) (facts new)

-- each journal is kept, and those for which the words don't ask are as they were
pub record AreKept {J : Type 0} (honest : J → Type 0) (facts : J → DiskFacts) (words : List Text) (old new : Kept J) : Type 0 where
  pub kept : (path : List ℕ) → KeepsJournal honest facts (old.journals path) (new.journals path)
  pub others : (path : List ℕ) → (¬ AskForJournal words path) → new.journals path ≡ old.journals path

-- all journals are kept so
abbrev pub KeepsJournals : {J : Type 0} → (J → Type 0) → (J → DiskFacts) → List Text → Kept J → Option (Kept J) → Type 0
KeepsJournals {J} honest facts words was kept = (left : Kept J) × (kept ≡ Some left) × AreKept honest facts words was left
