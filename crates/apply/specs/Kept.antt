-- What is kept of the history that the file of a journal shows, whatever comes of a run (this project's own).
use Rattle.std.specs.Prelude.{◌≡◌, ◌⊎◌, ℕ, List}
use Rattle.disk.specs.Facts.{DiskFacts, LeavesOnly}
use Rattle.journal.specs.Creating.{IsUnmade}
use Rattle.journal.specs.History.{History, Shows}
use Rattle.journal.specs.Payload.{RecordedStep}
use Rattle.apply.specs.Progress.{GoesOn}

-- the new history is the old one, or that with steps behind it, each of which can be taken in its turn
abbrev pub IsNoLess : History → History → Type 0
IsNoLess old new = (taken : List RecordedStep) × GoesOn taken old new

-- the file is the one before, or shows a history that is no less than one that the file before shows
abbrev pub ShowsNoLess : List ℕ → List ℕ → Type 0
ShowsNoLess before file = (file ≡ before) ⊎ ((old new : History) × Shows before old × IsNoLess old new × Shows file new)

-- the file shows no less than one that a crash could have left
abbrev pub IsNoLessThanLeft : DiskFacts → List ℕ → Type 0
IsNoLessThanLeft old file = (before : List ℕ) × old.leaves before × ShowsNoLess before file

-- if a journal was made of the file, a crash at any moment leaves no less than one could leave before
abbrev pub KeepsHistory : DiskFacts → DiskFacts → Type 0
KeepsHistory old new = (¬ IsUnmade old.seen) → LeavesOnly (IsNoLessThanLeft old) old new
