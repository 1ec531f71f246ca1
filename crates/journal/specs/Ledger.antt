-- What a journal in memory knows of its file.
use Rattle.std.specs.Prelude.{◌≡◌, ◌⊎◌, ℕ, List, [], ◌∷◌, ◌++◌, length, Option, false}
use Rattle.disk.specs.Facts.{DiskFacts, Synced}
use Rattle.journal.specs.File.{Entry, front}
use Rattle.journal.specs.History.{History, Reaches, Shows, StandsFor}
use Rattle.journal.specs.declared.ledger.Ledger.{Ledger}

-- the history that it remembers
abbrev pub history_of : Ledger → History
history_of ledger = record {
  arch = ledger.database.arch;
  start = ledger.start.now;
  steps = ledger.steps.items;
  slots = ledger.database.slots;
}

-- the file is what stands for the history and a closed gate, all of it on the disk, and a record can be added
pub record IsSettled (ledger : Ledger) (now : DiskFacts) : Type 0 where
  pub whole : ledger.broken ≡ false
  pub named : Option (List ℕ)
  pub entries : List Entry
  pub stands : StandsFor named entries (history_of ledger)
  pub gate : ledger.gate ≡ length (front named ledger.start.now entries)
  pub file : Synced (front named ledger.start.now entries ++ 0 ∷ []) now

-- it remembers what the file shows, and where the closed gate is
pub record IsReadFrom (arch file : List ℕ) (ledger : Ledger) : Type 0 where
  pub whole : ledger.broken ≡ false
  pub for_it : ledger.database.arch ≡ arch
  pub tail : List ℕ
  pub reaches : Reaches file (history_of ledger) ledger.gate (0 ∷ tail)

-- it is the same file, or both show one history for the architecture
abbrev pub SameJournal : List ℕ → List ℕ → List ℕ → Type 0
SameJournal arch old new = (new ≡ old) ⊎ ((h : History) × (h.arch ≡ arch) × Shows old h × Shows new h)

-- it shows what a file shows that a crash at the start could have left
abbrev pub MeansAsBefore : List ℕ → DiskFacts → List ℕ → Type 0
MeansAsBefore arch old file = (was : List ℕ) × old.leaves was × SameJournal arch was file
