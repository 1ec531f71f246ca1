-- What a host keeps of journals, and which texts were put by it.
use Rattle.std.specs.Prelude.{◌≡◌, ◌≢◌, ℕ, Bool, false, List, [], ◌∷◌, ◌++◌, Option, None, Some, Result, Ok, Err}
use Rattle.cli.specs.Files.{Files}

-- a text that was put at a path, the path of the journal that was held meanwhile, if one was, and whether it was put under that very name,
-- also if a link was there
pub record Put : Type 0 where
  pub path : List ℕ
  pub text : List ℕ
  pub held : Option (List ℕ)
  pub named : Bool

-- the file of a journal at each path, and the texts that were put, in their order
pub record Kept (J : Type 0) : Type 0 where
  pub journals : List ℕ → J
  pub puts : List Put

-- at each other path there is the same journal
abbrev pub SameElsewhere : {J : Type 0} → List ℕ → Kept J → Kept J → Type 0
SameElsewhere path old new = (other : List ℕ) → other ≢ path → new.journals other ≡ old.journals other

-- the journal at the path was lent, and all else is as it was
pub record IsLent {J : Type 0} (path : List ℕ) (journal : J) (old new : Kept J) : Type 0 where
  pub is : journal ≡ old.journals path
  pub elsewhere : SameElsewhere path old new
  pub puts : new.puts ≡ old.puts

-- the journal at the path is lent, where one can be
abbrev pub Lends : {J E : Type 0} → List ℕ → Kept J → Result J E → Option (Kept J) → Type 0
Lends {J} path was (Ok journal) now = (left : Kept J) × (now ≡ Some left) × IsLent path journal was left
Lends path was (Err e) now = now ≡ Some was

-- the journal is at the path again, these texts were put beside, and all else is as it was
pub record IsBack {J : Type 0} (path : List ℕ) (journal : J) (more : List Put) (old new : Kept J) : Type 0 where
  pub is : new.journals path ≡ journal
  pub elsewhere : SameElsewhere path old new
  pub puts : new.puts ≡ old.puts ++ more

-- the journal is given back
abbrev pub GivesBack : {J : Type 0} → List ℕ → J → Kept J → Option (Kept J) → Type 0
GivesBack {J} path journal was now = (left : Kept J) × (now ≡ Some left) × IsBack path journal [] was left

-- the text is put while the journal of the path `at` is held, which is given back then
abbrev pub Finishes : {J A E : Type 0} → List ℕ → J → List ℕ → List ℕ → Kept J → Result A E → Option (Kept J) → Type 0
Finishes {J} at journal path text was (Ok done) now =
    (left : Kept J) × (now ≡ Some left) × IsBack at journal (record { path = path; text = text; held = Some at; named = false } ∷ []) was left
Finishes {J} at journal path text was (Err e) now = (left : Kept J) × (now ≡ Some left) × IsBack at journal [] was left

-- the text was put so, and no journal was held for it
pub record IsNoted {J : Type 0} (named : Bool) (path text : List ℕ) (old new : Kept J) : Type 0 where
  pub journals : (other : List ℕ) → new.journals other ≡ old.journals other
  pub puts : new.puts ≡ old.puts ++ record { path = path; text = text; held = None; named = named } ∷ []

-- the text is put so, where it can be
abbrev pub NotesPut : {J A E : Type 0} → Bool → List ℕ → List ℕ → Kept J → Result A E → Option (Kept J) → Type 0
NotesPut {J} named path text was (Ok done) now = (left : Kept J) × (now ≡ Some left) × IsNoted named path text was left
NotesPut named path text was (Err e) now = now ≡ Some was

-- of files and journals nothing is changed
abbrev pub Untouched : {J : Type 0} → Files → Kept J → Option Files → Option (Kept J) → Type 0
Untouched at was files kept = (files ≡ Some at) × (kept ≡ Some was)
