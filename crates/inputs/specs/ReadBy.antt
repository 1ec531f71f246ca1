-- What a reading leaves of a shelf.
use Rattle.std.specs.Prelude.{◌≡◌, Result}
use Rattle.inputs.specs.Counting.{CountsRead}
use Rattle.inputs.specs.declared.refusal.Refusal.{Refusal}
use Rattle.inputs.specs.declared.shelf.Shelf.{Ghosts}

-- the shelf is read with this result: what is found on it is as it was, E5 is refused where one more text couldn't be read and there
-- alone, and it holds what it held
pub record IsReadBy {S Text A : Type 0} (shelf : Ghosts S Text) (old : S) (result : Result A Refusal) (new : S) : Type 0 where
  pub same : shelf.known_texts new ≡ shelf.known_texts old
  pub count : CountsRead result (shelf.faults old) (shelf.faults new)
  pub held : shelf.holds old new

-- nothing is read from the shelf: what is found on it is as it was, and it holds what it held
pub record IsUntouched {S Text : Type 0} (shelf : Ghosts S Text) (old new : S) : Type 0 where
  pub same : shelf.known_texts new ≡ shelf.known_texts old
  pub count : shelf.faults new ≡ shelf.faults old
  pub held : shelf.holds old new
