-- The values collected so far, before those of the items that are left.
use Rattle.std.proofs.Common.{ℕ, List, ◌++◌, Result, Ok, Err}
use Rattle.stanza.specs.declared.error.StanzaError.{StanzaError}

-- these values before the others, if there are any
abbrev pub with_front : List (List ℕ) → Result (List (List ℕ)) StanzaError → Result (List (List ℕ)) StanzaError
with_front front (Err fault) = Err fault
with_front front (Ok values) = Ok (front ++ values)
