-- The names of a stanza's fields so far, as its reader knows them.
use Rattle.std.specs.Prelude.{◌≡◌, ◌≤◌, List, ℕ, length, take, map}
use Rattle.std.specs.List.{list_any}
use Rattle.std.specs.Char.{to_ascii_lowercase}
use Rattle.std.specs.Str.{bytes_eq}
use Rattle.stanza.specs.declared.known.Known.{Known}
use Rattle.stanza.specs.Field.{same_name}
use Rattle.stanza.specs.Seen.{AreSeen}

-- a name in small letters is in the table where it is one of these names but for the case of ASCII letters, and nowhere else
abbrev pub HasNames : List (List ℕ) → List (List ℕ) → Type 0
HasNames folded names = (name : List ℕ) → list_any (bytes_eq (map to_ascii_lowercase name)) folded ≡ list_any (λ earlier. same_name earlier name) names

-- the slots of all these names are taken, and the table has the first of them
pub record AreKnown (known : Known) (names : List (List ℕ)) : Type 0 where
  pub seen : AreSeen known.seen.slots names
  pub few : known.noted ≤ length names
  pub noted : HasNames known.folded (take known.noted names)
