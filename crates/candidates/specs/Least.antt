-- The least of the names of records and stanzas that are in order.
use Rattle.std.specs.Prelude.{ℕ, List, [], ◌∷◌, Option, Some, None, if◌then◌else◌}
use Rattle.std.specs.Ordering.{is_lt}
use Rattle.rules.specs.Database.{Record}
use Rattle.rules.specs.Name.{name_cmp}
use Rattle.rules.specs.Step.{IndexPackage}

-- the lesser of two names
abbrev pub lesser : List ℕ → List ℕ → List ℕ
lesser name other = if is_lt (name_cmp other name) then other else name

-- the lesser of the first names, if there is one
abbrev pub least_of : List Record → List IndexPackage → Option (List ℕ)
least_of [] [] = None
least_of (first ∷ known) [] = Some first.name
least_of [] (stanza ∷ ordered) = Some stanza.pkg.name
least_of (first ∷ known) (stanza ∷ ordered) = Some (lesser first.name stanza.pkg.name)
