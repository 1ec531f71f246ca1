-- A goal as a line of a request (this project's own): its action, and for most the name or the atom that it is
-- about (Policy 7.1).
use Rattle.std.specs.Prelude.{ℕ, Bool, not, ◌&&◌, ◌==◌, List, [], ◌∷◌, length, Option, Some, None, Result, Ok, Err, codes, if◌then◌else◌}
use Rattle.std.specs.List.{list_any}
use Rattle.std.specs.Option.{option_and_then, option_map}
use Rattle.std.specs.Str.{bytes_eq}
use Rattle.rules.specs.Name.{is_name}
use Rattle.rules.specs.Package.{Atom}
use Rattle.rules.specs.declared.goal.Goal.{Goal}
use Rattle.rules.specs.declared.goal.Goal.TheVariants.{Install, Remove, Purge, Upgrade, UpgradeAll, NoRemove}
use Rattle.relation_text.specs.Bytes.{is_comma}
use Rattle.relation_text.specs.Refusal.{read_atoms}
use Rattle.relation_text.specs.declared.error.RelationFault.{RelationFault}
use Rattle.universe_request.specs.Words.{after_white, after_word, word_of}

-- the atom that stands alone, if one does
abbrev pub only_atom : List Atom → Option Atom
only_atom [] = None
only_atom (atom ∷ []) = Some atom
only_atom (atom ∷ next ∷ later) = None

-- the atom that was read alone, if one was
abbrev pub only_read : Result (List Atom) RelationFault → Option Atom
only_read (Ok atoms) = only_atom atoms
only_read (Err fault) = None

-- the atom that the text is, if it is one: it is read as a relation field with one atom, and has no comma
abbrev pub atom_in : List ℕ → List ℕ → Option Atom
atom_in arch text = if list_any is_comma text then None else only_read (read_atoms arch text)

-- the installing that an atom asks for, unless it is of another architecture. The name of an atom is always a name
abbrev pub install_by : Atom → Option Goal
install_by atom = if not atom.foreign && is_name atom.name then Some (Install atom.name atom.restriction) else None

-- the installing of the atom that the text is
abbrev pub install_of : List ℕ → List ℕ → Option Goal
install_of arch text = option_and_then install_by (atom_in arch text)

-- the word as a name, if it is one
abbrev pub name_in : List ℕ → Option (List ℕ)
name_in word = if is_name word then Some word else None

-- nothing is written
abbrev pub is_nothing : List ℕ → Bool
is_nothing text = length text == 0

-- the name that the text is, white space behind it apart
abbrev pub only_name : List ℕ → Option (List ℕ)
only_name text = if is_nothing (after_word text) then name_in (word_of text) else None

-- the goal, where nothing stands behind its action
abbrev pub alone : Goal → List ℕ → Option Goal
alone goal text = if is_nothing text then Some goal else None

-- the goal of this action that is about this text, if there is one
abbrev pub goal_by : List ℕ → List ℕ → List ℕ → Option Goal
goal_by arch action text =
    if bytes_eq action (codes "install") then install_of arch text
    else if bytes_eq action (codes "remove") then option_map (λ name. Remove name) (only_name text)
    else if bytes_eq action (codes "purge") then option_map (λ name. Purge name) (only_name text)
    else if bytes_eq action (codes "upgrade") then option_map (λ name. Upgrade name) (only_name text)
    else if bytes_eq action (codes "upgrade-all") then alone UpgradeAll text
    else if bytes_eq action (codes "no-remove") then alone NoRemove text
    else None

-- the goal of a text that begins with its action
abbrev pub goal_at : List ℕ → List ℕ → Option Goal
goal_at arch text = goal_by arch (word_of text) (after_word text)

-- the goal of a line, if it has one, for the configured architecture
unfoldable pub goal_of : List ℕ → List ℕ → Option Goal
goal_of arch line = goal_at arch (after_white line)
