-- A step of a plan as a line of text (this project's own): the word of its action and the words that it is about,
-- with one space between them.
use Rattle.std.specs.Prelude.{ℕ, Bool, ◌&&◌, List, [], ◌∷◌, ◌++◌, Option, Some, None, codes, if◌then◌else◌}
use Rattle.std.specs.List.{join_with_byte}
use Rattle.std.specs.Option.{option_and_then, option_map, is_none}
use Rattle.std.specs.Str.{bytes_eq}
use Rattle.rules.specs.Name.{is_name}
use Rattle.rules.specs.VersionFault.{first_fault}
use Rattle.rules.specs.declared.step.Step.{Step}
use Rattle.rules.specs.declared.step.Step.TheVariants.{Unpack, Deconfigure, Configure, Remove, Purge}
use Rattle.plantext.specs.Cut.{parts_at}
use Rattle.plantext.specs.Group.{is_group}
use Rattle.plantext.specs.Word.{name_in, only_name, only_word}
use Rattle.plantext.specs.declared.cut.TheConstants.{NEWLINE, SPACE}

-- Reading

-- the word as a version, if it is one
abbrev pub version_in : List ℕ → Option (List ℕ)
version_in word = if is_none (first_fault word) then Some word else None

-- the version that stands alone, if one does
abbrev pub only_version : List (List ℕ) → Option (List ℕ)
only_version words = option_and_then version_in (only_word words)

-- the unpacking of a name and a version, if the words are these
abbrev pub unpack_of : List (List ℕ) → Option Step
unpack_of [] = None
unpack_of (word ∷ later) =
    option_and_then (λ name. option_map (λ version. Unpack name version) (only_version later)) (name_in word)

-- the configuring of a group, if the words are one
abbrev pub configure_of : List (List ℕ) → Option Step
configure_of words = if is_group words then Some (Configure words) else None

-- the step of this action that is about these words, if there is one
abbrev pub step_by : List ℕ → List (List ℕ) → Option Step
step_by action words =
    if bytes_eq action (codes "unpack") then unpack_of words
    else if bytes_eq action (codes "deconfigure") then option_map (λ name. Deconfigure name) (only_name words)
    else if bytes_eq action (codes "configure") then configure_of words
    else if bytes_eq action (codes "remove") then option_map (λ name. Remove name) (only_name words)
    else if bytes_eq action (codes "purge") then option_map (λ name. Purge name) (only_name words)
    else None

-- the step of these words, of which the first is its action's
abbrev pub step_of_words : List (List ℕ) → Option Step
step_of_words [] = None
step_of_words (action ∷ words) = step_by action words

-- the step of a line without its newline, if it has one
unfoldable pub step_of : List ℕ → Option Step
step_of line = step_of_words (parts_at SPACE line)

-- Writing

-- the words of a step
abbrev pub words_of : Step → List (List ℕ)
words_of (Unpack name version) = codes "unpack" ∷ name ∷ version ∷ []
words_of (Deconfigure name) = codes "deconfigure" ∷ name ∷ []
words_of (Configure names) = codes "configure" ∷ names
words_of (Remove name) = codes "remove" ∷ name ∷ []
words_of (Purge name) = codes "purge" ∷ name ∷ []

-- the names of the step are names and its version is one, and what is configured at once is a group
abbrev pub is_spelled : Step → Bool
is_spelled (Unpack name version) = is_name name && is_none (first_fault version)
is_spelled (Deconfigure name) = is_name name
is_spelled (Configure names) = is_group names
is_spelled (Remove name) = is_name name
is_spelled (Purge name) = is_name name

-- the line of a step, with its newline
unfoldable pub step_line : Step → List ℕ
step_line step = join_with_byte SPACE (words_of step) ++ NEWLINE ∷ []
