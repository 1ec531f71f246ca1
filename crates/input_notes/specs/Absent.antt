-- Why a name has no candidate (apt_preferences(5); dpkg(1), "Package states"), in sentences.
use Rattle.std.specs.Prelude.{ℕ, Bool, true, false, ◌&&◌, ◌||◌, List, ◌++◌, bytes_eq, codes, if◌then◌else◌}
use Rattle.std.specs.Borrow.{Bor}
use Rattle.std.specs.List.{list_any}
use Rattle.index.specs.Index.{ReadIndex}
use Rattle.rules.specs.FileRecord.{FileRecord}
use Rattle.rules.specs.State.{is_present_state}
use Rattle.rules.specs.Step.{is_named}
use Rattle.input_notes.specs.Inputs.{some_standing, some_stanza}
use Rattle.input_notes.specs.Providers.{providers_words}
use Rattle.input_notes.specs.Words.{printed_word}

-- a stanza of an index has the name
abbrev pub is_listed : List ReadIndex → List ℕ → Bool
is_listed indices name = some_stanza (λ listed. bytes_eq listed.pkg.name name) indices

-- a package of the name stands
abbrev pub is_standing : List (Bor FileRecord) → List ℕ → Bool
is_standing entries name = some_standing (is_named name) entries

-- a package of the name is present
abbrev pub is_present : List (Bor FileRecord) → List ℕ → Bool
is_present entries name = list_any (λ entry. is_present_state entry.now.status.state && is_named name entry.now.status) entries

-- what is said of a name that no index has and that doesn't stand, which is present or isn't
abbrev pub absence_words : Bool → List ℕ
absence_words true = codes " is in no index, and what is there of it has to be installed again.\n"
absence_words false = codes " is in no index, and isn't installed.\n"

-- what is said of a name that an index has or that stands
abbrev pub choice_words : List ℕ
choice_words = codes " is there, but no version of it may be chosen: each has a priority of 0 or less, or is a downgrade.\n"

-- why the name has no candidate, and of a name that no index has and that doesn't stand who provides it
abbrev pub candidate_words : List (Bor FileRecord) → List ReadIndex → List ℕ → List ℕ
candidate_words entries indices name = printed_word name
    ++ (if is_listed indices name || is_standing entries name then choice_words
    else absence_words (is_present entries name) ++ providers_words indices name)
