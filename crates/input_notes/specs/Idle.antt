-- Records of the preferences and a target release that change no answer (apt_preferences(5)), in sentences.
use Rattle.std.specs.Prelude.{ℕ, ◌+◌, Bool, true, false, ◌&&◌, ◌||◌, List, [], ◌++◌, Option, None, Some, codes, decimal, if◌then◌else◌}
use Rattle.std.specs.Borrow.{Bor}
use Rattle.std.specs.List.{enumerate_from, flat_map, list_any}
use Rattle.index.specs.Index.{ReadIndex}
use Rattle.pins.specs.Prefs.{Preferences}
use Rattle.rules.specs.Database.{Record}
use Rattle.rules.specs.FileRecord.{FileRecord}
use Rattle.rules.specs.Priority.{is_target, names_all, names_it, pin_matches, status_origin}
use Rattle.rules.specs.Step.{IndexPackage}
use Rattle.rules.specs.declared.release.PinnedNames.{PinnedNames}
use Rattle.rules.specs.declared.release.PinnedNames.TheVariants as pinned
use Rattle.rules.specs.declared.release.Preference.{Preference}
use Rattle.rules.specs.declared.release.Release.{Release}
use Rattle.input_notes.specs.Indices.{idle_indices}
use Rattle.input_notes.specs.Inputs.{some_standing, some_stanza}
use Rattle.input_notes.specs.Words.{names_words, printed_word}

-- the names of a record of the preferences have this one among them
abbrev pub is_for : PinnedNames → List ℕ → Bool
is_for names name = names_all names || names_it name names

-- the record of the preferences matches the version of this package in the status file
abbrev pub matches_record : Preference → Record → Bool
matches_record preference entry =
    is_for preference.names entry.name && pin_matches preference.pin entry.version status_origin.release

-- it matches the version of this stanza of an index with these release keys
abbrev pub matches_stanza : Preference → Release → IndexPackage → Bool
matches_stanza preference release listed =
    is_for preference.names listed.pkg.name && pin_matches preference.pin listed.pkg.version release

-- it matches a version that stands or that an index has
abbrev pub matches_some : List (Bor FileRecord) → List ReadIndex → Preference → Bool
matches_some entries indices preference = some_standing (matches_record preference) entries
    || list_any (λ read. list_any (matches_stanza preference read.index.release) read.index.listed) indices

-- one of the names is that of a package that stands or of a stanza of an index
abbrev pub is_known : List (Bor FileRecord) → List ReadIndex → PinnedNames → Bool
is_known entries indices names = some_standing (λ entry. is_for names entry.name) entries
    || some_stanza (λ listed. is_for names listed.pkg.name) indices

-- what there is not of the names: such a version where a name is known, and else a package
abbrev pub lack_words : Bool → List ℕ
lack_words true = codes "there is no such version of "
lack_words false = codes "there is no package "

-- why a record for these names matches nothing
abbrev pub why_idle : PinnedNames → Bool → List ℕ
why_idle pinned.Every known = codes "no index has what it pins.\n"
why_idle (pinned.Listed names) known = lack_words known ++ (names_words names ++ codes ".\n")

-- the line of a record of the preferences that matches nothing, with its number
abbrev pub record_line : ℕ → PinnedNames → Bool → List ℕ
record_line number names known =
    codes "Record " ++ (decimal number ++ (codes " of the preferences matches nothing: " ++ why_idle names known))

-- the line of the record at this place, counted from 0, where it matches no version that stands or that an index has
abbrev pub idle_record : List (Bor FileRecord) → List ReadIndex → ℕ → Preference → List ℕ
idle_record entries indices place preference = if matches_some entries indices preference then []
    else record_line (place + 1) preference.names (is_known entries indices preference.names)

-- of the records of the preferences in order the line of each that matches nothing
abbrev pub idle_records : List (Bor FileRecord) → List ReadIndex → List Preference → List ℕ
idle_records entries indices preferences =
    flat_map (λ placed. idle_record entries indices placed.0 placed.1) (enumerate_from 0 preferences)

-- the line of a target release
abbrev pub target_line : List ℕ → List ℕ
target_line target = codes "The target release "
    ++ (printed_word target ++ codes " is the archive, suite, codename or version of no index.\n")

-- the line of the target release, where there is one and no index is of it
abbrev pub idle_target : List ReadIndex → Option (List ℕ) → List ℕ
idle_target indices None = []
idle_target indices (Some target) =
    if list_any (λ read. is_target (Some target) read.index.release) indices then [] else target_line target

-- the lines of the records of the preferences, of the target release and of the indices that change no answer
abbrev pub idle_words : List (Bor FileRecord) → List ReadIndex → Preferences → List ℕ
idle_words entries indices prefs = idle_records entries indices prefs.preferences
    ++ (idle_target indices prefs.target ++ idle_indices indices)
