-- The field Status of a package: three words, parted by spaces or tabs (dpkg(1), "Package states").
use Rattle.std.specs.Prelude.{ℕ, Bool, true, false, List, [], ◌∷◌, filter, Option, None, bytes_eq}
use Rattle.std.specs.List.{find, slice_split}
use Rattle.std.specs.Option.{option_and_then, option_map}
use Rattle.stanza.specs.Line.{is_white}
use Rattle.rules.specs.Stanza.{flag_word, state_word, want_word}
use Rattle.rules.specs.declared.status.Flag.{Flag}
use Rattle.rules.specs.declared.status.Flag.TheVariants as flags
use Rattle.rules.specs.declared.status.State.{State}
use Rattle.rules.specs.declared.status.State.TheVariants.{NotInstalled, ConfigFiles, HalfInstalled, Unpacked, HalfConfigured, TriggersAwaited, TriggersPending, Installed}
use Rattle.rules.specs.declared.status.Want.{Want}
use Rattle.rules.specs.declared.status.Want.TheVariants.{Unknown, Install, Hold, Deinstall, Purge}
use Rattle.status_text.specs.declared.words.Mark.{Mark}

-- a word has a byte at least
abbrev pub is_some_word : List ℕ → Bool
is_some_word [] = false
is_some_word (b ∷ rest) = true

-- the words of a value: what spaces and tabs part
abbrev pub words_of : List ℕ → List (List ℕ)
words_of value = filter is_some_word (slice_split is_white value)

-- the want that the word names
abbrev pub want_named : List ℕ → Option Want
want_named word = find (λ want. bytes_eq word (want_word want)) (Unknown ∷ Install ∷ Hold ∷ Deinstall ∷ Purge ∷ [])

-- the flag that the word names
abbrev pub flag_named : List ℕ → Option Flag
flag_named word = find (λ flag. bytes_eq word (flag_word flag)) (flags.Ok ∷ flags.ReinstallRequired ∷ [])

-- the state that the word names
abbrev pub state_named : List ℕ → Option State
state_named word =
    find (λ state. bytes_eq word (state_word state))
    (NotInstalled ∷ ConfigFiles ∷ HalfInstalled ∷ Unpacked ∷ HalfConfigured ∷ TriggersAwaited ∷ TriggersPending ∷ Installed ∷ [])

-- what these words say, if each names what stands in its place
abbrev pub status_of : List ℕ → List ℕ → List ℕ → Option Mark
status_of want flag state =
    option_and_then (λ wanted. option_and_then (λ flagged. option_map (λ stated. record { want = wanted; flag = flagged; state = stated })
    (state_named state)) (flag_named flag)) (want_named want)

-- what the words say, if they are three
abbrev pub status_in : List (List ℕ) → Option Mark
status_in [] = None
status_in (want ∷ []) = None
status_in (want ∷ flag ∷ []) = None
status_in (want ∷ flag ∷ state ∷ []) = status_of want flag state
status_in (want ∷ flag ∷ state ∷ more ∷ later) = None

-- what a value of the field Status says, if it says anything
unfoldable pub read_words : List ℕ → Option Mark
read_words value = status_in (words_of value)
