-- The first fault of a text that is to be a version, `[epoch:]upstream[-revision]` (Policy 5.6.12, deb-version(7)):
-- none where the text is a version.
use Rattle.std.specs.Prelude.{ℕ, Bool, not, ◌&&◌, ◌||◌, ◌==◌, List, length, nat_lt, if◌then◌else◌}
use Rattle.std.specs.Prelude.{Option, Some, None}
use Rattle.std.specs.Char.{is_ascii_alphanumeric, is_ascii_digit}
use Rattle.std.specs.List.{list_all, list_any}
use Rattle.std.specs.Option.{option_or}
use Rattle.std.specs.Str.Parse.{digits_value}
use Rattle.rules.specs.Version.{after_epoch, after_upstream, before_revision, epoch_of, is_colon, is_hyphen, is_tilde}
use Rattle.rules.specs.declared.bad_version.BadVersion.{BadVersion}
use Rattle.rules.specs.declared.bad_version.BadVersion.TheVariants.{BadByte, BadEpoch, Empty, EmptyRevision, EmptyUpstream, EpochTooLarge}

-- the greatest epoch (this project's own choice, and dpkg's)
abbrev pub greatest_epoch : ℕ
greatest_epoch = 2147483647

-- nothing is written
abbrev pub is_nothing : List ℕ → Bool
is_nothing bytes = length bytes == 0

-- one digit or more, and nothing else
abbrev pub is_numeral : List ℕ → Bool
is_numeral bytes = not (is_nothing bytes) && list_all is_ascii_digit bytes

-- the fault of an epoch: it is no numeral, or its value is too large
abbrev pub epoch_fault : List ℕ → Option BadVersion
epoch_fault epoch =
    if not (is_numeral epoch) then Some BadEpoch
    else if nat_lt greatest_epoch (digits_value 10 epoch) then Some EpochTooLarge
    else None

-- a byte of a revision: a letter, a digit or one of `+ . ~`
abbrev pub is_revision_byte : ℕ → Bool
is_revision_byte b = is_ascii_alphanumeric b || (b == 43 || (b == 46 || is_tilde b))

-- a byte of an upstream version: one of a revision, a hyphen or a colon
abbrev pub is_upstream_byte : ℕ → Bool
is_upstream_byte b = is_revision_byte b || (is_hyphen b || is_colon b)

-- a hyphen with nothing after it
abbrev pub has_empty_revision : List ℕ → Bool
has_empty_revision rest = list_any is_hyphen rest && is_nothing (after_upstream rest)

-- each byte is one that its part may have
abbrev pub has_good_bytes : List ℕ → Bool
has_good_bytes rest = list_all is_upstream_byte (before_revision rest) && list_all is_revision_byte (after_upstream rest)

-- the first fault of what follows the epoch: no upstream version, an empty revision, or a byte that may not stand there
abbrev pub rest_fault : List ℕ → Option BadVersion
rest_fault rest =
    if is_nothing (before_revision rest) then Some EmptyUpstream
    else if has_empty_revision rest then Some EmptyRevision
    else if not (has_good_bytes rest) then Some BadByte
    else None

-- the fault of the epoch of a text, which it has where it has a colon
abbrev pub text_epoch_fault : List ℕ → Option BadVersion
text_epoch_fault text = if list_any is_colon text then epoch_fault (epoch_of text) else None

-- the first fault of a text: it is empty, or its epoch has a fault, or what follows the epoch has
unfoldable pub first_fault : List ℕ → Option BadVersion
first_fault text =
    if is_nothing text then Some Empty
    else option_or (text_epoch_fault text) (rest_fault (after_epoch text))
