-- The versions that a record speaks of: the value of its field Pin (apt_preferences(5)). That it is `version`, `release`
-- or `origin`, and what may stand behind each, is this project's own.
use Rattle.std.specs.Prelude.{ℕ, Bool, ◌==◌, List, [], ◌∷◌, ◌++◌, Option, Some, None, is_none, codes, if◌then◌else◌}
use Rattle.std.specs.List.{after_first, before_first, list_any, slice_split}
use Rattle.std.specs.Option.{option_and_then, option_map, option_or}
use Rattle.std.specs.Str.{bytes_eq}
use Rattle.rules.specs.VersionFault.{first_fault}
use Rattle.rules.specs.declared.release.Pin.{Pin}
use Rattle.rules.specs.declared.release.Pin.TheVariants as pin
use Rattle.rules.specs.declared.release.ReleaseItem.{ReleaseItem}
use Rattle.rules.specs.declared.release.ReleaseKey.{ReleaseKey}
use Rattle.rules.specs.declared.release.ReleaseKey.TheVariants as key
use Rattle.pins.specs.Words.{after_word, before_last, ends_with_byte, is_newline, is_nothing, trim, word_of}

-- the text, if it is a version (deb-version(7))
abbrev pub version_in : List ℕ → Option (List ℕ)
version_in text = if is_none (first_fault text) then Some text else None

-- the pin by a version or by its beginning, which ends with `*`
abbrev pub version_pin : List ℕ → Option Pin
version_pin text = option_or (option_map (λ beginning. pin.VersionBeginning beginning) (before_last 42 text))
    (option_map (λ version. pin.Version version) (version_in text))

-- the key that a text names
abbrev pub key_of : List ℕ → Option ReleaseKey
key_of text =
    if bytes_eq text (codes "a") then Some key.Archive
    else if bytes_eq text (codes "n") then Some key.Codename
    else if bytes_eq text (codes "v") then Some key.Version
    else if bytes_eq text (codes "c") then Some key.Component
    else if bytes_eq text (codes "o") then Some key.Origin
    else if bytes_eq text (codes "l") then Some key.Label
    else None

-- the byte between a key and its value
abbrev pub is_equals : ℕ → Bool
is_equals b = b == 61

-- the item with this value, unless the value is empty
abbrev pub item_with : List ℕ → ReleaseKey → Option ReleaseItem
item_with value key = if is_nothing value then None else Some (record { key = key; value = value })

-- the item that a text is: its key stands before the first `=`, and its value behind that. Without one there is no value
abbrev pub item_of : List ℕ → Option ReleaseItem
item_of text = option_and_then (item_with (after_first is_equals text)) (key_of (before_first is_equals text))

-- the byte between items
abbrev pub is_comma : ℕ → Bool
is_comma b = b == 44

-- these items and then the later ones, if there are any to be had
abbrev pub with_items : List ReleaseItem → Option (List ReleaseItem) → Option (List ReleaseItem)
with_items items later = option_map (λ further. items ++ further) later

-- the item and then the later ones, if it is one
abbrev pub with_item : Option ReleaseItem → Option (List ReleaseItem) → Option (List ReleaseItem)
with_item item later = option_and_then (λ first. with_items (first ∷ []) later) item

-- the items that these texts are, white space at their ends apart, if each is one
abbrev pub items_in : List (List ℕ) → Option (List ReleaseItem)
items_in [] = Some []
items_in (text ∷ later) = with_item (item_of (trim text)) (items_in later)

-- the pin by release keys: what stands between commas are its items
abbrev pub release_pin : List ℕ → Option Pin
release_pin text = option_map (λ items. pin.Release items) (items_in (slice_split is_comma text))

-- the host that a text without a quotation mark at its front is: it has none at its end
abbrev pub bare_host : List ℕ → Option (List ℕ)
bare_host text = if ends_with_byte 34 text then None else Some text

-- the host that a text is, if it is one: between two quotation marks it may be empty
abbrev pub host_of : List ℕ → Option (List ℕ)
host_of [] = None
host_of (b ∷ rest) = if b == 34 then before_last 34 rest else bare_host (b ∷ rest)

-- the pin by the host that a text is
abbrev pub origin_pin : List ℕ → Option Pin
origin_pin text = option_map (λ host. pin.Origin host) (host_of text)

-- the pin of this word with what follows it, if there is one
abbrev pub pin_by : List ℕ → List ℕ → Option Pin
pin_by word text =
    if bytes_eq word (codes "version") then version_pin text
    else if bytes_eq word (codes "release") then release_pin text
    else if bytes_eq word (codes "origin") then origin_pin text
    else None

-- the pin that a value writes on one line, if it does
abbrev pub pin_of : List ℕ → Option Pin
pin_of value = if list_any is_newline value then None else pin_by (word_of value) (after_word value)
