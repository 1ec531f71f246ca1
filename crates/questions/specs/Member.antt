-- What a member of a question says, where it is of its kind, and what it says where it is absent.
use Rattle.std.specs.Prelude.{ℕ, ◌^◌, ◌==◌, ◌&&◌, List, [], ◌∷◌, Bool, true, false, Option, Some, None, bytes_eq, if◌then◌else◌, nat_lt, option_and_then, option_map, unwrap_or}
use Rattle.std.specs.List.{list_any}
use Rattle.serde_json.specs.Data.{Data, Items, no_items, item, Members, no_members, member}
use Rattle.serde_json.specs.Find.{as_array, as_bool, as_number, as_object, as_str, as_u64}

-- the strings that items are, where each is one
abbrev pub strings_in : Items → Option (List (List ℕ))
strings_in no_items = Some []
strings_in (item first later) =
    option_and_then (λ text. option_map (λ texts. text ∷ texts) (strings_in later)) (as_str first)

-- the strings that a value is an array of
abbrev pub strings_of : Data → Option (List (List ℕ))
strings_of value = option_and_then strings_in (as_array value)

-- the strings of a member, which are none where it is absent
abbrev pub strings_or_none : Option Data → Option (List (List ℕ))
strings_or_none None = Some []
strings_or_none (Some value) = strings_of value

-- whether a member is `true`, which it isn't where it is absent
abbrev pub flag_of : Option Data → Option Bool
flag_of None = Some false
flag_of (Some value) = as_bool value

-- the integer from 0 on that a value is
abbrev pub natural_of : Data → Option ℕ
natural_of value = option_and_then as_u64 (as_number value)

-- a number of 32 bits
abbrev pub within_32_bits : ℕ → Option ℕ
within_32_bits n = if nat_lt n (2 ^ 32) then Some n else None

-- the limit that a member sets, which is none where it is absent
abbrev pub limit_of : Option Data → Option (Option ℕ)
limit_of None = Some None
limit_of (Some value) = option_map Some (option_and_then within_32_bits (natural_of value))

-- whether pairs are named in the format of refutations with this number
abbrev pub names_pairs : ℕ → Option Bool
names_pairs n = if n == 1 then Some false else (if n == 2 then Some true else None)

-- whether pairs are named in the format that a member has the number of, which is the first where it is absent
abbrev pub names_pairs_by : Option Data → Option Bool
names_pairs_by None = Some false
names_pairs_by (Some value) = option_and_then names_pairs (natural_of value)

-- whether a key is one of the names
abbrev pub is_among : List (List ℕ) → List ℕ → Bool
is_among names key = list_any (λ name. bytes_eq name key) names

-- whether each member's key is one of the names
abbrev pub are_among : List (List ℕ) → Members → Bool
are_among names no_members = true
are_among names (member key value others) = is_among names key && are_among names others

-- whether a value is an object whose members' keys are all among the names
abbrev pub has_only : List (List ℕ) → Data → Bool
has_only names value = unwrap_or (option_map (are_among names) (as_object value)) false
