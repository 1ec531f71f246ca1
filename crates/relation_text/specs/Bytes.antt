-- The bytes of relation fields (Policy 7.1).
use Rattle.std.specs.Prelude.{ℕ, Bool, ◌==◌, ◌||◌}
use Rattle.std.specs.Char.{is_ascii_alphanumeric}

-- white space: a space, a tab or a newline
abbrev pub is_white : ℕ → Bool
is_white b = b == 32 || b == 9 || b == 10

-- the byte between clauses, and between atoms that are no alternatives
abbrev pub is_comma : ℕ → Bool
is_comma b = b == 44

-- the byte between alternatives
abbrev pub is_bar : ℕ → Bool
is_bar b = b == 124

-- the byte before a qualifier
abbrev pub is_colon : ℕ → Bool
is_colon b = b == 58

-- the byte that opens a restriction
abbrev pub is_opening : ℕ → Bool
is_opening b = b == 40

-- the byte that closes a restriction
abbrev pub is_closing : ℕ → Bool
is_closing b = b == 41

-- the byte of earlier versions
abbrev pub is_less : ℕ → Bool
is_less b = b == 60

-- the byte of equality
abbrev pub is_equals : ℕ → Bool
is_equals b = b == 61

-- the byte of later versions
abbrev pub is_greater : ℕ → Bool
is_greater b = b == 62

-- a byte of an operator
abbrev pub is_operator_byte : ℕ → Bool
is_operator_byte b = is_less b || is_equals b || is_greater b

-- a byte of a qualifier after its first: a letter, a digit or a hyphen
abbrev pub is_qualifier_byte : ℕ → Bool
is_qualifier_byte b = is_ascii_alphanumeric b || b == 45

-- a byte of a version: a letter, a digit or one of `. + - : ~`
abbrev pub is_version_byte : ℕ → Bool
is_version_byte b = is_ascii_alphanumeric b || b == 46 || b == 43 || b == 45 || b == 58 || b == 126
