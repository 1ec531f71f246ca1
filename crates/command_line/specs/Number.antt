-- The numbers that words of the command line write: the limit of a search, and a shard.
use Rattle.std.specs.Prelude.{◌==◌, ◌&&◌, ◌^◌, ℕ, Bool, [], ◌∷◌, Option, Some, None, false, length, nat_le, nat_lt, if◌then◌else◌}
use Rattle.std.specs.Char.{is_ascii_digit}
use Rattle.std.specs.List.{after_first, before_first, list_all}
use Rattle.std.specs.Str.Parse.{digits_value}
use Rattle.command_line.specs.Joined.{Text}
use Rattle.command_line.specs.declared.call.ShardNumber.{ShardNumber}

-- the word is a number as each text of the program writes it: in decimal, without a sign, and with no zero before others
abbrev pub is_number : Text → Bool
is_number [] = false
is_number (digit ∷ digits) = if digit == 48 then length digits == 0 else is_ascii_digit digit && list_all is_ascii_digit digits

-- the number of 32 bits that a word writes, if it does
abbrev pub number_of : Text → Option ℕ
number_of word = if is_number word && nat_lt (digits_value 10 word) (2 ^ 32) then Some (digits_value 10 word) else None

-- the limit where none is given
abbrev pub default_limit : ℕ
default_limit = 100000

-- the limit that the value of `--limit` writes, or that there is without one
abbrev pub limit_of : Option Text → Option ℕ
limit_of None = Some default_limit
limit_of (Some word) = number_of word

-- the shard of these numbers, where the first is from 1 to the second
abbrev pub shard_by : Option ℕ → Option ℕ → Option ShardNumber
shard_by (Some number) (Some count) = if nat_le 1 number && nat_le number count
    then Some (record { number = number; of = count }) else None
shard_by _ _ = None

-- the shard K/N that a word writes, by the numbers before and behind its first `/` (47)
abbrev pub shard_named : Text → Option ShardNumber
shard_named word = shard_by (number_of (before_first (λ byte. byte == 47) word)) (number_of (after_first (λ byte. byte == 47) word))

-- the shard where none is given: all
abbrev pub whole_shard : ShardNumber
whole_shard = record { number = 1; of = 1 }

-- the shard that the value of `--shard` writes, or all without one
abbrev pub shard_of : Option Text → Option ShardNumber
shard_of None = Some whole_shard
shard_of (Some word) = shard_named word
