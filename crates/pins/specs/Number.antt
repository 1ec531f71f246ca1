-- The priority that a record gives: the value of its field Pin-Priority, from -32768 to 32767 (apt_preferences(5)).
use Rattle.std.specs.Prelude.{ℕ, ℤ, pos, neg_ℤ, ◌==◌, nat_le, ◌&&◌, List, [], ◌∷◌, Option, Some, None, if◌then◌else◌}
use Rattle.std.specs.Option.{option_map}
use Rattle.std.specs.Str.Parse.{digits_value}
use Rattle.rules.specs.VersionFault.{is_numeral}

-- the number that digits write, if they are digits alone and it isn't above this bound
abbrev pub value_up_to : ℕ → List ℕ → Option ℕ
value_up_to most digits = if is_numeral digits && nat_le (digits_value 10 digits) most then Some (digits_value 10 digits) else None

-- the greatest priority
abbrev pub greatest : ℕ
greatest = 32767

-- how far below 0 the least priority is
abbrev pub greatest_below : ℕ
greatest_below = 32768

-- the priority that digits write
abbrev pub upward : List ℕ → Option ℤ
upward digits = option_map pos (value_up_to greatest digits)

-- the priority that digits behind a minus write
abbrev pub downward : List ℕ → Option ℤ
downward digits = option_map (λ value. neg_ℤ (pos value)) (value_up_to greatest_below digits)

-- the priority that a value writes, if it does: a sign may stand before its digits
abbrev pub number_of : List ℕ → Option ℤ
number_of [] = None
number_of (b ∷ digits) = if b == 45 then downward digits else if b == 43 then upward digits else upward (b ∷ digits)
