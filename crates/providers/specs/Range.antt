-- The offers of one name in order of their versions, and where a version cuts them (Policy 7.1).
use Rattle.std.specs.Prelude.{◌≡◌, ◌<◌, ℕ, Bool, true, is_some, List, Some}
use Rattle.std.specs.List.{All, AllPairs}
use Rattle.std.specs.Option.{option_cmp}
use Rattle.std.specs.Ordering.{is_le, is_lt}
use Rattle.std.specs.declared.cmp.Ordering.{Ordering}
use Rattle.rules.specs.Version.{version_cmp}
use Rattle.providers.specs.Offers.{Offer}
use Rattle.providers.specs.declared.range.Cut.{Cut}
use Rattle.providers.specs.declared.range.Cut.TheVariants.{Before, Behind}

-- each offer's version isn't behind that of a later offer, and none is before each version
abbrev pub IsRun : List Offer → Type 0
IsRun offers = AllPairs (λ earlier later. is_le (option_cmp version_cmp earlier.version later.version) ≡ true) offers

-- each of the offers has a version
abbrev pub AreVersioned : List Offer → Type 0
AreVersioned offers = All (λ offer. is_some offer.version ≡ true) offers

-- between these two counts a comparison was counted, unless the first is as large as a count gets
abbrev pub IsCounted : ℕ → ℕ → Type 0
IsCounted old new = old < 18446744073709551615 → old < new

-- what compares so to a version stands in front of the cut before the version, or of that behind it
abbrev pub is_in_front : Cut → Ordering → Bool
is_in_front Before ordering = is_lt ordering
is_in_front Behind ordering = is_le ordering

-- the offer stands in front of the cut at the version
abbrev pub stands_in_front : Cut → List ℕ → Offer → Bool
stands_in_front cut version offer = is_in_front cut (option_cmp version_cmp offer.version (Some version))
