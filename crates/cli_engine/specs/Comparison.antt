-- Two versions compared by their texts (Policy 5.6.12, deb-version(7)).
use Rattle.std.specs.Prelude.{ℕ, Bool, not, List, Option}
use Rattle.std.specs.Option.{option_map, option_or}
use Rattle.std.specs.Ordering.{is_lt, is_le, is_eq, is_ge, is_gt}
use Rattle.std.specs.declared.cmp.Ordering.{Ordering}
use Rattle.rules.specs.VersionFault.{first_fault}
use Rattle.cli_engine.specs.declared.comparison.Comparison.{Comparison}
use Rattle.cli_engine.specs.declared.comparison.Comparison.TheVariants as relation
use Rattle.inputs.specs.declared.refusal.Fault.TheVariants as fault
use Rattle.inputs.specs.declared.refusal.Input.TheVariants as place
use Rattle.inputs.specs.declared.refusal.Refusal.{Refusal}

-- two versions in this order stand so to each other
abbrev pub holds : Comparison → Ordering → Bool
holds relation.Earlier ordering = is_lt ordering
holds relation.EarlierOrEqual ordering = is_le ordering
holds relation.Equal ordering = is_eq ordering
holds relation.NotEqual ordering = not (is_eq ordering)
holds relation.LaterOrEqual ordering = is_ge ordering
holds relation.Later ordering = is_gt ordering

-- the refusal of the version of this number, by its first fault
abbrev pub version_refusal : ℕ → List ℕ → Option Refusal
version_refusal number text =
    option_map (λ kind. record { place = place.Version number; fault = fault.Version kind }) (first_fault text)

-- the first refusal of two versions: that of the first one, then that of the second
abbrev pub comparison_refusal : List ℕ → List ℕ → Option Refusal
comparison_refusal version other = option_or (version_refusal 1 version) (version_refusal 2 other)
