-- The objects of pairs and literals (docs/FORMATS.md, "Answers as JSON").
use Rattle.std.specs.Prelude.{ℕ, Bool, true, false, codes}
use Rattle.std.specs.Option.{option_map}
use Rattle.json_answers.specs.Document.{text_or_null}
use Rattle.json_answers.specs.Objects.{with_number}
use Rattle.refutation.specs.declared.literal.Literal.{Literal}
use Rattle.refutation.specs.declared.literal.Literal.TheVariants as literal
use Rattle.rules.specs.Universe.{Universe}
use Rattle.serde_json.specs.Data.{Data, Members, boolean, no_members, object, put}
use Rattle.universe_parts.specs.Parts.{numbered}

-- the members with the number, the name and the version of the pair of this number; the last two are null where there is no such pair
abbrev pub with_pair_of : Universe → ℕ → Members → Members
with_pair_of u place members =
    put (codes "version") (text_or_null (option_map (λ pair. pair.pkg.version) (numbered place u.pairs)))
    (put (codes "name") (text_or_null (option_map (λ pair. pair.pkg.name) (numbered place u.pairs))) (with_number (codes "number") place members))

-- the object of the pair of this number
abbrev pub pair_data : Universe → ℕ → Data
pair_data u place = object (with_pair_of u place no_members)

-- the object of a literal that says of the pair of this number whether it is selected
abbrev pub selected_data : Universe → ℕ → Bool → Data
selected_data u place selected = object (with_pair_of u place (put (codes "selected") (boolean selected) no_members))

-- the object of a literal: that of its pair, and whether it says that the pair is selected
abbrev pub literal_data : Universe → Literal → Data
literal_data u (literal.Selected place) = selected_data u place true
literal_data u (literal.Unselected place) = selected_data u place false
