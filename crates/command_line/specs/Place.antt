-- Where a word stands among those that are joined.
use Rattle.std.specs.Prelude.{List, Some, None, if◌then◌else◌}
use Rattle.command_line.specs.Joined.{Text, ends_options, joined_behind}
use Rattle.command_line.specs.declared.join.Place.{Place}
use Rattle.command_line.specs.declared.join.Place.TheVariants.{Free, Behind, Operands}

-- what becomes of the words from this place on
abbrev pub left : Place → List Text → List Text
left Free words = joined_behind None words
left (Behind option) words = joined_behind (Some option.now) words
left Operands words = words

-- where the word behind one stands that is no option with a value
abbrev pub place_behind : Text → Place
place_behind word = if ends_options word then Operands else Free
