-- A line of a refutation whose pairs are named, as text (this project's own): words with one space between them.
use Rattle.std.specs.Prelude.{ℕ, Bool, true, ◌&&◌, List, [], ◌∷◌, ◌++◌, Option, None, codes, decimal, map, if◌then◌else◌}
use Rattle.std.specs.List.{flat_map, join_with_byte, list_all}
use Rattle.std.specs.Option.{is_none, option_map}
use Rattle.std.specs.Str.{bytes_eq}
use Rattle.plantext.specs.Cut.{parts_at}
use Rattle.plantext.specs.declared.cut.TheConstants.{NEWLINE, SPACE}
use Rattle.rules.specs.Name.{is_name}
use Rattle.rules.specs.VersionFault.{first_fault}
use Rattle.refutation_text.specs.Derived.{is_some_hint}
use Rattle.refutation_text.specs.Number.{is_number}
use Rattle.refutation_text.specs.declared.limits.TheConstants.{NUMBER}
use Rattle.named_refutation.specs.Derived.{are_distinct, derived_from, literal_words}
use Rattle.named_refutation.specs.PremiseWords.{premise_by}
use Rattle.named_refutation.specs.declared.named.NamedLine.{NamedLine}
use Rattle.named_refutation.specs.declared.named.NamedLine.TheVariants as line
use Rattle.named_refutation.specs.declared.named.NamedLiteral.{NamedLiteral}
use Rattle.named_refutation.specs.declared.named.NamedLiteral.TheVariants.{Selected, Unselected}
use Rattle.named_refutation.specs.declared.named.NamedPair.{NamedPair}
use Rattle.named_refutation.specs.declared.named.NamedPremise.{NamedPremise}
use Rattle.named_refutation.specs.declared.named.NamedPremise.TheVariants.{Same, PreDepends, Depends, Conflicts, Breaks, Goal, GoalOn, Hold, Essential, Keep}

-- Reading

-- the line of this kind about these words, if there is one
abbrev pub line_by : List ℕ → List (List ℕ) → Option NamedLine
line_by kind words = if bytes_eq kind (codes "derive") then derived_from [] words else option_map (λ premise. line.Premise premise) (premise_by kind words)

-- the line of these words, of which the first is its kind's
abbrev pub line_of_words : List (List ℕ) → Option NamedLine
line_of_words [] = None
line_of_words (kind ∷ words) = line_by kind words

-- the line in a text without its newline, if it has one
unfoldable pub line_of : List ℕ → Option NamedLine
line_of text = line_of_words (parts_at SPACE text)

-- Writing

-- the words of a premise
abbrev pub premise_words : NamedPremise → List (List ℕ)
premise_words (Same pair other) = codes "same" ∷ pair.name ∷ pair.version ∷ other.name ∷ other.version ∷ []
premise_words (PreDepends pair clause) = codes "predepends" ∷ pair.name ∷ pair.version ∷ decimal clause ∷ []
premise_words (Depends pair clause) = codes "depends" ∷ pair.name ∷ pair.version ∷ decimal clause ∷ []
premise_words (Conflicts pair other) = codes "conflicts" ∷ pair.name ∷ pair.version ∷ other.name ∷ other.version ∷ []
premise_words (Breaks pair other) = codes "breaks" ∷ pair.name ∷ pair.version ∷ other.name ∷ other.version ∷ []
premise_words (Goal goal) = codes "goal" ∷ decimal goal ∷ []
premise_words (GoalOn goal pair) = codes "goal" ∷ decimal goal ∷ pair.name ∷ pair.version ∷ []
premise_words (Hold pair) = codes "hold" ∷ pair.name ∷ pair.version ∷ []
premise_words (Essential name) = codes "essential" ∷ name ∷ []
premise_words (Keep name) = codes "keep" ∷ name ∷ []

-- the words of a line
abbrev pub words_of : NamedLine → List (List ℕ)
words_of (line.Premise premise) = premise_words premise
words_of (line.Derived literals hints) = codes "derive" ∷ flat_map literal_words literals ++ codes ":" ∷ map decimal hints

-- the line with its newline
unfoldable pub line_text : NamedLine → List ℕ
line_text line = join_with_byte SPACE (words_of line) ++ NEWLINE ∷ []

-- each number of the premise is in its range
abbrev pub is_premise_in_range : NamedPremise → Bool
is_premise_in_range (Same pair other) = true
is_premise_in_range (PreDepends pair clause) = is_number NUMBER clause
is_premise_in_range (Depends pair clause) = is_number NUMBER clause
is_premise_in_range (Conflicts pair other) = true
is_premise_in_range (Breaks pair other) = true
is_premise_in_range (Goal goal) = is_number NUMBER goal
is_premise_in_range (GoalOn goal pair) = is_number NUMBER goal
is_premise_in_range (Hold pair) = true
is_premise_in_range (Essential name) = true
is_premise_in_range (Keep name) = true

-- the line can be written: its numbers are in range, and a derived one has distinct literals and a hint
abbrev pub is_writable : NamedLine → Bool
is_writable (line.Premise premise) = is_premise_in_range premise
is_writable (line.Derived literals hints) = list_all (is_number NUMBER) hints && (are_distinct literals && is_some_hint hints)

-- the pair has a name and a version
abbrev pub is_pair : NamedPair → Bool
is_pair pair = is_name pair.name && is_none (first_fault pair.version)

-- the literal is of a name and a version
abbrev pub is_literal : NamedLiteral → Bool
is_literal (Selected pair) = is_pair pair
is_literal (Unselected pair) = is_pair pair

-- what the premise names has a name, and of pairs a version
abbrev pub is_premise_named : NamedPremise → Bool
is_premise_named (Same pair other) = is_pair pair && is_pair other
is_premise_named (PreDepends pair clause) = is_pair pair
is_premise_named (Depends pair clause) = is_pair pair
is_premise_named (Conflicts pair other) = is_pair pair && is_pair other
is_premise_named (Breaks pair other) = is_pair pair && is_pair other
is_premise_named (Goal goal) = true
is_premise_named (GoalOn goal pair) = is_pair pair
is_premise_named (Hold pair) = is_pair pair
is_premise_named (Essential name) = is_name name
is_premise_named (Keep name) = is_name name

-- what the line names has a name, and of pairs a version
abbrev pub is_named : NamedLine → Bool
is_named (line.Premise premise) = is_premise_named premise
is_named (line.Derived literals hints) = list_all is_literal literals
