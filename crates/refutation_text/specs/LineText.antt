-- A line of a refutation as text (this project's own): words with one space between them.
use Rattle.std.specs.Prelude.{ℕ, Bool, true, ◌&&◌, List, [], ◌∷◌, ◌++◌, Option, None, codes, decimal, map, if◌then◌else◌}
use Rattle.std.specs.List.{join_with_byte, list_all}
use Rattle.std.specs.Option.{option_map}
use Rattle.std.specs.Str.{bytes_eq}
use Rattle.rules.specs.Name.{is_name}
use Rattle.refutation.specs.declared.line.Line.{Line}
use Rattle.refutation.specs.declared.line.Line.TheVariants as line
use Rattle.refutation.specs.declared.line.Premise.{Premise}
use Rattle.refutation.specs.declared.line.Premise.TheVariants.{Same, PreDepends, Depends, Conflicts, Breaks, Goal, GoalOn, Hold, Essential, Keep}
use Rattle.plantext.specs.Cut.{parts_at}
use Rattle.refutation_text.specs.Derived.{are_distinct, derived_from, is_some_hint}
use Rattle.refutation_text.specs.Number.{is_literal, is_number, literal_word}
use Rattle.refutation_text.specs.PremiseWords.{premise_by}
use Rattle.plantext.specs.declared.cut.TheConstants.{NEWLINE, SPACE}
use Rattle.refutation_text.specs.declared.limits.TheConstants.{NUMBER, PAIR}

-- Reading

-- the line of this kind about these words, if there is one
abbrev pub line_by : List ℕ → List (List ℕ) → Option Line
line_by kind words = if bytes_eq kind (codes "derive") then derived_from [] words else option_map (λ premise. line.Premise premise) (premise_by kind words)

-- the line of these words, of which the first is its kind's
abbrev pub line_of_words : List (List ℕ) → Option Line
line_of_words [] = None
line_of_words (kind ∷ words) = line_by kind words

-- the line in a text without its newline, if it has one
unfoldable pub line_of : List ℕ → Option Line
line_of text = line_of_words (parts_at SPACE text)

-- Writing

-- the words of a premise
abbrev pub premise_words : Premise → List (List ℕ)
premise_words (Same pair other) = codes "same" ∷ decimal pair ∷ decimal other ∷ []
premise_words (PreDepends pair clause) = codes "predepends" ∷ decimal pair ∷ decimal clause ∷ []
premise_words (Depends pair clause) = codes "depends" ∷ decimal pair ∷ decimal clause ∷ []
premise_words (Conflicts pair other) = codes "conflicts" ∷ decimal pair ∷ decimal other ∷ []
premise_words (Breaks pair other) = codes "breaks" ∷ decimal pair ∷ decimal other ∷ []
premise_words (Goal goal) = codes "goal" ∷ decimal goal ∷ []
premise_words (GoalOn goal pair) = codes "goal" ∷ decimal goal ∷ decimal pair ∷ []
premise_words (Hold pair) = codes "hold" ∷ decimal pair ∷ []
premise_words (Essential name) = codes "essential" ∷ name ∷ []
premise_words (Keep name) = codes "keep" ∷ name ∷ []

-- the words of a line
abbrev pub words_of : Line → List (List ℕ)
words_of (line.Premise premise) = premise_words premise
words_of (line.Derived literals hints) = codes "derive" ∷ map literal_word literals ++ codes ":" ∷ map decimal hints

-- the line with its newline
unfoldable pub line_text : Line → List ℕ
line_text line = join_with_byte SPACE (words_of line) ++ NEWLINE ∷ []

-- each number of the premise is in its range
abbrev pub is_premise_in_range : Premise → Bool
is_premise_in_range (Same pair other) = is_number PAIR pair && is_number PAIR other
is_premise_in_range (PreDepends pair clause) = is_number PAIR pair && is_number NUMBER clause
is_premise_in_range (Depends pair clause) = is_number PAIR pair && is_number NUMBER clause
is_premise_in_range (Conflicts pair other) = is_number PAIR pair && is_number PAIR other
is_premise_in_range (Breaks pair other) = is_number PAIR pair && is_number PAIR other
is_premise_in_range (Goal goal) = is_number NUMBER goal
is_premise_in_range (GoalOn goal pair) = is_number NUMBER goal && is_number PAIR pair
is_premise_in_range (Hold pair) = is_number PAIR pair
is_premise_in_range (Essential name) = true
is_premise_in_range (Keep name) = true

-- the line can be written: its numbers are in range, and a derived one has distinct literals and a hint
abbrev pub is_writable : Line → Bool
is_writable (line.Premise premise) = is_premise_in_range premise
is_writable (line.Derived literals hints) =
    list_all is_literal literals && list_all (is_number NUMBER) hints && (are_distinct literals && is_some_hint hints)

-- what the premise names is a name
abbrev pub is_premise_named : Premise → Bool
is_premise_named (Same pair other) = true
is_premise_named (PreDepends pair clause) = true
is_premise_named (Depends pair clause) = true
is_premise_named (Conflicts pair other) = true
is_premise_named (Breaks pair other) = true
is_premise_named (Goal goal) = true
is_premise_named (GoalOn goal pair) = true
is_premise_named (Hold pair) = true
is_premise_named (Essential name) = is_name name
is_premise_named (Keep name) = is_name name

-- what the line names is a name
abbrev pub is_named : Line → Bool
is_named (line.Premise premise) = is_premise_named premise
is_named (line.Derived literals hints) = true
