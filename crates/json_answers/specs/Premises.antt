-- What the object of a premise says (docs/FORMATS.md, "Answers as JSON").
use Rattle.std.specs.Prelude.{◌≡◌, ◌++◌, ◌∷◌, ℕ, List, Option, None, Some, codes}
use Rattle.std.specs.List.{All}
use Rattle.std.specs.Option.{option_and_then, option_map}
use Rattle.json_answers.specs.Document.{text_data}
use Rattle.json_answers.specs.Objects.{with_number, with_text}
use Rattle.json_answers.specs.Pairs.{pair_data}
use Rattle.json_answers.specs.Words.{atom_text, clause_text, goal_text}
use Rattle.refutation.specs.declared.line.Premise.{Premise}
use Rattle.refutation.specs.declared.line.Premise.TheVariants as premise
use Rattle.rules.specs.Package.{Atom, Matches, Pkg}
use Rattle.rules.specs.Universe.{Universe}
use Rattle.serde_json.specs.Data.{Members, put}
use Rattle.universe_parts.specs.Parts.{numbered}

-- What premises speak of

-- the word that a premise begins with
abbrev pub premise_word : Premise → List ℕ
premise_word (premise.Same pair other) = codes "same"
premise_word (premise.PreDepends pair clause) = codes "predepends"
premise_word (premise.Depends pair clause) = codes "depends"
premise_word (premise.Conflicts pair other) = codes "conflicts"
premise_word (premise.Breaks pair other) = codes "breaks"
premise_word (premise.Goal goal) = codes "goal"
premise_word (premise.GoalOn goal pair) = codes "goal"
premise_word (premise.Hold pair) = codes "hold"
premise_word (premise.Essential name) = codes "essential"
premise_word (premise.Keep name) = codes "keep"

-- the members with a pair
abbrev pub with_pair : Universe → ℕ → Members → Members
with_pair u pair members = put (codes "pair") (pair_data u pair) members

-- the members with two pairs
abbrev pub with_pairs : Universe → ℕ → ℕ → Members → Members
with_pairs u pair other members = put (codes "other") (pair_data u other) (with_pair u pair members)

-- the members with what a premise names
abbrev pub with_named : Universe → Premise → Members → Members
with_named u (premise.Same pair other) members = with_pairs u pair other members
with_named u (premise.PreDepends pair clause) members = with_number (codes "clause") clause (with_pair u pair members)
with_named u (premise.Depends pair clause) members = with_number (codes "clause") clause (with_pair u pair members)
with_named u (premise.Conflicts pair other) members = with_pairs u pair other members
with_named u (premise.Breaks pair other) members = with_pairs u pair other members
with_named u (premise.Goal goal) members = with_number (codes "goal") goal members
with_named u (premise.GoalOn goal pair) members = with_number (codes "goal") goal (with_pair u pair members)
with_named u (premise.Hold pair) members = with_pair u pair members
with_named u (premise.Essential name) members = put (codes "name") (text_data name) members
with_named u (premise.Keep name) members = put (codes "name") (text_data name) members

-- the members with the word of a premise and what it names
abbrev pub with_word : Universe → Premise → Members → Members
with_word u given members = with_named u given (with_text (codes "premise") (premise_word given) members)

-- Their texts

-- the package of the pair of this number, if there is one
abbrev pub package_at : Universe → ℕ → Option Pkg
package_at u place = option_map (λ pair. pair.pkg) (numbered place u.pairs)

-- the text of the clause of this number, counted from 1, if there is one
abbrev pub clause_text_at : ℕ → List (List Atom) → Option (List ℕ)
clause_text_at place clauses = option_map clause_text (numbered place clauses)

-- the atom is the first of these that the package matches, if there is one
abbrev pub IsFirstMatched : Pkg → List Atom → Option Atom → Type 0
IsFirstMatched pkg atoms None = All (λ atom. ¬ Matches pkg atom) atoms
IsFirstMatched pkg atoms (Some first) = (before : List Atom) × (behind : List Atom) × (atoms ≡ before ++ first ∷ behind)
    × All (λ atom. ¬ Matches pkg atom) before × Matches pkg first

-- the text is that of the first of these atoms that the package matches, if there is one
abbrev pub IsMatchedText : Pkg → List Atom → Option (List ℕ) → Type 0
IsMatchedText pkg atoms text = (first : Option Atom) × IsFirstMatched pkg atoms first × (text ≡ option_map atom_text first)

-- the text is that of the first atom of this field of the first package that the second one matches, if both are there and there is one
abbrev pub IsTextBetween : (Pkg → List Atom) → Option Pkg → Option Pkg → Option (List ℕ) → Type 0
IsTextBetween field (Some pkg) (Some against) text = IsMatchedText against (field pkg) text
IsTextBetween field pkg against text = text ≡ None

-- the text is that of the clause, the atom or the goal that a premise speaks of, if there is one
abbrev pub IsTextOf : Universe → Premise → Option (List ℕ) → Type 0
IsTextOf u (premise.Same pair other) text = text ≡ None
IsTextOf u (premise.PreDepends pair clause) text =
    text ≡ option_and_then (λ pkg. clause_text_at clause pkg.relations.pre_depends) (package_at u pair)
IsTextOf u (premise.Depends pair clause) text =
    text ≡ option_and_then (λ pkg. clause_text_at clause pkg.relations.depends) (package_at u pair)
IsTextOf u (premise.Conflicts pair other) text =
    IsTextBetween (λ pkg. pkg.relations.conflicts) (package_at u pair) (package_at u other) text
IsTextOf u (premise.Breaks pair other) text =
    IsTextBetween (λ pkg. pkg.relations.breaks) (package_at u pair) (package_at u other) text
IsTextOf u (premise.Goal goal) text = text ≡ option_map goal_text (numbered goal u.goals)
IsTextOf u (premise.GoalOn goal pair) text = text ≡ option_map goal_text (numbered goal u.goals)
IsTextOf u (premise.Hold pair) text = text ≡ None
IsTextOf u (premise.Essential name) text = text ≡ None
IsTextOf u (premise.Keep name) text = text ≡ None

-- the members with a text, if there is one
abbrev pub with_any_text : Option (List ℕ) → Members → Members
with_any_text None members = members
with_any_text (Some text) members = put (codes "text") (text_data text) members

-- the members with what a premise says, and with this text
abbrev pub with_premise : Universe → Premise → Option (List ℕ) → Members → Members
with_premise u given text members = with_any_text text (with_word u given members)
