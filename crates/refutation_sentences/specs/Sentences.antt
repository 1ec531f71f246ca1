-- The sentence on a premise of a refutation (this project's own form): names and versions, relations as their fields have them, and the
-- pairs that satisfy them.
use Rattle.std.specs.Prelude.{◌≡◌, ◌↔◌, ◌⊎◌, ◌++◌, ℕ, List, [], ⊤, Option, Some, Bool, codes, if◌then◌else◌, false}
use Rattle.std.specs.List.{All, Contains, flat_map}
use Rattle.index.specs.Index.{ReadIndex}
use Rattle.input_notes.specs.Inputs.{stanzas_of}
use Rattle.phrases.specs.Phrases.{clause_words, versioned, wanted_words}
use Rattle.refutation_sentences.specs.Causes.{AreCausesTold}
use Rattle.refutation_sentences.specs.GoalCauses.{IsInstallCauseTold, IsUpgradeCauseTold}
use Rattle.refutation_sentences.specs.Offers.{IsHighestOf, IsLeftOutFit}
use Rattle.refutation_sentences.specs.Reasons.{IsReasonTold}
use Rattle.refutation_sentences.specs.Words.{package_at, pair_words, satisfying}
use Rattle.rules.specs.Step.{IndexPackage}
use Rattle.rules.specs.Package.{Atom, Matches, Pkg}
use Rattle.rules.specs.Universe.{Universe}
use Rattle.rules.specs.declared.goal.Goal.{Goal}
use Rattle.rules.specs.declared.goal.Goal.TheVariants as goal
use Rattle.rules.specs.declared.goal.Restriction.{Restriction}
use Rattle.refutation.specs.Clause.{HasAt, IsListOf, item_at}
use Rattle.refutation.specs.Premise.{IsInPremise, IsPremise}
use Rattle.refutation.specs.declared.line.Line.{Line}
use Rattle.refutation.specs.declared.line.Line.TheVariants as line
use Rattle.refutation.specs.declared.line.Premise.{Premise}
use Rattle.refutation.specs.declared.line.Premise.TheVariants as premise
use Rattle.refutation.specs.declared.literal.Literal.TheVariants as literal
use Rattle.refutation_sentences.specs.declared.against.Field.{Field}
use Rattle.refutation_sentences.specs.declared.against.Field.TheVariants as field
use Rattle.refutation_sentences.specs.declared.basis.Basis.{Basis}

-- that a pair needs one of these alternatives, which these pairs alone satisfy, or why none satisfies any
abbrev pub IsNeedTold : Universe → List ReadIndex → ℕ → List ℕ → List ℕ → List Atom → List ℕ → Type 0
IsNeedTold u indices number verb numbers atoms said = (why : List ℕ)
    × (said ≡ pair_words u number ++ (verb ++ (clause_words atoms ++ satisfying u numbers why)))
    × (numbers ≡ [] → AreCausesTold u indices atoms why)

-- so of the clause of this number of a field of the pair
abbrev pub IsNeedAt : Universe → List ReadIndex → ℕ → List ℕ → (Pkg → List (List Atom)) → ℕ → List ℕ → List ℕ → Type 0
IsNeedAt u indices number verb clauses_of clause numbers said = (pkg : Pkg) (atoms : List Atom) → package_at u number ≡ Some pkg
    → item_at (clauses_of pkg) clause ≡ Some atoms → IsNeedTold u indices number verb numbers atoms said

-- nothing, or by which name of these atoms the package matches one
abbrev pub IsProvidedWord : Pkg → List Atom → List ℕ → Type 0
IsProvidedWord pkg atoms words =
    (words ≡ []) ⊎ ((atom : Atom) × Contains atoms atom × Matches pkg atom × (words ≡ codes ", which provides " ++ atom.name))

-- what a package does by a field (Policy 7.3, 7.4)
abbrev pub verb_of : Field → List ℕ
verb_of field.Conflicts = codes " conflicts with "
verb_of field.Breaks = codes " breaks "

-- the atoms of the field
abbrev pub atoms_of : Field → Pkg → List Atom
atoms_of field.Conflicts pkg = pkg.relations.conflicts
atoms_of field.Breaks pkg = pkg.relations.breaks

-- that the first pair is against the second, by this field and by which name
abbrev pub IsAgainstTold : Universe → Field → ℕ → ℕ → List ℕ → Type 0
IsAgainstTold u by number other said = (provided : List ℕ)
    × (said ≡ pair_words u number ++ (verb_of by ++ (pair_words u other ++ provided)))
    × ((pkg against : Pkg) → package_at u number ≡ Some pkg → package_at u other ≡ Some against
    → IsProvidedWord against (atoms_of by pkg) provided)

-- that two pairs are of one name
abbrev pub same_words : Universe → ℕ → ℕ → List ℕ
same_words u number other =
    pair_words u number ++ (codes " and " ++ (pair_words u other ++ codes " are two versions of one package"))

-- what an install goal asks for
abbrev pub install_of : List ℕ → Option Restriction → Atom
install_of name restriction = record { name = name; restriction = restriction; foreign = false }

-- what a goal asks for, which these pairs alone are, or why none is
abbrev pub IsGoalTold : Universe → List ReadIndex → List ℕ → Goal → List ℕ → Type 0
IsGoalTold u indices numbers (goal.Install name restriction) said = (why : List ℕ)
    × (said ≡ codes "You ask for " ++ (wanted_words name restriction ++ satisfying u numbers why))
    × (numbers ≡ [] → IsInstallCauseTold u indices (install_of name restriction) why)
IsGoalTold u indices numbers (goal.Upgrade name) said = (why : List ℕ)
    × (said ≡ codes "You ask to upgrade " ++ (name ++ satisfying u numbers why))
    × (numbers ≡ [] → IsUpgradeCauseTold u indices name why)
IsGoalTold u indices numbers asked said = ⊤

-- what a goal says of a pair by itself
abbrev pub IsGoalOnTold : Universe → ℕ → Goal → List ℕ → Type 0
IsGoalOnTold u pair (goal.Remove name) said = said ≡ codes "You ask to remove " ++ name
IsGoalOnTold u pair (goal.Purge name) said = said ≡ codes "You ask to purge " ++ name
IsGoalOnTold u pair goal.UpgradeAll said = said ≡ codes "upgrade-all asks for " ++ pair_words u pair
IsGoalOnTold u pair asked said = ⊤

-- what is said tells the premise, which these pairs alone satisfy
abbrev pub IsTold : Universe → List ReadIndex → Premise → List ℕ → List ℕ → Type 0
IsTold u indices (premise.Same number other) numbers said = said ≡ same_words u number other
IsTold u indices (premise.PreDepends number clause) numbers said =
    IsNeedAt u indices number (codes " pre-depends on ") (λ pkg. pkg.relations.pre_depends) clause numbers said
IsTold u indices (premise.Depends number clause) numbers said =
    IsNeedAt u indices number (codes " depends on ") (λ pkg. pkg.relations.depends) clause numbers said
IsTold u indices (premise.Conflicts number other) numbers said = IsAgainstTold u field.Conflicts number other said
IsTold u indices (premise.Breaks number other) numbers said = IsAgainstTold u field.Breaks number other said
IsTold u indices (premise.Goal number) numbers said =
    (asked : Goal) → item_at u.goals number ≡ Some asked → IsGoalTold u indices numbers asked said
IsTold u indices (premise.GoalOn number pair) numbers said =
    (asked : Goal) → item_at u.goals number ≡ Some asked → IsGoalOnTold u pair asked said
IsTold u indices (premise.Hold number) numbers said = said ≡ pair_words u number ++ codes " is held"
IsTold u indices (premise.Essential name) numbers said = said ≡ name ++ codes " is essential and may not be removed"
IsTold u indices (premise.Keep name) numbers said =
    said ≡ codes "You ask that nothing is removed, and " ++ (name ++ codes " is installed")

-- these are the numbers of the pairs of which the premise says that one is selected
abbrev pub AreSatisfying : Universe → Premise → List ℕ → Type 0
AreSatisfying u claim numbers = (number : ℕ) → Contains numbers number ↔ IsInPremise u claim (literal.Selected number)

-- the line tells the premise
abbrev pub IsSentence : Universe → List ReadIndex → Premise → List ℕ → Type 0
IsSentence u indices claim line = (numbers : List ℕ) × (said : List ℕ) × AreSatisfying u claim numbers × (line ≡ said ++ codes ".\n")
    × IsTold u indices claim numbers said

-- the basis is a premise of the universe that is among these lines, with its clause
abbrev pub IsBasis : Universe → List Line → Basis → Type 0
IsBasis u lines basis = Contains lines (line.Premise basis.premise.now) × IsPremise u basis.premise.now
    × IsListOf (IsInPremise u basis.premise.now) basis.clause

-- one of these is the basis of the premise
abbrev pub HasBasis : Premise → List Basis → Type 0
HasBasis claim bases = (basis : Basis) × Contains bases basis × (basis.premise.now ≡ claim)

-- one of these lines tells the premise
abbrev pub HasSentence : Universe → List ReadIndex → Premise → List (List ℕ) → Type 0
HasSentence u indices claim said = (one : List ℕ) × Contains said one × IsSentence u indices claim one

-- the line tells a premise of the universe that is among these lines
abbrev pub TellsPremise : Universe → List ReadIndex → List Line → List ℕ → Type 0
TellsPremise u indices lines said =
    (claim : Premise) × Contains lines (line.Premise claim) × IsPremise u claim × IsSentence u indices claim said

-- the atom is an alternative of the clause of this number of a field of the pair
abbrev pub IsAlternativeAt : Universe → ℕ → (Pkg → List (List Atom)) → ℕ → Atom → Type 0
IsAlternativeAt u number clauses_of clause asked =
    (pkg : Pkg) × (package_at u number ≡ Some pkg) × HasAt (clauses_of pkg) clause (λ atoms. Contains atoms asked)

-- the premise is that a pair needs a clause of which the atom is an alternative
abbrev pub IsAlternativeOf : Universe → Premise → Atom → Type 0
IsAlternativeOf u (premise.PreDepends number clause) asked = IsAlternativeAt u number (λ pkg. pkg.relations.pre_depends) clause asked
IsAlternativeOf u (premise.Depends number clause) asked = IsAlternativeAt u number (λ pkg. pkg.relations.depends) clause asked
IsAlternativeOf u claim asked = ⊥

-- a premise among these lines is that a pair needs a clause of which the atom is an alternative
abbrev pub HasAlternative : Universe → List Line → Atom → Type 0
HasAlternative u lines asked = (claim : Premise) × Contains lines (line.Premise claim) × IsAlternativeOf u claim asked

-- what is said tells that the version of the stanza would do too for what is asked for, and why it isn't admitted
abbrev pub IsAlternativeTold : Universe → Atom → IndexPackage → List ℕ → Type 0
IsAlternativeTold u asked stanza said = (reason : List ℕ) × IsReasonTold u asked.name stanza.pkg.version reason
    × (said ≡ versioned asked.name stanza.pkg.version
    ++ (codes " would do for " ++ (wanted_words asked.name asked.restriction
    ++ (codes " too, and is not admitted: " ++ (reason ++ codes ".\n")))))

-- the line tells of an alternative of a premise among these lines the highest version in the indices that would do too and isn't
-- admitted
pub record TellsAlternative (u : Universe) (indices : List ReadIndex) (lines : List Line) (said : List ℕ) : Type 0 where
  pub asked : Atom
  pub stanza : IndexPackage
  pub alternative : HasAlternative u lines asked
  pub native : asked.foreign ≡ false
  pub highest : IsHighestOf (IsLeftOutFit u asked) (stanzas_of indices) stanza
  pub told : IsAlternativeTold u asked stanza said

-- the line tells a premise of these lines, or of a version that would do too
abbrev pub IsTruthful : Universe → List ReadIndex → List Line → List ℕ → Type 0
IsTruthful u indices lines said = TellsPremise u indices lines said ⊎ TellsAlternative u indices lines said

-- all of these are
abbrev pub AreTruthful : Universe → List ReadIndex → List Line → List (List ℕ) → Type 0
AreTruthful u indices lines said = All (IsTruthful u indices lines) said

-- where the fact holds of the lines of a refutation, what was truthful stays so with what is said then
abbrev pub StaysTruthful : Universe → List ReadIndex → (List Line → Type 0) → List (List ℕ) → List (List ℕ) → Type 0
StaysTruthful u indices P old new =
    (lines : List Line) → P lines → AreTruthful u indices lines old → AreTruthful u indices lines new

-- which versions are admitted beside the installed one of each package
abbrev pub versions_words : Bool → List ℕ
versions_words all_versions = if all_versions then codes ", all versions that may be chosen, and what goals name with =.\n"
    else codes ", its candidate, and what goals name with =.\n"

-- which versions are admitted
abbrev pub closing_words : Bool → List ℕ
closing_words all_versions =
    codes "This is about the admitted versions: of each package the installed one" ++ versions_words all_versions

-- the text is lines that are truthful and tell each premise of the universe that is among these lines, and which versions are admitted
pub record AreSentences (u : Universe) (indices : List ReadIndex) (lines : List Line) (all_versions : Bool) (text : List ℕ) : Type 0 where
  pub said : List (List ℕ)
  pub written : text ≡ flat_map (λ one. one) said ++ closing_words all_versions
  pub truthful : AreTruthful u indices lines said
  pub told : (claim : Premise) → Contains lines (line.Premise claim) → IsPremise u claim → HasSentence u indices claim said
