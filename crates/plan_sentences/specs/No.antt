-- The sentences on a plan that isn't good (this project's own form): which step isn't allowed and by which rule, and what stands against
-- it; or what is against the end.
use Rattle.std.specs.Prelude.{◌≡◌, ◌++◌, ◌==◌, ℕ, Bool, false, not, List, [], ◌∷◌, filter, MatchOption, Option, Some, None, ⊤, bytes_eq, codes, decimal, slice_get, if◌then◌else◌}
use Rattle.std.specs.List.{All, Contains, flat_map}
use Rattle.phrases.specs.Phrases.{versioned, wanted_words}
use Rattle.plantext.specs.StepLine.{step_line}
use Rattle.plantext.specs.declared.cut.TheConstants.{NEWLINE}
use Rattle.rules.specs.Database.{IsPresent, Record, pkg_of}
use Rattle.rules.specs.Package.{Atom, Matches, Pkg}
use Rattle.rules.specs.Run.{Run}
use Rattle.rules.specs.State.{is_present_state, is_sound_flag}
use Rattle.rules.specs.Step.{IndexPackage}
use Rattle.rules.specs.Universe.{Universe, listed_for}
use Rattle.rules.specs.declared.status.State.{State}
use Rattle.rules.specs.declared.status.State.TheVariants as state
use Rattle.rules.specs.declared.step.Reason.{Reason}
use Rattle.rules.specs.declared.step.Reason.TheVariants as reason
use Rattle.rules.specs.declared.step.Rule.{Rule}
use Rattle.rules.specs.declared.step.Rule.TheVariants as rule
use Rattle.rules.specs.declared.step.Step.{Step}
use Rattle.rules.specs.declared.step.Verdict.{Verdict}
use Rattle.rules.specs.declared.step.Verdict.TheVariants as verdict
use Rattle.witness.specs.Found.{IsFoundAt}
use Rattle.witness.specs.declared.witness.ClauseField.{ClauseField}
use Rattle.witness.specs.declared.witness.ClauseField.TheVariants as field
use Rattle.witness.specs.declared.witness.Direction.{Direction}
use Rattle.witness.specs.declared.witness.Direction.TheVariants as direction
use Rattle.witness.specs.declared.witness.Witness.{Witness}
use Rattle.witness.specs.declared.witness.Witness.TheVariants as witness
use Rattle.plan_sentences.specs.Changes.{record_in}
use Rattle.plan_sentences.specs.Told.{TellsPlan}

-- Pieces

-- an atom: `foo (>= 2)`; behind one of another architecture that is said
abbrev pub atom_words : Atom → List ℕ
atom_words atom = wanted_words atom.name atom.restriction ++ (if atom.foreign then codes " of another architecture" else [])

-- the alternatives of a clause, as a relation field has them (Policy 7.1)
abbrev pub alternatives_words : List Atom → List ℕ
alternatives_words [] = []
alternatives_words (atom ∷ atoms) = atom_words atom ++ flat_map (λ other. codes " | " ++ atom_words other) atoms

-- a package: `foo 1`
abbrev pub package_words : Pkg → List ℕ
package_words pkg = versioned pkg.name pkg.version

-- how far a package is (dpkg(1), "Package states")
abbrev pub state_words : State → List ℕ
state_words state.NotInstalled = codes "not installed"
state_words state.ConfigFiles = codes "removed but for its configuration files"
state_words state.HalfInstalled = codes "half-installed"
state_words state.Unpacked = codes "unpacked"
state_words state.HalfConfigured = codes "half-configured"
state_words state.TriggersAwaited = codes "waiting for triggers"
state_words state.TriggersPending = codes "left with triggers to process"
state_words state.Installed = codes "installed"

-- the same of a record, and whether it is to be installed again
abbrev pub standing_words : Record → List ℕ
standing_words entry = state_words entry.state ++ (if is_sound_flag entry.flag then [] else codes " and to be installed again")

-- the name of a record, and of a present package its version
abbrev pub named_words : Record → List ℕ
named_words entry = if is_present_state entry.state then package_words (pkg_of entry) else entry.name

-- in which state a record is: `foo 1 is installed`
abbrev pub record_words : Record → List ℕ
record_words entry = named_words entry ++ (codes " is " ++ standing_words entry)

-- in which state a name is, by its record, if it has one
abbrev pub standing_of : List ℕ → Option Record → List ℕ
standing_of name None = name ++ codes " is not installed"
standing_of name (Some entry) = record_words entry

-- What a package is against

-- one of the atoms that the package matches, or that it matches none
abbrev pub IsMatched : List Atom → Pkg → Option Atom → Type 0
IsMatched atoms pkg None = All (λ atom. ¬ Matches pkg atom) atoms
IsMatched atoms pkg (Some atom) = Contains atoms atom × Matches pkg atom

-- the matched atom, or the name of the package
abbrev pub matched_words : Pkg → Option Atom → List ℕ
matched_words pkg None = pkg.name
matched_words pkg (Some atom) = atom_words atom

-- whether the matched atom is of another name than the package, which provides that name (Policy 7.5)
abbrev pub is_provided : Pkg → Option Atom → Bool
is_provided pkg None = false
is_provided pkg (Some atom) = not (bytes_eq atom.name pkg.name)

-- the package is against the present one of the record, by one of these atoms: `foo 2 conflicts with bar (<< 3), and bar 1 is installed`
abbrev pub IsAgainstTold : List ℕ → Pkg → List Atom → Record → List ℕ → Type 0
IsAgainstTold verb pkg atoms other said = (matched : Option Atom) × IsMatched atoms (pkg_of other) matched
    × (said ≡ package_words pkg ++ (verb ++ (matched_words (pkg_of other) matched ++ (codes ", and " ++ (record_words other
    ++ (if is_provided (pkg_of other) matched then codes " and provides this" else []))))))

-- the present package of the record is against the other one, by one of these atoms: `bar 1 is installed and conflicts with mta, which
-- foo 2 provides`
abbrev pub IsAgainstByTold : List ℕ → Record → List Atom → Pkg → List ℕ → Type 0
IsAgainstByTold verb other atoms pkg said = (matched : Option Atom) × IsMatched atoms pkg matched
    × (said ≡ record_words other ++ (codes " and" ++ (verb ++ (matched_words pkg matched ++ (codes ", which " ++ (package_words pkg
    ++ (if is_provided pkg matched then codes " provides" else codes " matches")))))))

-- What a package needs

-- the clauses of the field of the package (Policy 7.2)
abbrev pub clauses_of : ClauseField → Pkg → List (List Atom)
clauses_of field.PreDepends pkg = pkg.relations.pre_depends
clauses_of field.Depends pkg = pkg.relations.depends

-- what a package does by a clause of the field
abbrev pub verb_of : ClauseField → List ℕ
verb_of field.PreDepends = codes " pre-depends on "
verb_of field.Depends = codes " depends on "

-- the words tell in which state a present package is that has the name of one of the atoms
abbrev pub IsThere : List Record → List Atom → List ℕ → Type 0
IsThere db atoms item = (entry : Record) × (atom : Atom) × Contains atoms atom × Contains db entry × (entry.name ≡ atom.name)
    × IsPresent entry × (item ≡ record_words entry)

-- items in brackets: ` (foo 1 is unpacked, bar 2 is unpacked)`; nothing of none
abbrev pub bracketed : List (List ℕ) → List ℕ
bracketed [] = []
bracketed (item ∷ items) = codes " (" ++ (item ++ (flat_map (λ other. codes ", " ++ other) items ++ codes ")"))

-- that a clause isn't met: whose it is and by which field, the clause, the words behind it, and in which state packages of its names are
abbrev pub IsUnmetTold : List Record → Pkg → ClauseField → List ℕ → List Atom → List ℕ → Type 0
IsUnmetTold db pkg by behind atoms said = (there : List (List ℕ)) × All (IsThere db atoms) there
    × (said ≡ package_words pkg ++ (verb_of by ++ (alternatives_words atoms ++ (behind ++ bracketed there))))

-- the same of the clause at the place of the field
abbrev pub IsUnmetAt : List Record → Pkg → ClauseField → ℕ → List ℕ → List ℕ → Type 0
IsUnmetAt db pkg by place behind said =
    (atoms : List Atom) → slice_get (clauses_of by pkg) place ≡ Some atoms → IsUnmetTold db pkg by behind atoms said

-- that an installed package needs one that is to be removed, by this clause
abbrev pub need_words : Record → ClauseField → List Atom → List ℕ
need_words entry by atoms = record_words entry ++ (codes " and" ++ (verb_of by ++ (alternatives_words atoms
    ++ (codes ", and nothing else that is unpacked or installed meets this"
    ++ codes ". apt runs dpkg with --force-depends in such places"))))

-- What stands against a step

-- the package of the name is present in the database, with this record
abbrev pub IsPresentIn : List Record → List ℕ → Record → Type 0
IsPresentIn db name entry = (record_in db name ≡ Some entry) × IsPresent entry

-- between the package to be unpacked and the present one of the record, by Conflicts of the one or of the other (Policy 7.4)
abbrev pub IsConflictTold : Direction → Pkg → Record → List ℕ → Type 0
IsConflictTold direction.Own pkg other said = IsAgainstTold (codes " conflicts with ") pkg pkg.relations.conflicts other said
IsConflictTold direction.Other pkg other said = IsAgainstByTold (codes " conflicts with ") other other.relations.conflicts pkg said

-- the words tell the witness against the unpacking of the package
abbrev pub IsUnpackTold : List Record → Pkg → Witness → List ℕ → Type 0
IsUnpackTold db pkg (witness.Unsatisfied place) said =
    IsUnmetAt db pkg field.PreDepends place (codes ", and nothing that is installed or was configured before satisfies this") said
IsUnpackTold db pkg (witness.Conflicting whose name) said = (other : Record) → IsPresentIn db name other → IsConflictTold whose pkg other said
IsUnpackTold db pkg (witness.Broken name) said =
    (other : Record) → IsPresentIn db name other → IsAgainstTold (codes " breaks ") pkg pkg.relations.breaks other said
IsUnpackTold db pkg other said = ⊤

-- the words tell the witness, which stands in the database against a step, of which `listed` is what is to be unpacked, if it is there
abbrev pub IsWitnessTold : Option IndexPackage → List Record → Witness → List ℕ → Type 0
IsWitnessTold listed db (witness.BrokenBy name breaker) said = (entry other : Record) → IsPresentIn db name entry
    → IsPresentIn db breaker other → IsAgainstByTold (codes " breaks ") other other.relations.breaks (pkg_of entry) said
IsWitnessTold listed db (witness.Unmet name by place) said = (entry : Record) → IsPresentIn db name entry
    → IsUnmetAt db (pkg_of entry) by place (codes ", and nothing that is installed meets this") said
IsWitnessTold listed db (witness.Needs name by place) said = (entry : Record) (atoms : List Atom) → IsPresentIn db name entry
    → slice_get (clauses_of by (pkg_of entry)) place ≡ Some atoms → said ≡ need_words entry by atoms
IsWitnessTold listed db other said = (it : IndexPackage) → listed ≡ Some it → IsUnpackTold db it.pkg other said

-- Which step

-- the code and the name of a rule
abbrev pub code_of : Rule → List ℕ
code_of rule.StartConflict = codes "F0 StartConflict"
code_of rule.PreDepends = codes "F1 PreDepends"
code_of rule.Conflict = codes "F2 Conflict"
code_of rule.Breaks = codes "F3 Breaks"
code_of rule.Depends = codes "F4 Depends"
code_of rule.Group = codes "F5 Group"
code_of rule.NeededBy = codes "F6 NeededBy"
code_of rule.Essential = codes "F7 Essential"
code_of rule.Held = codes "F8 Held"
code_of rule.WrongState = codes "F9 WrongState"
code_of rule.NotAdmitted = codes "F10 NotAdmitted"
code_of rule.End = codes "F11"

-- the line of a step, without its newline
abbrev pub line_words : Step → List ℕ
line_words step = filter (λ byte. not (byte == NEWLINE)) (step_line step)

-- the number of a step, its line and the rule that it fails
abbrev pub step_words : ℕ → Step → Rule → List ℕ
step_words number step failed = codes "Step " ++ (decimal number ++ (codes " is '" ++ (line_words step
    ++ (codes "', which isn't allowed (" ++ (code_of failed ++ codes "): ")))))

-- the text tells that the step of this number is the first that isn't allowed, by which rule, and a witness against it; where the rule has
-- none, what is told instead is left open
pub record TellsStep (u : Universe) (start : List Record) (steps : List Step) (number : ℕ) (failed : Rule) (text : List ℕ) : Type 0 where
  pub witness : Option Witness
  pub stop : IsFoundAt u start steps number failed witness
  pub said : List ℕ
  pub told : MatchOption witness ⊤ (λ it. IsWitnessTold (listed_for u stop.step) stop.reached it said)
  pub text_is : text ≡ step_words number stop.step failed ++ (said ++ codes ".\n")

-- The end

-- the kind of a reason against an end
abbrev pub reason_word : Reason → List ℕ
reason_word (reason.Unfinished name) = codes "Unfinished"
reason_word (reason.Relation name) = codes "Relation"
reason_word (reason.Essential name) = codes "Essential"
reason_word (reason.Goal number) = codes "Goal"

-- that an essential package is missing
abbrev pub essential_words : List ℕ → List ℕ
essential_words name = name ++ codes " is essential, was there at the start and isn't installed"

-- the words tell the reason against the end: in which state an unfinished name is, and which essential one is missing; what is told of a
-- package that isn't content and of a goal is left open
abbrev pub IsReasonTold : List Record → Reason → List ℕ → Type 0
IsReasonTold db (reason.Unfinished name) said = said ≡ standing_of name (record_in db name)
IsReasonTold db (reason.Relation name) said = ⊤
IsReasonTold db (reason.Essential name) said = said ≡ essential_words name
IsReasonTold db (reason.Goal number) said = ⊤

-- the same with the kind of the reason before it
abbrev pub IsEndTold : List Record → Reason → List ℕ → Type 0
IsEndTold db against text = (said : List ℕ) × IsReasonTold db against said
    × (text ≡ codes "The end isn't good (F11 " ++ (reason_word against ++ (codes "): " ++ (said ++ codes ".\n"))))

-- the text tells the reason against the database after all the steps
abbrev pub TellsEnd : Universe → List Record → List Step → Reason → List ℕ → Type 0
TellsEnd u start steps against text = (finish : List Record) × Run u start steps finish × IsEndTold finish against text

-- Every verdict

-- the text tells why a plan isn't good; which packages conflict at the start is left open
abbrev pub TellsNo : Universe → List Record → List Step → Verdict → List ℕ → Type 0
TellsNo u start steps verdict.Yes text = ⊤
TellsNo u start steps verdict.Start text = ⊤
TellsNo u start steps (verdict.Step number failed) text = TellsStep u start steps number failed text
TellsNo u start steps (verdict.End against) text = TellsEnd u start steps against text

-- the text tells what a good plan changes, and why another one isn't good
abbrev pub TellsVerdict : Universe → List Record → List Step → Verdict → List ℕ → Type 0
TellsVerdict u start steps verdict.Yes text = TellsPlan u start steps text
TellsVerdict u start steps answer text = TellsNo u start steps answer text
