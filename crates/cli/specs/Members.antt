-- What a document has of an answer beside its text (docs/FORMATS.md, "Answers as JSON"), as far as that is promised.
use Rattle.std.specs.Prelude.{◌≡◌, ◌⊎◌, ◌++◌, ℕ, Bool, List, [], ◌∷◌, Option, None, Some, Result, Ok, Err, codes, is_some, ⊤, if◌then◌else◌}
use Rattle.std.specs.List.{list_all}
use Rattle.candidates.specs.Offer.{Offer}
use Rattle.cli.specs.Again.{ArchiveOf}
use Rattle.cli_engine.specs.declared.check.JudgedPlan.{JudgedPlan}
use Rattle.cli_engine.specs.declared.check_refutation.JudgedRefutation.{JudgedRefutation}
use Rattle.cli_engine.specs.declared.solve.Answered.{Answered}
use Rattle.command_line.specs.declared.call.Format.{Format}
use Rattle.command_line.specs.declared.call.Format.TheVariants as format
use Rattle.json_answers.specs.Document.{text_data}
use Rattle.json_answers.specs.Objects.{candidate_data, no_candidate_data, with_bad_line, with_text, with_verdict}
use Rattle.json_answers.specs.Steps.{AreWithSteps}
use Rattle.json_answers.specs.TextLines.{lines_data, told_data}
use Rattle.json_answers.specs.declared.members.Members.{Members as Made}
use Rattle.inputs.specs.declared.refusal.Refusal.{Refusal}
use Rattle.keep_back.specs.declared.keep_back.KeptBack.{KeptBack}
use Rattle.refutecheck.specs.declared.verdict.Verdict.{Verdict}
use Rattle.refutecheck.specs.declared.verdict.Verdict.TheVariants as verdict
use Rattle.serde_json.specs.Data.{Data, Members, array, no_members, null, put}
use Rattle.serde_json.specs.View.{items_of, members_view}
use Rattle.solver.specs.declared.solved.Solved.{Solved}
use Rattle.solver.specs.declared.solved.Solved.TheVariants as solved
use Rattle.solver.specs.declared.solved.Undecided.{Undecided}
use Rattle.solver.specs.declared.solved.Undecided.TheVariants as undecided

-- Texts

-- what is told of an answer, if anything is
abbrev pub reasons_in : Option (List ℕ) → List ℕ
reasons_in None = []
reasons_in (Some text) = text

-- what is told of an answer, and hints behind it, if anything is told
abbrev pub with_hints : Option (List ℕ) → List ℕ → Option (List ℕ)
with_hints None hints = None
with_hints (Some reasons) hints = Some (reasons ++ hints)

-- the new members have what is told in addition, each sentence a string; they have null where nothing is, or where memory was refused for
-- the strings
abbrev pub AreTold : Option (List ℕ) → List ℕ → Members → Members → Type 0
AreTold reasons hints old new =
    (new ≡ put (codes "reasons") (told_data (with_hints reasons hints)) old) ⊎ (new ≡ put (codes "reasons") null old)

-- the members that were made, if any were
abbrev pub members_in : Option Made → Members
members_in None = no_members
members_in (Some made) = members_view made.map.entries

-- The members of each answer

-- those of the verdict on a plan: what is told of it with some hints, its steps with these archives, and the verdict
pub record AreOfPlan (archives : ArchiveOf) (judged : JudgedPlan) (all : Members) : Type 0 where
  pub hints : List ℕ
  pub told : Members
  pub stepped : Members
  pub reasons : AreTold judged.reasons hints no_members told
  pub steps : AreWithSteps archives judged.steps.items told stepped
  pub answer : all ≡ with_verdict judged.verdict stepped

-- the number of the first bad line of a refutation, if it has one
abbrev pub bad_line_of : Verdict → Option ℕ
bad_line_of verdict.Yes = None
bad_line_of (verdict.No number) = Some number

-- those of the verdict on a refutation: its lines, what is told of it with some hints, and the verdict
pub record AreOfRefutation (judged : JudgedRefutation) (all : Members) : Type 0 where
  pub hints : List ℕ
  pub told : Members
  pub reasons : AreTold judged.reasons hints (members_in judged.members) told
  pub answer : all ≡ with_bad_line (bad_line_of judged.verdict) told

-- why a request is undecided, in a word
abbrev pub undecided_word : Undecided → List ℕ
undecided_word (undecided.Limit limit) = codes "limit"
undecided_word undecided.Start = codes "blocked start"
undecided_word (undecided.Stuck steps) = codes "blocked stuck"
undecided_word undecided.Unchecked = codes "unchecked"

-- the members with how a request is solved: by a plan, by a refutation, or not, and why
abbrev pub with_solved : Solved → Members → Members
with_solved (solved.Plan steps) others = with_text (codes "answer") (codes "plan") others
with_solved (solved.Refuted lines) others = with_text (codes "answer") (codes "refuted") others
with_solved (solved.Undecided why) others =
    with_text (codes "why") (undecided_word why) (with_text (codes "answer") (codes "undecided") others)

-- the new members have the steps of a plan with these archives in addition
abbrev pub AreStepped : ArchiveOf → Solved → Members → Members → Type 0
AreStepped archives (solved.Plan steps) old new = AreWithSteps archives steps.items old new
AreStepped archives (solved.Refuted lines) old new = new ≡ old
AreStepped archives (solved.Undecided why) old new = new ≡ old

-- those of what is answered to a request: the lines of a refutation, what is told of the answer with some hints, the steps of a plan
-- with these archives, and how it is solved
pub record AreOfAnswered (archives : ArchiveOf) (answered : Answered) (all : Members) : Type 0 where
  pub hints : List ℕ
  pub told : Members
  pub stepped : Members
  pub reasons : AreTold answered.reasons hints (members_in answered.members) told
  pub steps : AreStepped archives answered.solved told stepped
  pub answer : all ≡ with_solved answered.solved stepped

-- the members with what is left of a request, and with the lines on what was left out
abbrev pub with_left : List ℕ → List ℕ → Members → Members
with_left request notes others = put (codes "kept_back") (lines_data notes) (put (codes "request") (text_data request) others)

-- those of what is answered to what is left of a request, and of that
abbrev pub AreOfKept : ArchiveOf → KeptBack → Members → Type 0
AreOfKept archives kept all = (answered : Members) × AreOfAnswered archives kept.answered answered × (all ≡ with_left kept.request kept.notes answered)

-- the object of a name, with its candidate, if it has one
abbrev pub name_data : List ℕ → Option Offer → Data
name_data name None = no_candidate_data name
name_data name (Some offer) = candidate_data name offer.version offer.priority

-- the objects of names, each with the candidate in its place
abbrev pub names_data : List (List ℕ) → List (Option Offer) → List Data
names_data (name ∷ names) (candidate ∷ candidates) = name_data name candidate ∷ names_data names candidates
names_data _ _ = []

-- yes, or no
abbrev pub yes_or_no : Bool → List ℕ
yes_or_no answer = if answer then codes "yes" else codes "no"

-- the members with the candidates of names, and whether each has one
abbrev pub with_candidates : List (List ℕ) → List (Option Offer) → Members → Members
with_candidates names candidates others = with_text (codes "answer") (yes_or_no (list_all is_some candidates))
    (put (codes "candidates") (array (items_of (names_data names candidates))) others)

-- those of the candidates of names, beside others
abbrev pub AreOfCandidates : List (List ℕ) → List (Option Offer) → Members → Type 0
AreOfCandidates names candidates all = (others : Members) × (all ≡ with_candidates names candidates others)

-- Where they stand

-- in a document the members are such; where there is none, nothing is said of them
abbrev pub AreMembersIn : Format → (Members → Type 0) → Members → Type 0
AreMembersIn format.Text Are all = ⊤
AreMembersIn format.Json Are all = Are all

-- in a document the members have these in addition; where there is none, nothing is said of them
abbrev pub AreAddedIn : Format → (Members → Members) → Members → Members → Type 0
AreAddedIn format.Text with_these old new = ⊤
AreAddedIn format.Json with_these old new = new ≡ with_these old

-- in a document the members are those of what is said; a refusal has no document
abbrev pub AreMembersOf : {A : Type 0} → (A → Members → Type 0) → Format → Result A Refusal → Members → Type 0
AreMembersOf AreOf written (Ok answer) all = AreMembersIn written (AreOf answer) all
AreMembersOf AreOf written (Err refused) all = ⊤
