-- The objects and members of answers (docs/FORMATS.md): of verdicts, candidates and undecided requests.
use Rattle.std.specs.Prelude.{ℕ, ℤ, List, Option, Some, None, codes}
use Rattle.json_answers.specs.Document.{text_data}
use Rattle.rules.specs.declared.step.Reason.{Reason}
use Rattle.rules.specs.declared.step.Reason.TheVariants as reason
use Rattle.rules.specs.declared.step.Rule.{Rule}
use Rattle.rules.specs.declared.step.Rule.TheVariants as rule
use Rattle.rules.specs.declared.step.Verdict.{Verdict}
use Rattle.rules.specs.declared.step.Verdict.TheVariants as verdict
use Rattle.serde_json.specs.Find.{of_integer}
use Rattle.serde_json.specs.Data.{Data, Members, no_members, null, number, object, put, string, unsigned}

-- the members with this text at this key
abbrev pub with_text : List ℕ → List ℕ → Members → Members
with_text key text members = put key (string text) members

-- the members with this number at this key
abbrev pub with_number : List ℕ → ℕ → Members → Members
with_number key count members = put key (number (unsigned count)) members

-- the code of a rule
abbrev pub rule_code : Rule → List ℕ
rule_code rule.StartConflict = codes "F0"
rule_code rule.PreDepends = codes "F1"
rule_code rule.Conflict = codes "F2"
rule_code rule.Breaks = codes "F3"
rule_code rule.Depends = codes "F4"
rule_code rule.Group = codes "F5"
rule_code rule.NeededBy = codes "F6"
rule_code rule.Essential = codes "F7"
rule_code rule.Held = codes "F8"
rule_code rule.WrongState = codes "F9"
rule_code rule.NotAdmitted = codes "F10"
rule_code rule.End = codes "F11"

-- the name of a rule
abbrev pub rule_name : Rule → List ℕ
rule_name rule.StartConflict = codes "StartConflict"
rule_name rule.PreDepends = codes "PreDepends"
rule_name rule.Conflict = codes "Conflict"
rule_name rule.Breaks = codes "Breaks"
rule_name rule.Depends = codes "Depends"
rule_name rule.Group = codes "Group"
rule_name rule.NeededBy = codes "NeededBy"
rule_name rule.Essential = codes "Essential"
rule_name rule.Held = codes "Held"
rule_name rule.WrongState = codes "WrongState"
rule_name rule.NotAdmitted = codes "NotAdmitted"
rule_name rule.End = codes "End"

-- the object of a rule: its code and its name
abbrev pub rule_data : Rule → Data
rule_data broken = object (with_text (codes "name") (rule_name broken) (with_text (codes "code") (rule_code broken) no_members))

-- the object of a reason that names a package
abbrev pub named_reason : List ℕ → List ℕ → Data
named_reason kind name = object (put (codes "name") (text_data name) (with_text (codes "kind") kind no_members))

-- the object of a reason against the end: its kind, and the name or the number of the goal
abbrev pub reason_data : Reason → Data
reason_data (reason.Unfinished name) = named_reason (codes "Unfinished") name
reason_data (reason.Relation name) = named_reason (codes "Relation") name
reason_data (reason.Essential name) = named_reason (codes "Essential") name
reason_data (reason.Goal goal) = object (with_number (codes "goal") goal (with_text (codes "kind") (codes "Goal") no_members))

-- the members with a no, its place and the rule that is broken there
abbrev pub with_no : List ℕ → Rule → Members → Members
with_no place broken members =
    put (codes "rule") (rule_data broken) (with_text (codes "place") place (with_text (codes "answer") (codes "no") members))

-- the members with the verdict on a plan
abbrev pub with_verdict : Verdict → Members → Members
with_verdict verdict.Yes members = with_text (codes "answer") (codes "yes") members
with_verdict verdict.Start members = with_no (codes "start") rule.StartConflict members
with_verdict (verdict.Step place broken) members = with_number (codes "step") place (with_no (codes "step") broken members)
with_verdict (verdict.End reason) members = put (codes "reason") (reason_data reason) (with_no (codes "end") rule.End members)

-- the members with the verdict on a refutation, by its first bad line, if it has one
abbrev pub with_bad_line : Option ℕ → Members → Members
with_bad_line None members = with_text (codes "answer") (codes "yes") members
with_bad_line (Some line) members = with_number (codes "line") line (with_text (codes "answer") (codes "no") members)

-- the object of a name with the version and the priority of its candidate
abbrev pub candidate_data : List ℕ → List ℕ → ℤ → Data
candidate_data name version priority = object (put (codes "priority") (number (of_integer priority))
    (put (codes "version") (text_data version) (put (codes "name") (text_data name) no_members)))

-- the object of a name that has no candidate
abbrev pub no_candidate_data : List ℕ → Data
no_candidate_data name =
    object (put (codes "priority") null (put (codes "version") null (put (codes "name") (text_data name) no_members)))
