-- What is printed of a verdict on a plan or a refutation, of a candidate and of a comparison (this project's own form).
use Rattle.std.specs.Prelude.{ℕ, Bool, List, [], ◌∷◌, ◌++◌, Option, Some, None, codes, decimal, if◌then◌else◌}
use Rattle.std.specs.Fmt.{signed_decimal}
use Rattle.std.specs.Option.{unwrap_or}
use Rattle.candidates.specs.Offer.{Offer}
use Rattle.cli_engine.specs.declared.solve.Answered.{Answered}
use Rattle.refutecheck.specs.declared.verdict.Verdict.{Verdict as Refuted}
use Rattle.refutecheck.specs.declared.verdict.Verdict.TheVariants as refuted
use Rattle.plantext.specs.Plan.{plan_text, plan_text_2}
use Rattle.refutation_text.specs.Text.{refutation_text}
use Rattle.rules.specs.declared.step.Reason.{Reason}
use Rattle.rules.specs.declared.step.Reason.TheVariants as reason
use Rattle.rules.specs.declared.step.Rule.{Rule}
use Rattle.rules.specs.declared.step.Rule.TheVariants as rule
use Rattle.rules.specs.declared.step.Verdict.{Verdict}
use Rattle.rules.specs.declared.step.Verdict.TheVariants as verdict
use Rattle.solver.specs.declared.solved.Solved.{Solved}
use Rattle.solver.specs.declared.solved.Solved.TheVariants as solved
use Rattle.solver.specs.declared.solved.Undecided.{Undecided}
use Rattle.solver.specs.declared.solved.Undecided.TheVariants as undecided

-- why a request is undecided: the limit of the search, the start, that no plan was found, or that nothing was accepted
abbrev pub undecided_line : Undecided → List ℕ
undecided_line (undecided.Limit limit) = codes "undecided limit " ++ (decimal limit ++ codes "\n")
undecided_line undecided.Start = codes "undecided blocked start\n"
undecided_line (undecided.Stuck steps) = codes "undecided blocked stuck\n"
undecided_line undecided.Unchecked = codes "undecided unchecked\n"

-- the answer to a request that asks for all versions, or doesn't: a plan, whose text is of version 2 where it does; a refutation; or
-- why it is undecided
abbrev pub text_for : Bool → Solved → List ℕ
text_for asks_all_versions (solved.Plan steps) = if asks_all_versions then plan_text_2 steps.items else plan_text steps.items
text_for asks_all_versions (solved.Refuted lines) = refutation_text lines
text_for asks_all_versions (solved.Undecided why) = undecided_line why

-- the text of what is answered to a request: that of a refutation with its pairs named, where it has one
abbrev pub solved_text : Answered → List ℕ
solved_text answered = unwrap_or answered.naming (text_for answered.asks_all_versions answered.solved)

-- a rule: its code and its name
abbrev pub rule_words : Rule → List ℕ
rule_words rule.StartConflict = codes "F0 StartConflict"
rule_words rule.PreDepends = codes "F1 PreDepends"
rule_words rule.Conflict = codes "F2 Conflict"
rule_words rule.Breaks = codes "F3 Breaks"
rule_words rule.Depends = codes "F4 Depends"
rule_words rule.Group = codes "F5 Group"
rule_words rule.NeededBy = codes "F6 NeededBy"
rule_words rule.Essential = codes "F7 Essential"
rule_words rule.Held = codes "F8 Held"
rule_words rule.WrongState = codes "F9 WrongState"
rule_words rule.NotAdmitted = codes "F10 NotAdmitted"
rule_words rule.End = codes "F11 End"

-- a reason against the end: its word, and the name or the number of the goal
abbrev pub reason_words : Reason → List ℕ
reason_words (reason.Unfinished name) = codes "Unfinished " ++ name
reason_words (reason.Relation name) = codes "Relation " ++ name
reason_words (reason.Essential name) = codes "Essential " ++ name
reason_words (reason.Goal number) = codes "Goal " ++ decimal number

-- a verdict: yes, or no with the place and the rule that is broken there
abbrev pub verdict_words : Verdict → List ℕ
verdict_words verdict.Yes = codes "yes"
verdict_words verdict.Start = codes "no start " ++ rule_words rule.StartConflict
verdict_words (verdict.Step number broken) = codes "no step " ++ (decimal number ++ (codes " " ++ rule_words broken))
verdict_words (verdict.End reason) = codes "no end F11 " ++ reason_words reason

-- the line that is printed of a verdict
abbrev pub verdict_line : Verdict → List ℕ
verdict_line answer = verdict_words answer ++ codes "\n"

-- the line that is printed of a plan that was carried out: the number of its steps
abbrev pub applied_line : ℕ → List ℕ
applied_line steps = codes "applied " ++ (decimal steps ++ codes "\n")

-- the line that is printed of the verdict on a refutation: yes, or no with the number of its first bad line
abbrev pub refutation_line : Refuted → List ℕ
refutation_line refuted.Yes = codes "yes\n"
refutation_line (refuted.No number) = codes "no line " ++ (decimal number ++ codes "\n")

-- what is found of a name: the text of its candidate's version and the priority in decimal, or `none`
abbrev pub candidate_words : Option Offer → List ℕ
candidate_words None = codes "none"
candidate_words (Some offer) = offer.version ++ (codes " " ++ signed_decimal offer.priority)

-- the line that is printed of the candidate of a name
abbrev pub candidate_line : List ℕ → Option Offer → List ℕ
candidate_line name candidate = name ++ (codes " " ++ (candidate_words candidate ++ codes "\n"))

-- the lines that are printed of the candidates of names, each in the place of its name
abbrev pub candidate_lines : List (List ℕ) → List (Option Offer) → List ℕ
candidate_lines (name ∷ names) (candidate ∷ others) = candidate_line name candidate ++ candidate_lines names others
candidate_lines _ _ = []

-- the line that is printed of a comparison
abbrev pub comparison_line : Bool → List ℕ
comparison_line answer = if answer then codes "yes\n" else codes "no\n"
