-- What is printed of packages that are asked about, and with which status the program ends then (this project's own form).
use Rattle.std.specs.Prelude.{◌≡◌, ◌==◌, ◌||◌, ℕ, Bool, true, false, List, [], ◌∷◌, ◌++◌, Option, None, Result, Ok, Err, codes, decimal, length, if◌then◌else◌}
use Rattle.std.specs.List.{filter, flat_map, list_any}
use Rattle.command_line.specs.declared.call.Format.{Format}
use Rattle.command_line.specs.declared.call.Format.TheVariants as format
use Rattle.json_answers.specs.Document.{IsLineOf, object_with, text_data}
use Rattle.json_answers.specs.Objects.{with_number, with_text}
use Rattle.json_answers.specs.TextLines.{told_data}
use Rattle.inputs.specs.declared.refusal.Refusal.{Refusal}
use Rattle.installable.specs.declared.answer.Installability.{Installability}
use Rattle.installable.specs.declared.answer.Installability.TheVariants as answer
use Rattle.installable.specs.declared.answer.PackageAnswer.{PackageAnswer}
use Rattle.installable.specs.declared.answer.Refuted.{Refuted}
use Rattle.installable.specs.declared.answer.Surveyed.{Surveyed}
use Rattle.outcomes.specs.Outcome.{IsOutcomeOfRefusal}
use Rattle.outcomes.specs.declared.exit.Exit.{Exit}
use Rattle.outcomes.specs.declared.exit.Exit.TheVariants as exit
use Rattle.outcomes.specs.declared.outcome.Outcome.{Outcome}
use Rattle.outcomes.specs.declared.outcome.Outcome.TheVariants as outcome
use Rattle.serde_json.specs.Data.{Data, Members, array, no_members, null, object, put}
use Rattle.serde_json.specs.View.{items_of}

-- the request has no acceptable selection
abbrev pub is_broken : Installability → Bool
is_broken (answer.Broken refuted) = true
is_broken installability = false

-- it isn't known whether the request has one
abbrev pub is_undecided : Installability → Bool
is_undecided (answer.Limit limit) = true
is_undecided answer.Unchecked = true
is_undecided installability = false

-- the line of a request of this subject that has no acceptable selection, or is undecided; of one that has a selection there is none
abbrev pub line_of : List ℕ → Installability → List ℕ
line_of subject answer.Installable = []
line_of subject (answer.Broken refuted) = codes "broken " ++ (subject ++ codes "\n")
line_of subject (answer.Limit limit) = codes "undecided " ++ (subject ++ codes "\n")
line_of subject answer.Unchecked = codes "undecided " ++ (subject ++ codes "\n")

-- a package, as it is named in its line
abbrev pub subject_of : PackageAnswer → List ℕ
subject_of answered = answered.name ++ (codes " " ++ answered.version)

-- the line of a package
abbrev pub package_line : PackageAnswer → List ℕ
package_line answered = line_of (subject_of answered) answered.installability

-- the packages that are broken
abbrev pub broken_of : List PackageAnswer → List PackageAnswer
broken_of answers = filter (λ answered. is_broken answered.installability) answers

-- the packages that are undecided
abbrev pub undecided_of : List PackageAnswer → List PackageAnswer
undecided_of answers = filter (λ answered. is_undecided answered.installability) answers

-- how many are undecided, where some are
abbrev pub undecided_words : ℕ → List ℕ
undecided_words number = if number == 0 then [] else codes ", undecided " ++ decimal number

-- how many files couldn't be written, if some couldn't
abbrev pub unwritten_words : ℕ → List ℕ
unwritten_words number = if number == 0 then [] else codes ", unwritten " ++ decimal number

-- the last line: how many packages are asked about, how many of them are broken and, if some are, undecided, and how many files couldn't be
-- written, if some couldn't
abbrev pub counts_line : ℕ → List PackageAnswer → List ℕ
counts_line unwritten answers = codes "checked " ++ (decimal (length answers) ++ (codes ", broken " ++ (decimal (length (broken_of answers))
    ++ (undecided_words (length (undecided_of answers)) ++ (unwritten_words unwritten ++ codes "\n")))))

-- the line of what stands beside each package, if it can't be had by itself; those of the packages, in their order; and the counts
abbrev pub counted_text : ℕ → Surveyed → List ℕ
counted_text unwritten surveyed =
    line_of (codes "base") surveyed.base ++ (flat_map package_line surveyed.packages ++ counts_line unwritten surveyed.packages)

-- the same, if no file is to be written
abbrev pub survey_text : Surveyed → List ℕ
survey_text surveyed = counted_text 0 surveyed

-- What a document has of the answers

-- the members with the name and the version of a package
abbrev pub with_package : PackageAnswer → Members → Members
with_package answered others = put (codes "version") (text_data answered.version) (put (codes "name") (text_data answered.name) others)

-- the members of what stands beside each package: it has neither a name nor a version
abbrev pub without_package : Members → Members
without_package others = put (codes "version") null (put (codes "name") null others)

-- the reasons of a request that can't be met, if it tells them
abbrev pub reasons_if : Bool → Refuted → Option (List ℕ)
reasons_if tells refuted = if tells then refuted.reasons else None

-- the members with a request that can't be met, its refutation and the reasons, if it tells them
abbrev pub with_refuted : Bool → Refuted → Members → Members
with_refuted tells refuted others = put (codes "reasons") (told_data (reasons_if tells refuted)) (put (codes "refutation") (text_data refuted.refutation)
    (put (codes "request") (text_data refuted.request) (with_text (codes "answer") (codes "broken") others)))

-- the members with why it isn't known whether a request can be met, in a word
abbrev pub with_why : List ℕ → Members → Members
with_why word others = with_text (codes "why") word (with_text (codes "answer") (codes "undecided") others)

-- the members with what is answered to a request
abbrev pub with_installability : Bool → Installability → Members → Members
with_installability tells answer.Installable others = others
with_installability tells (answer.Broken refuted) others = with_refuted tells refuted others
with_installability tells (answer.Limit limit) others = with_why (codes "limit") others
with_installability tells answer.Unchecked others = with_why (codes "unchecked") others

-- the object of the line of a request of this subject, beside these members
abbrev pub object_of : Bool → List ℕ → Members → Installability → Data
object_of tells subject members answered = object_with (line_of subject answered) (with_installability tells answered members)

-- the request has an acceptable selection
abbrev pub is_met : Installability → Bool
is_met answer.Installable = true
is_met answered = false

-- the same, by itself, if there is a line
abbrev pub objects_by : Bool → List ℕ → Members → Installability → List Data
objects_by tells subject members answered = if is_met answered then [] else object_of tells subject members answered ∷ []

-- so of a package
abbrev pub package_objects : Bool → PackageAnswer → List Data
package_objects tells answered = objects_by tells (subject_of answered) (with_package answered no_members) answered.installability

-- the objects of the lines of what stands beside each package and of the packages, in their order
abbrev pub answer_objects : Bool → Surveyed → List Data
answer_objects tells surveyed =
    objects_by tells (codes "base") (without_package no_members) surveyed.base ++ flat_map (package_objects tells) surveyed.packages

-- how many packages are asked about, broken and undecided
abbrev pub package_counts : List PackageAnswer → Members
package_counts answers = with_number (codes "undecided") (length (undecided_of answers))
    (with_number (codes "checked") (length answers) (with_number (codes "broken") (length (broken_of answers)) no_members))

-- the same, and how many files couldn't be written, if some couldn't
abbrev pub survey_counts_data : ℕ → List PackageAnswer → Data
survey_counts_data unwritten answers =
    object (if unwritten == 0 then package_counts answers else with_number (codes "unwritten") unwritten (package_counts answers))

-- undecided where a request is, no where one has no selection, and success where each has one
abbrev pub exit_of_survey : Surveyed → Exit
exit_of_survey surveyed =
    if is_undecided surveyed.base || list_any (λ answered. is_undecided answered.installability) surveyed.packages then exit.Undecided
    else if is_broken surveyed.base || list_any (λ answered. is_broken answered.installability) surveyed.packages then exit.No
    else exit.Success

-- the same, if all files are written; else that one couldn't be
abbrev pub exit_with : ℕ → Surveyed → Exit
exit_with unwritten surveyed = if unwritten == 0 then exit_of_survey surveyed else exit.Device

-- how all requests are answered, in a word
abbrev pub answer_word : Exit → List ℕ
answer_word exit.Success = codes "yes"
answer_word exit.Undecided = codes "undecided"
answer_word other = codes "no"

-- the members with whether all can be installed, and with how many packages are so
abbrev pub with_counts : ℕ → Surveyed → Members → Members
with_counts unwritten surveyed others = put (codes "counts") (survey_counts_data unwritten surveyed.packages)
    (with_text (codes "answer") (answer_word (exit_of_survey surveyed)) others)

-- the object of the last line
abbrev pub counts_object : ℕ → Surveyed → Data
counts_object unwritten surveyed = object_with (counts_line unwritten surveyed.packages) (with_counts unwritten surveyed no_members)

-- the objects of all lines, in their order
abbrev pub survey_objects : ℕ → Bool → Surveyed → List Data
survey_objects unwritten tells surveyed = answer_objects tells surveyed ++ counts_object unwritten surveyed ∷ []

-- the members of one document of the answers: the objects of the lines before the last one are one of them
abbrev pub with_survey : Bool → Surveyed → Members → Members
with_survey tells surveyed others = put (codes "packages") (array (items_of (answer_objects tells surveyed))) (with_counts 0 surveyed others)

-- those of one document of the answers, which tells their reasons, or doesn't, where memory is refused for members that do
abbrev pub AreOfSurvey : Surveyed → Members → Type 0
AreOfSurvey surveyed all = (tells : Bool) × (all ≡ with_survey tells surveyed no_members)

-- lines of these values stand one behind another
abbrev pub AreJsonLines : List Data → List ℕ → Type 0
AreJsonLines [] printed = printed ≡ []
AreJsonLines (value ∷ values) printed =
    (first : List ℕ) × (rest : List ℕ) × (printed ≡ first ++ rest) × IsLineOf value first × AreJsonLines values rest

-- the answers about packages are printed in this format: as their lines, or as a line of the object of each of them, which tell their
-- reasons, or don't, where memory is refused for the objects that do
abbrev pub IsSurveyIn : Format → ℕ → Surveyed → List ℕ → Type 0
IsSurveyIn format.Text unwritten surveyed printed = printed ≡ counted_text unwritten surveyed
IsSurveyIn format.Json unwritten surveyed printed = (tells : Bool) × AreJsonLines (survey_objects unwritten tells surveyed) printed

-- the outcome is that of the answers about packages, of whose files so many couldn't be written: they on standard output, in this format, a
-- refusal's line on standard error
abbrev pub IsOutcomeOfSurvey : Format → ℕ → Result Surveyed Refusal → Outcome → Type 0
IsOutcomeOfSurvey written unwritten (Ok surveyed) made =
    (printed : List ℕ) × (made ≡ outcome.Answer printed (exit_with unwritten surveyed)) × IsSurveyIn written unwritten surveyed printed
IsOutcomeOfSurvey written unwritten (Err refusal) made = IsOutcomeOfRefusal refusal made

-- no file can be written in the folder of refutations (E26)
abbrev pub IsFolderUnwritten : Outcome → Type 0
IsFolderUnwritten printed = printed ≡ outcome.Complaint (codes "debplan: refutations: E26 Write\n") exit.Device
