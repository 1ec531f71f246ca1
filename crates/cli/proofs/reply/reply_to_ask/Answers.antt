-- The names are those that are asked about.
use Rattle.std.proofs.Common.{Global, IfOk, List, String, Vec, map, string_bytes, subst, ℕ}
use Rattle.std.specs.Option.{unwrap_or}
use Rattle.cli.specs.Batch.{IsReplyWhere, survey_of}
use Rattle.cli.specs.Members.{AreOfCandidates}
use Rattle.cli.specs.Packages.{IsSaidOfSurvey}
use Rattle.cli_engine.specs.Answer.{IsSaidOfNames}
use Rattle.outcomes.specs.Answer.{candidate_lines}
use Rattle.outcomes.specs.Survey.{AreOfSurvey, survey_text}
use Rattle.serde_json.specs.View.{view}
use Rattle.cli.proofs.reply.reply_to_ask.Goals as goal

pub returns-in-Candidate : goal.returns-in-Candidate
returns-in-Candidate c = λ texts read. rw c.in-Candidate.is (subst (λ (names : List (String Global)). IfOk c.reply_to_strings.result (λ (reply : Vec ℕ Global).
    IsReplyWhere (view c.args.id) (IsSaidOfNames texts (map string_bytes names)) (candidate_lines (map string_bytes names))
    (AreOfCandidates (map string_bytes names)) reply.items)) c.as_slice-in-Candidate.ensures.value (c.reply_to_strings.ensures texts read))

pub returns-in-Installable : goal.returns-in-Installable
returns-in-Installable c = λ texts read. rw c.in-Installable.is (subst (λ (names : List (String Global)). IfOk c.reply_to_installable.result (λ (reply : Vec ℕ Global).
    IsReplyWhere (view c.args.id) (IsSaidOfSurvey texts (survey_of (map string_bytes names) c.in-Installable.all_versions
    c.in-Installable.without_essential (unwrap_or c.in-Installable.own c.args.limit))) survey_text AreOfSurvey reply.items))
    c.as_slice-in-Installable.ensures.value (c.reply_to_installable.ensures texts read))
