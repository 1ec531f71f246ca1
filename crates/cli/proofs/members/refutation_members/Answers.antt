-- What is told is put, and last the verdict.
use Rattle.std.proofs.Common.{◌∙◌, Option, ap, subst, ℕ}
use Rattle.cli.proofs.members.refutation_members.Goals as goal
use Rattle.cli.specs.Members.{AreTold}
use Rattle.json_answers.specs.Objects.{with_bad_line}
use Rattle.serde_json.specs.Data.{Members}
use Rattle.serde_json.specs.View.{members_view}

pub returns : goal.returns
returns c =
    let judged = c.args.judged in
    let hints = c.args.hints.now in
    let told = members_view c.put_told.new.members.map.entries in
    record {
      hints = hints;
      told = told;
      reasons = subst (λ (old : Members). AreTold judged.reasons hints old told) c.members_or_none-members.ensures c.in_ok-put_told.ensures;
      answer = c.in_ok-put_bad_line.ensures ∙ ap (λ (line : Option ℕ). with_bad_line line told) c.bad_line.ensures;
    }
