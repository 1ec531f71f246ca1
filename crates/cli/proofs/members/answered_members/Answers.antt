-- What is told and the steps are put, and last how the request is solved.
use Rattle.std.proofs.Common.{subst}
use Rattle.cli.proofs.members.answered_members.Goals as goal
use Rattle.cli.specs.Members.{AreTold}
use Rattle.serde_json.specs.Data.{Members}
use Rattle.serde_json.specs.View.{members_view}

pub returns-clause-members : goal.returns-clause-members
returns-clause-members g c at known =
    let answered = c.args.answered in
    let hints = c.args.hints.now in
    let told = members_view c.put_told.new.members.map.entries in
    record {
      hints = hints;
      told = told;
      stepped = members_view c.put_solution.new.members.map.entries;
      reasons = subst (λ (old : Members). AreTold answered.reasons hints old told) c.members_or_none-members.ensures c.in_ok-put_told.ensures;
      steps = c.in_ok-put_solution.ensures.steps at known;
      answer = c.in_ok-put_solved.ensures;
    }
