-- What is printed and left of as much of a request as can be is what is said of it.
use Rattle.std.proofs.Common.{Err, List, Ok, Result, subst, ◌∙◌, ℕ}
use Rattle.std.specs.Option.{option_map}
use Rattle.cli.proofs.LeavingLemmas.{all_left, left_so, none_left}
use Rattle.cli.proofs.ResultLemmas.{if_ok}
use Rattle.cli.proofs.possible.outcome_of_free.Goals as goal
use Rattle.cli.specs.Calls.{texts_at}
use Rattle.cli.specs.Leaving.{IsLeftOfFree, IsLeftOfKept}
use Rattle.cli.specs.Possible.{IsOutcomeOfFree, IsPrintedWhere, IsSaidOfLeft}
use Rattle.cli.specs.declared.possible.Left.{Left}
use Rattle.inputs.specs.declared.refusal.Refusal.{Refusal}
use Rattle.outcomes.specs.Outcome.{IsOutcomeOfRefusal}

pub returns-in-Ok-clause-printed : goal.returns-in-Ok-clause-printed
returns-in-Ok-clause-printed g c at known =
    let output = option_map (λ path. path.now) c.args.output in
    let texts = texts_at at c.args.arguments.now in
    let written = c.args.arguments.now.format in
    let said : IsSaidOfLeft texts c.args.limit written (Ok c.in-Ok.left) =
    subst (λ (r : Result Left Refusal). IsSaidOfLeft texts c.args.limit written r) c.in-Ok.is (c.in_ok-left.ensures.said at known) in
    if_ok c.outcome_of_left.result (IsPrintedWhere output c.in-Ok.left.printed)
    (IsOutcomeOfFree texts c.args.limit output written)
    (λ outcome is. (Ok said.0, said.1, (c.in-Ok.left.printed, said.2, is))) c.outcome_of_left.ensures.printed

pub returns-in-Err-clause-printed : goal.returns-in-Err-clause-printed
returns-in-Err-clause-printed g c at known =
    let output = option_map (λ path. path.now) c.args.output in
    let texts = texts_at at c.args.arguments.now in
    let written = c.args.arguments.now.format in
    let said : IsSaidOfLeft texts c.args.limit written (Err c.in-Err.refusal) =
    subst (λ (r : Result Left Refusal). IsSaidOfLeft texts c.args.limit written r) c.in-Err.is (c.in_ok-left.ensures.said at known) in
    if_ok c.outcome_of_refusal.result (IsOutcomeOfRefusal c.in-Err.refusal)
    (IsOutcomeOfFree texts c.args.limit output written)
    (λ outcome is. (Err c.in-Err.refusal, said, is)) c.outcome_of_refusal.ensures

pub returns-in_err-left-clause-left : goal.returns-in_err-left-clause-left
returns-in_err-left-clause-left g c at was f k =
    let written = c.args.arguments.now.format in
    none_left at was _ _ (IsLeftOfFree (texts_at at c.args.arguments.now) c.args.limit (option_map (λ path. path.now) c.args.output) written at was)
    _ c.from_residual.ensures.0 (c.in_err-left.ensures.same ∙ f, c.in_err-left.ensures.keeps ∙ k)

pub returns-in-Ok-clause-left : goal.returns-in-Ok-clause-left
returns-in-Ok-clause-left g c at was f k =
    let output = option_map (λ path. path.now) c.args.output in
    let texts = texts_at at c.args.arguments.now in
    let written = c.args.arguments.now.format in
    let left = c.in-Ok.left in
    let files = g.H.Host.files c.outcome_of_left.new.host in
    let kept = g.H.Host.kept c.outcome_of_left.new.host in
    let said : IsSaidOfLeft texts c.args.limit written (Ok left) =
    subst (λ (r : Result Left Refusal). IsSaidOfLeft texts c.args.limit written r) c.in-Ok.is (c.in_ok-left.ensures.said at f) in
    left_so at was files kept (IsLeftOfKept output left.request left.printed at was) (IsLeftOfFree texts c.args.limit output written at was)
    (λ outcome is. (
      Ok said.0,
      said.1,
      (left.printed, said.2, subst (λ (request : List ℕ). IsLeftOfKept output request left.printed at was outcome files kept) said.3 is),
    ))
    c.outcome_of_left.result (c.outcome_of_left.ensures.left at was (c.in_ok-left.ensures.same ∙ f) (c.in_ok-left.ensures.keeps ∙ k))

pub returns-in-Err-clause-left : goal.returns-in-Err-clause-left
returns-in-Err-clause-left g c at was f k =
    let output = option_map (λ path. path.now) c.args.output in
    let texts = texts_at at c.args.arguments.now in
    let written = c.args.arguments.now.format in
    let said : IsSaidOfLeft texts c.args.limit written (Err c.in-Err.refusal) =
    subst (λ (r : Result Left Refusal). IsSaidOfLeft texts c.args.limit written r) c.in-Err.is (c.in_ok-left.ensures.said at f) in
    all_left at was _ _ (IsOutcomeOfRefusal c.in-Err.refusal) (IsLeftOfFree texts c.args.limit output written at was)
    (λ outcome is same. (Err c.in-Err.refusal, said, (is, same)))
    c.outcome_of_refusal.result c.outcome_of_refusal.ensures (c.in_ok-left.ensures.same ∙ f, c.in_ok-left.ensures.keeps ∙ k)
