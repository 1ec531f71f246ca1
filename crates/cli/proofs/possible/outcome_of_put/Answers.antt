-- The request that is left stands at the output, or nothing is changed.
use Rattle.cli.proofs.LeavingLemmas.{left_behind}
use Rattle.cli.proofs.LeftLemmas.{put_left, put_where, some_of_request_put}
use Rattle.cli.proofs.ResultLemmas.{if_ok}
use Rattle.cli.proofs.possible.outcome_of_put.Goals as goal
use Rattle.cli.specs.Files.{Puts}
use Rattle.cli.specs.Kept.{NotesPut}
use Rattle.cli.specs.Leaving.{IsLeftOfKept}
use Rattle.cli.specs.Possible.{IsPrintedOfPut, IsPrintedWhere}
use Rattle.std.proofs.Common.{List, Some, false, subst, ℕ}

pub returns-clause-printed : goal.returns-clause-printed
returns-clause-printed g c =
    if_ok c.outcome_of_request_put.result (IsPrintedOfPut c.put-put.result c.args.left.printed) (IsPrintedWhere (Some c.args.output.now) c.args.left.printed)
    (put_where c.args.output.now c.args.left.printed c.put-put.result) c.outcome_of_request_put.ensures

pub returns-clause-left : goal.returns-clause-left
returns-clause-left g c at was f k =
    let r = c.put-put.result in
    let files = g.H.Host.files c.put-put.new.self in
    let kept = g.H.Host.kept c.put-put.new.self in
    let put = subst (λ (text : List ℕ). Puts c.args.output.now text at r files) c.as_slice.ensures
    (subst (λ (path : List ℕ). Puts path c.as_slice.result.now at r files) c.as_bytes.ensures.value (c.put-put.ensures.put at f)) in
    let noted = subst (λ (text : List ℕ). NotesPut false c.args.output.now text was r kept) c.as_slice.ensures
    (subst (λ (path : List ℕ). NotesPut false path c.as_slice.result.now was r kept) c.as_bytes.ensures.value (c.put-put.ensures.noted was k)) in
    left_behind at was files kept (IsPrintedOfPut r c.args.left.printed)
    (IsLeftOfKept (Some c.args.output.now) c.args.left.request c.args.left.printed at was)
    (put_left c.args.output.now c.args.left.request at was c.args.left.printed r files kept put noted)
    (some_of_request_put c.args.left.printed r) c.outcome_of_request_put.result c.outcome_of_request_put.ensures
