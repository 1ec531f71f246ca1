-- The objects and the counts stand beside what was there.
use Rattle.std.proofs.Common.{List, map, subst}
use Rattle.std.proofs.lemmas.Result.{on_ok_weaker}
use Rattle.json_answers.proofs.lines.put_lines.Goals as goal
use Rattle.json_answers.specs.Lines.{AreWithLines}
use Rattle.refutation.specs.declared.line.Line.{Line}
use Rattle.serde_json.specs.View.{members_view, view}

pub returns : goal.returns
returns c =
    let u = c.args.universe.now in
    let old = members_view c.args.members.now.map.entries in
    let new = members_view c.put_objects.new.members.map.entries in
    on_ok_weaker c.put_objects.result
    (λ e. let are : AreWithLines u c.as_slice-lines.result.now old new =
    record { values = map view c.in_ok-values.values.items; objects = c.in_ok-values.ensures; members = e } in
    subst (λ (lines : List Line). AreWithLines u lines old new) c.as_slice-lines.ensures are)
    c.put_objects.ensures
