-- What is left of the request is put to the members of its answer.
use Rattle.std.proofs.Common.{List, subst, ℕ}
use Rattle.cli.proofs.MemberLemmas.{added}
use Rattle.cli.proofs.possible.left_of.Goals as goal
use Rattle.cli.specs.Again.{archives_by}
use Rattle.cli.specs.Members.{AreAddedIn, with_left}
use Rattle.inputs.specs.Texts.{texts_of}
use Rattle.serde_json.specs.View.{members_view}

pub returns-clause-printed : goal.returns-clause-printed
returns-clause-printed g c at known =
    let kept = c.args.kept in
    let written = c.args.format in
    let old = members_view c.in_ok-members.members.map.entries in
    let new = members_view c.put_left.new.members.map.entries in
    let put : AreAddedIn written (with_left kept.request kept.notes) old new =
    subst (λ (notes : List ℕ). AreAddedIn written (with_left kept.request notes) old new) c.as_slice-2.ensures
    (subst (λ (request : List ℕ). AreAddedIn written (with_left request c.as_slice-2.result.now) old new) c.as_slice.ensures c.in_ok-put_left.ensures) in (
      c.in_ok-plain.plain,
      new,
      c.in_ok-plain.ensures,
      added (archives_by (texts_of c.args.settings.now at)) written kept old new (c.in_ok-members.ensures.members at known) put,
      c.in_ok-printed.ensures,
    )
