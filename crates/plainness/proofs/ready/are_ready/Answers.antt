-- The packages that are asked are those of the members that stay.
use Rattle.std.proofs.Common.{List, ap, subst, sym, ◌∙◌}
use Rattle.rules.specs.Package.{Pkg}
use Rattle.plainness.specs.Parts.{AreStaying}
use Rattle.plainness.proofs.ReadyLemmas.{all_ready, lent}
use Rattle.plainness.proofs.ready.are_ready.Goals as goal

pub returns : goal.returns
returns c =
    let Are : List Pkg → Type 0 = AreStaying c.args.start.now (lent c.args.members.now) in
    let are = subst Are (sym (c.in_ok-staying.ensures ∙ ap lent c.as_slice.ensures.value)) c.in_ok-lent.ensures in
    let both = all_ready c.args.start.now c.args.members.now c.in_ok-staying.staying are in (
      λ so. both.0 (c.in_ok-answer.ensures.0 so),
      λ ready. c.in_ok-answer.ensures.1 (both.1 ready),
    )
