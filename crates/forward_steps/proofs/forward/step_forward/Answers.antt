-- Where none of the kinds of step is taken, none that leads on is allowed.
use Rattle.std.proofs.Common.{◌≡◌, List, subst, ◌∙◌}
use Rattle.std.specs.List.{All}
use Rattle.rules.specs.Database.{Record}
use Rattle.forward_steps.specs.PartialPlan.{CannotPurge, CannotUnpack, NoneConfigured, NoneRemoved, selected_in}
use Rattle.forward_steps.specs.Forward.{IsAtRest}
use Rattle.forward_steps.proofs.MoveLemmas.{at_rest, moves_from, stayed}
use Rattle.forward_steps.proofs.forward.step_forward.Goals as goal

pub returns-clause-moves : goal.returns-clause-moves
returns-clause-moves c =
    let u = c.args.problem.now.universe.now in
    let selected = selected_in c.args.problem.now in
    let old = c.args.plan.now.db in
    let first = c.unpack_first.new.plan.db in
    let second = c.configure_first.new.plan.db in
    let third = c.remove_first.new.plan.db in
    let unpack = stayed selected old first c.in_ok-unpacked.unpacked (All (CannotUnpack u old) c.args.problem.now.members.now)
    c.if-unpacked.false c.in_ok-unpacked.ensures.moves in
    let configure = stayed selected first second c.in_ok-configured.configured (NoneConfigured u selected first)
    c.if-configured.false c.in_ok-configured.ensures.moves in
    let remove = stayed selected second third c.in_ok-removed.removed (NoneRemoved u selected second)
    c.if-removed.false c.in_ok-removed.ensures.moves in
    let to_second : second ≡ old = configure.1 ∙ unpack.1 in
    let to_third : third ≡ old = remove.1 ∙ to_second in
    moves_from selected old third c.purge_first.new.plan.db c.in_ok-purged.purged (All (CannotPurge u third) u.goals)
    (IsAtRest u selected old) to_third
    (λ purge. at_rest u c.args.problem.now.members.now old unpack.0
    (subst (λ (db : List Record). NoneConfigured u selected db) unpack.1 configure.0)
    (subst (λ (db : List Record). NoneRemoved u selected db) to_second remove.0)
    (subst (λ (db : List Record). All (CannotPurge u db) u.goals) to_third purge))
    c.in_ok-purged.ensures.moves
