-- The table of the members tells which names have one.
use Rattle.std.proofs.Common.{List, ℕ, sym, ap, subst, ◌∙◌}
use Rattle.rules.specs.Sound.{HasMember}
use Rattle.rules.specs.State.{is_present_state}
use Rattle.fixed_order.specs.Problem.{members_in}
use Rattle.fixed_order.proofs.RemovalLemmas.{to_remove_test}
use Rattle.fixed_order.proofs.removal.is_to_remove.Goals as goal

pub returns-then-is_present : goal.returns-then-is_present
returns-then-is_present c =
    let member = c.requires.members c.name.result.now in
    to_remove_test (members_in c.args.problem.now) c.args.entry.now c.has.result
    (sym (c.is_present.ensures ∙ ap is_present_state c.state.ensures) ∙ c.if-is_present.true) (
      (λ so. subst (λ (n : List ℕ). HasMember n (members_in c.args.problem.now)) c.name.ensures (member.0 (c.has.ensures.0 so))),
      (λ has. c.has.ensures.1 (member.1 (subst (λ (n : List ℕ). HasMember n (members_in c.args.problem.now)) (sym c.name.ensures) has))),
    )
