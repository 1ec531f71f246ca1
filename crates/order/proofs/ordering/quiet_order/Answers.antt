-- The members are what is chosen, with its stanzas.
use Rattle.std.proofs.Common.{List, sym, subst, ap, ◌∙◌}
use Rattle.std.specs.List.{All}
use Rattle.rules.specs.Package.{Pkg}
use Rattle.universe_parts.specs.Parts.{packages_of}
use Rattle.forward_steps.specs.PartialPlan.{HasStanza}
use Rattle.order.specs.Order.{IsOrder}
use Rattle.forward_steps.specs.Selection.{IsOneEach, chosen}
use Rattle.order.proofs.BareLemmas.{order_from_bare}
use Rattle.order.proofs.EndLemmas.{members_have_stanzas}
use Rattle.forward_steps.proofs.MemberLemmas.{bare_one_each, chosen_members}
use Rattle.order.proofs.ordering.quiet_order.Goals as goal

pub members_order-requires-clause-one_each : goal.members_order-requires-clause-one_each
members_order-requires-clause-one_each c = subst IsOneEach
    (sym (ap packages_of (c.lend.ensures ∙ c.in_ok-members.ensures) ∙ chosen_members c.args.universe.now c.args.selection.now))
    (bare_one_each (chosen c.args.universe.now c.args.selection.now) c.requires.one_each)

pub members_order-requires-clause-stanzas : goal.members_order-requires-clause-stanzas
members_order-requires-clause-stanzas c = subst (All (HasStanza c.args.universe.now)) (sym (c.lend.ensures ∙ c.in_ok-members.ensures))
    (members_have_stanzas c.args.universe.now c.args.selection.now)

pub returns : goal.returns
returns c = order_from_bare c.args.universe.now c.args.start.now (chosen c.args.universe.now c.args.selection.now) c.in_ok-ordered.ordered
    (subst (λ (pkgs : List Pkg). IsOrder c.args.universe.now c.args.start.now pkgs c.in_ok-ordered.ordered)
    (ap packages_of (c.lend.ensures ∙ c.in_ok-members.ensures) ∙ chosen_members c.args.universe.now c.args.selection.now)
    c.in_ok-ordered.ensures)
