-- The clause is one of an installed package of another name.
use Rattle.std.proofs.Common.{◌≡◌, true, false, sym, ap, ◌∙◌}
use Rattle.rules.specs.State.{is_installed_state}
use Rattle.fixed_order.proofs.NeedLemmas.{needed_by, not_both}
use Rattle.fixed_order.proofs.needs.needs_by.Goals as goal

pub returns-in-Some : goal.returns-in-Some
returns-in-Some c = λ unmet. needed_by c.args.db.now c.args.name.now c.args.entry.now c.in-Some.clause.now c.requires
    (ap is_installed_state (sym c.state.ensures) ∙ sym c.is_installed.ensures ∙ c.if-not-is_installed.false)
    (λ same. absurd (let e : true ≡ false = sym (c.is_same.ensures.1 (c.name.ensures ∙ same)) ∙ c.if-is_same.false in cc))
    c.in-Some.ensures
    (λ all. not_both c.is_met_without.result unmet (c.is_met_without.ensures.1 all))
