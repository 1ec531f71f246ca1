use Rattle.std.proofs.Common.{refl, sym, ◌∙◌}
use Rattle.rules.specs.Version.{is_colon}
use Rattle.debversion.proofs.Cuts.{first-position, list_any-no_position}
use Rattle.debversion.proofs.parse.split_at_colon.Goals as goal

pub returns-in_err-colon : goal.returns-in_err-colon
returns-in_err-colon c =
    rw c.from_residual.ensures
    (list_any-no_position is_colon c.args.text.now (sym c.first_colon.ensures ∙ c.in_err-colon.was))

pub returns : goal.returns
returns c =
    let first = first-position is_colon c.args.text.now c.in_ok-colon.colon (sym c.first_colon.ensures ∙ c.in_ok-colon.was) in
    rw first.some
    (refl, c.split_at.ensures.front ∙ sym first.before, c.split_at-2.ensures.back ∙ sym first.after)
