-- Both tests together.
use Rattle.std.proofs.Common.{◌≡◌, true, false, subst, sym, ◌∙◌}
use Rattle.std.specs.List.{All}
use Rattle.std.specs.Prelude.{◌↔◌, IsTrue}
use Rattle.rules.specs.Sound.{HasVersion}
use Rattle.rules.specs.Database.{installed_of}
use Rattle.order.proofs.EndLemmas.{exact_where, selected_from_exact}
use Rattle.order.proofs.end.is_exact.Goals as goal

pub returns-then-are_selected : goal.returns-then-are_selected
returns-then-are_selected c =
    let both = exact_where c.args.members.now c.args.db.now c.are_selected.result c.are_installed.result c.requires c.are_selected.ensures
    (subst (λ members. IsTrue c.are_installed.result ↔ All (λ member. HasVersion member.pkg.name member.pkg.version (installed_of c.args.db.now)) members)
    c.as_slice.ensures c.are_installed.ensures) in
    (λ is. both.0 (c.if-are_selected.true, is), λ exact. (both.1 exact).1)

pub returns-else-are_selected : goal.returns-else-are_selected
returns-else-are_selected c = (
  λ is. absurd (let e : true ≡ false = sym is ∙ c.if-are_selected.false in cc),
  λ exact. c.are_selected.ensures.1 (selected_from_exact c.args.members.now c.args.db.now c.requires exact),
)
