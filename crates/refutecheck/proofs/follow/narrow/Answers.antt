-- The negation of the one that is open is false too.
use Rattle.std.proofs.Common.{◌≡◌, ◌⊎◌, subst}
use Rattle.std.specs.List.{Contains}
use Rattle.refutation.specs.declared.literal.Literal.{Literal}
use Rattle.refutecheck.specs.Falses.{IsFalse}
use Rattle.refutecheck.specs.Following.{AreAlike}
use Rattle.refutecheck.proofs.OpenLemmas.{narrow_one}
use Rattle.refutecheck.proofs.follow.narrow.Goals as goal

pub returns-in_ok-insert-in-One : goal.returns-in_ok-insert-in-One
returns-in_ok-insert-in-One c =
    let After : Literal → Type 0 = λ literal. AreAlike (IsFalse c.insert.new.self)
    (λ other. IsFalse c.args.falses.now other ⊎ (other ≡ literal)) in
    narrow_one (IsFalse c.args.falses.now) (Contains c.args.clause.now) (IsFalse c.insert.new.self) c.in-One.literal c.in-One.ensures
    (subst After c.negation.ensures c.in_ok-insert-in-One.ensures)
