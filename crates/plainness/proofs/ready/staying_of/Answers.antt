-- One member more.
use Rattle.std.proofs.Common.{◌≡◌, ◌⊎◌, Bor, subst}
use Rattle.std.specs.Prelude.{◌↔◌}
use Rattle.std.specs.List.{Contains}
use Rattle.std.proofs.lemmas.List.{take_all}
use Rattle.plain.specs.Change.{Stays}
use Rattle.rules.specs.Package.{Pkg}
use Rattle.plainness.proofs.ReadyLemmas.{all_stay, lent, more_stay}
use Rattle.plainness.proofs.ready.staying_of.Goals as goal

pub loop-member-preserved : goal.loop-member-preserved
loop-member-preserved c =
    let Adds : Bor Pkg → Type 0 = λ member. (pkg : Pkg) → Contains (lent c.push_staying.new.staying.items) pkg
    ↔ (Contains (lent c.loop-member.staying.items) pkg ⊎ ((pkg ≡ member.now) × Stays c.args.start.now pkg)) in
    more_stay c.args.start.now c.args.members.now c.loop-member.staying.items c.push_staying.new.staying.items c.loop-member.member-index
    c.member-item.result c.loop-member-test.true (subst Adds c.member-item.is c.in_ok-push_staying.ensures) c.loop-member.invariant

pub returns : goal.returns
returns c = all_stay c.args.start.now c.args.members.now c.loop-member.staying.items c.loop-member.member-index
    (take_all c.loop-member.member-index c.args.members.now c.loop-member-test.false) c.loop-member.invariant
