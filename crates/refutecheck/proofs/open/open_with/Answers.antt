-- What becomes of each case with one literal more.
use Rattle.std.proofs.Common.{◌≡◌, Bool, true, false, subst, sym, ◌∙◌}
use Rattle.std.specs.Prelude.{IsTrue}
use Rattle.std.specs.List.{Contains}
use Rattle.refutecheck.specs.Falses.{IsFalse}
use Rattle.refutecheck.specs.Open.{IsOpenOf}
use Rattle.refutecheck.proofs.OpenLemmas.{with_false, with_first, with_more, with_same, with_second}
use Rattle.refutecheck.proofs.open.open_with.Goals as goal

-- what fails a test lacks what the test finds
isnt : (P : Type 0) (answer : Bool) → answer ≡ false → (P → IsTrue answer) → ¬ P
isnt P answer fails finds has = absurd (let e : false ≡ true = sym fails ∙ finds has in cc)

pub returns-then-has : goal.returns-then-has
returns-then-has c = λ clause is. with_false (IsFalse c.args.falses.now) clause c.args.literal c.args.so_far (c.has.ensures.0 c.if-has.true) is

pub returns-in-Nothing : goal.returns-in-Nothing
returns-in-Nothing c = λ clause is. with_first (IsFalse c.args.falses.now) clause c.args.literal
    (isnt (IsFalse c.args.falses.now c.args.literal) c.has.result c.if-has.false c.has.ensures.1)
    (subst (IsOpenOf (IsFalse c.args.falses.now) (Contains clause)) c.in-Nothing.is is)

pub returns-in-One : goal.returns-in-One
returns-in-One c = λ clause is. with_same (IsFalse c.args.falses.now) clause c.args.literal c.in-One.other
    (c.is_same.ensures.0 c.if-is_same.true) (subst (IsOpenOf (IsFalse c.args.falses.now) (Contains clause)) c.in-One.is is)

pub returns-in-One-2 : goal.returns-in-One-2
returns-in-One-2 c = λ clause is. with_second (IsFalse c.args.falses.now) clause c.args.literal c.in-One.other
    (isnt (IsFalse c.args.falses.now c.args.literal) c.has.result c.if-has.false c.has.ensures.1)
    (isnt (c.in-One.other ≡ c.args.literal) c.is_same.result c.if-is_same.false c.is_same.ensures.1)
    (subst (IsOpenOf (IsFalse c.args.falses.now) (Contains clause)) c.in-One.is is)

pub returns-in-More : goal.returns-in-More
returns-in-More c = λ clause is. with_more (IsFalse c.args.falses.now) clause c.args.literal
    (subst (IsOpenOf (IsFalse c.args.falses.now) (Contains clause)) c.in-More.is is)
