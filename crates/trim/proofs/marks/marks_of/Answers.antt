-- In the end every line was looked at.
use Rattle.std.proofs.Common.{◌≡◌, ℕ, subst, arith}
use Rattle.trim.specs.Marks.{AreMarks}
use Rattle.trim.proofs.marks.marks_of.Goals as goal

pub returns : goal.returns
returns c =
    let none : c.loop-number.number ≡ 0 = omega arith in
    subst (λ (number : ℕ). AreMarks c.args.lines.now c.loop-number.marks.items number) none c.loop-number.invariant.0
