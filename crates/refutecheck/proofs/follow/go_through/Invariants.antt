-- Going through the hints that are left is going through all.
use Rattle.std.proofs.Common.{ℕ, drop}
use Rattle.std.specs.Prelude.{◌↔◌}
use Rattle.refutecheck.specs.Falses.{IsFalse}
use Rattle.refutecheck.specs.Following.{GoesThrough}
use Rattle.refutecheck.proofs.follow.go_through.Given as goal

abbrev pub invariant-loop-hint : goal.invariant-loop-hint
invariant-loop-hint l = (last : ℕ) → GoesThrough l.clauses (IsFalse l.fn.falses) l.hints last
    ↔ GoesThrough l.clauses (IsFalse l.falses) (drop l.hint-index l.hints) last
