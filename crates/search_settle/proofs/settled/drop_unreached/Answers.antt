-- Only the part that is reached is kept, which is less where a member isn't reached.
use Rattle.std.proofs.Common.{ℕ, ◌<◌, Bool, sym, subst, refl, arith}
use Rattle.std.proofs.Math.Path.{fun_ext}
use Rattle.search_settle.specs.Moves.{distance}
use Rattle.search_settle.specs.Reach.{AllReached, PartsAreTrue}
use Rattle.search_settle.specs.Settled.{IsCovered}
use Rattle.search_settle.specs.Truth.{AreTrue, holds}
use Rattle.search_settle.proofs.DistanceLemmas.{part_nearer}
use Rattle.search_settle.proofs.settled.drop_unreached.Goals as goal

pub returns-in-None-clause-reached : goal.returns-in-None-clause-reached
unfolding AllReached
returns-in-None-clause-reached c = λ same set closed number within chosen.
    c.in_ok-reached.ensures.members.sound set closed number (c.in-None.ensures number chosen)

pub returns-clause-makes_true : goal.returns-clause-makes_true
unfolding PartsAreTrue
returns-clause-makes_true c = subst (λ (selection : ℕ → Bool). AreTrue selection c.args.given.now.clauses)
    (sym (fun_ext c.keep_reached.ensures.kept))
    (c.requires.parts (holds c.args.set.now.items) (holds c.in_ok-reached.reached.marks) c.requires.before c.in_ok-reached.ensures.closed)

pub returns-clause-nearer : goal.returns-clause-nearer
unfolding IsCovered
returns-clause-nearer c = λ same. subst (λ (selection : ℕ → Bool). distance c.args.known.now c.args.given.now.numbers selection
    < distance c.args.known.now c.args.given.now.numbers (holds c.args.set.now.items)) (sym (fun_ext c.keep_reached.ensures.kept))
    (part_nearer c.args.known.now c.args.given.now.numbers (holds c.args.set.now.items) c.args.given.now (holds c.in_ok-reached.reached.marks)
    c.in-Some.field-0 refl c.in_ok-reached.ensures.closed c.requires.covered (omega (arith, c.in-Some.ensures.0, c.requires.long)) c.in-Some.ensures.1 c.in-Some.ensures.2)
