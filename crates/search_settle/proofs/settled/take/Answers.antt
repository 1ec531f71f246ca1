-- The change brings nearer.
use Rattle.std.proofs.Common.{ℕ, ◌<◌, Bool, sym, subst}
use Rattle.std.proofs.Math.Path.{fun_ext}
use Rattle.search_settle.specs.Moves.{distance}
use Rattle.search_settle.specs.Truth.{holds}
use Rattle.search_settle.proofs.DistanceLemmas.{change_nearer}
use Rattle.search_settle.proofs.settled.take.Goals as goal

pub returns-clause-nearer : goal.returns-clause-nearer
returns-clause-nearer c = subst (λ (selection : ℕ → Bool). distance c.args.known.now c.args.given.now.numbers selection
    < distance c.args.known.now c.args.given.now.numbers (holds c.args.set.now.items)) (sym (fun_ext c.make.ensures.made))
    (change_nearer c.args.known.now c.args.given.now.numbers (holds c.args.set.now.items) c.args.given.now c.args.change
    c.requires.allowed.within c.requires.allowed.nearer)
