-- The look-up of what stands agrees with the test.
use Rattle.std.proofs.Common.{List, ℕ, sym, subst}
use Rattle.rules.specs.Universe.{StandsAs}
use Rattle.fixed_order.proofs.UnpackLemmas.{away_where_not}
use Rattle.fixed_order.proofs.unpack.is_away.Goals as goal

pub returns : goal.returns
returns c = away_where_not c.args.start.now c.args.pair.now.pkg c.stands_as.result (
  (λ is. subst (λ (v : List ℕ). StandsAs c.args.start.now c.args.pair.now.pkg.name v) c.version.ensures
      (subst (λ (n : List ℕ). StandsAs c.args.start.now n c.version.result) c.name.ensures (c.stands_as.ensures.0 is))),
  (λ stands. c.stands_as.ensures.1 (subst (λ (n : List ℕ). StandsAs c.args.start.now n c.version.result) (sym c.name.ensures)
      (subst (λ (v : List ℕ). StandsAs c.args.start.now c.args.pair.now.pkg.name v) (sym c.version.ensures) stands))),
)
