-- The pair that is lent at the place before is that of the number.
use Rattle.std.proofs.Common.{List, ap, arith, ◌∙◌}
use Rattle.rules.specs.Universe.{Pair, Universe}
use Rattle.universe_parts.specs.Parts.{numbered}
use Rattle.reach.proofs.LentLemmas.{lent_numbered}
use Rattle.reach.proofs.pairs_part.Part.pair.Goals as goal

pub returns : goal.returns
returns c = lent_numbered c.self.inside.pairs.items c.as_slice.result.now c.args.number c.in_ok-place.place c.lent_at.result
    c.as_slice.ensures.value c.lent_at.ensures (omega (arith, c.in_ok-place.ensures))
    ∙ ap (λ (u : Universe). numbered c.args.number u.pairs) c.self.view_is
