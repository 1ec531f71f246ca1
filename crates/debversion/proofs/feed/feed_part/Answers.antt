use Rattle.std.proofs.Common.{◌<◌, ◌∙◌, ap, length, rules, sym}
use Rattle.std.specs.List.{fold}
use Rattle.debversion.specs.HashInput.{part_input}
use Rattle.debversion.proofs.Pieces.{after_piece-lt, fed-step}
use Rattle.debversion.proofs.feed.feed_part.Goals as goal

pub loop-rest-smaller : goal.loop-rest-smaller
loop-rest-smaller g c =
    let some : 0 < length c.loop-rest.rest.now = search rules in
    rw c.feed_piece-rest.ensures.rest (after_piece-lt c.loop-rest.rest.now some)

pub loop-rest-preserved : goal.loop-rest-preserved
loop-rest-preserved g c =
    let some : 0 < length c.loop-rest.rest.now = search rules in
    ap (λ s. fold g.H.Hasher.write s (part_input c.feed_piece-rest.result.now)) c.feed_piece-rest.ensures.fed
    ∙ rw c.feed_piece-rest.ensures.rest
    (sym (fed-step g.H.Hasher.write c.loop-rest.state c.loop-rest.rest.now some) ∙ c.loop-rest.invariant)
