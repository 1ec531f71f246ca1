use Rattle.std.proofs.Common.{◌≡◌, length}
use Rattle.std.specs.List.{fold}
use Rattle.debversion.specs.HashInput.{part_input}
use Rattle.debversion.proofs.feed.feed_part.Given as goal

abbrev pub invariant-loop-rest : goal.invariant-loop-rest
invariant-loop-rest g l =
    fold g.H.Hasher.write l.state (part_input l.rest) ≡ fold g.H.Hasher.write l.initial.state (part_input l.initial.rest)

abbrev pub decreases-loop-rest : goal.decreases-loop-rest
decreases-loop-rest g l = length l.rest
