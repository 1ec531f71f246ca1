-- The stanzas so far, and those of what is left, are those of all.
use Rattle.std.proofs.Common.{◌≡◌, ◌++◌, drop}
use Rattle.installable.proofs.ShardLemmas.{every}
use Rattle.installable.proofs.shard.part_of.Given as goal

abbrev pub invariant-loop-stanza : goal.invariant-loop-stanza
invariant-loop-stanza l = l.part.items ++ every l.shard.between l.left (drop l.stanza-index l.all) ≡ every l.shard.between l.shard.before l.all
