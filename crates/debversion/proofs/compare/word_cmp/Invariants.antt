use Rattle.std.proofs.Common.{◌≡◌, drop}
use Rattle.rules.specs.Version.{word_cmp}
use Rattle.debversion.proofs.compare.word_cmp.Given as goal

abbrev pub invariant-loop-place : goal.invariant-loop-place
invariant-loop-place l = word_cmp l.a l.b ≡ word_cmp (drop l.place l.a) (drop l.place l.b)
