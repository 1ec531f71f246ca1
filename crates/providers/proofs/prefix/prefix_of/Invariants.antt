-- The first bytes so far, and that the name is of bytes.
use Rattle.std.proofs.Common.{◌≡◌, ◌<◌, ℕ, get_or}
use Rattle.providers.specs.Prefix.{leading}
use Rattle.providers.proofs.prefix.prefix_of.Given as goal

abbrev pub invariant-loop-place : goal.invariant-loop-place
invariant-loop-place l = record {
  value : l.prefix ≡ leading l.place l.name;
  bytes : (k : ℕ) → get_or l.name k 0 < 256;
}
