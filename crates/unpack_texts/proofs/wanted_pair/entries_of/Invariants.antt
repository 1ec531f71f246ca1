-- The packages so far.
use Rattle.std.proofs.Common.{◌≡◌, Bor, map, take}
use Rattle.rules.specs.Step.{IndexPackage}
use Rattle.unpack_texts.proofs.wanted_pair.entries_of.Given as goal

abbrev pub invariant-loop-one : goal.invariant-loop-one
invariant-loop-one l = map (λ (entry : Bor IndexPackage). entry.now) l.entries.items ≡ map (λ one. one.listed) (take l.one-index l.wanted)
