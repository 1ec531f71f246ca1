-- The pairs so far, and those of the stanzas that are left, are the pairs of all.
use Rattle.std.proofs.Common.{◌≡◌, ◌++◌, drop}
use Rattle.std.specs.Option.{option_copied}
use Rattle.universe_build.specs.ByName.{listed_pairs}
use Rattle.universe_build.proofs.pairs.listed_pairs.Given as goal

abbrev pub invariant-loop-stanza : goal.invariant-loop-stanza
invariant-loop-stanza l =
    l.pairs.items ++ listed_pairs l.known (drop l.stanza-index l.ordered) (option_copied l.candidate) l.versions l.asked
    ≡ listed_pairs l.known l.ordered (option_copied l.candidate) l.versions l.asked
