-- The stanzas so far, and those of what is left that are asked about, are those of the index.
use Rattle.std.proofs.Common.{◌≡◌, ◌++◌, drop, map}
use Rattle.std.specs.List.{filter}
use Rattle.installable.specs.Asked.{is_asked}
use Rattle.installable.proofs.asked.asked_of.Given as goal

abbrev pub invariant-loop-entry : goal.invariant-loop-entry
invariant-loop-entry l = l.asked.items ++ filter (is_asked (map (λ name. name.now) l.names)) (drop l.entry-index l.index.index.listed)
    ≡ filter (is_asked (map (λ name. name.now) l.names)) l.index.index.listed
