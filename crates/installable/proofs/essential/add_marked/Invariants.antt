-- The names so far, with those that the stanzas that are left mark, are those with all that the index marks.
use Rattle.std.proofs.Common.{◌≡◌, drop, fold}
use Rattle.index.specs.Names.{with_name}
use Rattle.installable.specs.Essential.{names_marked}
use Rattle.installable.proofs.essential.add_marked.Given as goal

abbrev pub invariant-loop-entry : goal.invariant-loop-entry
invariant-loop-entry l = fold with_name l.names.items (names_marked (drop l.entry-index l.index.index.listed))
    ≡ fold with_name l.fn.names.items (names_marked l.index.index.listed)
