use Rattle.std.proofs.Common.{[], ◌∷◌, codes}
use Rattle.command_line.specs.Program.{word}
use Rattle.command_line.proofs.DeclareLemmas.{more}
use Rattle.command_line.proofs.declare.compare.Goals as goal

pub returns : goal.returns
returns c = more (codes "compare") (word (codes "version") ∷ word (codes "relation") ∷ []) (word (codes "other")) _ _ _
    (more (codes "compare") (word (codes "version") ∷ []) (word (codes "relation")) _ _ _
    (more (codes "compare") ([]) (word (codes "version")) _ _ _
    (c.command_of-start.ensures) c.word-version.ensures c.in_ok-with_version.ensures) c.word-relation.ensures c.in_ok-with_relation.ensures) c.word-other.ensures c.in_ok-whole.ensures
