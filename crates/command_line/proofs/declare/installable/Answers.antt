use Rattle.std.proofs.Common.{◌++◌, ◌∷◌, [], codes}
use Rattle.command_line.specs.Program.{archive_options, option, optional, repeatable, survey_options, telling_options, word}
use Rattle.command_line.proofs.DeclareLemmas.{more}
use Rattle.command_line.proofs.declare.installable.Goals as goal

pub returns : goal.returns
returns c =
    let refutations = optional (option (codes "refutations")) in
    more (codes "installable") (archive_options ++ survey_options ++ refutations ∷ telling_options) (optional (repeatable (word (codes "name")))) _ _ _
    (c.in_ok-told.ensures (codes "installable") (archive_options ++ survey_options ++ refutations ∷ [])
    (more (codes "installable") (archive_options ++ survey_options) refutations _ _ _
    (c.in_ok-with_survey.ensures (codes "installable") archive_options
    (c.in_ok-optioned.ensures (codes "installable") c.command_of-start.ensures))
    c.optional-refutations.ensures c.in_ok-with_refutations.ensures))
    c.names-names.ensures c.in_ok-whole.ensures
