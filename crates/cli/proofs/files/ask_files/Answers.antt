-- The files at the paths are what is found on the shelf.
use Rattle.std.proofs.Common.{◌∙◌}
use Rattle.cli.proofs.ShelfLemmas.{found_at}
use Rattle.cli.proofs.files.ask_files.Goals as goal
use Rattle.cli.specs.Files.{shelved_at}

pub returns-clause-said : goal.returns-clause-said
returns-clause-said g c at known = c.ask.ensures.said (shelved_at at c.args.shelf.now.paths.now) (found_at c.args.shelf.now.paths.now at known)

pub returns-clause-texts : goal.returns-clause-texts
returns-clause-texts g c at known = c.ask.ensures.read.same ∙ found_at c.args.shelf.now.paths.now at known
