-- What was found before a fault stands; where memory was wanting nothing is said.
use Rattle.std.proofs.Common.{◌≡◌}
use Rattle.std.proofs.lemmas.Result.{on_ok_weaker}
use Rattle.cli.proofs.AgainLemmas.{found_anyway}
use Rattle.cli.proofs.archives.find_in_text.Goals as goal
use Rattle.json_answers.specs.Archives.{found_also, stanzas_of}

pub returns-clause-archives : goal.returns-clause-archives
returns-clause-archives g c bytes known = on_ok_weaker c.unless_memory.result
    (found_anyway (c.read_archives-read.new.archives ≡ found_also c.args.arch.now (stanzas_of bytes) c.args.archives.now) c.read_archives-read.result
    (c.read_archives-read.ensures.known bytes known) (c.read_archives-read.ensures.faulty bytes known))
    c.unless_memory.ensures
