use Rattle.std.proofs.Common.{refl}
use Rattle.journal.proofs.HeaderLemmas.{unmade_unmarked}
use Rattle.journal.proofs.OpenedLemmas.{shown_marked}
use Rattle.journal.proofs.laws.what_is_unmade_shows_nothing.Goals as goal

pub returns : goal.returns
returns c = λ file h is shows. unmade_unmarked file is (shown_marked h.arch file h shows refl)
