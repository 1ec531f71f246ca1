-- The offers so far are those of what stands alone, but for the records that are left.
use Rattle.std.proofs.Common.{drop}
use Rattle.candidates.proofs.Alone.{AreAlone}
use Rattle.candidates.proofs.rated.standing_offers.Given as goal

abbrev pub invariant-loop-entry : goal.invariant-loop-entry
invariant-loop-entry l = AreAlone l.prefs l.known l.places (drop l.entry-index l.known) l.offers.items
