use Rattle.std.proofs.Common.{subst}
use Rattle.status.proofs.NameLemmas.{slots-distinct-to}
use Rattle.status_text.specs.Slot.{Store}
use Rattle.status.specs.Places.{AreDistinct}
use Rattle.status.specs.Slots.{names_of}
use Rattle.status.proofs.database.Database.names.Goals as goal

pub returns-clause-distinct : goal.returns-clause-distinct
returns-clause-distinct c =
    slots-distinct-to c.args.self.now.slots (subst (λ (store : Store). AreDistinct (names_of store.slots)) c.self.view_is c.is_sound.ensures.distinct)
