-- A name whose slot is free is new.
use Rattle.std.proofs.Common.{sym, not}
use Rattle.std.proofs.lemmas.Bool.{and_right}
use Rattle.stanza.specs.Line.{lines_of}
use Rattle.stanza.specs.Field.{names_of}
use Rattle.stanza.specs.Fault.{may_repeat}
use Rattle.stanza.proofs.NameLemmas.{new_name}
use Rattle.stanza.proofs.front.is_known.Goals as goal

pub returns-else-has_slot_of : goal.returns-else-has_slot_of
returns-else-has_slot_of c =
    sym (and_right (not (may_repeat c.args.form c.args.name.now)) _
    (new_name c.args.seen.now.slots (names_of c.args.form (lines_of c.args.done.now)) c.args.name.now c.requires (sym c.if-has_slot_of.ensures)))
