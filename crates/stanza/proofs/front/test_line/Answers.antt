-- A line that passes all tests has no fault, and its name's slot is taken.
use Rattle.std.proofs.Common.{◌≡◌, sym, ap, ◌∙◌, false, not}
use Rattle.std.proofs.lemmas.Bool.{and_parts, not-true}
use Rattle.stanza.specs.Line.{lines_of, is_comment, is_continuation}
use Rattle.stanza.specs.Field.{is_name, name_of}
use Rattle.stanza.specs.Fault.{is_repeated}
use Rattle.stanza.proofs.FaultLemmas.{fault_of-field}
use Rattle.stanza.proofs.NameLemmas.{AreSeen-field}
use Rattle.stanza.proofs.StartsLemmas.{name-found}
use Rattle.stanza.proofs.front.test_line.Goals as goal

pub returns : goal.returns
returns c =
    let form = c.args.form in
    let line = c.args.line.now in
    let before = lines_of c.args.done.now in
    let on_line = name-found form c.args.opened c.args.number line c.in-Some.name c.in_ok-name.field-0 c.in-Some.is c.in_ok-name.ensures in
    let kinds = and_parts (not (is_comment form line)) (not (is_continuation line)) on_line.begins in
    let first : is_repeated form before (name_of line) ≡ false = ap (is_repeated form before) (sym on_line.is) ∙ sym c.if-is_known.ensures in (
      fault_of-field form before c.args.number line (not-true (is_comment form line) kinds.0) (not-true (is_continuation line) kinds.1) on_line.colon (ap is_name (sym on_line.is) ∙ on_line.good) first,
      AreSeen-field form before line c.in-Some.name.now c.args.seen.now.slots c.add.new.self.slots on_line.begins on_line.is c.requires.seen c.add.ensures.slots c.add.ensures.added,
    )
