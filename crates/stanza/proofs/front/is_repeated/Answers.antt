-- A test of the fields' names is one of the names of the lines.
use Rattle.std.proofs.Common.{sym, ◌∙◌}
use Rattle.stanza.specs.Line.{lines_of}
use Rattle.stanza.specs.Field.{same_name}
use Rattle.stanza.proofs.NameLemmas.{list_any-fields}
use Rattle.stanza.proofs.front.is_repeated.Goals as goal

pub returns-then-not-may_repeat : goal.returns-then-not-may_repeat
returns-then-not-may_repeat c =
    rw (sym c.if-not-may_repeat.ensures) (c.has_field.ensures ∙ list_any-fields c.args.form 1 (lines_of c.args.done.now) (λ name. same_name name c.args.name.now))
