-- The value stands behind the name in the field's lines.
use Rattle.std.proofs.Common.{ℕ, List, length, drop, ap, ◌∙◌, arith}
use Rattle.stanza.specs.Field.{FieldText}
use Rattle.stanza.specs.Starts.{behind_colon, trim}
use Rattle.stanza.proofs.WithinLemmas.{name-within, value-behind}
use Rattle.stanza.proofs.starts.FieldAt.value.Goals as goal

pub value_behind-requires : goal.value_behind-requires
value_behind-requires c =
    let within = name-within c.self.inside.number c.self.inside.lines.now c.self.invariant.0 in
    omega (arith, within, ap length c.self.invariant.1)

pub returns : goal.returns
returns c =
    c.value_behind.ensures ∙ ap (λ (name : List ℕ). trim (behind_colon (drop (length name) c.self.inside.lines.now))) c.self.invariant.1
    ∙ value-behind c.self.inside.number c.self.inside.lines.now c.self.invariant.0 ∙ ap (λ (f : FieldText). f.value) c.self.view_is
