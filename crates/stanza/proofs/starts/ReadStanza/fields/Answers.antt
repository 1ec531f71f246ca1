-- The fields that begin where fields were found are the stanza's.
use Rattle.std.proofs.Common.{List, map, sym, ap, subst, ◌∙◌}
use Rattle.stanza.specs.Stanza.{StanzaText}
use Rattle.stanza.specs.Starts.{AreWithin, field_at}
use Rattle.stanza.specs.declared.starts.FieldStart.{FieldStart}
use Rattle.stanza.proofs.StartsLemmas.{fields-at}
use Rattle.stanza.proofs.WithinLemmas.{within-at}
use Rattle.stanza.proofs.starts.ReadStanza.fields.Goals as goal

pub invariant_of-result : goal.invariant_of-result
invariant_of-result c =
    subst (AreWithin c.self.inside.form c.self.inside.raw.now) (sym c.self.invariant.1) (within-at c.self.inside.form c.self.inside.line c.self.inside.raw.now)

pub returns : goal.returns
returns c =
    ap (λ (starts : List FieldStart). map (field_at c.self.inside.raw.now) starts) c.self.invariant.1
    ∙ fields-at c.self.inside.form c.self.inside.line c.self.inside.raw.now ∙ ap (λ (s : StanzaText). s.fields) c.self.view_is
