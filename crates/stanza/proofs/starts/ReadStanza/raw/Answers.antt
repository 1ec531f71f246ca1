-- The lines joined are the bytes.
use Rattle.std.proofs.Common.{sym, ap, ◌∙◌}
use Rattle.stanza.specs.Stanza.{StanzaText}
use Rattle.stanza.proofs.LineLemmas.{concat-lines_of}
use Rattle.stanza.proofs.starts.ReadStanza.raw.Goals as goal

pub returns : goal.returns
returns c = sym (concat-lines_of c.self.inside.raw.now) ∙ ap (λ (s : StanzaText). s.raw) c.self.view_is
