-- The name in small letters is looked up.
use Rattle.std.proofs.Common.{ℕ, List, ap, ◌∙◌, bytes_eq}
use Rattle.std.specs.List.{list_any}
use Rattle.stanza.proofs.KnownLemmas.{any-keys}
use Rattle.stanza.proofs.known.Folded.has.Goals as goal

pub returns : goal.returns
returns c =
    c.contains.ensures
    ∙ any-keys (λ name. name.items) (bytes_eq c.as_slice.result.now) c.self.inside.names.keys
    ∙ ap (list_any (bytes_eq c.as_slice.result.now)) c.self.view_is
    ∙ ap (λ (asked : List ℕ). list_any (bytes_eq asked) c.args.self.now) (c.as_slice.ensures.value ∙ c.in_ok-folded.ensures.ok)
