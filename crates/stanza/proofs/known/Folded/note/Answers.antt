-- The name in small letters is put last, unless it is there.
use Rattle.std.proofs.Common.{ℕ, List, map, ap, ◌∙◌, bytes_eq}
use Rattle.indexmap.specs.IndexSet.{insert_key}
use Rattle.stanza.proofs.KnownLemmas.{insert-keys}
use Rattle.stanza.proofs.known.Folded.note.Goals as goal

pub returns : goal.returns
returns c =
    ap (map (λ name. name.items)) c.in_ok-insert.ensures.keys
    ∙ insert-keys (λ name. name.items) c.self.inside.names.keys c.in_ok-folded.folded
    ∙ ap (λ (names : List (List ℕ)). insert_key bytes_eq names c.in_ok-folded.folded.items) c.self.view_is
    ∙ ap (insert_key bytes_eq c.args.self.now) c.in_ok-folded.ensures.ok
