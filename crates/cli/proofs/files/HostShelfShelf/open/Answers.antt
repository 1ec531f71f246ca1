-- The text of an index is the file that its source names.
use Rattle.std.proofs.Common.{◌≡◌, ℕ, List, Some, IfOk}
use Rattle.cli.proofs.ShelfLemmas.{holds_at}
use Rattle.cli.proofs.files.HostShelfShelf.open.Goals as goal

pub returns-clause-text : goal.returns-clause-text
returns-clause-text g c = holds_at (g.H.Host.files c.args.self.now.host.now) c.args.self.now.paths.now
    (λ at. IfOk c.open.result (λ text.
    (bytes : List ℕ) × (at.index c.args.number c.args.file.now ≡ Some bytes) × (g.H.Text.Source.left text ≡ Some bytes)))
    c.open.ensures.text
