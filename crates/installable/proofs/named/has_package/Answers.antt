-- The stanzas of what is read are those of the indices.
use Rattle.std.proofs.Common.{◌∙◌, ℕ, List, bytes_eq, sym}
use Rattle.std.specs.List.{list_any}
use Rattle.index.proofs.NameLemmas.{list_any-map}
use Rattle.rules.specs.Available.{Index}
use Rattle.installable.proofs.named.has_package.Goals as goal

pub returns : goal.returns
returns c = c.some_has.ensures
    ∙ sym (list_any-map (λ (index : Index). list_any (λ stanza. bytes_eq stanza.pkg.name c.args.name.now) index.listed) (λ read. read.index)
    c.args.indices.now)
