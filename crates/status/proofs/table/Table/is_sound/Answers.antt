use Rattle.std.proofs.Common.{subst}
use Rattle.status.proofs.StoredLemmas.{kept-faithful, kept-same}
use Rattle.status.proofs.TextLemmas.{texts_in}
use Rattle.status.specs.Faithful.{IsSound}
use Rattle.status.proofs.table.Table.is_sound.Goals as goal
use Rattle.std.specs.Arc.{arc_slice_items}

pub returns : goal.returns
returns c =
    let arch = c.self.inside.arch.items in
    let texts = texts_in (λ t. arc_slice_items t) c.self.inside.places.items in
    subst IsSound c.self.view_is (record {
      distinct = c.self.invariant.0.1;
      each = kept-faithful arch texts c.self.invariant.1;
      stored = kept-same arch texts c.self.invariant.1;
    })
