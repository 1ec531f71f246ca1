-- The holders of the name stand at its places.
use Rattle.std.proofs.Common.{◌∙◌, ap, subst, sym}
use Rattle.plancheck_state.specs.Holders.{AreHolders, places_in, records_at}
use Rattle.plancheck_state.proofs.ListedLemmas.{holders-at}
use Rattle.plancheck_state.proofs.lookup.Records.holders.Goals as goal

pub returns : goal.returns
returns c =
    let name = c.args.name.now in
    let records = c.self.inside.records.items in
    let are = c.new.ensures ∙ ap (λ db. records_at db c.of.result.now) c.as_slice.ensures.value ∙ ap (records_at records) c.of.ensures in
    subst (λ db. AreHolders name db c.new.result) c.self.view_is
    (subst (AreHolders name records) (sym are) (holders-at name records (places_in c.self.inside.places) c.self.invariant))
