-- The places of all that match the atom.
use Rattle.refutecheck.proofs.PairLemmas.{by_matching, within_pairs}
use Rattle.refutecheck.proofs.premises.Premises.push_matching.Goals as goal

pub push_all-requires : goal.push_all-requires
push_all-requires c = within_pairs c.args.self.now c.providers.result.now (cc (c.providers.ensures, c.self.view_is)) c.args.atom.now
    c.in_ok-places.places.items c.as_slice.result.now c.as_slice.ensures.value c.in_ok-places.ensures.matching

pub returns : goal.returns
returns c = by_matching c.args.self.now c.providers.result.now (cc (c.providers.ensures, c.self.view_is)) c.args.atom.now
    c.in_ok-places.places.items c.as_slice.result.now c.as_slice.ensures.value c.in_ok-places.ensures.matching
    c.args.literals.now.items c.push_all.new.literals.items c.in_ok-push_all.ensures
