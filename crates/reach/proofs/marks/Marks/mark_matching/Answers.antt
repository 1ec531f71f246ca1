-- Just the places of packages that match are marked.
use Rattle.reach.proofs.ReachLemmas.{all_matching, places_within}
use Rattle.reach.proofs.marks.Marks.mark_matching.Goals as goal

pub mark_all-requires : goal.mark_all-requires
mark_all-requires c = places_within c.args.providers.now c.args.self.now.marks c.as_slice.result.now c.in_ok-places.places.items c.args.atom.now
    c.requires c.as_slice.ensures.value c.in_ok-places.ensures.matching

pub returns-clause-marked : goal.returns-clause-marked
returns-clause-marked c = all_matching c.args.providers.now c.mark_all.new.self.marks c.as_slice.result.now c.in_ok-places.places.items
    c.args.atom.now c.as_slice.ensures.value c.in_ok-places.ensures.matching c.in_ok-mark_all.ensures.marked
