-- The premises of the held pairs.
use Rattle.encode.specs.Starts.{IsHoldBy, IsHoldEach}
use Rattle.encode.proofs.GrowLemmas.{in_words}
use Rattle.encode.proofs.StartLemmas.{hold_premises}
use Rattle.encode.proofs.starts.add_hold.Goals as goal

pub returns : goal.returns
returns c = in_words c.args.facts.now c.args.encoding.now c.add_holds.new.encoding (IsHoldEach c.as_slice.result.now)
    (IsHoldBy c.args.facts.now c.args.start.now)
    (hold_premises c.args.facts.now c.args.start.now c.in_ok-pairs.pairs.items c.as_slice.result.now c.as_slice.ensures.value c.in_ok-pairs.ensures)
    c.in_ok-add_holds.ensures
