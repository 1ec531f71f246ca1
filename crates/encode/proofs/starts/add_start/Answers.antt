-- The three kinds of premises of a name.
use Rattle.std.proofs.Common.{◌⊎◌}
use Rattle.refutation.specs.declared.line.Premise.{Premise}
use Rattle.encode.specs.Starts.{IsEssentialBy, IsHoldBy, IsKeepBy, IsSaidBy}
use Rattle.encode.proofs.GrowLemmas.{and_then, in_words}
use Rattle.encode.proofs.StartLemmas.{three_said}
use Rattle.encode.proofs.starts.add_start.Goals as goal

pub returns : goal.returns
returns c =
    let Hold : Premise → Type 0 = IsHoldBy c.args.facts.now c.args.start.now in
    let Essential : Premise → Type 0 = IsEssentialBy c.args.start.now in
    let Keep : Premise → Type 0 = IsKeepBy c.args.facts.now c.args.start.now in
    in_words c.args.facts.now c.args.encoding.now c.add_keep.new.encoding (λ reason. (Hold reason ⊎ Essential reason) ⊎ Keep reason)
    (IsSaidBy c.args.facts.now c.args.start.now) (three_said c.args.facts.now c.args.start.now)
    (and_then c.args.facts.now c.args.encoding.now c.add_essential.new.encoding c.add_keep.new.encoding (λ reason. Hold reason ⊎ Essential reason) Keep
    (and_then c.args.facts.now c.args.encoding.now c.add_hold.new.encoding c.add_essential.new.encoding Hold Essential
    c.in_ok-add_hold.ensures c.in_ok-add_essential.ensures) c.in_ok-add_keep.ensures)
