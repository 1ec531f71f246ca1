-- The premise of the name.
use Rattle.std.proofs.Common.{◌≡◌}
use Rattle.refutation.specs.declared.line.Premise.TheVariants as premise
use Rattle.encode.specs.Starts.{IsEssentialBy}
use Rattle.encode.proofs.GrowLemmas.{in_words}
use Rattle.encode.proofs.StartLemmas.{essential_by}
use Rattle.encode.proofs.starts.add_essential.Goals as goal

pub returns-then-is_needed : goal.returns-then-is_needed
returns-then-is_needed c = in_words c.args.facts.now c.args.encoding.now c.add_needed.new.encoding (λ reason. reason ≡ premise.Essential c.name.result.now)
    (IsEssentialBy c.args.start.now) (essential_by c.args.start.now c.name.result.now c.name.ensures (c.is_needed.ensures.0 c.if-is_needed.true))
    c.in_ok-add_needed.ensures
