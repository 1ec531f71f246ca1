-- The premise of the name.
use Rattle.std.proofs.Common.{◌≡◌}
use Rattle.refutation.specs.declared.line.Premise.TheVariants as premise
use Rattle.encode.specs.Starts.{IsKeepBy}
use Rattle.encode.proofs.GrowLemmas.{in_words}
use Rattle.encode.proofs.StartLemmas.{keep_by}
use Rattle.encode.proofs.starts.add_keep.Goals as goal

pub returns-then-stands : goal.returns-then-stands
returns-then-stands c = in_words c.args.facts.now c.args.encoding.now c.add_kept.new.encoding (λ reason. reason ≡ premise.Keep c.name.result.now)
    (IsKeepBy c.args.facts.now c.args.start.now) (keep_by c.args.facts.now c.args.start.now c.name.result.now c.name.ensures
    (c.requires.0 (cc c.if-not-keeps.false)) (c.stands.ensures.0 c.if-stands.true))
    c.in_ok-add_kept.ensures
