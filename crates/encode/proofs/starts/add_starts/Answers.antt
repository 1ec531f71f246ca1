-- One more of the starts.
use Rattle.std.proofs.Common.{◌≡◌, ◌∙◌, List, ap, subst}
use Rattle.std.specs.List.{Any}
use Rattle.std.proofs.lemmas.List.{take_all}
use Rattle.rules.specs.Universe.{Start, Universe}
use Rattle.refutation.specs.Premise.{IsPremise}
use Rattle.encode.specs.Growing.{IsOfStart}
use Rattle.encode.specs.Starts.{IsSaidBy}
use Rattle.encode.proofs.StartLemmas.{all_starts}
use Rattle.refutation.specs.declared.line.Premise.{Premise}
use Rattle.encode.specs.Growing.{Grows}
use Rattle.encode.proofs.GrowLemmas.{by_none_taken, in_words, one_item_more}
use Rattle.encode.proofs.starts.add_starts.Goals as goal

pub loop-start-init : goal.loop-start-init
loop-start-init c = by_none_taken c.args.facts.now c.args.encoding.now (λ (start : Start) reason. IsSaidBy c.args.facts.now start reason) c.starts-starts.result.now

pub loop-start-preserved : goal.loop-start-preserved
loop-start-preserved c =
    let By : Start → Type 0 = λ start. Grows c.args.facts.now c.loop-start.encoding c.add_start.new.encoding (λ reason. IsSaidBy c.args.facts.now start reason) in
    one_item_more c.args.facts.now c.args.encoding.now c.loop-start.encoding c.add_start.new.encoding (λ (start : Start) reason. IsSaidBy c.args.facts.now start reason)
    c.starts-starts.result.now c.loop-start.start-index c.start-item.result c.loop-start-test.true c.loop-start.invariant
    (subst By c.start-item.is c.in_ok-add_start.ensures)

pub returns : goal.returns
returns c =
    let Kind : List Start → Premise → Type 0 = λ xs reason. Any (λ start. IsSaidBy c.args.facts.now start reason) xs in
    let Over : List Start → Type 0 = λ xs. Grows c.args.facts.now c.args.encoding.now c.loop-start.encoding (Kind xs) in
    let same : c.starts-starts.result.now ≡ c.args.facts.now.starts = c.starts-starts.ensures ∙ ap (λ (u : Universe). u.starts) c.part-2.ensures in
    in_words c.args.facts.now c.args.encoding.now c.loop-start.encoding (Kind c.args.facts.now.starts) (λ reason. IsPremise c.args.facts.now reason × IsOfStart reason)
    (all_starts c.args.facts.now)
    (subst Over same (subst Over (take_all c.loop-start.start-index c.starts-starts.result.now c.loop-start-test.false) c.loop-start.invariant))
