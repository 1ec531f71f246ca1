-- Several satisfy.
use Rattle.std.proofs.Common.{◌≡◌, ◌++◌, arith}
use Rattle.std.specs.Prelude.{codes}
use Rattle.refutation_sentences.specs.Words.{listed}
use Rattle.refutation_sentences.proofs.GrowLemmas.{by_three, satisfying_many}
use Rattle.refutation_sentences.proofs.context.Context.push_satisfying.Goals as goal

pub returns-in_ok-extend_from_slice-in_default-2 : goal.returns-in_ok-extend_from_slice-in_default-2
returns-in_ok-extend_from_slice-in_default-2 c =
    let u = c.args.self.now.premises.now in
    let before = codes ", which only " in
    let behind = codes " can satisfy" in
    let first : c.extend_from_slice-in_default.new.self.items ≡ c.args.text.now.items ++ before =
    cc c.in_ok-extend_from_slice-in_default.ensures.items in
    let third : c.extend_from_slice-in_default-2.new.self.items ≡ c.push_pairs.new.text.items ++ behind =
    cc c.in_ok-extend_from_slice-in_default-2.ensures.items in
    rw (satisfying_many u c.args.numbers.now c.args.why.now (omega arith))
    (by_three c.args.text.now.items before (listed u c.args.numbers.now) behind _ _ _ first c.in_ok-push_pairs-in_default.ensures third)
