-- The pieces one behind another.
use Rattle.std.proofs.Common.{◌≡◌, ◌++◌}
use Rattle.std.specs.Prelude.{codes}
use Rattle.refutation_sentences.specs.Causes.{also_words}
use Rattle.refutation_sentences.specs.Words.{listed}
use Rattle.refutation_sentences.proofs.GrowLemmas.{by_four}
use Rattle.refutation_sentences.proofs.causes.push_others.Goals as goal

pub returns : goal.returns
returns c =
    let u = c.args.context.now.premises.now in
    let old = c.args.text.now.items in
    let only = codes "only " in
    let pairs = listed u c.args.numbers.now in
    let can = codes " can be had" in
    let also = also_words u c.args.name.now c.args.providing.now in
    let first : c.extend_from_slice.new.self.items ≡ old ++ only = cc c.in_ok-extend_from_slice.ensures.items in
    let third : c.extend_from_slice-2.new.self.items ≡ c.push_pairs.new.text.items ++ can = cc c.in_ok-extend_from_slice-2.ensures.items in
    by_four old only pairs can also _ _ _ _ first c.in_ok-push_pairs.ensures third c.in_ok-push_also.ensures
