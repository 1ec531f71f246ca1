-- The pieces one behind another.
use Rattle.std.proofs.Common.{◌≡◌, ◌++◌}
use Rattle.std.specs.Prelude.{codes}
use Rattle.refutation_sentences.specs.Words.{listed}
use Rattle.refutation_sentences.proofs.GrowLemmas.{by_four}
use Rattle.refutation_sentences.proofs.causes.push_provider.Goals as goal

pub returns : goal.returns
returns c =
    let old = c.args.text.now.items in
    let pairs = listed c.args.context.now.premises.now c.args.numbers.now in
    let name = c.args.name.now in
    let provides = codes " provides " in
    let without = codes ", without the version that is asked for" in
    let second : c.extend_from_slice.new.self.items ≡ c.push_pairs.new.text.items ++ provides = cc c.in_ok-extend_from_slice.ensures.items in
    let third : c.extend_from_slice-2.new.self.items ≡ c.extend_from_slice.new.self.items ++ name = cc c.in_ok-extend_from_slice-2.ensures.items in
    let fourth : c.extend_from_slice-3.new.self.items ≡ c.extend_from_slice-2.new.self.items ++ without = cc c.in_ok-extend_from_slice-3.ensures.items in
    by_four old pairs provides name without _ _ _ _ c.in_ok-push_pairs.ensures second third fourth
