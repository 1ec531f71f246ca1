-- The pieces one behind another.
use Rattle.std.proofs.Common.{◌≡◌, ◌++◌}
use Rattle.std.specs.Prelude.{codes}
use Rattle.refutation_sentences.proofs.GrowLemmas.{by_three}
use Rattle.refutation_sentences.proofs.goals.push_unlisted.Goals as goal

pub returns : goal.returns
returns c =
    let old = c.args.text.now.items in
    let front = codes "no index has " in
    let middle = c.args.name.now in
    let back = codes ", and what is there of it has to be installed again" in
    let first : c.extend_from_slice.new.self.items ≡ old ++ front = cc c.in_ok-extend_from_slice.ensures.items in
    let second : c.extend_from_slice-2.new.self.items ≡ c.extend_from_slice.new.self.items ++ middle = cc c.in_ok-extend_from_slice-2.ensures.items in
    let third : c.extend_from_slice-3.new.self.items ≡ c.extend_from_slice-2.new.self.items ++ back = cc c.in_ok-extend_from_slice-3.ensures.items in
    by_three old front middle back _ _ _ first second third
