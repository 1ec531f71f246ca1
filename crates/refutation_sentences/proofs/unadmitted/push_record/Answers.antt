-- The pieces one behind another.
use Rattle.std.proofs.Common.{◌≡◌, ◌++◌}
use Rattle.std.specs.Prelude.{codes, decimal}
use Rattle.refutation_sentences.proofs.GrowLemmas.{ends_three, where_written}
use Rattle.refutation_sentences.proofs.unadmitted.push_record.Goals as goal

pub returns : goal.returns
returns c =
    let old = c.args.text.now.items in
    let before = codes ", by record " in
    let first : c.extend_from_slice.new.self.items ≡ old ++ before = cc c.in_ok-extend_from_slice.ensures.items in
    ends_three c.extend_from_slice-2.result old before (decimal c.args.number) (codes " of the preferences") c.extend_from_slice.new.self.items
    c.push_count.new.text.items c.extend_from_slice-2.new.self.items first c.in_ok-push_count.ensures
    (where_written c.extend_from_slice-2.result _ _ _ c.extend_from_slice-2.ensures.items)
