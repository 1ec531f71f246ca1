-- An index is read before what is behind it.
use Rattle.std.proofs.Common.{◌≡◌, ◌∙◌, ◌+◌, Some, length, sym, ap, arith}
use Rattle.std.proofs.lemmas.List.{length_push}
use Rattle.named_refutation.specs.Index.{index_of}
use Rattle.named_refutation.proofs.IndexLemmas.{index_read}
use Rattle.named_refutation.proofs.read.read_texts.Goals as goal

pub loop-text-preserved : goal.loop-text-preserved
loop-text-preserved c =
    let index = c.in-Some-2.index in
    let line = c.in-Some.text.now in
    let is : index_of line ≡ Some index = sym c.in_ok-index.ensures ∙ c.in-Some-2.is in
    let longer : length c.push.new.self.items ≡ length c.loop-text.indices.items + 1 =
    ap length c.in_ok-push.ensures.items ∙ length_push c.loop-text.indices.items index in
    record {
      same = rw c.in_ok-push.ensures.items
          (index_read c.loop-text.indices.items index c.loop-text.rest.now line c.in-Some.after.now c.in-Some.ensures is
          ∙ c.loop-text.invariant.same);
      within = omega (arith, longer, c.in-Some.ensures.whole, c.loop-text.invariant.within);
    }
