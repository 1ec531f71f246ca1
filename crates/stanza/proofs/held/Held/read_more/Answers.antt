-- What is read stands behind what was held.
use Rattle.std.proofs.Common.{◌+◌, ◌++◌, drop, take, take-add, ap, ◌∙◌, arith}
use Rattle.std.proofs.lemmas.List.{length-drop, length-take, with_items_is}
use Rattle.stanza.proofs.held.Held.read_more.Goals as goal

pub returns-clause-more : goal.returns-clause-more
returns-clause-more g c =
    let end = c.args.self.now.end in
    let count = c.in_ok-count.count in
    let bytes = c.read_behind.new.bytes in
    let block = take count (drop end bytes) in (
      block,
      omega (arith, c.in_ok-count.ensures.bytes.0, length-take count (drop end bytes), length-drop end bytes),
      ap (take (end + count)) (with_items_is c.args.self.now.bytes bytes (c.in_ok-count.ensures.size ∙ c.as_mut_slice.ensures.len)) ∙ take-add end count bytes ∙ ap (λ x. x ++ block) (c.in_ok-count.ensures.front ∙ ap (take end) c.as_mut_slice.ensures.value),
      c.in_ok-count.ensures.bytes.2,
    )
