-- The pending bytes stand at the front.
use Rattle.std.proofs.Common.{◌≡◌, ◌≤◌, ◌+◌, ◌-◌, ℕ, List, length, drop, take, sym, ap, ◌∙◌, arith}
use Rattle.std.proofs.lemmas.List.{drop-take, length-drop, with_items_is}
use Rattle.std.proofs.lemmas.List.Edits.{take-paste}
use Rattle.std.specs.List.{copy_within}
use Rattle.stanza.proofs.held.Held.let_go.Goals as goal

moved-front : (bytes : List ℕ) (begin end : ℕ) → begin ≤ end → end ≤ length bytes
    → take (end - begin) (copy_within bytes begin end 0) ≡ drop begin (take end bytes)
moved-front bytes begin end order within =
    let n : ℕ = end - begin in
    let none : n ≡ 0 + n = omega arith in
    let whole : begin + n ≡ end = omega (arith, order) in
    ap (λ k. take k (copy_within bytes begin end 0)) none
    ∙ take-paste bytes 0 (drop begin bytes) n (omega arith) (omega (arith, order, within, length-drop begin bytes))
    ∙ sym (drop-take begin n bytes) ∙ ap (λ k. drop begin (take k bytes)) whole

pub returns-clause-bytes : goal.returns-clause-bytes
returns-clause-bytes c =
    let held = c.args.self.now in
    let new = c.copy_within.new.self in
    ap (take (held.end - held.begin)) (
    with_items_is held.bytes new (c.copy_within.ensures.len ∙ c.as_mut_slice.ensures.len)
    ∙ c.copy_within.ensures.after ∙ ap (λ bytes. copy_within bytes held.begin held.end 0) c.as_mut_slice.ensures.value
    ) ∙ moved-front held.bytes.items held.begin held.end c.requires.within c.requires.filled
