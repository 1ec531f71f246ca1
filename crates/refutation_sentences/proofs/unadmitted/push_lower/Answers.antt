-- Both pieces.
use Rattle.std.proofs.Common.{◌≡◌, ◌++◌, List, ℕ, subst}
use Rattle.std.specs.Prelude.{OnOk, codes}
use Rattle.refutation_sentences.proofs.GrowLemmas.{ends_two, where_written}
use Rattle.refutation_sentences.proofs.unadmitted.push_lower.Goals as goal

pub returns : goal.returns
returns c =
    let old = c.args.text.now.items in
    let lower = codes ", and it is lower than the installed " in
    let one = c.extend_from_slice.new.self.items in
    let two = c.extend_from_slice-2.new.self.items in
    let first : one ≡ old ++ lower = cc c.in_ok-extend_from_slice.ensures.items in
    ends_two c.extend_from_slice-2.result old lower c.args.standing.now one two first
    (subst (λ (words : List ℕ). OnOk c.extend_from_slice-2.result (two ≡ one ++ words)) c.text.ensures.value (where_written c.extend_from_slice-2.result _ _ _ c.extend_from_slice-2.ensures.items))
