-- Both pieces.
use Rattle.std.proofs.Common.{◌≡◌, ◌++◌, List, ℕ, subst}
use Rattle.std.specs.Prelude.{OnOk, codes}
use Rattle.refutation_sentences.proofs.GrowLemmas.{ends_two, where_written}
use Rattle.refutation_sentences.proofs.unadmitted.push_candidate.Goals as goal

pub returns-in_ok-extend_from_slice-in-Some : goal.returns-in_ok-extend_from_slice-in-Some
returns-in_ok-extend_from_slice-in-Some c =
    let old = c.args.text.now.items in
    let is = codes ", and the candidate is " in
    let one = c.extend_from_slice-in-Some.new.self.items in
    let two = c.extend_from_slice-in-Some-2.new.self.items in
    let first : one ≡ old ++ is = cc c.in_ok-extend_from_slice-in-Some.ensures.items in
    rw c.in-Some.is (ends_two c.extend_from_slice-in-Some-2.result old is c.in-Some.candidate.now one two first
    (subst (λ (words : List ℕ). OnOk c.extend_from_slice-in-Some-2.result (two ≡ one ++ words)) c.text.ensures.value
    (where_written c.extend_from_slice-in-Some-2.result _ _ _ c.extend_from_slice-in-Some-2.ensures.items)))
