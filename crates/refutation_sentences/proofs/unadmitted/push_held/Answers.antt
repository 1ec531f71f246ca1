-- The pieces one behind another.
use Rattle.std.proofs.Common.{◌≡◌, ◌++◌, List, ℕ, subst}
use Rattle.std.specs.Prelude.{OnOk, codes}
use Rattle.refutation_sentences.proofs.GrowLemmas.{ends_three, where_written}
use Rattle.refutation_sentences.proofs.unadmitted.push_held.Goals as goal

pub returns-in_ok-extend_from_slice-in-Some : goal.returns-in_ok-extend_from_slice-in-Some
returns-in_ok-extend_from_slice-in-Some c =
    let old = c.args.text.now.items in
    let name = c.args.name.now in
    let at = codes " is held at " in
    let one = c.extend_from_slice.new.self.items in
    let two = c.extend_from_slice-in-Some.new.self.items in
    let three = c.extend_from_slice-in-Some-2.new.self.items in
    let first : one ≡ old ++ name = cc c.in_ok-extend_from_slice.ensures.items in
    let second : two ≡ one ++ at = cc c.in_ok-extend_from_slice-in-Some.ensures.items in
    rw c.in-Some.is (ends_three c.extend_from_slice-in-Some-2.result old name at c.in-Some.version.now one two three first second
    (subst (λ (words : List ℕ). OnOk c.extend_from_slice-in-Some-2.result (three ≡ two ++ words)) c.text.ensures.value
    (where_written c.extend_from_slice-in-Some-2.result _ _ _ c.extend_from_slice-in-Some-2.ensures.items)))
