-- Both pieces.
use Rattle.std.proofs.Common.{◌≡◌, ◌++◌}
use Rattle.std.specs.Prelude.{codes}
use Rattle.phrases.specs.Phrases.{versioned}
use Rattle.refutation_sentences.proofs.GrowLemmas.{by_two}
use Rattle.refutation_sentences.proofs.goals.push_candidate.Goals as goal

pub returns : goal.returns
returns c =
    let old = c.args.text.now.items in
    let words = versioned c.args.name.now c.args.candidate.now in
    let behind = codes " is its candidate and is not admitted" in
    let first : c.push_versioned.new.text.items ≡ old ++ words = cc (c.in_ok-push_versioned.ensures, c.text.ensures.value) in
    let second : c.extend_from_slice.new.self.items ≡ c.push_versioned.new.text.items ++ behind = cc c.in_ok-extend_from_slice.ensures.items in
    by_two old words behind _ _ first second
