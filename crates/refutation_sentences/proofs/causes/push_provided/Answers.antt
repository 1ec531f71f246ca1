-- Both pieces.
use Rattle.std.proofs.Common.{◌≡◌, ◌++◌}
use Rattle.std.specs.Prelude.{codes}
use Rattle.refutation_sentences.specs.Causes.{provider_words}
use Rattle.refutation_sentences.proofs.GrowLemmas.{ends_two}
use Rattle.refutation_sentences.proofs.causes.push_provided.Goals as goal

pub returns : goal.returns
returns c =
    let old = c.args.text.now.items in
    let only = codes "only " in
    let first : c.extend_from_slice.new.self.items ≡ old ++ only = cc c.in_ok-extend_from_slice.ensures.items in
    ends_two c.push_provider.result old only (provider_words c.args.context.now.premises.now c.args.name.now c.args.numbers.now)
    c.extend_from_slice.new.self.items c.push_provider.new.text.items first c.push_provider.ensures
