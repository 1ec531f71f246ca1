-- The words are those of the pairs and of the field between them.
use Rattle.std.proofs.Common.{◌≡◌, ◌++◌, arith, refl}
use Rattle.std.proofs.lemmas.Grind.{common_steps}
use Rattle.refutation_sentences.specs.Sentences.{verb_of}
use Rattle.refutation_sentences.specs.Words.{pair_words}
use Rattle.refutation_sentences.proofs.against.push_against.Goals as goal

pub returns : goal.returns
returns c =
    let u = c.args.context.now.premises.now in
    let provided = c.in_ok-provided.provided.items in
    let said = pair_words u c.args.number ++ (verb_of c.args.field ++ (pair_words u c.args.other ++ provided)) in
    let grown : c.extend_from_slice-2.new.self.items ≡ c.args.text.now.items ++ said = grind (arith, common_steps) in
    (said, grown, (provided, refl, c.in_ok-provided.ensures))
