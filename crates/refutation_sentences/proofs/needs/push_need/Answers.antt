-- The words are those of the pair, of the alternatives and of what satisfies them.
use Rattle.std.proofs.Common.{◌≡◌, ◌++◌, arith, refl}
use Rattle.std.proofs.lemmas.Grind.{common_steps}
use Rattle.phrases.specs.Phrases.{clause_words}
use Rattle.refutation_sentences.specs.Words.{pair_words, satisfying}
use Rattle.refutation_sentences.proofs.needs.push_need.Goals as goal

pub returns : goal.returns
returns c =
    let u = c.args.context.now.premises.now in
    let why = c.in_ok-why.why.items in
    let said = pair_words u c.args.number
    ++ (c.args.verb.now ++ (clause_words c.args.atoms.now ++ satisfying u c.args.numbers.now why)) in
    let grown : c.push_satisfying.new.text.items ≡ c.args.text.now.items ++ said = grind (arith, common_steps) in
    (said, grown, (why, refl, c.in_ok-why.ensures))
