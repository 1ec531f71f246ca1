-- The list is empty where its length is 0.
use Rattle.std.proofs.Common.{◌≡◌, Bool, [], subst, sym}
use Rattle.std.specs.Prelude.{◌↔◌, IsTrue}
use Rattle.refutation_sentences.proofs.FoundLemmas.{empty_test}
use Rattle.refutation_sentences.proofs.offers.is_none.Goals as goal

pub returns : goal.returns
returns c = subst (λ (b : Bool). IsTrue b ↔ (c.args.numbers.now ≡ [])) (sym c.is_empty.ensures) (empty_test c.args.numbers.now)
