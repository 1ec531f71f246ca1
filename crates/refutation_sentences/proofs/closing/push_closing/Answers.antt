-- Both pieces.
use Rattle.std.proofs.Common.{◌≡◌, ◌++◌, ◌∙◌, ap}
use Rattle.std.specs.Prelude.{codes}
use Rattle.refutation_sentences.specs.Sentences.{versions_words}
use Rattle.refutation_sentences.proofs.GrowLemmas.{by_two}
use Rattle.refutation_sentences.proofs.closing.push_closing.Goals as goal

pub returns : goal.returns
returns c =
    let about = codes "This is about the admitted versions: of each package the installed one" in
    let first : c.extend_from_slice.new.self.items ≡ c.args.text.now.items ++ about = cc c.in_ok-extend_from_slice.ensures.items in
    by_two c.args.text.now.items about (versions_words c.args.all_versions) _ _ first
    (c.in_ok-extend_from_slice-2.ensures.items ∙ ap (λ words. c.extend_from_slice.new.self.items ++ words) c.versions_words.ensures)
