-- The words are those of the name and of the version of the stanza.
use Rattle.std.proofs.Common.{◌∙◌, List, ℕ, ap}
use Rattle.std.specs.Prelude.{◌++◌}
use Rattle.phrases.specs.Phrases.{versioned}
use Rattle.refutation_sentences.proofs.goals.stanza_words.Goals as goal

pub returns : goal.returns
returns c =
    c.in_ok-push_versioned.ensures
    ∙ ap (λ (text : List ℕ). text ++ versioned c.name.result.now c.text.result.now) c.new-text.ensures.items
    ∙ ap (λ (name : List ℕ). versioned name c.text.result.now) c.name.ensures
    ∙ ap (λ (version : List ℕ). versioned c.args.stanza.now.pkg.name version) (c.text.ensures.value ∙ c.version-version.ensures)
