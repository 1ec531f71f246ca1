-- The premises are those of the universe, and the core is accepted since the refutation is.
use Rattle.std.proofs.Common.{refl, subst, sym}
use Rattle.refutation.specs.Refutation.{IsAccepted}
use Rattle.refutation_sentences.specs.Sentences.{AreSentences}
use Rattle.rules.specs.Universe.{Universe}
use Rattle.cli_engine.proofs.reasons.core_sentences.Goals as goal

pub returns : goal.returns
returns c =
    let same = c.new-premises.ensures in
    let core = c.in_ok-shorter.shorter in
    record {
      read = c.args.before.now.indices.now;
      indexed = refl;
      core = core;
      premises = c.in_ok-shorter.ensures.premises;
      accepted = subst (λ (u : Universe). IsAccepted u core) same
          (c.in_ok-shorter.ensures.accepted (subst (λ (u : Universe). IsAccepted u c.args.refutation.now) (sym same) c.requires.accepted));
      sentences = subst (λ (u : Universe). AreSentences u c.args.before.now.indices.now core c.args.asks_all_versions c.in_ok-text.text.items) same c.in_ok-text.ensures;
    }
