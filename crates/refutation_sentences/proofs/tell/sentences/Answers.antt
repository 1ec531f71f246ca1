-- The lines are those of the premises of the refutation, each of which has its line, and of what would do too.
use Rattle.std.proofs.Common.{◌++◌, ℕ, List, map, subst, sym}
use Rattle.std.specs.Prelude.{◌↔◌}
use Rattle.std.specs.List.{All, Contains}
use Rattle.std.proofs.lemmas.List.Elements.{All-append, All-contains, All-weaker, Contains-append_left}
use Rattle.refutation.specs.declared.line.Line.TheVariants as line
use Rattle.refutation.specs.declared.line.Premise.{Premise}
use Rattle.refutation_sentences.specs.Sentences.{AreTruthful, HasSentence, IsBasis, IsTruthful}
use Rattle.refutation_sentences.specs.declared.basis.Basis.{Basis}
use Rattle.refutation_sentences.proofs.LineLemmas.{all_among}
use Rattle.refutation_sentences.proofs.tell.sentences.Goals as goal

pub texts_of-requires : goal.texts_of-requires
texts_of-requires c = subst (All (IsBasis c.args.premises.now c.args.refutation.now)) (sym c.as_slice-2.ensures.value) c.in_ok-bases.ensures.bases

pub returns : goal.returns
returns c =
    let u = c.args.premises.now in
    let indices = c.args.indices.now in
    let refutation = c.args.refutation.now in
    let texts = map (λ text. text.items) c.in_ok-texts.texts.items in
    let lines = map (λ key. key.now) c.as_slice-6.result.now in
    let instead = map (λ key. key.items) c.as_slice-7.result.now in
    let among : (other : List ℕ) → Contains lines other ↔ Contains texts other =
    subst (λ keys. (other : List ℕ) → Contains (map (λ key. key.now) keys) other ↔ Contains texts other) (sym c.as_slice-6.ensures.keys)
    (subst (λ all. (other : List ℕ) → Contains (map (λ key. key.now) c.in_ok-lines.lines.keys) other ↔ Contains (map (λ text. text.items) all) other)
    c.as_slice-3.ensures.value c.in_ok-lines.ensures) in
    let each : All (λ (basis : Basis). HasSentence u indices basis.premise.now texts) c.in_ok-bases.bases.items =
    subst (All (λ (basis : Basis). HasSentence u indices basis.premise.now texts)) c.as_slice-2.ensures.value c.in_ok-texts.ensures.told in
    let based : All (λ (basis : Basis). Contains refutation (line.Premise basis.premise.now)) c.as_slice-5.result.now =
    subst (All (λ (basis : Basis). Contains refutation (line.Premise basis.premise.now))) (sym c.as_slice-5.ensures.value)
    (All-weaker (IsBasis u refutation) (λ (basis : Basis). Contains refutation (line.Premise basis.premise.now)) (λ basis is. is.0)
    c.in_ok-bases.bases.items c.in_ok-bases.ensures.bases) in
    record {
      said = lines ++ instead;
      written = c.in_ok-text.ensures;
      truthful = All-append (IsTruthful u indices refutation) lines instead
          (all_among (IsTruthful u indices refutation) texts lines c.in_ok-texts.ensures.truthful (λ other. (among other).0))
          (subst (λ keys. AreTruthful u indices refutation (map (λ key. key.items) keys)) (sym c.as_slice-7.ensures.keys) (c.in_ok-instead.ensures refutation based));
      told = λ claim within premise.
          let has = c.in_ok-bases.ensures.all claim within premise in
          let one = All-contains (λ (basis : Basis). HasSentence u indices basis.premise.now texts) c.in_ok-bases.bases.items has.0 each has.1 in
          let told = subst (λ (it : Premise). HasSentence u indices it texts) has.2 one in
          (told.0, Contains-append_left lines instead told.0 ((among told.0).1 told.1), told.2);
    }
