-- The words are those of the priority, of what is taken, and of what may admit the version.
use Rattle.std.proofs.Common.{◌≡◌, ◌++◌, List, ℕ, Option, Some, refl, subst}
use Rattle.std.specs.Prelude.{IfSome, codes}
use Rattle.std.specs.declared.cmp.Ordering.TheVariants.{Less}
use Rattle.rules.specs.Version.{version_cmp}
use Rattle.refutation_sentences.specs.Reasons.{rating_words, remedy_words}
use Rattle.refutation_sentences.proofs.GrowLemmas.{by_four}
use Rattle.refutation_sentences.proofs.unadmitted.push_unchosen.Goals as goal

pub push_taken-requires : goal.push_taken-requires
push_taken-requires c = subst (λ (standing : Option (List ℕ)). IfSome c.standing_above-above.result
    (λ above. (standing ≡ Some above.now) × (version_cmp c.args.version.now above.now ≡ Less))) c.standing-standing.ensures
    c.standing_above-above.ensures

pub returns : goal.returns
returns c =
    let old = c.args.text.now.items in
    let rating = c.in_ok-rating.rating in
    let before = codes "its priority is " in
    let words = rating_words rating.priority rating.record in
    let taken = c.in_ok-push_taken.ensures in
    let remedy = remedy_words c.is_offered-offered.result c.args.name.now c.args.version.now in
    let first : c.extend_from_slice.new.self.items ≡ old ++ before = cc c.in_ok-extend_from_slice.ensures.items in (
      before ++ (words ++ (taken.0 ++ remedy)),
      by_four old before words taken.0 remedy _ _ _ _ first c.in_ok-push_rating.ensures taken.1 c.in_ok-push_remedy.ensures,
      record {
        priority = rating.priority;
        record_number = rating.record;
        taken = taken.0;
        is_offered = c.is_offered-offered.result;
        is_taken = taken.2;
        words = refl;
      },
    )
