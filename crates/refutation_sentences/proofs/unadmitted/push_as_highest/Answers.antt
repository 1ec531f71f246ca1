-- The words are those of the version, of its priority, and of what may admit it.
use Rattle.std.proofs.Common.{◌≡◌, ◌++◌, refl}
use Rattle.std.specs.Prelude.{codes}
use Rattle.refutation_sentences.specs.Reasons.{rating_words, remedy_where_left_out}
use Rattle.refutation_sentences.proofs.GrowLemmas.{by_five}
use Rattle.refutation_sentences.proofs.unadmitted.push_as_highest.Goals as goal
use mathlib.Core.Logic.{inr}

pub returns : goal.returns
returns c =
    let old = c.args.text.now.items in
    let rating = c.in_ok-rating.rating in
    let before = codes "its highest version is " in
    let version = c.args.version.now in
    let whose = codes ", whose priority is " in
    let words = rating_words rating.priority rating.record in
    let remedy = remedy_where_left_out c.args.context.now.premises.now c.args.name.now version in
    let first : c.extend_from_slice.new.self.items ≡ old ++ before = cc c.in_ok-extend_from_slice.ensures.items in
    let second : c.extend_from_slice-2.new.self.items ≡ c.extend_from_slice.new.self.items ++ version =
    cc (c.in_ok-extend_from_slice-2.ensures.items, c.text.ensures.value) in
    let third : c.extend_from_slice-3.new.self.items ≡ c.extend_from_slice-2.new.self.items ++ whose = cc c.in_ok-extend_from_slice-3.ensures.items in (
      before ++ (version ++ (whose ++ (words ++ remedy))),
      by_five old before version whose words remedy _ _ _ _ _ first second third c.in_ok-push_rating.ensures c.in_ok-push_remedy_where_left_out.ensures,
      inr (record {
        version = version;
        priority = rating.priority;
        record_number = rating.record;
        highest = c.requires;
        words = refl;
      }),
    )
