-- The name is held in the version that stands.
use Rattle.std.proofs.Common.{◌≡◌, ◌++◌, List, ℕ, Option, refl, subst}
use Rattle.std.specs.Prelude.{OnOk}
use Rattle.refutation_sentences.specs.Causes.{TellsCause}
use Rattle.refutation_sentences.specs.Offers.{standing_of}
use Rattle.refutation_sentences.specs.Reasons.{held_words}
use Rattle.refutation_sentences.specs.declared.causes.Cause.TheVariants as cause
use Rattle.refutation_sentences.proofs.ToldLemmas.{grows_by}
use Rattle.refutation_sentences.proofs.causes.push_cause.Goals as goal

pub returns-in-Held : goal.returns-in-Held
returns-in-Held c =
    let u = c.args.context.now.premises.now in
    let name = c.args.name.now in
    let old = c.args.text.now.items in
    let new = c.push_held.new.text.items in
    rw c.in-Held.is (grows_by c.push_held.result (TellsCause u name cause.Held) old new (held_words name (standing_of u name)) refl
    (subst (λ (standing : Option (List ℕ)). OnOk c.push_held.result (new ≡ old ++ held_words name standing)) c.standing.ensures c.push_held.ensures))

pub returns-in-Unadmitted : goal.returns-in-Unadmitted
returns-in-Unadmitted c = rw c.in-Unadmitted.is c.push_unadmitted.ensures

pub returns-in-Elsewhere : goal.returns-in-Elsewhere
returns-in-Elsewhere c = rw c.in-Elsewhere.is c.push_elsewhere.ensures
