-- The words are those of the version and of why it isn't admitted.
use Rattle.std.proofs.Common.{◌≡◌, ◌++◌, ◌∙◌, ap, refl, subst, ℕ, List}
use Rattle.std.specs.Prelude.{codes}
use Rattle.phrases.specs.Phrases.{versioned}
use Rattle.refutation_sentences.specs.Reasons.{IsReasonTold}
use Rattle.refutation_sentences.proofs.GrowLemmas.{by_three}
use Rattle.refutation_sentences.proofs.causes.push_unadmitted.Goals as goal

pub returns : goal.returns
returns c =
    let old = c.args.text.now.items in
    let name = c.args.name.now in
    let version = c.args.stanza.now.pkg.version in
    let reason = c.in_ok-reason.reason.items in
    let but = codes " is not admitted: " in
    let first : c.push_versioned.new.text.items ≡ old ++ versioned name version =
    cc (c.in_ok-push_versioned.ensures, c.text.ensures.value, c.version-version.ensures) in
    let second : c.extend_from_slice.new.self.items ≡ c.push_versioned.new.text.items ++ but = cc c.in_ok-extend_from_slice.ensures.items in
    let third : c.extend_from_slice-2.new.self.items ≡ c.extend_from_slice.new.self.items ++ reason =
    c.in_ok-extend_from_slice-2.ensures.items ∙ ap (λ said. c.extend_from_slice.new.self.items ++ said) c.as_slice.ensures.value in
    let told : IsReasonTold c.args.context.now.premises.now name version reason =
    subst (λ (text : List ℕ). IsReasonTold c.args.context.now.premises.now name text reason) c.version-version.ensures c.in_ok-reason.ensures in (
      versioned name version ++ (but ++ reason),
      by_three old (versioned name version) but reason _ _ _ first second third,
      (reason, told, refl),
    )
