-- The pieces one behind another.
use Rattle.std.proofs.Common.{◌≡◌, ◌++◌, ◌∙◌, ℕ, List, [], ap, subst}
use Rattle.std.specs.Prelude.{codes}
use Rattle.phrases.specs.Phrases.{versioned, wanted_words}
use Rattle.refutation_sentences.specs.Reasons.{IsReasonTold}
use Rattle.refutation_sentences.proofs.GrowLemmas.{by_six}
use Rattle.refutation_sentences.proofs.instead.line_on.Goals as goal

pub returns : goal.returns
returns c =
    let u = c.args.context.now.premises.now in
    let asked = c.args.wanted.now in
    let version = c.args.stanza.now.pkg.version in
    let why = c.in_ok-why.why.items in
    let for_what = codes " would do for " in
    let but = codes " too, and is not admitted: " in
    let end = codes ".\n" in
    let first : c.push_versioned.new.text.items ≡ versioned asked.name version =
    c.in_ok-push_versioned.ensures ∙ ap (λ front. front ++ versioned c.name-2.result.now c.text.result.now) c.new-text.ensures.items
    ∙ ap (λ name. versioned name c.text.result.now) c.name-2.ensures
    ∙ ap (λ text. versioned asked.name text) (c.text.ensures.value ∙ c.version-version.ensures) in
    let second : c.extend_from_slice.new.self.items ≡ c.push_versioned.new.text.items ++ for_what = cc c.in_ok-extend_from_slice.ensures.items in
    let fourth : c.extend_from_slice-2.new.self.items ≡ c.push_to.new.text.items ++ but = cc c.in_ok-extend_from_slice-2.ensures.items in
    let fifth : c.extend_from_slice-3.new.self.items ≡ c.extend_from_slice-2.new.self.items ++ why =
    c.in_ok-extend_from_slice-3.ensures.items ∙ ap (λ said. c.extend_from_slice-2.new.self.items ++ said) c.as_slice.ensures.value in
    let sixth : c.extend_from_slice-4.new.self.items ≡ c.extend_from_slice-3.new.self.items ++ end = cc c.in_ok-extend_from_slice-4.ensures.items in
    let reason : IsReasonTold u asked.name version why =
    subst (λ (name : List ℕ). IsReasonTold u name version why) c.name.ensures
    (subst (λ (text : List ℕ). IsReasonTold u c.name.result.now text why) c.version-version.ensures c.in_ok-why.ensures) in (
      why,
      reason,
      by_six [] (versioned asked.name version) for_what (wanted_words asked.name asked.restriction) but why end
          _ _ _ _ _ _ first second c.in_ok-push_to.ensures fourth fifth sixth,
    )
