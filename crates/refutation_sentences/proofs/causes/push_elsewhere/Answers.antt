-- The words are those of the name, of the package and of why it isn't admitted.
use Rattle.std.proofs.Common.{◌≡◌, ◌++◌, ◌∙◌, ap, refl, subst, ℕ, List}
use Rattle.std.specs.Prelude.{codes}
use Rattle.refutation_sentences.specs.Reasons.{IsReasonTold}
use Rattle.refutation_sentences.specs.Words.{package_words}
use Rattle.refutation_sentences.proofs.GrowLemmas.{by_five}
use Rattle.refutation_sentences.proofs.causes.push_elsewhere.Goals as goal

pub returns : goal.returns
returns c =
    let u = c.args.context.now.premises.now in
    let old = c.args.text.now.items in
    let name = c.args.name.now in
    let pkg = c.args.stanza.now.pkg in
    let reason = c.in_ok-reason.reason.items in
    let by = codes " is provided by " in
    let but = codes ", which is not admitted: " in
    let first : c.extend_from_slice.new.self.items ≡ old ++ name = cc c.in_ok-extend_from_slice.ensures.items in
    let second : c.extend_from_slice-2.new.self.items ≡ c.extend_from_slice.new.self.items ++ by = cc c.in_ok-extend_from_slice-2.ensures.items in
    let third : c.push_versioned.new.text.items ≡ c.extend_from_slice-2.new.self.items ++ package_words pkg =
    cc (c.in_ok-push_versioned.ensures, c.name-2.ensures, c.text.ensures.value, c.version-version.ensures) in
    let fourth : c.extend_from_slice-3.new.self.items ≡ c.push_versioned.new.text.items ++ but = cc c.in_ok-extend_from_slice-3.ensures.items in
    let fifth : c.extend_from_slice-4.new.self.items ≡ c.extend_from_slice-3.new.self.items ++ reason =
    c.in_ok-extend_from_slice-4.ensures.items ∙ ap (λ said. c.extend_from_slice-3.new.self.items ++ said) c.as_slice.ensures.value in
    let told : IsReasonTold u pkg.name pkg.version reason =
    subst (λ (it : List ℕ). IsReasonTold u it pkg.version reason) c.name.ensures
    (subst (λ (text : List ℕ). IsReasonTold u c.name.result.now text reason) c.version-version.ensures c.in_ok-reason.ensures) in (
      name ++ (by ++ (package_words pkg ++ (but ++ reason))),
      by_five old name by (package_words pkg) but reason _ _ _ _ _ first second third fourth fifth,
      (reason, told, refl),
    )
