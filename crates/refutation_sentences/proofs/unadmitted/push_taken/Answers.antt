-- The candidate, or the higher version that stands.
use Rattle.std.proofs.Common.{◌≡◌, ◌++◌, ◌∙◌, Bor, List, ℕ, Option, Some, refl, subst}
use Rattle.std.specs.Prelude.{IfSome, OnOk}
use Rattle.std.specs.declared.cmp.Ordering.TheVariants.{Less}
use Rattle.rules.specs.Universe.{candidate_of}
use Rattle.rules.specs.Version.{version_cmp}
use Rattle.refutation_sentences.specs.Offers.{standing_of}
use Rattle.refutation_sentences.specs.Reasons.{IsTakenTold, candidate_words, lower_words}
use Rattle.refutation_sentences.proofs.ToldLemmas.{grows_by}
use Rattle.refutation_sentences.proofs.unadmitted.push_taken.Goals as goal
use mathlib.Core.Logic.{inl, inr}

pub returns-in-None : goal.returns-in-None
returns-in-None c =
    let u = c.args.context.now.premises.now in
    let name = c.args.name.now in
    let old = c.args.text.now.items in
    let new = c.push_candidate.new.text.items in
    grows_by c.push_candidate.result (IsTakenTold u name c.args.version.now) old new (candidate_words (candidate_of u name)) (inl refl)
    (subst (λ (candidate : Option (List ℕ)). OnOk c.push_candidate.result (new ≡ old ++ candidate_words candidate)) c.candidate.ensures
    c.push_candidate.ensures)

pub returns-in-Some : goal.returns-in-Some
returns-in-Some c =
    let u = c.args.context.now.premises.now in
    let name = c.args.name.now in
    let standing = c.in-Some.standing.now in
    let is = subst (λ (it : Option (Bor (List ℕ))). IfSome it (λ above. (standing_of u name ≡ Some above.now)
    × (version_cmp c.args.version.now above.now ≡ Less))) c.in-Some.is c.requires in
    grows_by c.push_lower.result (IsTakenTold u name c.args.version.now) c.args.text.now.items c.push_lower.new.text.items (lower_words standing)
    (inr (standing, is.0, is.1, refl)) c.push_lower.ensures
