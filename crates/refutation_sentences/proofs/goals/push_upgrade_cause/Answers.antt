-- The name is held, or has a candidate that isn't admitted, or has none.
use Rattle.std.proofs.Common.{◌≡◌, ◌++◌, ◌∙◌, List, ℕ, Option, ap, refl, subst, sym}
use Rattle.std.specs.Prelude.{OnOk, codes}
use Rattle.std.specs.Option.{option_copied}
use Rattle.phrases.specs.Phrases.{versioned}
use Rattle.refutation_sentences.specs.GoalCauses.{IsUncandidatedTold, IsUpgradeCause}
use Rattle.refutation_sentences.specs.Offers.{standing_of}
use Rattle.refutation_sentences.specs.Reasons.{held_words}
use Rattle.refutation_sentences.proofs.ToldLemmas.{grows_as, grows_by}
use Rattle.refutation_sentences.proofs.goals.push_upgrade_cause.Goals as goal
use mathlib.Core.Logic.{inl, inr}

pub returns-then-is_held : goal.returns-then-is_held
returns-then-is_held c =
    let u = c.args.context.now.premises.now in
    let name = c.args.name.now in
    let old = c.args.text.now.items in
    let new = c.push_held.new.text.items in
    grows_by c.push_held.result (IsUpgradeCause u c.args.context.now.indices.now name) old new (held_words name (standing_of u name))
    (inl (sym c.is_held.ensures ∙ c.if-is_held.true, refl))
    (subst (λ (standing : Option (List ℕ)). OnOk c.push_held.result (new ≡ old ++ held_words name standing)) c.standing.ensures c.push_held.ensures)

pub returns-in-Some : goal.returns-in-Some
returns-in-Some c =
    let name = c.args.name.now in
    let candidate = c.in-Some.candidate.now in
    grows_by c.push_candidate.result (IsUpgradeCause c.args.context.now.premises.now c.args.context.now.indices.now name) c.args.text.now.items
    c.push_candidate.new.text.items (versioned name candidate ++ codes " is its candidate and is not admitted")
    (inr (inl (candidate, sym c.candidate-candidate.ensures ∙ ap option_copied c.in-Some.is, refl))) c.push_candidate.ensures

pub push_uncandidated-requires : goal.push_uncandidated-requires
push_uncandidated-requires c = sym c.candidate-candidate.ensures ∙ ap option_copied c.in-None.is

pub returns-in-None : goal.returns-in-None
returns-in-None c =
    let u = c.args.context.now.premises.now in
    let indices = c.args.context.now.indices.now in
    let name = c.args.name.now in
    grows_as c.push_uncandidated.result (IsUncandidatedTold u indices name) (IsUpgradeCause u indices name) c.args.text.now.items
    c.push_uncandidated.new.text.items (λ said told. inr (inr told)) c.push_uncandidated.ensures
