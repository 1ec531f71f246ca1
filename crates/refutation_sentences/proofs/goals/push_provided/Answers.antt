-- An index has the name, or something of it is there, or it is no package.
use Rattle.std.proofs.Common.{◌≡◌, ◌++◌, ◌∙◌, List, ℕ, false, refl, subst, true}
use Rattle.std.specs.Prelude.{OnOk}
use Rattle.input_notes.specs.Absent.{is_listed}
use Rattle.refutation_sentences.specs.Causes.{unfit_words}
use Rattle.refutation_sentences.specs.GoalCauses.{IsGoalCauseTold, is_present, unlisted_words, virtual_words}
use Rattle.refutation_sentences.specs.declared.causes.Cause.TheVariants as cause
use Rattle.refutation_sentences.proofs.ToldLemmas.{grows_by}
use Rattle.refutation_sentences.proofs.goals.push_provided.Goals as goal
use mathlib.Core.Logic.{inl, inr}

pub returns-then-is_listed : goal.returns-then-is_listed
returns-then-is_listed c =
    let u = c.args.context.now.premises.now in
    let indices = c.args.context.now.indices.now in
    let asked = c.args.wanted.now in
    let old = c.args.text.now.items in
    let new = c.push_unfit.new.text.items in
    let listed : is_listed indices asked.name ≡ true = cc (c.is_listed.ensures, c.if-is_listed.true, c.name-name.ensures) in
    grows_by c.push_unfit.result (IsGoalCauseTold u indices asked) old new (unfit_words asked.name)
    (inl (cause.Unfit, (c.requires.unnamed, listed), refl))
    (subst (λ (name : List ℕ). OnOk c.push_unfit.result (new ≡ old ++ unfit_words name)) c.name-name.ensures c.push_unfit.ensures)

pub returns-then-is_present : goal.returns-then-is_present
returns-then-is_present c =
    let u = c.args.context.now.premises.now in
    let indices = c.args.context.now.indices.now in
    let asked = c.args.wanted.now in
    let old = c.args.text.now.items in
    let new = c.push_unlisted.new.text.items in
    let unlisted : is_listed indices asked.name ≡ false = cc (c.is_listed.ensures, c.if-is_listed.false, c.name-name.ensures) in
    let present : is_present u asked.name ≡ true = cc (c.is_present.ensures, c.if-is_present.true, c.name-name.ensures) in
    grows_by c.push_unlisted.result (IsGoalCauseTold u indices asked) old new (unlisted_words asked.name)
    (inr (inl (c.requires.unnamed, unlisted, present, refl)))
    (subst (λ (name : List ℕ). OnOk c.push_unlisted.result (new ≡ old ++ unlisted_words name)) c.name-name.ensures c.push_unlisted.ensures)

pub returns-else-is_present : goal.returns-else-is_present
returns-else-is_present c =
    let u = c.args.context.now.premises.now in
    let indices = c.args.context.now.indices.now in
    let asked = c.args.wanted.now in
    let providers = c.args.providers.now in
    let old = c.args.text.now.items in
    let new = c.push_virtual.new.text.items in
    let unlisted : is_listed indices asked.name ≡ false = cc (c.is_listed.ensures, c.if-is_listed.false, c.name-name.ensures) in
    grows_by c.push_virtual.result (IsGoalCauseTold u indices asked) old new (virtual_words asked.name providers)
    (inr (inr (providers, c.requires.unnamed, unlisted, c.requires.providers, refl)))
    (subst (λ (name : List ℕ). OnOk c.push_virtual.result (new ≡ old ++ virtual_words name providers)) c.name-name.ensures c.push_virtual.ensures)
