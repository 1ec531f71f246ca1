-- The name is held, or the version isn't chosen.
use Rattle.std.proofs.Common.{◌≡◌, ◌++◌, ◌∙◌, List, ℕ, Option, refl, subst, sym}
use Rattle.std.specs.Prelude.{OnOk}
use Rattle.refutation_sentences.specs.Offers.{standing_of}
use Rattle.refutation_sentences.specs.Reasons.{IsReasonTold, IsUnchosenTold, held_words}
use Rattle.refutation_sentences.proofs.ToldLemmas.{grows_as, grows_by}
use Rattle.refutation_sentences.proofs.unadmitted.push_reason.Goals as goal
use mathlib.Core.Logic.{inl, inr}

pub returns-then-is_held : goal.returns-then-is_held
returns-then-is_held c =
    let u = c.args.context.now.premises.now in
    let name = c.args.name.now in
    let old = c.args.text.now.items in
    let new = c.push_held.new.text.items in
    grows_by c.push_held.result (IsReasonTold u name c.args.version.now) old new (held_words name (standing_of u name))
    (inl (sym c.is_held.ensures ∙ c.if-is_held.true, refl))
    (subst (λ (standing : Option (List ℕ)). OnOk c.push_held.result (new ≡ old ++ held_words name standing)) c.standing.ensures c.push_held.ensures)

pub returns-else-is_held : goal.returns-else-is_held
returns-else-is_held c =
    let u = c.args.context.now.premises.now in
    let name = c.args.name.now in
    let version = c.args.version.now in
    grows_as c.push_unchosen.result (IsUnchosenTold u name version) (IsReasonTold u name version) c.args.text.now.items c.push_unchosen.new.text.items
    (λ said told. inr (sym c.is_held.ensures ∙ c.if-is_held.false, told)) c.push_unchosen.ensures
