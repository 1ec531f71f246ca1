-- Each place before the next was tested, and at the end each was.
use Rattle.std.proofs.Common.{◌≡◌, ℕ, false, subst, sym, ◌∙◌}
use Rattle.std.specs.List.{All}
use Rattle.std.proofs.lemmas.List.{take_all, take_more}
use Rattle.std.proofs.lemmas.List.Elements.{All-push}
use Rattle.plancheck_state.specs.Holders.{is_named_at}
use Rattle.plancheck_state.proofs.lookup.place_among.Goals as goal

pub loop-place-preserved : goal.loop-place-preserved
loop-place-preserved c =
    let P : ℕ → Type 0 = λ place. is_named_at c.args.name.now c.args.records.now place ≡ false in
    subst (All P) (sym (take_more c.args.places.now c.loop-place.place-index 0 c.loop-place-test.true))
    (All-push P _ _ c.loop-place.invariant (sym c.is_named_at.ensures ∙ c.if-is_named_at.false))

pub returns : goal.returns
returns c =
    let P : ℕ → Type 0 = λ place. is_named_at c.args.name.now c.args.records.now place ≡ false in
    subst (All P) (take_all c.loop-place.place-index c.args.places.now c.loop-place-test.false) c.loop-place.invariant
