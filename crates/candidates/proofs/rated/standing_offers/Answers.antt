-- A record is passed over, or offered.
use Rattle.std.proofs.Common.{◌≡◌, List, [], ◌∷◌, ◌+◌, drop, sym, ap, subst, ◌∙◌}
use Rattle.std.specs.List.{Contains}
use Rattle.std.proofs.lemmas.List.{drop_more}
use Rattle.rules.specs.Database.{Record}
use Rattle.rules.specs.Priority.{Origin, status_origin}
use Rattle.candidates.specs.Offer.{Offer}
use Rattle.candidates.specs.Rated.{IsFrom}
use Rattle.candidates.proofs.Alone.{AreAlone, AreAlone-push, AreAlone-skip, AreAlone-start}
use Rattle.candidates.proofs.rated.standing_offers.Goals as goal

pub loop-entry-init : goal.loop-entry-init
loop-entry-init c = subst (AreAlone c.args.prefs.now c.args.known.now c.args.places.now c.args.known.now) (sym c.new-offers.ensures.items)
    (AreAlone-start c.args.prefs.now c.args.known.now c.args.places.now)

pub loop-entry-preserved-in_default : goal.loop-entry-preserved-in_default
loop-entry-preserved-in_default c =
    let known : List Record = c.args.known.now in
    let entry : Record = c.entry-item.result in
    let behind : List Record = drop (c.loop-entry.entry-index + 1) known in
    let first : drop c.loop-entry.entry-index known ≡ entry ∷ behind =
    drop_more known c.loop-entry.entry-index entry c.loop-entry-test.true ∙ ap (λ (r : Record). r ∷ behind) (sym c.entry-item.is) in
    AreAlone-skip c.args.prefs.now known c.args.places.now c.args.ordered.now c.requires.known c.requires.ordered entry behind
    c.loop-entry.offers.items
    (subst (λ (left : List Record). AreAlone c.args.prefs.now known c.args.places.now left c.loop-entry.offers.items) first c.loop-entry.invariant)
    (sym c.in_default.ensures)

pub loop-entry-preserved : goal.loop-entry-preserved
loop-entry-preserved c =
    let known : List Record = c.args.known.now in
    let entry : Record = c.entry-item.result in
    let offers : List Offer = c.loop-entry.offers.items in
    let offer : Offer = c.offer_from.result in
    let behind : List Record = drop (c.loop-entry.entry-index + 1) known in
    let first : drop c.loop-entry.entry-index known ≡ entry ∷ behind =
    drop_more known c.loop-entry.entry-index entry c.loop-entry-test.true ∙ ap (λ (r : Record). r ∷ behind) (sym c.entry-item.is) in
    let here : Contains known entry = (c.loop-entry.entry-index, c.loop-entry-test.true, sym c.entry-item.is) in
    let from : IsFrom c.args.prefs.now entry.name c.in-Some.version (status_origin ∷ []) offer =
    subst (λ n. IsFrom c.args.prefs.now n c.in-Some.version (status_origin ∷ []) offer) c.name.ensures
    (subst (λ (origins : List Origin). IsFrom c.args.prefs.now c.name.result.now c.in-Some.version origins offer)
    (ap (λ (origin : Origin). origin ∷ []) c.status_file.ensures) c.offer_from.ensures) in
    subst (λ (all : List Offer). AreAlone c.args.prefs.now known c.args.places.now behind all) (sym c.in_ok-push.ensures.items)
    (AreAlone-push c.args.prefs.now known c.args.places.now c.args.ordered.now c.requires.known c.requires.ordered entry behind offers
    (subst (λ (left : List Record). AreAlone c.args.prefs.now known c.args.places.now left offers) first c.loop-entry.invariant)
    here c.in-Some.version (sym c.in-Some.ensures) offer from)
