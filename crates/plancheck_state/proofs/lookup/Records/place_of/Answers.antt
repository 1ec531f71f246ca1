-- Where no record of the name stands at its places, there is none.
use Rattle.std.proofs.Common.{◌≡◌, false, subst}
use Rattle.std.specs.Prelude.{MatchOption}
use Rattle.std.specs.List.{All, list_any}
use Rattle.rules.specs.Step.{is_named}
use Rattle.plancheck_state.specs.Holders.{IsPlaceOf, is_named_at, places_in}
use Rattle.plancheck_state.proofs.ListedLemmas.{place-answer}
use Rattle.plancheck_state.proofs.lookup.Records.place_of.Goals as goal

pub returns : goal.returns
returns c =
    let name = c.args.name.now in
    let answer = c.place_among.result in
    let records = c.self.inside.records.items in
    subst (λ db. MatchOption answer (list_any (is_named name) db ≡ false) (IsPlaceOf name db)) c.self.view_is
    (place-answer answer name records (places_in c.self.inside.places) c.self.invariant
    (subst (λ places. MatchOption answer (All (λ place. is_named_at name records place ≡ false) places) (IsPlaceOf name records)) c.of.ensures
    (subst (λ db. MatchOption answer (All (λ place. is_named_at name db place ≡ false) c.of.result.now) (IsPlaceOf name db))
    c.as_slice.ensures.value c.place_among.ensures)))
