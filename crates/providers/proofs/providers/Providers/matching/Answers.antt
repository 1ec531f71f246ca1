-- The places of the offers that fit are those of the packages that match.
use Rattle.std.proofs.Common.{◌↔◌, ℕ, List, Contains, sym, ap, subst, ◌∙◌, arith}
use Rattle.std.specs.List.{filter}
use Rattle.providers.specs.Matching.{IsMatchAt}
use Rattle.providers.specs.Offers.{is_offer_of}
use Rattle.providers.proofs.OfferLemmas.{foreign_matches_none}
use Rattle.providers.proofs.FoundLemmas.{found_match, of_value, run_counts, run_has_versions, run_is_one}
use Rattle.providers.proofs.providers.Providers.matching.Goals as goal

pub returns-then-is_foreign-clause-matching : goal.returns-then-is_foreign-clause-matching
returns-then-is_foreign-clause-matching c =
    subst (λ (items : List ℕ). (place : ℕ) → Contains items place ↔ IsMatchAt c.args.self.now c.args.atom.now place) (sym c.new.ensures.items)
    (foreign_matches_none c.args.atom.now c.args.self.now (sym c.is_foreign.ensures ∙ c.if-is_foreign.true))

pub meeting-requires : goal.meeting-requires
meeting-requires c =
    run_is_one c.args.self.now _ c.self.inside.offers.items c.as_slice.result.now c.self.invariant.0 c.self.view_is c.as_slice.ensures.value
    c.name.result.now c.run_at-run.result.now c.run_at-run.ensures

pub returns-clause-matching : goal.returns-clause-matching
returns-clause-matching c = of_value c.ordered_places.result
    (λ places same place.
    let both = found_match c.args.self.now _ c.self.inside.offers.items c.as_slice.result.now c.self.invariant.0 c.self.view_is c.as_slice.ensures.value
    c.args.atom.now c.run_at-run.result.now c.meeting.result.now
    (c.run_at-run.ensures ∙ ap (λ (name : List ℕ). filter (is_offer_of name) c.as_slice.result.now) c.name.ensures)
    c.meeting.ensures.meeting (sym c.is_foreign.ensures ∙ c.if-is_foreign.false) place in
    (λ within. both.0 ((same place).0 within), λ matches. (same place).1 (both.1 matches))) c.ordered_places.ensures.same

pub returns-clause-counted : goal.returns-clause-counted
returns-clause-counted c = λ d short.
    let fewer = run_counts c.args.self.now _ c.self.inside.offers.items c.as_slice.result.now c.self.invariant.0 c.self.view_is c.as_slice.ensures.value
    c.args.atom.now.name c.run_at-run.result.now
    (c.run_at-run.ensures ∙ ap (λ (name : List ℕ). filter (is_offer_of name) c.as_slice.result.now) c.name.ensures) in
    c.meeting.ensures.counted d (omega (arith, fewer, short))

pub returns-clause-compared : goal.returns-clause-compared
returns-clause-compared c = λ has.
    c.meeting.ensures.compared has.1
    (run_has_versions c.args.self.now _ c.self.inside.offers.items c.as_slice.result.now c.self.invariant.0 c.self.view_is c.as_slice.ensures.value
    c.args.atom.now.name c.run_at-run.result.now
    (c.run_at-run.ensures ∙ ap (λ (name : List ℕ). filter (is_offer_of name) c.as_slice.result.now) c.name.ensures) has.2)
