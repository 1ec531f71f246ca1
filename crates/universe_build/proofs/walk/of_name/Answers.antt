-- What is made of the name.
use Rattle.std.proofs.Common.{List, sym, subst, ◌∙◌, ap, if◌then◌else◌, []}
use Rattle.std.specs.List.Sorted.{IsStrictlySortedBy}
use Rattle.std.specs.Option.{option_copied}
use Rattle.candidates.specs.Eligible.{AreEligibleOf}
use Rattle.candidates.specs.Names.{IsAllOf}
use Rattle.candidates.specs.Offer.{Offer}
use Rattle.rules.specs.Universe.{candidate_cmp}
use Rattle.universe_build.specs.ByName.{AreNamed, AreOfName, given_inputs}
use Rattle.universe_build.specs.Choice.{candidates_at}
use Rattle.universe_build.proofs.OfNameLemmas.{AreNamed-made, AreOfName-made, candidates_ascend}
use Rattle.universe_build.proofs.walk.of_name.Goals as goal

pub returns-clause-ascending : goal.returns-clause-ascending
returns-clause-ascending c = record {
  of_pairs = c.in_ok-pairs.ensures.ascending;
  of_candidates = subst (IsStrictlySortedBy candidate_cmp) (sym c.in_ok-candidates.ensures) (candidates_ascend c.name.result.now (option_copied c.candidate_of-candidate.result));
}

pub returns-clause-named : goal.returns-clause-named
returns-clause-named c = subst (AreNamed c.args.own.now.name c.in_ok-pairs.pairs.items)
    (sym (c.in_ok-candidates.ensures ∙ ap (λ name. candidates_at name (option_copied c.candidate_of-candidate.result)) c.name.ensures))
    (AreNamed-made c.args.own.now (option_copied c.candidate_of-candidate.result) c.versions_if-versions.result.now c.args.asked.now
    c.in_ok-pairs.pairs.items c.requires.own c.in_ok-pairs.ensures)

pub returns-clause-all : goal.returns-clause-all
returns-clause-all c = λ given is.
    let whole : IsAllOf given.start given.indices c.args.own.now =
    subst (IsAllOf given.start given.indices) (sym is.own_is) (is.of.names_are.whole c.args.own.now.name is.among) in
    let may : AreEligibleOf (given_inputs given c.args.prefs.now) c.args.own.now.name c.as_slice.result.now =
    subst (AreEligibleOf (given_inputs given c.args.prefs.now) c.args.own.now.name) (sym c.as_slice.ensures.value)
    (c.in_ok-offers.ensures.versions given.start given.indices given.request is.of.distinct whole) in
    subst (AreOfName (given_inputs given c.args.prefs.now) c.args.own.now.name c.in_ok-pairs.pairs.items)
    (sym (c.in_ok-candidates.ensures ∙ ap (λ name. candidates_at name (option_copied c.candidate_of-candidate.result)) c.name.ensures))
    (AreOfName-made given c.args.prefs.now c.args.own.now c.args.asked.now c.args.asks_all_versions c.as_slice.result.now
    (option_copied c.candidate_of-candidate.result) c.versions_if-versions.result.now c.in_ok-pairs.pairs.items is may
    (c.candidate_of-candidate.ensures (given_inputs given c.args.prefs.now) c.args.own.now.name may)
    (c.versions_if-versions.ensures.versions ∙ ap (λ (xs : List Offer). if c.args.asks_all_versions then xs else [])
    (c.as_slice-2.ensures.value ∙ sym c.as_slice.ensures.value)) c.in_ok-pairs.ensures)
