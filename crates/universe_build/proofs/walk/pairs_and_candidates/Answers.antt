-- A name is put behind with its pairs and its candidate.
use Rattle.std.proofs.Common.{refl}
use Rattle.universe_build.proofs.WalkLemmas.{AreAdmitted-end, AreAscending-split, AreAscending-start, AreBefore-split, AreBefore-start, AreBehind-split, AreBehind-start, AreRest-split, IsGiven-split, IsOfName-part}
use Rattle.universe_build.specs.ByName.{given_inputs}
use Rattle.universe_build.proofs.walk.pairs_and_candidates.Goals as goal

pub loop-own-init : goal.loop-own-init
loop-own-init c = record {
  rest = rw c.all-left.ensures (λ name among. (among, refl));
  ascending = rw (c.new-pairs.ensures.items, c.new-candidates.ensures.items) AreAscending-start;
  before = rw (c.all-left.ensures, c.new-pairs.ensures.items, c.new-candidates.ensures.items) (AreBefore-start c.args.names.now);
  behind = λ given of. rw (c.all-left.ensures, c.new-pairs.ensures.items, c.new-candidates.ensures.items)
      (AreBehind-start given c.args.prefs.now c.args.names.now of.distinct of.names_are);
}

pub of_name-requires-clause-own : goal.of_name-requires-clause-own
of_name-requires-clause-own c = IsOfName-part c.loop-own.left c.in-Some.own c.in-Some.ensures.split.first

pub loop-own-preserved : goal.loop-own-preserved
loop-own-preserved c = record {
  rest = AreRest-split c.loop-own.left c.in-Some.own c.in-Some.rest c.in-Some.ensures.split c.args.names.now c.loop-own.invariant.rest;
  ascending = rw (c.in_ok-append.ensures.items, c.in_ok-append-2.ensures.items)
      (AreAscending-split c.loop-own.left c.in-Some.own c.in-Some.rest c.in-Some.ensures.split c.loop-own.pairs.items c.in_ok-own_pairs.own_pairs.items
      c.loop-own.candidates.items c.in_ok-own_pairs.own_candidates.items c.loop-own.invariant.before c.in_ok-own_pairs.ensures.named
      c.loop-own.invariant.ascending c.in_ok-own_pairs.ensures.ascending);
  before = rw (c.in_ok-append.ensures.items, c.in_ok-append-2.ensures.items)
      (AreBefore-split c.loop-own.left c.in-Some.own c.in-Some.rest c.in-Some.ensures.split c.loop-own.pairs.items c.in_ok-own_pairs.own_pairs.items
      c.loop-own.candidates.items c.in_ok-own_pairs.own_candidates.items c.loop-own.invariant.before c.in_ok-own_pairs.ensures.named);
  behind = λ given of. rw (c.in_ok-append.ensures.items, c.in_ok-append-2.ensures.items)
      (AreBehind-split c.loop-own.left c.in-Some.own c.in-Some.rest c.in-Some.ensures.split (given_inputs given c.args.prefs.now)
      c.loop-own.pairs.items c.in_ok-own_pairs.own_pairs.items c.loop-own.candidates.items c.in_ok-own_pairs.own_candidates.items
      (c.loop-own.invariant.behind given of)
      (c.in_ok-own_pairs.ensures.all given
      (IsGiven-split given c.args.names.now c.loop-own.left c.in-Some.own c.in-Some.rest c.args.asked.now c.args.asks_all_versions of
      c.loop-own.invariant.rest c.in-Some.ensures.split)));
}

pub returns-clause-ascending : goal.returns-clause-ascending
returns-clause-ascending c = c.loop-own.invariant.ascending

pub returns-clause-all : goal.returns-clause-all
returns-clause-all c = λ given of. AreAdmitted-end (given_inputs given c.args.prefs.now) c.loop-own.left c.loop-own.pairs.items
    c.loop-own.candidates.items c.in_default.ensures.split.0 c.in_default.ensures.split.1 (c.loop-own.invariant.behind given of)
