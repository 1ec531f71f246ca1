-- The first clause that isn't made true decides, and else each is.
use Rattle.std.proofs.Common.{◌<◌, ◌≤◌, ℕ, [], length, slice_index_or, subst, sym, refl, ◌∙◌, arith, below_more}
use Rattle.std.proofs.lemmas.Bool.{false≢true}
use Rattle.search.specs.Set.{IsMadeTrue}
use Rattle.search.proofs.SetLemmas.{all_places}
use Rattle.search.proofs.pass.makes_all_true.Goals as goal

pub returns-then-not-is_made_true : goal.returns-then-not-is_made_true
returns-then-not-is_made_true c =
    let within : c.loop-place.place < length c.args.given.now.clauses = omega arith in (
      λ no. absurd (false≢true no),
      λ all. sym c.if-not-is_made_true.true ∙ c.is_made_true.ensures.1 (subst (IsMadeTrue c.args.set.now.items)
          (sym c.clause.ensures) (all c.loop-place.place [] within)),
    )

pub loop-place-preserved : goal.loop-place-preserved
loop-place-preserved c = below_more
    (λ (k : ℕ). IsMadeTrue c.args.set.now.items (slice_index_or c.args.given.now.clauses k [])) c.loop-place.place
    c.loop-place.invariant
    (subst (IsMadeTrue c.args.set.now.items) c.clause.ensures (c.is_made_true.ensures.0 c.if-not-is_made_true.false))

pub returns : goal.returns
returns c = let all : length c.args.given.now.clauses ≤ c.loop-place.place = omega arith in (
  λ _. all_places (IsMadeTrue c.args.set.now.items) c.args.given.now.clauses [] c.loop-place.place all c.loop-place.invariant,
  λ _. refl,
)
