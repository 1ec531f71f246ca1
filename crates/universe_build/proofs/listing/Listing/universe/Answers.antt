-- The universe of goals that are covered, over the names and what is admitted.
use Rattle.std.proofs.Common.{◌≡◌, ◌<◌, ◌≤◌, None, Some, ap, length, refl, subst, ◌∙◌}
use Rattle.universe.specs.Admitted.{Admitted, asked_of}
use Rattle.universe_build.specs.Build.{goals_of}
use Rattle.universe_build.specs.Error.{IsBuilt, most_pairs}
use Rattle.universe_build.specs.Listing.{Listing}
use Rattle.universe_build.proofs.Beside.{of_covered, unknown_among}
use Rattle.universe_build.proofs.listing.Listing.universe.Goals as goal

pub returns-in-Some-clause-err : goal.returns-in-Some-clause-err
returns-in-Some-clause-err c = λ start indices prefs is.
    unknown_among start indices prefs c.args.self.now c.self.inside.names (ap (λ (l : Listing). l.names) c.self.view_is) is
    c.as_slice.result.now c.args.goals.items c.as_slice.ensures.value (Some c.in-Some.line) c.in-Some.ensures

pub returns-then-is_too_large-clause-err : goal.returns-then-is_too_large-clause-err
returns-then-is_too_large-clause-err c = λ start indices prefs is. (
  unknown_among start indices prefs c.args.self.now c.self.inside.names (ap (λ (l : Listing). l.names) c.self.view_is) is
      c.as_slice.result.now c.args.goals.items c.as_slice.ensures.value None c.in_default.ensures,
  record {
    u = asked_of c.args.self.now.admitted (goals_of c.args.goals.items);
    universe = of_covered start indices prefs c.args.goals.items c.args.self.now.asks_all_versions c.args.self.now.admitted c.requires is.universe;
    beyond = subst (λ (admitted : Admitted). most_pairs < length admitted.pairs) (c.as_ref.ensures ∙ ap (λ (l : Listing). l.admitted) c.self.view_is)
        (c.is_too_large.ensures.beyond c.if-is_too_large.true);
  },
)

pub returns-clause-ok : goal.returns-clause-ok
returns-clause-ok c = λ start indices prefs is.
    let made : asked_of c.args.self.now.admitted (goals_of c.args.goals.items) ≡ c.new.result =
    rw (c.new.ensures, c.in_ok-share.ensures, c.in_ok-goals.ensures) refl in
    subst (IsBuilt start indices prefs c.args.goals.items c.args.self.now.asks_all_versions) made (record {
      known = unknown_among start indices prefs c.args.self.now c.self.inside.names (ap (λ (l : Listing). l.names) c.self.view_is) is
          c.as_slice.result.now c.args.goals.items c.as_slice.ensures.value None c.in_default.ensures;
      universe = of_covered start indices prefs c.args.goals.items c.args.self.now.asks_all_versions c.args.self.now.admitted c.requires is.universe;
      bounded = subst (λ (admitted : Admitted). length admitted.pairs ≤ most_pairs) (c.as_ref.ensures ∙ ap (λ (l : Listing). l.admitted) c.self.view_is)
          (c.is_too_large.ensures.bounded c.if-is_too_large.false);
    })
