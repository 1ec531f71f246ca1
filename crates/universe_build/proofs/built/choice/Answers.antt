-- The universe of the pairs and the candidates of all names, and the first refusal.
use Rattle.std.proofs.Common.{◌≡◌, refl, sym, subst, ◌∙◌}
use Rattle.std.proofs.lemmas.Result.{err_from_is_err_and}
use Rattle.rules.specs.Available.{all_listed}
use Rattle.universe_build.specs.Build.{goals_of, universe_with}
use Rattle.universe_build.specs.Choice.{AreExacts, exacts_of}
use Rattle.universe_build.specs.Error.{IsBuilt, IsUniverseFault}
use Rattle.universe_build.proofs.Searching.{first_unknown-ordered}
use Rattle.universe_build.proofs.UniverseMade.{AreGiven-by, IsUniverse-made, given_by}
use Rattle.universe_build.proofs.built.choice.Goals as goal

pub returns-in-Some-clause-err : goal.returns-in-Some-clause-err
returns-in-Some-clause-err c = λ start indices distinct are.
    sym (first_unknown-ordered start c.args.names.now.known (all_listed indices) c.args.names.now.ordered are.known are.ordered c.args.lines.now)
    ∙ sym c.in-Some.ensures

pub returns-in_err-pairs-2-clause-err : goal.returns-in_err-pairs-2-clause-err
returns-in_err-pairs-2-clause-err c = λ start indices distinct are.
    let refused = err_from_is_err_and c.from_residual-in_err-pairs-2.result c.from_residual-in_err-pairs-2.ensures.1 in
    rw (refused.1, refused.2) (subst (IsUniverseFault start indices c.args.prefs.now c.args.lines.now c.args.asks_all_versions) (sym c.in_err-pairs-2.ensures.err.0) (
      sym (first_unknown-ordered start c.args.names.now.known (all_listed indices) c.args.names.now.ordered are.known are.ordered c.args.lines.now)
          ∙ sym c.in_default.ensures,
      record {
        u = universe_with start c.args.lines.now c.in_ok-pairs.pairs.items c.in_ok-pairs.candidates.items;
        universe = IsUniverse-made start indices c.args.prefs.now c.args.lines.now c.args.asks_all_versions
            c.in_ok-pairs.pairs.items c.in_ok-pairs.candidates.items
            (c.in_ok-pairs.ensures.all (given_by start indices c.args.lines.now c.args.asks_all_versions)
            (AreGiven-by start indices c.args.lines.now c.args.asks_all_versions c.args.names.now c.as_slice.result.now distinct are
            (subst (AreExacts (exacts_of (goals_of c.args.lines.now))) (sym c.as_slice.ensures.value) c.in_ok-asked.ensures)))
            c.in_ok-pairs.ensures.ascending;
        beyond = c.in_err-pairs-2.ensures.err.1;
      },
    ))

pub returns-clause-ok : goal.returns-clause-ok
returns-clause-ok c = λ start indices distinct are.
    let is : universe_with start c.args.lines.now c.in_ok-pairs.pairs.items c.in_ok-pairs.candidates.items
    ≡ universe_with start c.args.lines.now c.in_ok-pairs-2.pairs c.new.result =
    rw (c.in_ok-pairs-2.ensures.ok.0, c.new.ensures) refl in
    subst (IsBuilt start indices c.args.prefs.now c.args.lines.now c.args.asks_all_versions) is (record {
      known = sym (first_unknown-ordered start c.args.names.now.known (all_listed indices) c.args.names.now.ordered are.known are.ordered c.args.lines.now)
          ∙ sym c.in_default.ensures;
      universe = IsUniverse-made start indices c.args.prefs.now c.args.lines.now c.args.asks_all_versions
          c.in_ok-pairs.pairs.items c.in_ok-pairs.candidates.items
          (c.in_ok-pairs.ensures.all (given_by start indices c.args.lines.now c.args.asks_all_versions)
          (AreGiven-by start indices c.args.lines.now c.args.asks_all_versions c.args.names.now c.as_slice.result.now distinct are
          (subst (AreExacts (exacts_of (goals_of c.args.lines.now))) (sym c.as_slice.ensures.value) c.in_ok-asked.ensures)))
          c.in_ok-pairs.ensures.ascending;
      bounded = c.in_ok-pairs-2.ensures.ok.1;
    })
