-- What installed packages and members meet is what one of them does.
use Rattle.std.proofs.Common.{◌≡◌, true, false, sym, ◌∙◌}
use Rattle.rules.specs.Configure.{is_present_among, members_of}
use Rattle.rules.specs.Database.{installed_of, pkg_of}
use Rattle.rules.specs.ElementLaws.{Any-append, Any-append_left, Any-append_right, Any-map_filter, Any-filter_map}
use Rattle.rules.specs.Package.{MatchesSome, MeetsClause}
use Rattle.witness.proofs.clauses.is_met_with.Goals as goal
use mathlib.Core.Logic.{inl, inr}

pub returns-then-is_met : goal.returns-then-is_met
unfolding MeetsClause
returns-then-is_met c = (
  λ met. Any-append_left (λ member. MatchesSome member c.args.clause.now) (installed_of c.args.db.now)
      (members_of c.args.names.now c.args.db.now) (c.is_met.ensures.0 met),
  λ _. c.if-is_met.true,
)

pub returns-else-is_met : goal.returns-else-is_met
unfolding MeetsClause
returns-else-is_met c = (
  λ met. Any-append_right (λ member. MatchesSome member c.args.clause.now) (installed_of c.args.db.now)
      (members_of c.args.names.now c.args.db.now)
      (Any-map_filter (λ member. MatchesSome member c.args.clause.now) pkg_of (is_present_among c.args.names.now) c.args.db.now
      (c.some_matches_among.ensures.0 met)),
  λ whole. elim (Any-append (λ member. MatchesSome member c.args.clause.now) (installed_of c.args.db.now)
      (members_of c.args.names.now c.args.db.now) whole) [
        | inl here ↦ absurd (let e : true ≡ false = sym (c.is_met.ensures.1 here) ∙ c.if-is_met.false in cc)
        | inr there ↦ c.some_matches_among.ensures.1 (Any-filter_map (λ member. MatchesSome member c.args.clause.now) pkg_of
            (is_present_among c.args.names.now) c.args.db.now there)
      ],
)
