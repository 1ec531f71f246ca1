-- The clause of the hint is the one that narrows.
use Rattle.std.proofs.Common.{List, sym, subst}
use Rattle.std.specs.List.{Contains}
use Rattle.refutation.specs.declared.literal.Literal.{Literal}
use Rattle.refutecheck.specs.Falses.{IsFalse}
use Rattle.refutecheck.specs.Following.{Narrows}
use Rattle.refutecheck.proofs.FollowLemmas.{goes_at}
use Rattle.refutecheck.proofs.follow.go_on.Goals as goal

pub returns-in_ok-is_one-in-Some : goal.returns-in_ok-is_one-in-Some
returns-in_ok-is_one-in-Some c =
    let Of : List Literal → Type 0 = λ clause. Narrows (IsFalse c.args.falses.now) (Contains clause) c.in_ok-is_one-in-Some.is_one
    (IsFalse c.narrow.new.falses) in
    goes_at c.args.clauses.now c.args.hint c.in-Some.clause.now (IsFalse c.args.falses.now) (IsFalse c.narrow.new.falses)
    c.in_ok-is_one-in-Some.is_one (sym c.in-Some.ensures) (subst Of c.as_slice.ensures c.in_ok-is_one-in-Some.ensures)
