-- What the goal asks for is sought.
use Rattle.std.proofs.Common.{◌≡◌, ℕ, List, Some, MatchOption, subst, sym}
use Rattle.rules.specs.Package.{Meets}
use Rattle.rules.specs.Universe.{IsOf, candidate_of}
use Rattle.rules.specs.declared.goal.Goal.{Goal}
use Rattle.refutation.specs.Clause.{IsListOf}
use Rattle.refutation.specs.Premise.{AsksForMember, IsAskedBy, Selects}
use Rattle.refutecheck.specs.Answer.{IsClauseWhere}
use Rattle.refutecheck.proofs.goals.clause_asked_by.Goals as goal

pub returns-in_ok-literals-in-Install : goal.returns-in_ok-literals-in-Install
returns-in_ok-literals-in-Install c =
    let Of : Goal → Type 0 = λ asked. IsClauseWhere (AsksForMember asked) (Selects c.args.premises.now (IsAskedBy c.args.premises.now asked))
    (Some c.in_ok-literals-in-Install.literals) in
    let Over : List ℕ → Type 0 = λ name. IsListOf (Selects c.args.premises.now
    (λ pkg. (pkg.name ≡ name) × Meets pkg.version c.in-Install.restriction)) c.in_ok-literals-in-Install.literals in
    subst Of (sym c.in-Install.is) (tt, subst Over c.as_bytes.ensures.bytes c.in_ok-literals-in-Install.ensures)

pub returns-in_ok-literals-in-Upgrade : goal.returns-in_ok-literals-in-Upgrade
returns-in_ok-literals-in-Upgrade c =
    let Of : Goal → Type 0 = λ asked. IsClauseWhere (AsksForMember asked) (Selects c.args.premises.now (IsAskedBy c.args.premises.now asked))
    (Some c.in_ok-literals-in-Upgrade.literals) in
    let Over : List ℕ → Type 0 = λ name. IsListOf (Selects c.args.premises.now
    (λ pkg. MatchOption (candidate_of c.args.premises.now name) ⊥ (λ candidate. IsOf name candidate pkg))) c.in_ok-literals-in-Upgrade.literals in
    subst Of (sym c.in-Upgrade.is) (tt, subst Over c.as_bytes-in-Upgrade.ensures.bytes c.in_ok-literals-in-Upgrade.ensures)
