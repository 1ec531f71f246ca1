-- A record that isn't a present member is whole; a member is broken by what is found.
use Rattle.std.proofs.Common.{◌≡◌, ◌∙◌, true, false, true≢false, ℕ, List, sym}
use Rattle.std.specs.Borrow.{Bor}
use Rattle.std.specs.List.{All}
use Rattle.rules.specs.Configure.{IsUnbroken}
use Rattle.rules.specs.Database.{HasRecord}
use Rattle.witness.specs.Needed.{IsMemberWhole}
use Rattle.witness.specs.Witness.{BreaksMember, IsMemberBroken}
use Rattle.witness.proofs.ClauseLemmas.{broken_member, match_weaker, whole_member}
use Rattle.witness.proofs.configure.breaker_of.Goals as goal

pub returns-then-not-is_member : goal.returns-then-not-is_member
unfolding IsMemberWhole
returns-then-not-is_member c = λ within. absurd (let e : true ≡ false = sym (c.is_member.ensures.1 within) ∙ c.if-not-is_member.true in cc)

pub returns-in-None : goal.returns-in-None
unfolding IsMemberWhole IsUnbroken
returns-in-None c = λ within present. absurd (true≢false (sym (c.in-None.ensures.there ∙ present)))

pub returns-in-Some : goal.returns-in-Some
returns-in-Some c = match_weaker {X = Bor (List ℕ)} c.first_breaker.result
    (All (λ other. ¬ BreaksMember c.args.member.now other) c.args.db.now)
    (IsMemberWhole c.args.db.now c.args.names.now c.args.member.now)
    (λ (name : Bor (List ℕ)). HasRecord (BreaksMember c.args.member.now) name.now c.args.db.now)
    (λ (breaker : Bor (List ℕ)). IsMemberBroken c.args.db.now c.args.names.now breaker.now c.args.member.now)
    (whole_member c.args.db.now c.args.names.now c.args.member.now)
    (λ (breaker : Bor (List ℕ)). broken_member c.args.db.now c.args.names.now c.args.member.now breaker.now
    (c.is_member.ensures.0 c.if-not-is_member.false) (sym c.in-Some.ensures.there))
    c.first_breaker.ensures
