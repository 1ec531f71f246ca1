-- The goal speaks of the pair where its package is the one.
use Rattle.std.proofs.Common.{◌≡◌, ℕ, List, subst, sym}
use Rattle.std.specs.Prelude.{◌↔◌, IsTrue}
use Rattle.std.specs.List.{Any}
use Rattle.rules.specs.declared.goal.Goal.{Goal}
use Rattle.refutation.specs.Premise.{IsSaidBy, IsUpgradeFrom, PairHas, SpeaksOf}
use Rattle.refutation.specs.declared.literal.Literal.TheVariants as literal
use Rattle.refutecheck.specs.Answer.{IsClauseWhere}
use Rattle.refutecheck.proofs.AnswerLemmas.{where_same}
use Rattle.refutecheck.proofs.goals.clause_said_by.Goals as goal

pub returns-in_ok-answer-in-Remove : goal.returns-in_ok-answer-in-Remove
returns-in_ok-answer-in-Remove c =
    let Of : Goal → Type 0 = λ asked. IsClauseWhere (PairHas c.args.premises.now c.args.pair (SpeaksOf c.args.premises.now asked))
    (IsSaidBy asked c.args.pair) c.in_ok-answer-in-Remove.answer in
    let Over : List ℕ → Type 0 = λ name. IsTrue c.is_named-is_premise.result ↔ PairHas c.args.premises.now c.args.pair (λ pkg. pkg.name ≡ name) in
    subst Of (sym c.in-Remove.is) (where_same (IsTrue c.is_named-is_premise.result)
    (PairHas c.args.premises.now c.args.pair (λ pkg. pkg.name ≡ c.in-Remove.name)) (λ disjunct. disjunct ≡ literal.Unselected c.args.pair)
    c.in_ok-answer-in-Remove.answer (subst Over c.as_bytes.ensures.bytes c.is_named-is_premise.ensures) c.in_ok-answer-in-Remove.ensures)

pub returns-in_ok-answer-in-Purge : goal.returns-in_ok-answer-in-Purge
returns-in_ok-answer-in-Purge c =
    let Of : Goal → Type 0 = λ asked. IsClauseWhere (PairHas c.args.premises.now c.args.pair (SpeaksOf c.args.premises.now asked))
    (IsSaidBy asked c.args.pair) c.in_ok-answer-in-Purge.answer in
    let Over : List ℕ → Type 0 = λ name. IsTrue c.is_named-is_premise-in-Purge.result ↔ PairHas c.args.premises.now c.args.pair (λ pkg. pkg.name ≡ name) in
    subst Of (sym c.in-Purge.is) (where_same (IsTrue c.is_named-is_premise-in-Purge.result)
    (PairHas c.args.premises.now c.args.pair (λ pkg. pkg.name ≡ c.in-Purge.name)) (λ disjunct. disjunct ≡ literal.Unselected c.args.pair)
    c.in_ok-answer-in-Purge.answer (subst Over c.as_bytes-in-Purge.ensures.bytes c.is_named-is_premise-in-Purge.ensures) c.in_ok-answer-in-Purge.ensures)

pub returns-in_ok-answer-in-UpgradeAll : goal.returns-in_ok-answer-in-UpgradeAll
returns-in_ok-answer-in-UpgradeAll c =
    let Of : Goal → Type 0 = λ asked. IsClauseWhere (PairHas c.args.premises.now c.args.pair (SpeaksOf c.args.premises.now asked))
    (IsSaidBy asked c.args.pair) c.in_ok-answer-in-UpgradeAll.answer in
    subst Of (sym c.in-UpgradeAll.is) (where_same (IsTrue c.is_pair_of_upgrade-is_premise.result)
    (PairHas c.args.premises.now c.args.pair (λ pkg. Any (IsUpgradeFrom c.args.premises.now pkg) c.args.premises.now.starts))
    (λ disjunct. disjunct ≡ literal.Selected c.args.pair) c.in_ok-answer-in-UpgradeAll.answer c.is_pair_of_upgrade-is_premise.ensures
    c.in_ok-answer-in-UpgradeAll.ensures)
