-- A derived line is good exactly where it follows from the lists.
use Rattle.std.proofs.Common.{ℕ, List, subst, sym}
use Rattle.std.specs.List.{Contains}
use Rattle.refutation.specs.Following.{EndsFalse}
use Rattle.refutation.specs.Refutation.{IsGoodLine}
use Rattle.refutation.specs.declared.line.Line.{Line}
use Rattle.refutation.specs.declared.line.Line.TheVariants as line
use Rattle.refutation.specs.declared.literal.Literal.{Literal}
use Rattle.refutecheck.specs.Answer.{IsClauseWhere, IsLineAnswer}
use Rattle.refutecheck.proofs.AnswerLemmas.{where_same}
use Rattle.refutecheck.proofs.check.clause_of_line.Goals as goal

pub returns-in_ok-answer-in-Derived : goal.returns-in_ok-answer-in-Derived
returns-in_ok-answer-in-Derived c = λ earlier zip.
    let clauses : List (List Literal) = c.args.clauses.now in
    let law = c.follows_from_lists.ensures c.args.premises.now earlier clauses c.in-Derived.literals c.in-Derived.hints zip in
    let By : List Literal → Type 0 = λ literals. IsClauseWhere
    (EndsFalse Contains clauses (Contains literals) c.as_slice-in-Derived.result.now) (Contains literals) c.in_ok-answer-in-Derived.answer in
    let Over : List ℕ → Type 0 = λ hints. IsClauseWhere (EndsFalse Contains clauses (Contains c.in-Derived.literals) hints)
    (Contains c.in-Derived.literals) c.in_ok-answer-in-Derived.answer in
    let Of : Line → Type 0 = λ line. IsLineAnswer c.args.premises.now earlier line c.in_ok-answer-in-Derived.answer in
    subst Of (sym c.in-Derived.is) (where_same (EndsFalse Contains clauses (Contains c.in-Derived.literals) c.in-Derived.hints)
    (IsGoodLine c.args.premises.now earlier (line.Derived c.in-Derived.literals c.in-Derived.hints)) (Contains c.in-Derived.literals)
    c.in_ok-answer-in-Derived.answer (law.1, law.0)
    (subst Over c.as_slice-in-Derived.ensures (subst By c.as_slice.ensures c.in_ok-answer-in-Derived.ensures)))
