-- The line is good, and what is kept is its clause.
use Rattle.std.proofs.Common.{List, Option, [], slice_index_or, subst}
use Rattle.refutation.specs.declared.literal.Literal.{Literal}
use Rattle.refutecheck.specs.Answer.{IsLineAnswer}
use Rattle.refutecheck.proofs.LineLemmas.{one_line_more, repeated_line}
use Rattle.refutecheck.proofs.check.keep_line.Goals as goal

pub returns-in-Some-clause-good : goal.returns-in-Some-clause-good
returns-in-Some-clause-good c = λ is.
    let again = repeated_line c.args.premises.now c.args.earlier.now c.args.kept.now c.in-Some.place c.args.line.now c.requires c.in-Some.ensures in
    one_line_more c.args.premises.now c.args.earlier.now c.args.kept.now c.push_again.new.self c.args.line.now
    (slice_index_or c.args.kept.now c.in-Some.place []) c.good_lines_grow.ensures c.requires again.1 again.2 c.in_ok-push_again.ensures

pub returns-in_ok-note-in-Some-2-clause-good : goal.returns-in_ok-note-in-Some-2-clause-good
returns-in_ok-note-in-Some-2-clause-good c = λ is.
    let Answer : Option (List Literal) → Type 0 = IsLineAnswer c.args.premises.now c.args.earlier.now c.args.line.now in
    let facts = subst Answer c.in-Some-2.is (c.in_ok-clause_of_line.ensures c.args.earlier.now c.requires.zip) in
    one_line_more c.args.premises.now c.args.earlier.now c.args.kept.now c.push.new.self c.args.line.now c.in-Some-2.clause
    c.good_lines_grow.ensures c.requires facts.0 facts.1 c.in_ok-push-in-Some-2.ensures
