-- One more literal has its clause.
use Rattle.std.proofs.Common.{pos, ◌<◌, List, ℤ, length, take, get_or, subst, sym, arith}
use Rattle.std.proofs.lemmas.List.{take_more}
use Rattle.search_settle.specs.Occurrences.{Gains}
use Rattle.search_settle.proofs.OccurrenceLemmas.{gains_more}
use Rattle.search_settle.proofs.occurrences.Occurrences.push_clause.Goals as goal

pub loop-literal-preserved : goal.loop-literal-preserved
loop-literal-preserved c =
    let i = c.loop-literal.literal-index in
    let clause = c.args.clause.now in
    let within : i < length clause = omega arith in
    let new = c.push_under.new.self in
    let lists = c.loop-literal.self in
    subst (λ (literals : List ℤ). Gains c.args.self.now new literals c.args.place) (sym (take_more clause i (pos 0) within))
    (gains_more c.args.self.now lists new (take i clause) (get_or clause i (pos 0)) c.args.place c.loop-literal.invariant
    c.in_ok-push_under.ensures.long c.in_ok-push_under.ensures.others c.in_ok-push_under.ensures.pushed)
