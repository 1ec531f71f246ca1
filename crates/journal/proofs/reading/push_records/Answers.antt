use Rattle.std.proofs.Common.{◌≡◌, ◌∙◌, ◌∷◌, ap, subst, true, rules, List, ℕ}
use Rattle.journal.specs.History.{History, Reaches}
use Rattle.journal.specs.Ledger.{history_of}
use Rattle.journal.proofs.HistoryLemmas.{push_fault, pushed_less, pushed_reaches, pushed_size}
use Rattle.journal.proofs.reading.push_records.Goals as goal

pub loop-rest-preserved : goal.loop-rest-preserved
loop-rest-preserved c =
    let pushed = c.in-Ok.ensures.pushed in
    let before = c.loop-rest.ledger in
    let after = c.push_record.new.ledger in
    let behind = c.in-Ok.behind.now in
    let known = c.loop-rest.invariant in
    record {
      reaches = λ file begun. pushed_reaches file before after c.loop-rest.rest.now behind pushed (known.reaches file begun);
      arch = ap (λ (h : History). h.arch) pushed.history ∙ known.arch;
      whole = pushed.whole ∙ known.whole;
      size = pushed_size before after c.loop-rest.rest.now behind pushed ∙ known.size;
    }

pub loop-rest-smaller : goal.loop-rest-smaller
loop-rest-smaller c = pushed_less c.loop-rest.ledger c.push_record.new.ledger c.loop-rest.rest.now c.in-Ok.behind.now c.in-Ok.ensures.pushed

pub returns-in-Err-clause-fault : goal.returns-in-Err-clause-fault
returns-in-Err-clause-fault c = λ file begun.
    push_fault c.args.begun.database.arch file c.loop-rest.ledger c.loop-rest.rest.now c.in-Err.e c.loop-rest.invariant.arch
    (c.loop-rest.invariant.reaches file begun) c.in-Err.ensures.fault

pub returns-clause-read : goal.returns-clause-read
returns-clause-read c = λ file begun.
    let yes : c.is_closed.result ≡ true = search rules in
    let closed = c.is_closed.ensures.closed yes in
    record {
      whole = c.loop-rest.invariant.whole;
      for_it = c.loop-rest.invariant.arch;
      tail = closed.0;
      reaches = subst (λ (l : List ℕ). Reaches file (history_of c.loop-rest.ledger) c.loop-rest.ledger.gate l) closed.1 (c.loop-rest.invariant.reaches file begun);
    }
