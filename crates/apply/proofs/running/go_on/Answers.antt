-- The journal is opened, and then brought to the plan's end.
use Rattle.std.proofs.Common.{◌∙◌, Err, ⊎_elim, ℕ, List, length, map, sym, ap, subst}
use Rattle.std.specs.Option.{option_copied}
use Rattle.disk.specs.Facts.{LeavesOnly}
use Rattle.journal.specs.Fault.{IsOpenFault}
use Rattle.journal.specs.History.{Shows}
use Rattle.journal.specs.Ledger.{history_of}
use Rattle.apply.specs.Planned.{planned}
use Rattle.apply.specs.Run.{IsLeft}
use Rattle.apply.proofs.FaultLemmas.{is_mismatch}
use Rattle.apply.proofs.LeftLemmas.{as_before, at_end, shown_start, then_onward}
use Rattle.apply.proofs.running.go_on.Goals as goal

pub returns-in-Err-clause-run : goal.returns-in-Err-clause-run
returns-in-Err-clause-run g c honest seen = record {
  any_moment = as_before c.args.arch.now c.args.start.now (planned c.args.steps.now (map option_copied c.args.texts.now))
      (g.D.Disk.facts c.args.disk.now) (g.D.Disk.facts c.open.new.disk) (c.open.ensures.any_moment honest seen);
  begun = tt;
  done = tt;
  cause = subst (λ (file : List ℕ). IsOpenFault c.args.arch.now file c.in-Err.e) seen c.in-Err.ensures.fault;
  kept = tt;
}

pub returns-in-Ok-finish-clause-run : goal.returns-in-Ok-finish-clause-run
returns-in-Ok-finish-clause-run g c honest seen =
    let arch = c.args.arch.now in
    let start = c.args.start.now in
    let plan = planned c.args.steps.now (map option_copied c.args.texts.now) in
    let l = c.in-Ok.ledger in
    let old = g.D.Disk.facts c.args.disk.now in
    let mid = g.D.Disk.facts c.open.new.disk in
    let still = c.open.ensures.honest.1 honest in
    let settled = c.in-Ok.ensures.settled honest seen in
    let shown : Shows old.seen (history_of l) = subst (λ (file : List ℕ). Shows file (history_of l)) seen c.in-Ok.ensures.shows in
    let of_plan = c.in-Ok-finish.ensures.of_plan (λ e. cc) in
    record {
      any_moment = then_onward arch start plan (history_of l) old mid (g.D.Disk.facts c.finish.new.disk)
          (c.open.ensures.any_moment honest seen) c.in-Ok.ensures.arch shown of_plan (c.finish.ensures.any_moment still settled);
      begun = record { h = history_of l; for_it = c.in-Ok.ensures.arch; shows = shown; of_plan = of_plan };
      done = λ file left. (
        history_of c.finish.new.ledger,
        at_end arch start plan (history_of l) (history_of c.finish.new.ledger) c.in-Ok.ensures.arch
            (shown_start old.seen (history_of l) shown) of_plan c.in-Ok-finish.ensures.done,
        c.in-Ok-finish.ensures.kept still settled file left,
      );
      cause = tt;
      kept = tt;
    }

pub returns-in-Ok-finish-clause-end : goal.returns-in-Ok-finish-clause-end
returns-in-Ok-finish-clause-end g c =
    let l = c.in-Ok.ledger in
    record {
      h = history_of c.finish.new.ledger;
      end = at_end c.args.arch.now c.args.start.now (planned c.args.steps.now (map option_copied c.args.texts.now)) (history_of l) (history_of c.finish.new.ledger)
          c.in-Ok.ensures.arch (shown_start c.args.file.now (history_of l) c.in-Ok.ensures.shows)
          (c.in-Ok-finish.ensures.of_plan (λ e. cc)) c.in-Ok-finish.ensures.done;
      text_is = c.in-Ok-finish.ensures.text;
    }

pub returns-clause-run : goal.returns-clause-run
returns-clause-run g c honest seen =
    let arch = c.args.arch.now in
    let start = c.args.start.now in
    let plan = planned c.args.steps.now (map option_copied c.args.texts.now) in
    let l = c.in-Ok.ledger in
    let old = g.D.Disk.facts c.args.disk.now in
    let mid = g.D.Disk.facts c.open.new.disk in
    let still = c.open.ensures.honest.1 honest in
    let settled = c.in-Ok.ensures.settled honest seen in
    let opened = c.open.ensures.any_moment honest seen in
    let shown : Shows old.seen (history_of l) = subst (λ (file : List ℕ). Shows file (history_of l)) seen c.in-Ok.ensures.shows in
    record {
      any_moment = ⊎_elim
          (λ mismatch. (let same = c.in-Err-finish.ensures.untouched (ap Err mismatch) in
          subst (λ d. LeavesOnly (IsLeft arch start plan old) old (g.D.Disk.facts d)) (sym same.1) (as_before arch start plan old mid opened)))
          (λ other. then_onward arch start plan (history_of l) old mid (g.D.Disk.facts c.finish.new.disk) opened c.in-Ok.ensures.arch shown
          (c.in-Err-finish.ensures.of_plan (λ e. other (cc))) (c.finish.ensures.any_moment still settled))
          (is_mismatch c.in-Err-finish.cause);
      begun = tt;
      done = tt;
      cause = record {
        h = history_of l;
        for_it = c.in-Ok.ensures.arch;
        shows = shown;
        fault = c.in-Err-finish.ensures.fault still settled;
      };
      kept = (
        history_of l,
        c.in-Ok.ensures.arch,
        shown,
        record {
          h = history_of c.finish.new.ledger;
          up_to = c.in-Err-finish.ensures.remembered;
          count = ap length c.history.ensures;
          leaves = c.in-Err-finish.ensures.acknowledged still settled;
        },
      );
    }
