use Rattle.std.proofs.Common.{◌≡◌, ◌≢◌, ◌∙◌, ◌+◌, ◌∷◌, ◌++◌, List, None, get_or, length, map, drop, arith, true, refl, sym, ap, subst}
use Rattle.std.specs.Option.{option_copied}
use Rattle.std.specs.Prelude.{Err}
use Rattle.journal.specs.declared.error.AppendError.TheVariants as error
use Rattle.journal.specs.declared.ledger.Ledger.{Ledger}
use Rattle.journal.specs.Adding.{recorded_of}
use Rattle.journal.specs.History.{History}
use Rattle.journal.specs.Ledger.{history_of}
use Rattle.journal.specs.Payload.{RecordedStep}
use Rattle.apply.specs.Planned.{planned}
use Rattle.apply.specs.Progress.{IsPartTaken}
use Rattle.apply.proofs.PlanLemmas.{left_is, length-plan, missing_is, next_is, no_longer}
use Rattle.apply.proofs.ProgressLemmas.{at_start, begun, kept_by, one_more, runs_on, still_stopped}
use Rattle.apply.proofs.catching.append_missing.Goals as goal

pub loop-i-init : goal.loop-i-init
loop-i-init g c =
    let steps = c.args.steps.now in
    let texts = map option_copied c.args.texts.now in
    let plan = planned steps texts in
    let old = history_of c.args.ledger.now in
    let had = c.history-begun.ensures in
    record {
      within = omega (arith, ap length had, no_longer plan old.steps c.requires.begun, length-plan steps c.args.texts.now c.requires.texts);
      begun = omega (arith, ap length had);
      first = λ none. (refl, refl);
      broken = λ yes. (refl, refl);
      part_taken = begun plan old c.requires.begun;
      left = subst (λ (l : List RecordedStep). plan ≡ old.steps ++ planned (drop (length l) steps) (drop (length l) texts)) (sym had)
          (missing_is steps texts old.steps c.requires.begun);
      honest = (λ h. h, λ h. h);
      run = λ honest settled. at_start plan c.args.ledger.now (g.D.Disk.facts c.args.disk.now) settled;
      settled = λ honest settled. settled;
      count = refl;
    }

pub returns-in-Err-clause-any_moment : goal.returns-in-Err-clause-any_moment
returns-in-Err-clause-any_moment g c = λ honest settled.
    let steps = c.args.steps.now in
    let texts = map option_copied c.args.texts.now in
    let i = c.loop-i.i in
    let s = c.index-steps-i.result in
    let known = c.loop-i.invariant in
    let now = c.loop-i.ledger in
    runs_on (planned steps texts) (history_of c.args.ledger.now) now (recorded_of s (option_copied (get_or c.args.texts.now i None)))
    (planned (drop (i + 1) steps) (drop (i + 1) texts)) (g.D.Disk.facts c.args.disk.now) (g.D.Disk.facts c.loop-i.disk) (g.D.Disk.facts c.append.new.disk) known.part_taken
    (next_is steps c.args.texts.now (history_of now).steps i s c.loop-i-test.true c.requires.texts c.index-steps-i.is known.left)
    (known.settled honest settled) (known.run honest settled)
    (c.append.ensures.any_moment (known.honest.1 honest) (known.settled honest settled))

pub returns-in-Err-clause-fault : goal.returns-in-Err-clause-fault
returns-in-Err-clause-fault g c =
    let steps = c.args.steps.now in
    let texts = map option_copied c.args.texts.now in
    let plan = planned steps texts in
    let i = c.loop-i.i in
    let s = c.index-steps-i.result in
    let now = c.loop-i.ledger in
    let new = c.append.new.ledger in
    let r = recorded_of s (option_copied (get_or c.args.texts.now i None)) in
    let later = planned (drop (i + 1) steps) (drop (i + 1) texts) in
    let same : history_of new ≡ history_of now = c.in-Err.ensures.remembered in
    record {
      next = r;
      is_next = (
        later,
        subst (λ (h : History). plan ≡ h.steps ++ r ∷ later) (sym same)
            (next_is steps c.args.texts.now (history_of now).steps i s c.loop-i-test.true c.requires.texts c.index-steps-i.is c.loop-i.invariant.left),
      );
      fault = still_stopped now new r c.in-Err.e same (λ other. let q = c.in-Err.ensures.refused other in (q.1, q.2)) c.in-Err.ensures.fault;
    }

pub returns-in-Err-clause-kept : goal.returns-in-Err-clause-kept
returns-in-Err-clause-kept g c = λ honest settled file left.
    let steps = c.args.steps.now in
    let texts = map option_copied c.args.texts.now in
    let i = c.loop-i.i in
    let s = c.index-steps-i.result in
    let known = c.loop-i.invariant in
    let now = c.loop-i.ledger in
    kept_by (planned steps texts) now c.append.new.ledger (recorded_of s (option_copied (get_or c.args.texts.now i None)))
    (planned (drop (i + 1) steps) (drop (i + 1) texts)) (g.D.Disk.facts c.loop-i.disk) (g.D.Disk.facts c.append.new.disk) c.in-Err.ensures.remembered
    (next_is steps c.args.texts.now (history_of now).steps i s c.loop-i-test.true c.requires.texts c.index-steps-i.is known.left)
    (c.append.ensures.any_moment (known.honest.1 honest) (known.settled honest settled)) file left

pub loop-i-preserved : goal.loop-i-preserved
loop-i-preserved g c =
    let steps = c.args.steps.now in
    let texts = map option_copied c.args.texts.now in
    let plan = planned steps texts in
    let old = history_of c.args.ledger.now in
    let i = c.loop-i.i in
    let s = c.index-steps-i.result in
    let known = c.loop-i.invariant in
    let now = c.loop-i.ledger in
    let r = recorded_of s (option_copied (get_or c.args.texts.now i None)) in
    let later = planned (drop (i + 1) steps) (drop (i + 1) texts) in
    let next : plan ≡ (history_of now).steps ++ r ∷ later =
    next_is steps c.args.texts.now (history_of now).steps i s c.loop-i-test.true c.requires.texts c.index-steps-i.is known.left in
    let done = c.in-Ok.ensures in
    record {
      within = omega (arith, c.loop-i-test.true);
      begun = omega (arith, known.begun);
      first = λ none. absurd (omega (arith, known.begun, none));
      broken = λ yes. absurd (cc (done.reopen (subst (λ (l : Ledger). l.broken ≡ true) (sym (known.broken yes).0) yes)));
      part_taken = subst (λ (h : History). IsPartTaken plan old h) (sym done.follows) (one_more plan old (history_of now) r later known.part_taken next done.taken);
      left = left_is plan (history_of now).steps (history_of c.append.new.ledger).steps r later next (ap (λ (h : History). h.steps) done.follows);
      honest = (λ h. known.honest.0 (c.append.ensures.honest.0 h), λ h. c.append.ensures.honest.1 (known.honest.1 h));
      run = λ honest settled.
          runs_on plan old now r later (g.D.Disk.facts c.args.disk.now) (g.D.Disk.facts c.loop-i.disk) (g.D.Disk.facts c.append.new.disk) known.part_taken next
          (known.settled honest settled) (known.run honest settled)
          (c.append.ensures.any_moment (known.honest.1 honest) (known.settled honest settled));
      settled = λ honest settled. done.settled (known.honest.1 honest) (known.settled honest settled);
      count = done.count ∙ known.count;
    }

pub returns-in-Err-clause-already : goal.returns-in-Err-clause-already
returns-in-Err-clause-already g c = λ all.
    absurd (omega (arith, c.loop-i.invariant.begun, c.loop-i-test.true, ap length all, length-plan c.args.steps.now c.args.texts.now c.requires.texts))

pub returns-in-Err-clause-broken : goal.returns-in-Err-clause-broken
returns-in-Err-clause-broken g c = λ yes.
    let same = c.loop-i.invariant.broken yes in
    let is : Err c.in-Err.e ≡ Err error.Reopen = c.in-Err.ensures.reopen (subst (λ (l : Ledger). l.broken ≡ true) (sym same.0) yes) in
    let other : c.in-Err.e ≢ error.Disk = λ disk. cc (is, disk) in
    (c.in-Err.ensures.remembered ∙ ap history_of same.0, (c.in-Err.ensures.refused other).0 ∙ same.1)

pub returns-clause-already : goal.returns-clause-already
returns-clause-already g c = λ all.
    let known = c.loop-i.invariant in
    let here : c.loop-i.i ≡ length (history_of c.args.ledger.now).steps =
    omega (arith, known.begun, known.within, c.loop-i-test.false, ap length all, length-plan c.args.steps.now c.args.texts.now c.requires.texts) in
    let same = known.first here in
    (refl, same.0, same.1)
