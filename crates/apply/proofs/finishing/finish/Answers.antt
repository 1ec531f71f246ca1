-- Behind the last step a crash leaves what the journal remembers.
use Rattle.std.proofs.Common.{inl, inr, map}
use Rattle.std.specs.Option.{option_copied}
use Rattle.apply.specs.Planned.{planned}
use Rattle.apply.proofs.FaultLemmas.{finish_fault}
use Rattle.apply.proofs.LeftLemmas.{all_is_part, settled_shows}
use Rattle.journal.specs.Ledger.{history_of}
use Rattle.apply.proofs.finishing.finish.Goals as goal

pub returns-in-Err-clause-fault : goal.returns-in-Err-clause-fault
returns-in-Err-clause-fault g c honest settled =
    finish_fault c.args.start.now (planned c.args.steps.now (map option_copied c.args.texts.now)) c.args.ledger.now c.catch_up.new.ledger
    (g.D.Disk.facts c.catch_up.new.disk) c.in-Err.e c.in-Err.ensures.fault c.in-Err.ensures.remembered (λ other. c.in-Err.ensures.still other honest settled)

pub returns-in-Ok-text-clause-kept : goal.returns-in-Ok-text-clause-kept
returns-in-Ok-text-clause-kept g c honest settled file left =
    settled_shows c.catch_up.new.ledger (g.D.Disk.facts c.catch_up.new.disk) (c.in-Ok.ensures.settled honest settled) file left

-- where the text alone is wanting, all steps are there
pub returns-in-Err-text-clause-remembered : goal.returns-in-Err-text-clause-remembered
returns-in-Err-text-clause-remembered g c =
    inr (all_is_part (planned c.args.steps.now (map option_copied c.args.texts.now)) (history_of c.args.ledger.now) (history_of c.catch_up.new.ledger) c.in-Ok.ensures.done)

pub returns-in-Err-text-clause-acknowledged : goal.returns-in-Err-text-clause-acknowledged
returns-in-Err-text-clause-acknowledged g c honest settled file left =
    inl (settled_shows c.catch_up.new.ledger (g.D.Disk.facts c.catch_up.new.disk) (c.in-Ok.ensures.settled honest settled) file left)
