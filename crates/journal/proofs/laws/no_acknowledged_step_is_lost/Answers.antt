use Rattle.journal.specs.Ledger.{history_of}
use Rattle.journal.proofs.RunLemmas.{run_holds, shown_from}
use Rattle.journal.proofs.laws.no_acknowledged_step_is_lost.Goals as goal

pub returns : goal.returns
returns g c = λ arch start begun came held disk made run file left.
    shown_from arch start begun came file made ((run_holds g.D.Disk.facts (history_of begun) came held disk run).left file left)
