use Rattle.std.proofs.Common.{List, Some, ℕ, subst, sym}
use Rattle.journal.proofs.OpenedLemmas.{opened_again}
use Rattle.journal.proofs.RunLemmas.{run_holds, shown_goes_on, shown_led, within}
use Rattle.journal.proofs.laws.a_run_of_calls_loses_nothing.Goals as goal

pub returns-clause-left : goal.returns-clause-left
returns-clause-left g c = λ before came held disk run. (run_holds g.D.Disk.facts before came held disk run).left

pub returns-clause-within : goal.returns-clause-within
returns-clause-within g c = λ before came handed held disk after run call file left.
    let facts = g.D.Disk.facts in
    within before came handed held (facts disk) (facts after) (run_holds facts before came held disk run) call file left

pub returns-clause-on_disk : goal.returns-clause-on_disk
returns-clause-on_disk g c = λ disk after again file since synced other left.
    let facts = g.D.Disk.facts in
    subst (λ (f : List ℕ). (facts after).since (facts disk).moment f) (sym (synced.leaves other left)) since

pub returns-clause-read : goal.returns-clause-read
returns-clause-read g c = λ before came held disk run h shows arch.
    let holds = run_holds g.D.Disk.facts before came held disk run in
    let now = g.D.Disk.facts disk in
    (shown_goes_on before came now.seen h (holds.left now.seen now.among) shows arch, shown_led now.seen h shows)

pub returns-clause-opened : goal.returns-clause-opened
returns-clause-opened g c = λ before came held disk run e fault.
    let holds = run_holds g.D.Disk.facts before came held disk run in
    let now = g.D.Disk.facts disk in
    let shown = holds.left now.seen now.among in
    opened_again before.arch now.seen shown.0 shown.2 shown.1.for_it e fault

pub returns-clause-settled : goal.returns-clause-settled
returns-clause-settled g c = λ before came ledger disk run. (run_holds g.D.Disk.facts before came (Some ledger) disk run).ready
