use Rattle.std.proofs.Common.{◌≡◌, ◌∙◌, ◌∷◌, ◌++◌, ◌+◌, length, sym, ap, arith, refl}
use Rattle.journal.specs.File.{front}
use Rattle.journal.specs.Ledger.{history_of}
use Rattle.journal.proofs.CrashLemmas.{opened, opens, shown, unopened}
use Rattle.journal.proofs.opening.open.Goals as goal

pub returns-clause-shows : goal.returns-clause-shows
returns-clause-shows g c =
    let read = c.in_ok-ledger.ensures.read in
    shown c.args.file.now (history_of c.in_ok-ledger.ledger) c.in_ok-ledger.ledger.gate read.tail read.reaches

pub returns-in_err-ledger-clause-any_moment : goal.returns-in_err-ledger-clause-any_moment
returns-in_err-ledger-clause-any_moment g c = λ honest same. unopened c.args.arch.now (g.D.Disk.facts c.args.disk.now)

pub returns-in_err-settle-clause-any_moment : goal.returns-in_err-settle-clause-any_moment
returns-in_err-settle-clause-any_moment g c = λ honest same.
    let l = c.in_ok-ledger.ledger in
    let read = c.in_ok-ledger.ensures.read in
    let front-is = front read.reaches.named l.start.now read.reaches.entries in
    opens c.args.arch.now c.args.file.now l (g.D.Disk.facts c.args.disk.now) (g.D.Disk.facts c.settle.new.disk) read same
    (c.settle.ensures.any_moment honest front-is read.tail (ap (λ n. n + 1) read.reaches.offset) (sym same ∙ read.reaches.is))

pub returns-clause-any_moment : goal.returns-clause-any_moment
returns-clause-any_moment g c = λ honest same.
    let l = c.in_ok-ledger.ledger in
    let read = c.in_ok-ledger.ensures.read in
    let front-is = front read.reaches.named l.start.now read.reaches.entries in
    opens c.args.arch.now c.args.file.now l (g.D.Disk.facts c.args.disk.now) (g.D.Disk.facts c.settle.new.disk) read same
    (c.settle.ensures.any_moment honest front-is read.tail (ap (λ n. n + 1) read.reaches.offset) (sym same ∙ read.reaches.is))

pub returns-clause-settled : goal.returns-clause-settled
returns-clause-settled g c = λ honest same.
    let l = c.in_ok-ledger.ledger in
    let read = c.in_ok-ledger.ensures.read in
    let front-is = front read.reaches.named l.start.now read.reaches.entries in
    opened c.args.arch.now c.args.file.now l (g.D.Disk.facts c.settle.new.disk) read
    (c.in_ok-settle.ensures.done honest front-is read.tail (ap (λ n. n + 1) read.reaches.offset) (sym same ∙ read.reaches.is) (ap length read.reaches.is))
