use Rattle.std.proofs.Common.{◌≡◌, ◌∙◌, ◌∷◌, [], ◌++◌, Some, length, sym, ap, subst, arith, refl, rules}
use Rattle.disk.specs.Facts.{Synced}
use Rattle.journal.proofs.CrashLemmas.{created}
use Rattle.journal.proofs.HeaderLemmas.{image_size}
use Rattle.journal.proofs.creating.create.Goals as goal

pub replace-requires : goal.replace-requires
replace-requires g c =
    omega (arith, ap length c.deref.ensures.value, ap length c.in_ok-image.ensures, image_size c.args.arch.now c.args.start.now)

pub returns-clause-settled : goal.returns-clause-settled
returns-clause-settled g c = λ honest.
    let facts = g.D.Disk.facts c.replace.new.disk in
    let begun = c.begun-ledger.ensures in
    let image = c.in_ok-image.image.items in
    let done : Synced image facts = subst (λ b. Synced b facts) c.deref.ensures.value (c.in_ok-replace.ensures.done honest) in
    created c.args.arch.now c.args.start.now image c.in_ok-database.database.slots c.begun-ledger.result facts (omega arith) (omega arith)
    c.in_ok-database.ensures.ok c.in_ok-image.ensures begun.start begun.steps (ap (λ db. db.arch) begun.database ∙ c.in_ok-database.ensures.arch) (ap (λ db. db.slots) begun.database) (search rules) begun.whole done

pub returns-clause-named : goal.returns-clause-named
returns-clause-named g c = λ honest.
    subst (λ b. Synced b (g.D.Disk.facts c.replace.new.disk)) (c.deref.ensures.value ∙ c.in_ok-image.ensures) (c.in_ok-replace.ensures.done honest)
