use Rattle.std.proofs.Common.{List, ℕ, subst, sym, ◌∙◌, ap}
use Rattle.status.proofs.AgainLemmas.{stored_reads_back}
use Rattle.status_text.specs.Slot.{Store}
use Rattle.status.specs.Faithful.{IsSound, ReadsAsIfShort}
use Rattle.status.specs.Text.{slots_text}
use Rattle.status.proofs.database.Database.text.Goals as goal

pub returns-clause-reads_back : goal.returns-clause-reads_back
returns-clause-reads_back c =
    let store = c.args.self.now in
    let sound = subst IsSound c.self.view_is c.is_sound.ensures in
    let is = c.in_ok-text.ensures ∙ ap (λ (kept : Store). slots_text kept.slots) c.self.view_is in
    subst (λ (text : List ℕ). ReadsAsIfShort store.arch text store.slots) (sym is)
    (stored_reads_back store.arch store.slots sound.each sound.distinct sound.stored)
