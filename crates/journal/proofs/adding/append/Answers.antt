use Rattle.std.proofs.Common.{◌≡◌, ◌∙◌, ◌∷◌, [], ◌++◌, ◌+◌, ap, refl}
use Rattle.status_text.specs.Slot.{Store}
use Rattle.journal.specs.declared.ledger.Ledger.{Ledger}
use Rattle.journal.specs.Adding.{recorded_of}
use Rattle.journal.specs.History.{followed}
use Rattle.journal.specs.Spare.{store_left}
use Rattle.journal.specs.Payload.{RecordedStep}
use Rattle.journal.specs.File.{front}
use Rattle.journal.specs.Ledger.{history_of}
use Rattle.std.specs.Option.{option_copied}
use Rattle.journal.proofs.CrashLemmas.{added, adds}
use Rattle.journal.proofs.adding.append.Goals as goal

pub returns-in-Ok-clause-any_moment : goal.returns-in-Ok-clause-any_moment
returns-in-Ok-clause-any_moment g c = λ honest settled.
    let p = c.in_ok-prepared.ensures.prepared in
    adds c.args.ledger.now (recorded_of c.args.step.now (option_copied c.args.stanza)) p.payload c.deref.result.now (g.D.Disk.facts c.args.disk.now) (g.D.Disk.facts c.commit.new.disk) settled
    p.says p.fits p.applicable (c.deref.ensures.value ∙ p.bytes) (c.commit.ensures.any_moment honest (front settled.named c.args.ledger.now.start.now settled.entries) settled.gate settled.file)

pub returns-clause-any_moment : goal.returns-clause-any_moment
returns-clause-any_moment g c = λ honest settled.
    let p = c.in_ok-prepared.ensures.prepared in
    adds c.args.ledger.now (recorded_of c.args.step.now (option_copied c.args.stanza)) p.payload c.deref.result.now (g.D.Disk.facts c.args.disk.now) (g.D.Disk.facts c.commit.new.disk) settled
    p.says p.fits p.applicable (c.deref.ensures.value ∙ p.bytes) (c.commit.ensures.any_moment honest (front settled.named c.args.ledger.now.start.now settled.entries) settled.gate settled.file)

pub returns-in-Ok-clause-settled : goal.returns-in-Ok-clause-settled
returns-in-Ok-clause-settled g c = λ honest settled.
    let old = c.args.ledger.now in
    let r = recorded_of c.args.step.now (option_copied c.args.stanza) in
    let p = c.in_ok-prepared.ensures.prepared in
    let new : Ledger = record {
      start = old.start;
      steps = c.push.new.self;
      database = c.exchange.new.self;
      gate = old.gate + (5 + c.in_ok-prepared.prepared.len);
      broken = old.broken;
    } in
    let steps : new.steps.items ≡ old.steps.items ++ r ∷ [] = c.in_ok-push.ensures.items ∙ ap (λ (x : RecordedStep). old.steps.items ++ x ∷ []) p.kept in
    let left : new.database ≡ store_left old.database r = c.exchange.ensures ∙ p.left in
    let history : history_of new ≡ followed (history_of old) r = λ i. record {
      arch = ap (λ (db : Store). db.arch) left i;
      start = old.start.now;
      steps = steps i;
      slots = ap (λ (db : Store). db.slots) left i;
    } in
    added old new r p.payload c.deref.result.now (g.D.Disk.facts c.args.disk.now) (g.D.Disk.facts c.commit.new.disk) settled p.says p.fits p.applicable
    (c.deref.ensures.value ∙ p.bytes) history (ap (λ n. old.gate + (5 + n)) p.size) refl
    (c.in-Ok.ensures.done honest (front settled.named old.start.now settled.entries) settled.gate settled.file)
