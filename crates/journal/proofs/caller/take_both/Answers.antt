use Rattle.std.proofs.Common.{◌≡◌, ◌∙◌, ◌∷◌, [], None, Some, List, ℕ, ap, refl}
use Rattle.journal.specs.Adding.{recorded_of}
use Rattle.journal.specs.Calls.{IsRun, ShowsFrom, acknowledged, adds, begins}
use Rattle.journal.specs.History.{History, Shows}
use Rattle.journal.specs.Ledger.{history_of}
use Rattle.journal.specs.Payload.{RecordedStep}
use Rattle.journal.proofs.caller.take_both.Goals as goal

-- steps that may stand after two were acknowledged
both : (arch start file : List ℕ) (a b : RecordedStep) → ShowsFrom arch start (acknowledged a ∷ acknowledged b ∷ []) file
    → (h : History) × (h.arch ≡ arch) × (h.start ≡ start) × (h.steps ≡ a ∷ b ∷ []) × Shows file h
both arch start file a b (h, for_it, start_is, stand, shows) =
    (h, for_it, start_is, stand.1 ∙ ap (λ (s : List RecordedStep). a ∷ s) (stand.2.1 ∙ ap (λ (s : List RecordedStep). b ∷ s) stand.2.2), shows)

pub returns : goal.returns
returns g c = λ honest file left.
    let facts = g.D.Disk.facts in
    let begun = c.in-Ok.ledger in
    let one = recorded_of c.args.first.now None in
    let two = recorded_of c.args.second.now None in
    let honest-1 = c.create.ensures.honest.1 honest in
    let honest-2 = c.append.ensures.honest.1 honest-1 in
    let settled = c.in-Ok.ensures.settled honest in
    let settled-1 = c.in-Ok-append.ensures.settled honest-1 settled in
    let settled-2 = c.in-Ok-append-2.ensures.settled honest-2 settled-1 in
    let made = c.in-Ok.ensures.made in
    let run-1 : IsRun facts (history_of begun) (acknowledged one ∷ []) (Some c.append.new.ledger) c.append.new.disk =
    adds {came = []} {old = begun} {new = c.append.new.ledger} {disk = c.create.new.disk} {after = c.append.new.disk} one
    (begins {ledger = begun} {disk = c.create.new.disk} refl settled) c.in-Ok-append.ensures.follows settled-1 in
    let run-2 : IsRun facts (history_of begun) (acknowledged one ∷ acknowledged two ∷ []) (Some c.append-2.new.ledger) c.append-2.new.disk =
    adds {came = acknowledged one ∷ []} {old = c.append.new.ledger} {new = c.append-2.new.ledger} {disk = c.append.new.disk} {after = c.append-2.new.disk} two
    run-1 c.in-Ok-append-2.ensures.follows settled-2 in
    both c.args.arch.now c.args.start.now file one two
    (c.no_acknowledged_step_is_lost.ensures c.args.arch.now c.args.start.now begun (acknowledged one ∷ acknowledged two ∷ []) (Some c.append-2.new.ledger) c.append-2.new.disk
    made run-2 file left)
