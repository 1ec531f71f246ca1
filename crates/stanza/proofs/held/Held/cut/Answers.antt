-- The stanza that was found is cut off.
use Rattle.std.proofs.Common.{◌≡◌, ◌+◌, ℕ, List, refl, subst, arith}
use Rattle.stanza.specs.Held.{pending_of}
use Rattle.stanza.specs.Streamed.{FindsAhead}
use Rattle.stanza.proofs.HeldLemmas.{moved, stanza-gives, total-moved}
use Rattle.stanza.proofs.held.Held.cut.Goals as goal

pub returns-clause-cut : goal.returns-clause-cut
returns-clause-cut c =
    let held = c.skip_gap.new.self in
    let pending : c.pending-text.result.now ≡ pending_of held = c.pending-text.ensures in
    let finds = subst (λ (text : List ℕ). FindsAhead c.args.is_over c.args.form (held.before + 1) text c.stanza_ahead.new.starts.items c.in_ok-ahead.field-0) pending c.in_ok-ahead.ensures.ahead in
    stanza-gives c.args.self.now held _ c.in-Some.ahead c.in_ok-ahead.field-0 c.stanza_ahead.new.starts.items c.args.is_over c.args.form c.in-Some.is finds c.skip_gap.ensures.read c.skip_gap.ensures.total
    (record { bytes = refl; size = refl; end = refl; begin = refl; before = refl; room = refl })

pub returns-clause-total : goal.returns-clause-total
returns-clause-total c =
    let held = c.skip_gap.new.self in
    omega (
      arith,
      c.skip_gap.ensures.total,
      total-moved held (moved held c.in-Some.ahead.len c.in-Some.ahead.lines) c.in-Some.ahead.len c.in-Some.ahead.lines
          (record { bytes = refl; size = refl; end = refl; begin = refl; before = refl; room = refl }),
    )
