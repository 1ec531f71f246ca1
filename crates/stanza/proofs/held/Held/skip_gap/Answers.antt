-- What stands between stanzas is answered.
use Rattle.std.proofs.Common.{◌≡◌, ◌+◌, ℕ, List, drop, length, refl, sym, ap, subst, ◌∙◌, arith}
use Rattle.stanza.specs.Held.{pending_of}
use Rattle.stanza.specs.Streamed.{BeginsAhead, SkipsAhead}
use Rattle.stanza.proofs.HeldLemmas.{IsHeld-moved, gap-moved, length-pending, moved, pending-moved, total-moved}
use Rattle.stanza.proofs.held.Held.skip_gap.Goals as goal

pub overflow_add-self : goal.overflow_add-self
overflow_add-self c =
    omega (
      arith,
      (c.gap_ahead-len.ensures.skipped 0).within,
      ap length c.pending.ensures,
      length-pending c.args.self.now c.requires,
      c.requires.within,
    )

pub overflow_add-self-2 : goal.overflow_add-self-2
overflow_add-self-2 c =
    omega (
      arith,
      (c.gap_ahead-len.ensures.skipped 0).within,
      (c.gap_ahead-len.ensures.skipped 0).each,
      ap length c.pending.ensures,
      length-pending c.args.self.now c.requires,
      c.requires.fits,
    )

pub returns-clause-held : goal.returns-clause-held
returns-clause-held c =
    let pending : c.pending.result.now ≡ pending_of c.args.self.now = c.pending.ensures in
    let skips = subst (λ (text : List ℕ). SkipsAhead c.args.is_over c.args.form (c.args.self.now.before + 1) text c.gap_ahead-len.result.0 c.gap_ahead-len.result.1) pending
    (c.gap_ahead-len.ensures.skipped (c.args.self.now.before + 1)) in
    IsHeld-moved c.args.self.now (moved c.args.self.now c.gap_ahead-len.result.0 c.gap_ahead-len.result.1) c.gap_ahead-len.result.0 c.gap_ahead-len.result.1 (record { bytes = refl; size = refl; end = refl; begin = refl; before = refl; room = refl }) c.requires skips.within skips.each

pub returns-clause-read : goal.returns-clause-read
returns-clause-read c = λ left may.
    let pending : c.pending.result.now ≡ pending_of c.args.self.now = c.pending.ensures in
    let skips = subst (λ (text : List ℕ). SkipsAhead c.args.is_over c.args.form (c.args.self.now.before + 1) text c.gap_ahead-len.result.0 c.gap_ahead-len.result.1) pending
    (c.gap_ahead-len.ensures.skipped (c.args.self.now.before + 1)) in
    gap-moved c.args.self.now (moved c.args.self.now c.gap_ahead-len.result.0 c.gap_ahead-len.result.1) c.gap_ahead-len.result.0 c.gap_ahead-len.result.1 c.args.is_over c.args.form left (record { bytes = refl; size = refl; end = refl; begin = refl; before = refl; room = refl }) skips may

pub returns-clause-begins : goal.returns-clause-begins
returns-clause-begins c =
    let pending : c.pending.result.now ≡ pending_of c.args.self.now = c.pending.ensures in
    subst (λ (text : List ℕ). BeginsAhead c.args.is_over c.args.form text)
    (ap (drop c.gap_ahead-len.result.0) pending ∙ sym (pending-moved c.args.self.now (moved c.args.self.now c.gap_ahead-len.result.0 c.gap_ahead-len.result.1) c.gap_ahead-len.result.0 c.gap_ahead-len.result.1 (record { bytes = refl; size = refl; end = refl; begin = refl; before = refl; room = refl })))
    c.gap_ahead-len.ensures.begins

pub returns-clause-total : goal.returns-clause-total
returns-clause-total c =
    total-moved c.args.self.now (moved c.args.self.now c.gap_ahead-len.result.0 c.gap_ahead-len.result.1) c.gap_ahead-len.result.0 c.gap_ahead-len.result.1
    (record { bytes = refl; size = refl; end = refl; begin = refl; before = refl; room = refl })
