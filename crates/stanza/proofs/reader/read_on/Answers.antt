-- Where more is needed more is read, and where none may be read the text is too large.
use Rattle.std.proofs.Common.{◌≡◌, [], ◌∷◌, arith, sym, ap, ◌∙◌, inl, inr, Err}
use Rattle.std.proofs.lemmas.Result.{err_from_is_err_and}
use Rattle.stanza.proofs.HeldLemmas.{filled-read, needs-more}
use Rattle.stanza.specs.declared.error.ReaderError.{ReaderError}
use Rattle.stanza.specs.declared.error.ReaderError.TheVariants as read_error
use Rattle.stanza.proofs.reader.read_on.Goals as goal

no-read-of-memory : (let e : ReaderError = read_error.OutOfMemory in e) ≡ read_error.Read → ⊥
no-read-of-memory e = cc

no-read-of-size : (let e : ReaderError = read_error.TooLarge in e) ≡ read_error.Read → ⊥
no-read-of-size e = cc

pub returns-in_err-is_over-in-More-clause-refused : goal.returns-in_err-is_over-in-More-clause-refused
returns-in_err-is_over-in-More-clause-refused g c = λ left known.
    let w = c.loop-place in
    let f = w.invariant.known left known in
    let more = needs-more w.is_over c.args.form w.held c.cut.new.self c.cut.new.starts.items c.in_ok-place.field-0 c.in-More.is c.in_ok-place.ensures.cut in
    let e = c.in_err-is_over-in-More.ensures.large f.0 f.1 in
    let p = err_from_is_err_and c.from_residual-in_err-is_over-in-More.result c.from_residual-in_err-is_over-in-More.ensures.1 in
    rw (p.1, p.2) (elim e [
      | inl memory ↦ inl memory
      | inr large ↦ inr (f.2 ∙ more.read f.0 ∙ more.large f.0 large.2 large.1 ∙ ap (λ x. Err x ∷ []) (sym large.0))
    ])

pub loop-place-preserved : goal.loop-place-preserved
loop-place-preserved g c =
    let w = c.loop-place in
    let more = needs-more w.is_over c.args.form w.held c.cut.new.self c.cut.new.starts.items c.in_ok-place.field-0 c.in-More.is c.in_ok-place.ensures.cut in
    let filled = c.in_ok-is_over-in-More.ensures in
    record {
      held = filled.held;
      total = omega (arith, w.invariant.total, c.in_ok-place.ensures.total, filled.total);
      known = λ left known.
          let f = w.invariant.known left known in
          let n = filled.filled f.0 f.1 in
          (n.0, n.1, f.2 ∙ more.read f.0 ∙ filled-read c.args.form c.cut.new.self c.fill.new.self f.0 n.0 n.2, n.3);
      sure = λ sure. (filled.sure (w.invariant.sure sure)).0;
      count = filled.count ∙ w.invariant.count;
    }

pub returns-in_err-is_over-in-More-clause-gives : goal.returns-in_err-is_over-in-More-clause-gives
returns-in_err-is_over-in-More-clause-gives g c = λ left known.
    let f = c.loop-place.invariant.known left known in
    let e = c.in_err-is_over-in-More.ensures.large f.0 f.1 in
    let p = err_from_is_err_and c.from_residual-in_err-is_over-in-More.result c.from_residual-in_err-is_over-in-More.ensures.1 in
    rw (p.1, p.2) (elim e [
      | inl memory ↦ λ read. no-read-of-memory (sym memory ∙ read)
      | inr large ↦ λ read. no-read-of-size (sym large.0 ∙ read)
    ])
