-- At first all is still to be read; an error of the reader and one of a stanza are what the index is refused for.
use Rattle.std.proofs.Common.{◌+◌, [], length, refl, ap, sym, ◌∙◌}
use Rattle.std.proofs.lemmas.List.Elements.{All-nil, All-same}
use Rattle.std.proofs.lemmas.Result.{err_from_is_err_and}
use Rattle.stanza.specs.Reading.{Reading, to_read}
use Rattle.index.specs.Index.{next_place}
use Rattle.index.specs.Row.{IsRow, stanzas_at}
use Rattle.index.specs.Streamed.{stanzas_read}
use Rattle.index.proofs.ReadingLemmas.{reached, refused_read, refused_stanza, start_rows}
use Rattle.index.proofs.stream.read_rows.Goals as goal

pub loop-reader-init : goal.loop-reader-init
loop-reader-init g c = record {
  sound = ap (λ (r : Reading). r.failed) c.in_ok-reader.ensures;
  rows = All-same (IsRow c.new-kept.result.arena.items) c.new-kept.result.rows.items [] c.new-kept.ensures.rows (All-nil (IsRow c.new-kept.result.arena.items));
  number = refl;
  sure = λ sure. sure;
  faults = refl;
  so_far = λ text known. (
    text,
    known,
    start_rows c.args.arch.now c.args.number c.args.before c.new-kept.result c.in_ok-reader.reader text c.in_ok-reader.ensures c.new-kept.ensures.rows c.new-kept.ensures.skipped,
  );
}

pub returns-in_err-advance-clause-err : goal.returns-in_err-advance-clause-err
returns-in_err-advance-clause-err g c = λ text known.
    let w = c.loop-reader in
    let f = w.invariant.so_far text known in
    let p = err_from_is_err_and c.from_residual-in_err-advance.result c.from_residual-in_err-advance.ensures.1 in
    rw (p.1, p.2) (refused_read c.args.arch.now w.place (c.args.before + length w.kept.rows.items) (stanzas_at c.args.arch.now c.args.number w.kept)
    (to_read w.reader f.0) _ c.in_err-advance.field-0.0 (c.in_err-advance.ensures.gives f.0 f.1 w.invariant.sound)
    (c.in_err-advance.ensures.refused f.0 f.1 w.invariant.sound) f.2)

pub returns-in_err-add-in-Some-clause-err : goal.returns-in_err-add-in-Some-clause-err
returns-in_err-add-in-Some-clause-err g c = λ text known.
    let w = c.loop-reader in
    let f = w.invariant.so_far text known in
    let on = c.in_ok-advance.ensures.known f.0 f.1 in
    let items = to_read c.advance.new.self on.0 in
    let p = err_from_is_err_and c.from_residual-in_err-add-in-Some.result c.from_residual-in_err-add-in-Some.ensures.1 in
    let first = reached c.advance.new.self.stanza c.in-Some.stanza (to_read w.reader f.0) items (sym c.stanza.ensures ∙ c.in-Some.is) on.2 in
    rw (p.1, p.2) (refused_stanza c.args.arch.now w.place (c.args.before + length w.kept.rows.items) (stanzas_at c.args.arch.now c.args.number w.kept)
    (to_read w.reader f.0) items c.in-Some.stanza _ c.in_err-add-in-Some.field-0.0 first
    (c.in_err-add-in-Some.ensures.err (stanzas_read c.args.arch.now (next_place w.place) items)) f.2)
