-- At first all is still to be read; a stanza is noted, and behind a fault nothing more is.
use Rattle.std.proofs.Common.{◌≡◌, ◌∙◌, [], ◌∷◌, Err, ap, inl, inr, refl, sym}
use Rattle.std.proofs.lemmas.Result.{err_from_is_err_and}
use Rattle.index.proofs.ReadingLemmas.{reached}
use Rattle.json_answers.proofs.FoundLemmas.{all_read, none_reached, one_read}
use Rattle.json_answers.proofs.reading.read_stanzas.Goals as goal
use Rattle.json_answers.specs.Archives.{found_also, stanzas_before, stanzas_of}
use Rattle.stanza.specs.Reading.{Reading, to_read}

pub loop-reader-init : goal.loop-reader-init
loop-reader-init g c = record {
  sound = ap (λ (r : Reading). r.failed) c.in_ok-reader.ensures;
  steps = refl;
  so_far = λ text known. (
    text,
    known,
    ap (λ (r : Reading). found_also c.args.arch.now (stanzas_before (to_read r text)) c.args.archives.now) c.in_ok-reader.ensures,
  );
}

pub returns-in_err-advance-clause-faulty : goal.returns-in_err-advance-clause-faulty
returns-in_err-advance-clause-faulty g c text known =
    let w = c.loop-reader in
    let f = w.invariant.so_far text known in
    let p = err_from_is_err_and c.from_residual-in_err-advance.result c.from_residual-in_err-advance.ensures.1 in
    rw (p.1, p.2) (elim (c.in_err-advance.ensures.refused f.0 f.1 w.invariant.sound) [
      | inl memory ↦ inl memory
      | inr refused ↦ inr (all_read c.args.arch.now (to_read w.reader f.0) (Err c.in_err-advance.field-0.0 ∷ []) w.archives
          (found_also c.args.arch.now (stanzas_of text) c.args.archives.now) refused refl f.2)
    ])

pub loop-reader-preserved : goal.loop-reader-preserved
loop-reader-preserved g c =
    let w = c.loop-reader in record {
      sound = c.in_ok-advance.ensures.goes_on;
      steps = c.in_ok-note-in-Some.ensures.steps ∙ w.invariant.steps;
      so_far = λ text known. (let f = w.invariant.so_far text known in
          let on = c.in_ok-advance.ensures.known f.0 f.1 in
          let items = to_read w.reader f.0 in
          let later = to_read c.advance.new.self on.0 in
          let first = reached c.advance.new.self.stanza c.in-Some.stanza items later (sym c.stanza.ensures ∙ c.in-Some.is) on.2 in (
            on.0,
            on.1,
            one_read c.args.arch.now items later c.in-Some.stanza w.archives c.note.new.self
                (found_also c.args.arch.now (stanzas_of text) c.args.archives.now) first c.in_ok-note-in-Some.ensures.archives f.2,
          ));
    }

pub returns-in-None-clause-known : goal.returns-in-None-clause-known
returns-in-None-clause-known g c text known =
    let w = c.loop-reader in
    let f = w.invariant.so_far text known in
    let on = c.in_ok-advance.ensures.known f.0 f.1 in
    let items = to_read w.reader f.0 in
    all_read c.args.arch.now items [] w.archives (found_also c.args.arch.now (stanzas_of text) c.args.archives.now)
    (none_reached c.advance.new.self.stanza items (to_read c.advance.new.self on.0) (sym c.stanza.ensures ∙ c.in-None.is) on.2) refl f.2
