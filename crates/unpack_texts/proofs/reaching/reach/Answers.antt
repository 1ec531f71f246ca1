-- Each turn reads one stanza more; where no stanza comes, none has a later number.
use Rattle.std.proofs.Common.{◌≡◌, ◌∙◌, sym, ap, arith, rules, inl, inr}
use Rattle.std.proofs.lemmas.Result.{err_from_is_err_and}
use Rattle.unpack_texts.specs.Fetched.{fetch_error_of}
use Rattle.unpack_texts.specs.declared.error.FetchError.TheVariants as error
use Rattle.unpack_texts.proofs.ItemLemmas.{goes-on, none-later, none-refused}
use Rattle.unpack_texts.proofs.reaching.reach.Goals as goal

pub returns-in_err-advance-clause-changed : goal.returns-in_err-advance-clause-changed
returns-in_err-advance-clause-changed g c items left known had =
    let w = c.loop-reached in
    let f = w.invariant.so_far items left known had in
    let p = err_from_is_err_and c.from_residual.result c.from_residual.ensures.1 in
    rw (p.1, p.2) (elim (c.in_err-advance.ensures.refused f.0 f.1 w.invariant.sound) [
      | inl memory ↦ λ changed stanza there. absurd (let e : error.OutOfMemory ≡ error.Changed = sym (ap fetch_error_of memory) ∙ changed in cc)
      | inr refused ↦ λ changed stanza there. none-refused items w.reached c.args.number w.reader f.0 _ f.2 refused c.loop-reached-test.true stanza there
    ])

pub returns-then-not-branch-clause-changed : goal.returns-then-not-branch-clause-changed
returns-then-not-branch-clause-changed g c items left known had same stanza there =
    let w = c.loop-reached in
    let f = w.invariant.so_far items left known had in
    let k = c.in_ok-advance.ensures.known f.0 f.1 in
    none-later items w.reached c.args.number w.reader c.advance.new.self f.0 k.0 f.2 k.2 (search rules) c.loop-reached-test.true stanza there

pub loop-reached-preserved : goal.loop-reached-preserved
loop-reached-preserved g c =
    let w = c.loop-reached in record {
      order = omega arith;
      sound = search rules;
      known = λ left known. (let f = w.invariant.known left known in let k = c.in_ok-advance.ensures.known f.0 f.1 in (k.0, k.1));
      so_far = λ items left known had. (let f = w.invariant.so_far items left known had in
          let k = c.in_ok-advance.ensures.known f.0 f.1 in
          (k.0, k.1, goes-on items w.reached w.reader c.advance.new.self f.0 k.0 f.2 k.2 (search rules)));
      sure = λ sure. (c.in_ok-advance.ensures.sure (w.invariant.sure sure)).0;
      count = search rules;
    }
