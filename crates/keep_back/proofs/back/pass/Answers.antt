-- A line that is left out is tried, and is put back or stays left out; another one stays.
use Rattle.std.proofs.Common.{◌≡◌, ◌∙◌, ℕ, true, false, List, length, arith, refl, subst, sym}
use Rattle.std.proofs.lemmas.Result.{err_from_is_err_and}
use Rattle.inputs.proofs.ReadByLemmas.{untouched_on}
use Rattle.keep_back.specs.Back.{IsPass, IsTried}
use Rattle.keep_back.specs.Round.{IsSolvedRequest}
use Rattle.keep_back.proofs.KeepLemmas.{pass-back, pass-further, pass-more, refused-then, same-request}
use Rattle.keep_back.proofs.back.pass.Goals as goal
use Rattle.keep_back.proofs.back.pass.Goals.{then-not-stays_at+in_ok-solved+in-Some, then-not-stays_at+in_ok-solved+in_default, else-not-stays_at}

pub returns-in_err-solved-clause-refused : goal.returns-in_err-solved-clause-refused
returns-in_err-solved-clause-refused g c = λ texts read.
    let p = err_from_is_err_and c.from_residual.result c.from_residual.ensures.1 in
    rw (p.1, p.2) (refused-then c.args.before.now texts c.args.left.now c.loop-place.left _
    (pass-further c.args.before.now c.args.limit c.loop-place.place c.loop-place.is_more c.args.left.now c.loop-place.left
    c.loop-place.invariant.pass) (c.in_err-solved.ensures.refused texts read))

pub loop-place-preserved : goal.loop-place-preserved
loop-place-preserved g c = elim c.if-not-stays_at.branch [
  | then-not-stays_at+in_ok-solved+in-Some w ↦
      let isnt : c.stays_at.result ≡ false = cc w.if-not-stays_at.true in
      let tried = subst (IsTried c.args.before.now c.args.limit c.loop-place.place c.loop-place.left w.try_at.new.left) w.in-Some.is
      w.in_ok-solved.ensures.tried in
      record {
        pass = rw (w.left-is, w.is_more-is) (pass-back c.args.before.now c.args.limit c.loop-place.place c.loop-place.is_more c.args.left.now
            c.loop-place.left w.try_at.new.left c.loop-place.invariant.pass (sym c.stays_at.ensures ∙ isnt) tried.0);
        answer = rw (w.left-is, w.answer-is) tried.1;
        untouched = rw w.shelf-is (untouched_on g.met.S.Shelf.holds_on c.loop-place.invariant.untouched w.show_left.ensures);
      }
  | then-not-stays_at+in_ok-solved+in_default w ↦
      let tried = subst (IsTried c.args.before.now c.args.limit c.loop-place.place c.loop-place.left w.try_at.new.left) w.in_default.is
      w.in_ok-solved.ensures.tried in
      record {
        pass = rw (w.left-is, w.is_more-is) (pass-more c.args.before.now c.args.limit c.loop-place.place c.loop-place.is_more c.args.left.now
            c.loop-place.left w.try_at.new.left c.loop-place.invariant.pass tried.0 (λ out. tried.1));
        answer = rw (w.left-is, w.answer-is) (subst (λ (request : List ℕ).
            IsSolvedRequest c.args.before.now c.args.limit request c.loop-place.answer)
            (sym (same-request c.loop-place.left w.try_at.new.left tried.0)) c.loop-place.invariant.answer);
        untouched = rw w.shelf-is (untouched_on g.met.S.Shelf.holds_on c.loop-place.invariant.untouched w.show_left.ensures);
      }
  | else-not-stays_at w ↦
      let stays : c.stays_at.result ≡ true = cc w.if-not-stays_at.false in
      record {
        pass = rw (w.left-is, w.is_more-is) (pass-more c.args.before.now c.args.limit c.loop-place.place c.loop-place.is_more c.args.left.now
            c.loop-place.left c.loop-place.left c.loop-place.invariant.pass (record { wishes = refl; stays = refl })
            (λ out. absurd (let e : true ≡ false = sym stays ∙ c.stays_at.ensures ∙ out in cc)));
        answer = rw (w.left-is, w.answer-is) c.loop-place.invariant.answer;
        untouched = rw w.shelf-is c.loop-place.invariant.untouched;
      }
]

pub returns-clause-left : goal.returns-clause-left
returns-clause-left g c =
    let all : c.loop-place.place ≡ length c.args.left.now.wishes.items =
    omega (arith, c.loop-place-test.false, c.loop-place.auto.place-end, c.len-place-end.ensures) in
    subst (λ (below : ℕ). IsPass c.args.before.now c.args.limit below c.args.left.now c.loop-place.left c.loop-place.is_more) all
    c.loop-place.invariant.pass
