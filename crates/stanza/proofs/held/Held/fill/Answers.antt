-- Some bytes more are held; no more than may be are read.
use Rattle.std.proofs.Common.{◌≡◌, length, arith, ap, ◌∙◌, inl, inr}
use Rattle.std.proofs.lemmas.Result.{err_from_is_err_and}
use Rattle.std.proofs.lemmas.List.{length-append}
use Rattle.stanza.specs.Held.{pending_of}
use Rattle.stanza.proofs.HeldLemmas.{Fills-more, ReadsMore, total-more}
use Rattle.stanza.proofs.held.Held.fill.Goals as goal
use Rattle.stanza.proofs.held.Held.fill.Goals.{else-self-room-via-then-self-room+else-self-eq0, else-self-room-via-else-self-room}

pub returns-in_err-read_more-clause-large : goal.returns-in_err-read_more-clause-large
returns-in_err-read_more-clause-large g c = λ left known.
    let w = c.loop-self in
    let f = w.invariant.filled left known in
    let e = c.in_err-read_more.ensures.large f.0 f.1 in
    let p = err_from_is_err_and c.from_residual-in_err-read_more.result c.from_residual-in_err-read_more.ensures.1 in
    let room : c.args.self.now.room ≡ 0 = elim c.else-self-room.branch [
      | else-self-room-via-then-self-room+else-self-eq0 v ↦ absurd (v.if-self-eq0.false e.1)
      | else-self-room-via-else-self-room v ↦ omega (arith, w.invariant.room, e.1, v.if-self-room.false)
    ] in
    rw (p.1, p.2) (inr (e.0, room, omega (arith, e.2, f.2.most, room, e.1, ap length f.2.text, length-append (pending_of c.args.self.now) left, length-append (pending_of w.self) f.0)))

pub loop-self-preserved : goal.loop-self-preserved
loop-self-preserved g c =
    let w = c.loop-self in
    let read = c.in_ok-read_more.ensures in
    let block = read.more.0 in
    let reads : ReadsMore w.self c.read_more.new.self block = record {
      bytes = read.more.2;
      begin = read.rest.0;
      end = omega (arith, read.rest.1, read.more.1);
      before = read.rest.2;
      room = omega (arith, read.rest.3, read.more.1);
    } in
    record {
      held = read.held;
      size = read.place ∙ w.invariant.size;
      room = w.invariant.room;
      some = inl (elim w.invariant.some [
        | inl less ↦ omega (arith, less, read.rest.3)
        | inr same ↦ omega (arith, same.0, read.rest.3, c.if-branch-eq0.false)
      ]);
      filled = Fills-more c.args.self.now w.self c.read_more.new.self (g.S.Source.left c.args.source.now) (g.S.Source.left w.source) (g.S.Source.left c.read_more.new.source) block w.invariant.held w.invariant.filled
          read.more.3 reads;
      total = total-more w.self c.read_more.new.self block w.invariant.held reads ∙ w.invariant.total;
      sure = λ sure. (read.sure (w.invariant.sure sure)).0;
      count = read.count ∙ w.invariant.count;
    }
