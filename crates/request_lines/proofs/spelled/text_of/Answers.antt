-- The text of one line more, if it stays.
use Rattle.std.proofs.Common.{◌≡◌, ◌∙◌, ◌<◌, true, false, [], ◌∷◌, length, arith, sym}
use Rattle.std.proofs.lemmas.List.{append-nil, append_assoc, length-map}
use Rattle.request_lines.specs.Spelled.{lines_in}
use Rattle.request_lines.specs.declared.wish.Wish.{Wish}
use Rattle.request_lines.proofs.StayLemmas.{line-at, text-more}
use Rattle.request_lines.proofs.spelled.text_of.Goals as goal
use Rattle.request_lines.proofs.spelled.text_of.Goals.{then-stays_at+in_ok-extend_from_slice+in_ok-push, else-stays_at}

pub loop-place-preserved : goal.loop-place-preserved
loop-place-preserved c =
    let long : length (lines_in c.args.wishes.now) ≡ length c.args.wishes.now = length-map c.args.wishes.now (λ (wish : Wish). wish.text) in
    let test : c.loop-place.place < length c.args.wishes.now = c.loop-place-test.true in
    let within : c.loop-place.place < length (lines_in c.args.wishes.now) = omega (arith, long, test) in
    elim c.if-stays_at.branch [
      | then-stays_at+in_ok-extend_from_slice+in_ok-push w ↦
          let line = line-at c.args.wishes.now c.loop-place.place w.index-wishes-place.result test w.index-wishes-place.is in
          text-more (lines_in c.args.wishes.now) c.args.stays.now c.loop-place.place true c.loop-place.text.items c.if-stays_at.text.items within
          (sym c.stays_at.ensures ∙ w.if-stays_at.true)
          (cc (
            w.text-is,
            w.in_ok-push.ensures.items,
            w.in_ok-extend_from_slice.ensures.items,
            w.as_bytes.ensures,
            line,
            append_assoc c.loop-place.text.items w.index-wishes-place.result.text (10 ∷ []),
          ))
          c.loop-place.invariant
      | else-stays_at w ↦
          text-more (lines_in c.args.wishes.now) c.args.stays.now c.loop-place.place false c.loop-place.text.items c.if-stays_at.text.items within
          (sym c.stays_at.ensures ∙ w.if-stays_at.false)
          (cc (w.text-is, append-nil c.loop-place.text.items))
          c.loop-place.invariant
    ]
