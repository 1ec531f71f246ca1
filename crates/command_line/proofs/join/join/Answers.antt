use Rattle.std.proofs.Common.{◌∙◌, ◌+◌, ◌++◌, ap, drop, drop_of_length-le, map, sym}
use Rattle.std.proofs.lemmas.Result.{IfOk-weaker}
use Rattle.std.specs.Borrow.{Bor}
use Rattle.std.specs.Prelude.{string_bytes}
use Rattle.command_line.specs.Joined.{Text}
use Rattle.command_line.specs.Place.{left}
use Rattle.command_line.proofs.WordLemmas.{left_at}
use Rattle.command_line.proofs.join.join.Goals as goal

abbrev text : Bor Text → Text
text word = word.now

pub loop-word-preserved : goal.loop-word-preserved
loop-word-preserved c = c.in_ok-place.ensures (map text (drop (c.loop-word.word-index + 1) c.args.words.now))
    ∙ ap (λ ts. map string_bytes c.loop-word.all.items ++ left c.loop-word.place ts)
    (sym (left_at text c.args.words.now c.loop-word.word-index _ c.loop-word-test.true))
    ∙ c.loop-word.invariant

pub returns : goal.returns
returns c = IfOk-weaker c.end.result _ _ (λ after h. h ∙ ap (λ ts. map string_bytes c.loop-word.all.items ++ left c.loop-word.place ts)
    (sym (ap (map text) (drop_of_length-le c.args.words.now c.loop-word-test.false))) ∙ c.loop-word.invariant) c.end.ensures
