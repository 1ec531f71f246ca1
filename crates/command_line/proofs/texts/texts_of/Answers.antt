use Rattle.std.proofs.Common.{◌∙◌, ◌++◌, ap, map, subst, sym}
use Rattle.std.proofs.lemmas.List.Elements.{All-cons, All-head, All-tail}
use Rattle.std.specs.Borrow.{Bor}
use Rattle.std.specs.List.{All}
use Rattle.std.specs.Prelude.{IsUtf8}
use Rattle.command_line.specs.Joined.{Text}
use Rattle.command_line.proofs.WordLemmas.{left_from, one_more, where_none, whole}
use Rattle.command_line.proofs.texts.texts_of.Goals as goal

abbrev text : Bor Text → Text
text word = word.now

pub loop-word-preserved : goal.loop-word-preserved
loop-word-preserved c =
    let step = left_from (λ word. word.items) c.args.words.now c.loop-word.word-index c.word-item.result c.loop-word-test.true c.word-item.is in
    let read = c.in-Some.ensures in
    record {
      same = whole text c.loop-word.texts.items c.push.new.self.items _ _
          (one_more text c.loop-word.texts.items c.push.new.self.items c.in-Some.text _ c.in_ok-push.ensures.items (read.1 ∙ c.as_slice.ensures.value))
          ∙ ap (λ ts. map text c.loop-word.texts.items ++ ts) (sym step) ∙ c.loop-word.invariant.same;
      texts = λ all. c.loop-word.invariant.texts (subst (All IsUtf8) (sym step) (All-cons IsUtf8 c.word-item.result.items _ (subst IsUtf8 c.as_slice.ensures.value read.0) all));
      rest = λ all. All-tail IsUtf8 c.word-item.result.items _ (subst (All IsUtf8) step (c.loop-word.invariant.rest all));
    }

pub returns-in_default : goal.returns-in_default
returns-in_default c = λ all.
    let step = left_from (λ word. word.items) c.args.words.now c.loop-word.word-index c.word-item.result c.loop-word-test.true c.word-item.is in
    where_none (¬ IsUtf8 c.as_slice.result.now) _ _ c.in_default.not-Some c.text_in.ensures
    (subst IsUtf8 (sym c.as_slice.ensures.value) (All-head IsUtf8 c.word-item.result.items _ (subst (All IsUtf8) step (c.loop-word.invariant.rest all))))
