use Rattle.std.proofs.Common.{sym, ◌∙◌}
use Rattle.stanza.specs.Line.{is_white}
use Rattle.status_text.proofs.WordLemmas.{cut-none, cut-some}
use Rattle.status_text.proofs.words.cut_word.Goals as goal

pub returns-then-is_empty : goal.returns-then-is_empty
returns-then-is_empty c =
    cut-none is_white _ _ _ c.white_len.ensures.value c.split_at.ensures.back (sym c.is_empty.ensures ∙ c.if-is_empty.true)

pub returns : goal.returns
returns c =
    cut-some is_white _ _ _ _ _ _ c.white_len.ensures.value c.split_at.ensures.back (sym c.is_empty.ensures ∙ c.if-is_empty.false)
    c.word_len.ensures.value c.split_at-2.ensures.front c.split_at-2.ensures.back
