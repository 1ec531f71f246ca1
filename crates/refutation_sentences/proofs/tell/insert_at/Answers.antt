-- A line that is put there is one of the texts.
use Rattle.std.proofs.Common.{◌∙◌, ap, map, subst, sym}
use Rattle.std.specs.List.{Contains}
use Rattle.std.specs.Option.{option_copied}
use Rattle.refutation_sentences.proofs.LineLemmas.{text_at_place}
use Rattle.refutation_sentences.proofs.tell.insert_at.Goals as goal
use mathlib.Core.Logic.{inl, inr}

pub returns-in-None : goal.returns-in-None
returns-in-None c = λ other it. inl it

pub returns-in_ok-insert_line-in-Some : goal.returns-in_ok-insert_line-in-Some
returns-in_ok-insert_line-in-Some c = λ other it. elim ((c.in_ok-insert_line-in-Some.ensures other).0 it) [
  | inl before ↦ inl before
  | inr same ↦ inr (subst (Contains (map (λ text. text.items) c.args.texts.now)) (sym (same ∙ c.as_slice.ensures.value))
      (text_at_place (λ text. text.items) c.args.texts.now c.args.place c.in-Some.text.now (sym (ap option_copied c.in-Some.is) ∙ c.text_at.ensures)))
]
