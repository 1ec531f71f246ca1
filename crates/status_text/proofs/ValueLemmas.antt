-- The lines of a trimmed value behind its first are fit to continue a field exactly where those of the text that it was cut from are.
use Rattle.std.proofs.Common.{◌≡◌, ℕ, true, List, [], ◌∷◌, ◌++◌, refl, sym, ap, ◌∙◌, eqb, inl, inr}
use Rattle.std.proofs.lemmas.Bool.{and_parts, cases_Bool}
use Rattle.std.specs.List.{list_all}
use Rattle.stanza.specs.declared.lines.TheConstants.{NEWLINE}
use Rattle.stanza.specs.Line.{lines_of, is_white}
use Rattle.stanza.specs.Field.{without_newline, trim_front, trim_end}
use Rattle.status_text.specs.Spelling.{gap_before, closed}
use Rattle.status_text.specs.Writable.{is_more, behind_first, more_lines}
use Rattle.status_text.proofs.LineLemmas.{IsPlain}
use Rattle.status_text.proofs.MoreLemmas.{goes_on, goes_on-lines, goes_on-end, lines_go_on-true, white-plain}
use Rattle.status_text.proofs.TrimLemmas.{trim_front-white, cut_front, cut_end}

-- ---- a newline at the end

pub without_newline-pushed : (text : List ℕ) → without_newline (text ++ NEWLINE ∷ []) ≡ text
without_newline-pushed [] = refl
without_newline-pushed (b ∷ []) = refl
without_newline-pushed (b ∷ c ∷ bs) = ap (λ x. b ∷ x) (without_newline-pushed (c ∷ bs))

pub without_newline-closed : (text : List ℕ) → without_newline (closed text) ≡ without_newline text
without_newline-closed text = without_newline-pushed (without_newline text)

-- ---- the lines of a trimmed value

-- spaces and tabs at the front change nothing
goes_on-front : (white left : List ℕ) → list_all is_white white ≡ true → goes_on true (white ++ left) ≡ goes_on true left
unfolding goes_on
goes_on-front [] left all = refl
goes_on-front (b ∷ white) left all =
    let both = and_parts (is_white b) (list_all is_white white) all in
    rw (white-plain b both.0) (goes_on-front white left both.1)

goes_on-more : (value : List ℕ) → goes_on true value ≡ list_all is_more (more_lines value)
goes_on-more value =
    ap (goes_on true) (sym (without_newline-pushed value)) ∙ goes_on-lines true (value ++ NEWLINE ∷ []) ∙ lines_go_on-true (lines_of (value ++ NEWLINE ∷ []))

pub more_lines-trimmed : (text : List ℕ) → list_all is_more (more_lines (trim_end (trim_front (without_newline text)))) ≡ list_all is_more (behind_first (lines_of text))
more_lines-trimmed text =
    let bytes = without_newline text in
    let front = cut_front bytes in
    let end = cut_end (trim_front bytes) in
    sym (goes_on-more (trim_end (trim_front bytes)))
    ∙ sym (goes_on-end true (trim_end (trim_front bytes)) end.0 end.1)
    ∙ sym (ap (goes_on true) end.2)
    ∙ sym (goes_on-front front.white (trim_front bytes) front.all)
    ∙ sym (ap (goes_on true) front.joined)
    ∙ goes_on-lines true text ∙ lines_go_on-true (lines_of text)

-- ---- the gap before a value

pub gap-plain : (value : List ℕ) → IsPlain (gap_before value)
gap-plain [] = tt
gap-plain (b ∷ bs) = elim (cases_Bool (eqb b 10)) [
  | inl h ↦ rw h tt
  | inr h ↦ rw h (refl, tt)
]

pub trim_front-gap : (value : List ℕ) → trim_front (gap_before value ++ value) ≡ trim_front value
trim_front-gap [] = refl
trim_front-gap (b ∷ bs) = elim (cases_Bool (eqb b 10)) [
  | inl h ↦ rw h refl
  | inr h ↦ rw h (trim_front-white 32 (b ∷ bs) refl)
]
