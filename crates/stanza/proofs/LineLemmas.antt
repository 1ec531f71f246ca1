-- How a text is cut into lines: the first newline ends the first line, whatever follows.
use Rattle.std.proofs.Common.{◌≡◌, ℕ, suc, zero, ◌<◌, List, [], ◌∷◌, ◌++◌, length, get_or, take, drop, refl, sym, ap, ◌∙◌, arith, eqb, None, Some, inl, inr}
use Rattle.std.proofs.lemmas.Bool.{eq-eqb, ne_eqb, eqb-true, cases_Bool}
use Rattle.std.proofs.lemmas.List.{append-nil, take-append-drop, length-take-le, take_all, drop_all}
use Rattle.std.specs.List.{concat, onto_first}
use Rattle.memchr.specs.Find.{IsFirstByte, is_byte}
use Rattle.stanza.specs.Line.{lines_of}
use Rattle.stanza.specs.Cut.{CutsLine}

-- a line ends at its newline, whatever follows
pub lines_of-line : (text : List ℕ) (k : ℕ) → k < length text → ((j : ℕ) → j < k → get_or text j 0 ≡ 10 → ⊥) → get_or text k 0 ≡ 10 → (rest : List ℕ) → lines_of (take (suc k) text ++ rest) ≡ take (suc k) text ∷ lines_of rest
lines_of-line [] k fits none here rest = absurd (omega arith)
lines_of-line (b ∷ bs) zero fits none here rest = rw (eq-eqb b 10 here) refl
lines_of-line (b ∷ bs) (suc k) fits none here rest =
    let other : b ≡ 10 → ⊥ = none 0 (omega arith) in
    let later = lines_of-line bs k (omega arith) (λ j h. none (suc j) (omega arith)) here rest in
    rw (ne_eqb b 10 other, later) refl

-- a text without a newline is one line
pub lines_of-last : (text : List ℕ) → 0 < length text → ((j : ℕ) → j < length text → get_or text j 0 ≡ 10 → ⊥) → lines_of text ≡ text ∷ []
lines_of-last [] some none = absurd (omega arith)
lines_of-last (b ∷ []) some none = rw (ne_eqb b 10 (none 0 (omega arith))) refl
lines_of-last (b ∷ c ∷ bs) some none =
    let other : b ≡ 10 → ⊥ = none 0 (omega arith) in
    let later = lines_of-last (c ∷ bs) (omega arith) (λ j h. none (suc j) (omega arith)) in
    rw (ne_eqb b 10 other, later) refl

-- the text is cut where `memchr` found the first newline, or at its end
pub CutsLine-at : (text : List ℕ) (k : ℕ) → IsFirstByte (is_byte 10) text (Some k) → CutsLine text (take (suc k) text) (drop (suc k) text)
CutsLine-at text k first_newline =
    let fits : k < length text = first_newline.0.high in
    let here : get_or text k 0 ≡ 10 = eqb-true (get_or text k 0) 10 first_newline.1 in
    let none : (j : ℕ) → j < k → get_or text j 0 ≡ 10 → ⊥ = λ j h e. first_newline.0.before j (omega arith) h (eq-eqb (get_or text j 0) 10 e) in
    let line = lines_of-line text k fits none here in
    let alone : lines_of (take (suc k) text) ≡ take (suc k) text ∷ [] = ap lines_of (sym (append-nil (take (suc k) text))) ∙ line [] in
    record {
      joined = sym (take-append-drop (suc k) text);
      first = ap lines_of (sym (take-append-drop (suc k) text)) ∙ line (drop (suc k) text);
      alone = alone;
      whole = λ _ rest. line rest ∙ ap (λ ls. ls ++ lines_of rest) (sym alone);
      some = omega (arith, length-take-le (suc k) text (omega arith));
    }

pub CutsLine-all : (text : List ℕ) → 0 < length text → IsFirstByte (is_byte 10) text None → CutsLine text (take (length text) text) (drop (length text) text)
CutsLine-all text some none =
    let last = lines_of-last text some (λ j h e. none j (omega arith) h (eq-eqb (get_or text j 0) 10 e)) in
    rw (take_all (length text) text (omega arith), drop_all (length text) text (omega arith)) record {
      joined = sym (append-nil text);
      first = last;
      alone = last;
      whole = λ h. absurd (omega arith);
      some = some;
    }

-- the first line begins with the text's first byte
pub lines_of-head : (b : ℕ) (bs : List ℕ) → (line : List ℕ) × (lines : List (List ℕ)) × (lines_of (b ∷ bs) ≡ (b ∷ line) ∷ lines)
lines_of-head b bs = elim (cases_Bool (eqb b 10)) [ inl h ↦ ([], lines_of bs, rw h refl) | inr h ↦ rw h (go (lines_of bs)) ] where
  go : (ls : List (List ℕ)) → (line : List ℕ) × (lines : List (List ℕ)) × (onto_first b ls ≡ (b ∷ line) ∷ lines)
  go [] = ([], [], refl)
  go (line ∷ lines) = (line, lines, refl)

-- the lines joined are the text
pub concat-lines_of : (text : List ℕ) → concat (lines_of text) ≡ text
concat-lines_of [] = refl
concat-lines_of (b ∷ bs) = elim (cases_Bool (eqb b 10)) [
  | inl h ↦ rw h (ap (λ xs. b ∷ xs) (concat-lines_of bs))
  | inr h ↦ rw h (go (lines_of bs) ∙ ap (λ xs. b ∷ xs) (concat-lines_of bs))
] where
  go : (ls : List (List ℕ)) → concat (onto_first b ls) ≡ b ∷ concat ls
  go [] = refl
  go (line ∷ lines) = refl
