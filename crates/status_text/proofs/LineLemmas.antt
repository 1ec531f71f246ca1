-- How lines lie in a text: bytes without a newline go onto the first line, and a text that ends with a newline is whole.
use Rattle.std.proofs.Common.{◌≡◌, ℕ, false, List, [], ◌∷◌, ◌++◌, refl, sym, ap, ◌∙◌, append_assoc, eqb, inl, inr}
use Rattle.std.proofs.lemmas.Bool.{cases_Bool}
use Rattle.std.specs.List.{onto_first, AllByRecursion}
use Rattle.stanza.specs.Line.{lines_of, IsWhole}
use Rattle.status_text.specs.Writable.{behind_first}

-- the bytes have no newline
abbrev pub IsPlain : List ℕ → Type 0
IsPlain bytes = AllByRecursion (λ b. eqb b 10 ≡ false) bytes

-- bytes without a newline go onto the first line
pub lines_of-plain : (front text line : List ℕ) (lines : List (List ℕ)) → IsPlain front → lines_of text ≡ line ∷ lines → lines_of (front ++ text) ≡ (front ++ line) ∷ lines
lines_of-plain [] text line lines plain e = e
lines_of-plain (b ∷ front) text line lines plain e =
    rw (plain.0, lines_of-plain front text line lines plain.1 e) refl

-- they change no line behind it
pub behind_first-plain : (front text : List ℕ) → IsPlain front → behind_first (lines_of (front ++ text)) ≡ behind_first (lines_of text)
behind_first-plain [] text plain = refl
behind_first-plain (b ∷ front) text plain =
    rw (plain.0) (go (lines_of (front ++ text)) ∙ behind_first-plain front text plain.1) where
      go : (lines : List (List ℕ)) → behind_first (onto_first b lines) ≡ behind_first lines
      go [] = refl
      go (line ∷ lines) = refl

-- a text with a last newline has a first line
pub lines_of-some : (text : List ℕ) → (line : List ℕ) × (lines : List (List ℕ)) × (lines_of (text ++ 10 ∷ []) ≡ line ∷ lines)
lines_of-some [] = (10 ∷ [], [], refl)
lines_of-some (b ∷ bs) = elim (cases_Bool (eqb b 10)) [
  | inl h ↦ (b ∷ [], lines_of (bs ++ 10 ∷ []), rw h refl)
  | inr h ↦ let later = lines_of-some bs in (b ∷ later.0, later.1, rw (h, later.2) refl)
]

-- a text with a last newline is whole
pub IsWhole-closed : (text : List ℕ) → IsWhole (text ++ 10 ∷ [])
IsWhole-closed [] rest = refl
IsWhole-closed (b ∷ bs) rest = elim (cases_Bool (eqb b 10)) [
  | inl h ↦ rw h (ap (λ ls. (b ∷ []) ∷ ls) (IsWhole-closed bs rest))
  | inr h ↦ let later = lines_of-some bs in
      let joined : lines_of ((bs ++ 10 ∷ []) ++ rest) ≡ later.0 ∷ (later.1 ++ lines_of rest) =
      IsWhole-closed bs rest ∙ ap (λ ls. ls ++ lines_of rest) later.2 in
      rw (h) (ap (onto_first b) joined ∙ sym (ap (λ ls. onto_first b ls ++ lines_of rest) later.2))
]

-- whole texts joined are whole
pub IsWhole-append : (a b : List ℕ) → IsWhole a → IsWhole b → IsWhole (a ++ b)
IsWhole-append a b whole next rest =
    ap lines_of (append_assoc a b rest) ∙ whole (b ++ rest) ∙ ap (λ ls. lines_of a ++ ls) (next rest)
    ∙ sym (append_assoc (lines_of a) (lines_of b) (lines_of rest)) ∙ ap (λ ls. ls ++ lines_of rest) (sym (whole b))
