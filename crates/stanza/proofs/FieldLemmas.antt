-- Names and values: the newline at a value's end, and the hash of a name.
use Rattle.std.proofs.Common.{◌≡◌, ℕ, suc, ◌-◌, ◌≤◌, List, [], ◌∷◌, length, get_or, take, refl, sym, ap, ◌∙◌, arith}
use Rattle.std.proofs.lemmas.Bool.{eq-eqb, ne_eqb}
use Rattle.stanza.specs.Field.{without_newline}

-- the last element of a list of two or more is that of its tail
last-cons : (b c : ℕ) (bs : List ℕ) → get_or (b ∷ c ∷ bs) (length (b ∷ c ∷ bs) - 1) 0 ≡ get_or (c ∷ bs) (length (c ∷ bs) - 1) 0
last-cons b c bs =
    let e : suc (suc (length bs)) - 1 ≡ suc (length bs) = omega arith in
    let f : suc (length bs) - 1 ≡ length bs = omega arith in
    ap (λ n. get_or (b ∷ c ∷ bs) n 0) e ∙ sym (ap (λ n. get_or (c ∷ bs) n 0) f)

front-cons : (b c : ℕ) (bs : List ℕ) → take (length (b ∷ c ∷ bs) - 1) (b ∷ c ∷ bs) ≡ b ∷ take (length (c ∷ bs) - 1) (c ∷ bs)
front-cons b c bs =
    let e : suc (suc (length bs)) - 1 ≡ suc (length bs) = omega arith in
    let f : suc (length bs) - 1 ≡ length bs = omega arith in
    ap (λ n. take n (b ∷ c ∷ bs)) e ∙ sym (ap (λ n. b ∷ take n (c ∷ bs)) f)

pub without_newline-ended : (text : List ℕ) → 1 ≤ length text → get_or text (length text - 1) 0 ≡ 10 → take (length text - 1) text ≡ without_newline text
without_newline-ended [] some last = absurd (omega arith)
without_newline-ended (b ∷ []) some last = rw (eq-eqb b 10 last) refl
without_newline-ended (b ∷ c ∷ bs) some last =
    front-cons b c bs ∙ ap (λ xs. b ∷ xs) (without_newline-ended (c ∷ bs) (omega arith) (sym (last-cons b c bs) ∙ last))

pub without_newline-same : (text : List ℕ) → (get_or text (length text - 1) 0 ≡ 10 → ⊥) → text ≡ without_newline text
without_newline-same [] other = refl
without_newline-same (b ∷ []) other = rw (ne_eqb b 10 other) refl
without_newline-same (b ∷ c ∷ bs) other =
    ap (λ xs. b ∷ xs) (without_newline-same (c ∷ bs) (λ e. other (last-cons b c bs ∙ e)))

pub ruleset newline_lemmas = (without_newline-ended, without_newline-same)
