-- Spaces and tabs at the ends of a value: what is taken off, and that nothing is left to take off.
use Rattle.std.proofs.Common.{◌≡◌, ℕ, ◌-◌, Bool, true, false, ◌&&◌, List, [], ◌∷◌, ◌++◌, length, take, drop, reverse, refl, sym, ap, ◌∙◌, arith, inl, inr, one-add, take_at, length-drop, take-append-drop}
use Rattle.std.proofs.lemmas.Bool.{cases_Bool, and_from, and_parts}
use Rattle.std.proofs.lemmas.List.{reverse-reverse, reverse-append, length-reverse}
use Rattle.std.proofs.lemmas.List.Folds.{list_all-append}
use Rattle.std.specs.List.{list_all, prefix_len}
use Rattle.stanza.specs.Line.{is_white}
use Rattle.stanza.specs.Field.{trim_front, trim_end}

-- ---- the front

pub trim_front-white : (b : ℕ) (bs : List ℕ) → is_white b ≡ true → trim_front (b ∷ bs) ≡ trim_front bs
trim_front-white b bs h = rw (h, one-add) refl

pub trim_front-dark : (b : ℕ) (bs : List ℕ) → is_white b ≡ false → trim_front (b ∷ bs) ≡ b ∷ bs
trim_front-dark b bs h = rw h refl

-- what is taken off is white, and what is left is not white at its front
pub record CutsWhite (text left : List ℕ) : Type 0 where
  pub white : List ℕ
  pub all : list_all is_white white ≡ true
  pub joined : text ≡ white ++ left
  pub stays : trim_front left ≡ left

pub cut_front : (text : List ℕ) → CutsWhite text (trim_front text)
cut_front [] = record { white = []; all = refl; joined = refl; stays = refl }
cut_front (b ∷ bs) = elim (cases_Bool (is_white b)) [
  | inl h ↦ let later = cut_front bs in
      rw trim_front-white record { white = b ∷ later.white; all = and_from (is_white b) (list_all is_white later.white) h later.all; joined = ap (λ x. b ∷ x) later.joined; stays = later.stays }
  | inr h ↦ rw trim_front-dark record { white = []; all = refl; joined = refl; stays = trim_front-dark b bs h }
]

pub trim_front-twice : (text : List ℕ) → trim_front (trim_front text) ≡ trim_front text
trim_front-twice text = (cut_front text).stays

-- the front that stays is not white
front-dark : (b : ℕ) (bs : List ℕ) → trim_front (b ∷ bs) ≡ b ∷ bs → is_white b ≡ false
front-dark b bs stays = elim (cases_Bool (is_white b)) [
  | inl h ↦ absurd (longer (sym (trim_front-white b bs h) ∙ stays))
  | inr h ↦ h
] where
  longer : trim_front bs ≡ b ∷ bs → ⊥
  longer e = omega (arith, ap length e, length-drop (prefix_len is_white bs) bs)

-- ---- the end

list_all-reverse : (p : ℕ → Bool) (xs : List ℕ) → list_all p xs ≡ true → list_all p (reverse xs) ≡ true
list_all-reverse p [] all = refl
list_all-reverse p (x ∷ xs) all =
    let both = and_parts (p x) (list_all p xs) all in
    ap (list_all p) (reverse-append (x ∷ []) xs) ∙ list_all-append p (reverse xs) (x ∷ [])
    ∙ and_from (list_all p (reverse xs)) (p x && true) (list_all-reverse p xs both.1) (and_from (p x) true both.0 refl)

take-reverse : (n : ℕ) (xs : List ℕ) → take (length xs - n) (reverse xs) ≡ reverse (drop n xs)
take-reverse n xs =
    ap (λ x. take (length xs - n) (reverse x)) (sym (take-append-drop n xs))
    ∙ ap (take (length xs - n)) (reverse-append (take n xs) (drop n xs))
    ∙ take_at (reverse (drop n xs)) (reverse (take n xs)) (length xs - n) (length-reverse (drop n xs) ∙ length-drop n xs)

-- the end is the front of the bytes turned round
trim_end-reverse : (text : List ℕ) → trim_end text ≡ reverse (trim_front (reverse text))
trim_end-reverse text =
    let n = prefix_len is_white (reverse text) in
    ap (take (length text - n)) (sym (reverse-reverse text))
    ∙ ap (λ k. take (k - n) (reverse (reverse text))) (sym (length-reverse text))
    ∙ take-reverse n (reverse text)

pub trim_end-twice : (text : List ℕ) → trim_end (trim_end text) ≡ trim_end text
trim_end-twice text =
    trim_end-reverse (trim_end text)
    ∙ ap (λ x. reverse (trim_front (reverse x))) (trim_end-reverse text)
    ∙ ap (λ x. reverse (trim_front x)) (reverse-reverse (trim_front (reverse text)))
    ∙ ap reverse (trim_front-twice (reverse text))
    ∙ sym (trim_end-reverse text)

-- what is taken off the end is white
pub cut_end : (text : List ℕ) → (white : List ℕ) × (list_all is_white white ≡ true) × (text ≡ trim_end text ++ white)
cut_end text =
    let cut = cut_front (reverse text) in (
      reverse cut.white,
      list_all-reverse is_white cut.white cut.all,
      sym (reverse-reverse text) ∙ ap reverse cut.joined ∙ reverse-append cut.white (trim_front (reverse text)) ∙ ap (λ x. x ++ reverse cut.white) (sym (trim_end-reverse text)),
    )

-- ---- both

-- a trimmed value stays as it is
pub trim-twice : (text : List ℕ) → trim_end (trim_front (trim_end (trim_front text))) ≡ trim_end (trim_front text)
trim-twice text =
    let cut = cut_end (trim_front text) in
    ap trim_end (go (trim_front text) (trim_end (trim_front text)) cut.0 cut.2 (trim_front-twice text)) ∙ trim_end-twice (trim_front text) where
      go : (all left white : List ℕ) → all ≡ left ++ white → trim_front all ≡ all → trim_front left ≡ left
      go all [] white joined stays = refl
      go all (b ∷ bs) white joined stays = trim_front-dark b bs (front-dark b (bs ++ white) (sym (ap trim_front joined) ∙ stays ∙ joined))

-- bytes whose last is not white keep their end
pub trim_end-dark : (front : List ℕ) (b : ℕ) → is_white b ≡ false → trim_end (front ++ b ∷ []) ≡ front ++ b ∷ []
trim_end-dark front b dark =
    trim_end-reverse (front ++ b ∷ [])
    ∙ ap (λ x. reverse (trim_front x)) (reverse-append front (b ∷ []))
    ∙ ap reverse (trim_front-dark b (reverse front) dark)
    ∙ ap reverse (sym (reverse-append front (b ∷ [])))
    ∙ reverse-reverse (front ++ b ∷ [])
