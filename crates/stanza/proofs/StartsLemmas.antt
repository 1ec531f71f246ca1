-- Where fields begin: the names and the fields that are found there.
use Rattle.std.proofs.Common.{◌≡◌, ℕ, suc, zero, ◌+◌, Bool, true, false, List, [], ◌∷◌, ◌++◌, length, take, map, refl, sym, ap, subst, ◌∙◌, arith, append_assoc, add-zero, eqb, Option, None, Some, inl, inr}
use Rattle.std.specs.Borrow.{Bor}
use Rattle.stanza.specs.Fault.{FindsName, IsNameOn}
use Rattle.std.proofs.lemmas.Bool.{cases_Bool}
use Rattle.std.proofs.lemmas.List.{append-nil, length-append, drop_at}
use Rattle.std.specs.List.{concat, onto_first}
use Rattle.stanza.specs.declared.form.Form.{Form}
use Rattle.stanza.specs.declared.starts.FieldStart.{FieldStart}
use Rattle.stanza.specs.Line.{lines_of, begins_field}
use Rattle.stanza.specs.Field.{name_of, names_of, field_of, fields_of, continued}
use Rattle.stanza.specs.Starts.{starts_of, name_at, field_at, first_field}
use Rattle.stanza.proofs.LineLemmas.{concat-lines_of, lines_of-head}

pub take-again : (k : ℕ) (l x : List ℕ) → take (length (take k l)) (l ++ x) ≡ take k l
take-again zero l x = refl
take-again (suc k) [] x = refl
take-again (suc k) (b ∷ l) x = ap (λ r. b ∷ r) (take-again k l x)

-- the start of a line's field, behind these bytes
abbrev pub start_behind : List ℕ → ℕ → List ℕ → FieldStart
start_behind front n line = record { at = length front; name_len = length (name_of line); line = n }

at-behind : (front line : List ℕ) (lines : List (List ℕ)) (n : ℕ) → name_at (front ++ concat (line ∷ lines)) (start_behind front n line) ≡ name_of line
at-behind front line lines n =
    ap (take (length (name_of line))) (drop_at front (line ++ concat lines) (length front) refl) ∙ take-again _ line (concat lines)

-- the names that begin there are those of the lines
names-from : (form : Form) (n : ℕ) (front : List ℕ) (lines : List (List ℕ)) → map (name_at (front ++ concat lines)) (starts_of form (length front) n lines) ≡ names_of form lines
names-from form n front [] = refl
names-from form n front (line ∷ lines) =
    let same : (front ++ line) ++ concat lines ≡ front ++ (line ++ concat lines) = append_assoc front line (concat lines) in
    let later : map (name_at (front ++ (line ++ concat lines))) (starts_of form (length front + length line) (n + 1) lines) ≡ names_of form lines =
    subst (λ raw. map (name_at raw) (starts_of form (length front + length line) (n + 1) lines) ≡ names_of form lines) same
    (subst (λ k. map (name_at ((front ++ line) ++ concat lines)) (starts_of form k (n + 1) lines) ≡ names_of form lines) (length-append front line) (names-from form (n + 1) (front ++ line) lines)) in
    elim (cases_Bool (begins_field form line)) [
      | inl h ↦ rw h (ap (λ x. x ∷ map (name_at (front ++ (line ++ concat lines))) (starts_of form (length front + length line) (n + 1) lines)) (at-behind front line lines n) ∙ ap (λ x. name_of line ∷ x) later)
      | inr h ↦ rw h later
    ]

pub names-at : (form : Form) (n : ℕ) (raw : List ℕ) → map (name_at raw) (starts_of form 0 n (lines_of raw)) ≡ names_of form (lines_of raw)
names-at form n raw = subst (λ (text : List ℕ). map (name_at text) (starts_of form 0 n (lines_of raw)) ≡ names_of form (lines_of raw)) (concat-lines_of raw) (names-from form n [] (lines_of raw))

-- one more line
pub starts-push : (form : Form) (at n : ℕ) (lines : List (List ℕ)) (line : List ℕ) → starts_of form at n (lines ++ line ∷ []) ≡ starts_of form at n lines ++ starts_of form (at + length (concat lines)) (n + length lines) (line ∷ [])
starts-push form at n [] line = rw (add-zero at, add-zero n) refl
starts-push form at n (first ∷ lines) line =
    let bytes : at + length first + length (concat lines) ≡ at + length (first ++ concat lines) = omega (arith, length-append first (concat lines)) in
    let count : n + 1 + length lines ≡ n + suc (length lines) = omega arith in
    let later : starts_of form (at + length first) (n + 1) (lines ++ line ∷ []) ≡ starts_of form (at + length first) (n + 1) lines ++ starts_of form (at + length (first ++ concat lines)) (n + suc (length lines)) (line ∷ []) =
    starts-push form (at + length first) (n + 1) lines line ∙ ap (λ k. starts_of form (at + length first) (n + 1) lines ++ starts_of form k (n + 1 + length lines) (line ∷ [])) bytes ∙ ap (λ k. starts_of form (at + length first) (n + 1) lines ++ starts_of form (at + length (first ++ concat lines)) k (line ∷ [])) count in
    elim (cases_Bool (begins_field form first)) [
      | inl h ↦ rw h (ap (λ x. record { at = at; name_len = length (name_of first); line = n } ∷ x) later)
      | inr h ↦ rw h later
    ]

-- ---- the fields

nothing : {x : List ℕ} {xs : List (List ℕ)} → [] ≡ x ∷ xs → ⊥
nothing e = cc

tails : {x y : List ℕ} {xs ys : List (List ℕ)} → x ∷ xs ≡ y ∷ ys → xs ≡ ys
tails e = cc

line-ends : (b : ℕ) (bs : List ℕ) (rest ls : List (List ℕ)) → lines_of (bs ++ concat rest) ≡ ls → (b ∷ []) ∷ ls ≡ (b ∷ bs) ∷ rest → lines_of (concat rest) ≡ rest
line-ends b [] rest ls is e = is ∙ tails e
line-ends b (c ∷ cs) rest ls is e = cc

line-goes : (b : ℕ) (bs : List ℕ) (rest : List (List ℕ)) → (lines_of (bs ++ concat rest) ≡ bs ∷ rest → lines_of (concat rest) ≡ rest) → (ls : List (List ℕ)) → lines_of (bs ++ concat rest) ≡ ls → onto_first b ls ≡ (b ∷ bs) ∷ rest → lines_of (concat rest) ≡ rest
line-goes b bs rest left [] is e = ap (λ r. lines_of (concat r)) (sym (tails e)) ∙ tails e
line-goes b bs rest left (l ∷ ls) is e = left (is ∙ inner l e) where
  inner : (l : List ℕ) → (b ∷ l) ∷ ls ≡ (b ∷ bs) ∷ rest → l ∷ ls ≡ bs ∷ rest
  inner l e = cc

-- what is left of a text's lines behind the first is the lines of what is left of the text
lines-left : (line : List ℕ) (rest : List (List ℕ)) → lines_of (line ++ concat rest) ≡ line ∷ rest → lines_of (concat rest) ≡ rest
lines-left [] rest e = go (concat rest) e where
  go : (text : List ℕ) → lines_of text ≡ [] ∷ rest → lines_of text ≡ rest
  go [] e = absurd (nothing e)
  go (b ∷ bs) e = let head = lines_of-head b bs in absurd (filled (sym head.2 ∙ e)) where
    filled : {b : ℕ} {line : List ℕ} {lines : List (List ℕ)} → (b ∷ line) ∷ lines ≡ [] ∷ rest → ⊥
    filled e = cc
lines-left (b ∷ bs) rest e = elim (cases_Bool (eqb b 10)) [
  | inl h ↦ line-ends b bs rest (lines_of (bs ++ concat rest)) refl (sym (rw h refl) ∙ e)
  | inr h ↦ line-goes b bs rest (lines-left bs rest) (lines_of (bs ++ concat rest)) refl (sym (rw h refl) ∙ e)
]

fields-from : (form : Form) (n : ℕ) (front : List ℕ) (lines : List (List ℕ)) → lines_of (concat lines) ≡ lines → map (field_at (front ++ concat lines)) (starts_of form (length front) n lines) ≡ fields_of form n lines
fields-from form n front [] are = refl
fields-from form n front (line ∷ lines) are =
    let same : (front ++ line) ++ concat lines ≡ front ++ (line ++ concat lines) = append_assoc front line (concat lines) in
    let left = lines-left line lines are in
    let later : map (field_at (front ++ (line ++ concat lines))) (starts_of form (length front + length line) (n + 1) lines) ≡ fields_of form (n + 1) lines =
    subst (λ raw. map (field_at raw) (starts_of form (length front + length line) (n + 1) lines) ≡ fields_of form (n + 1) lines) same
    (subst (λ k. map (field_at ((front ++ line) ++ concat lines)) (starts_of form k (n + 1) lines) ≡ fields_of form (n + 1) lines) (length-append front line) (fields-from form (n + 1) (front ++ line) lines left)) in
    let here : field_at (front ++ (line ++ concat lines)) (start_behind front n line) ≡ field_of n line (continued lines) =
    ap (λ x. first_field n (lines_of x)) (drop_at front (line ++ concat lines) (length front) refl) ∙ ap (first_field n) are in
    elim (cases_Bool (begins_field form line)) [
      | inl h ↦ rw h (ap (λ x. x ∷ map (field_at (front ++ (line ++ concat lines))) (starts_of form (length front + length line) (n + 1) lines)) here ∙ ap (λ x. field_of n line (continued lines) ∷ x) later)
      | inr h ↦ rw h later
    ]

pub fields-at : (form : Form) (n : ℕ) (raw : List ℕ) → map (field_at raw) (starts_of form 0 n (lines_of raw)) ≡ fields_of form n (lines_of raw)
fields-at form n raw = subst (λ (text : List ℕ). map (field_at text) (starts_of form 0 n (lines_of raw)) ≡ fields_of form n (lines_of raw)) (concat-lines_of raw)
    (fields-from form n [] (lines_of raw) (ap lines_of (concat-lines_of raw)))

-- ---- what a reader notes

-- the names that begin where a reader has noted are those of the lines
pub names-noted : (form : Form) (n : ℕ) (raw : List ℕ) (starts : List FieldStart) → starts ≡ starts_of form 0 n (lines_of raw) → map (name_at raw) starts ≡ names_of form (lines_of raw)
names-noted form n raw starts are = ap (map (name_at raw)) are ∙ names-at form n raw

-- a line that begins no field adds none
pub starts-other : (form : Form) (n : ℕ) (raw line : List ℕ) → begins_field form line ≡ false → starts_of form 0 n (lines_of raw ++ line ∷ []) ≡ starts_of form 0 n (lines_of raw)
starts-other form n raw line other = starts-push form 0 n (lines_of raw) line ∙ rw other (append-nil (starts_of form 0 n (lines_of raw)))

-- a line that begins one adds it
pub starts-field : (form : Form) (n number : ℕ) (raw line name : List ℕ) → begins_field form line ≡ true → name ≡ name_of line → number ≡ n + length (lines_of raw) → starts_of form 0 n (lines_of raw ++ line ∷ []) ≡ starts_of form 0 n (lines_of raw) ++ record { at = length raw; name_len = length name; line = number } ∷ []
starts-field form n number raw line name begins is count =
    starts-push form 0 n (lines_of raw) line
    ∙ ap (λ k. starts_of form 0 n (lines_of raw) ++ starts_of form k (n + length (lines_of raw)) (line ∷ [])) (let e : 0 + length (concat (lines_of raw)) ≡ length raw = omega (arith, ap length (concat-lines_of raw)) in e)
    ∙ rw (begins, is, count) refl

-- ---- what is found on a line

pub none-found : (form : Form) (opened : Bool) (number : ℕ) (line : List ℕ) (answer : Option (Bor (List ℕ))) → answer ≡ None → FindsName form opened number line answer → begins_field form line ≡ false
none-found form opened number line answer is finds = (subst (FindsName form opened number line) is finds).0

pub name-found : (form : Form) (opened : Bool) (number : ℕ) (line : List ℕ) (name : Bor (List ℕ)) (answer : Option (Bor (List ℕ))) → answer ≡ Some name → FindsName form opened number line answer → IsNameOn form line name.now
name-found form opened number line name answer is finds = subst (FindsName form opened number line) is finds
