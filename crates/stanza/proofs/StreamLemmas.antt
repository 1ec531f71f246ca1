-- A text that comes piece by piece: its lines one by one, and what is read of them.
use Rattle.std.proofs.Common.{◌≡◌, ℕ, suc, zero, ◌+◌, ◌-◌, ◌<◌, ◌≤◌, Bool, true, false, List, [], ◌∷◌, ◌++◌, length, get_or, take, drop, map, filter, refl, sym, ap, subst, ◌∙◌, arith, append_assoc, add-zero, ltb, eqb, Option, Result, None, Some, Ok, Err, inl, inr}
use Rattle.std.proofs.lemmas.Bool.{false≢true, cases_Bool, cases_lt, lt-ltb, le-ltb, eq-eqb, ne_eqb, eqb-true}
use Rattle.std.proofs.lemmas.List.{append-nil, take-append-drop, length-append, length-drop, take_all, drop_all, take_at}
use Rattle.std.proofs.Math.Seq.{take-append-add}
use Rattle.std.specs.List.{slice_split}
use Rattle.stanza.specs.declared.form.Form.{Form}
use Rattle.memchr.specs.Find.{IsFirstByte, is_byte}
use Rattle.stanza.specs.declared.error.StanzaError.{StanzaError}
use Rattle.stanza.specs.declared.error.ReaderError.{ReaderError}
use Rattle.stanza.specs.declared.error.ReaderError.TheVariants.{Refused, TooLarge}
use Rattle.stanza.specs.Line.{lines_of, is_comment, is_separator}
use Rattle.stanza.specs.Fault.{fault_of, first_fault}
use Rattle.stanza.specs.Stanza.{StanzaText, stanza_in, before_items, items_of, items_of_parts}
use Rattle.stanza.specs.Streamed.{EndsLine, EndsRefused, MayFollow, as_read, before_read, has_newline, lines_within, read_parts, read_lines, read_within}
use Rattle.stanza.proofs.LineLemmas.{lines_of-line, lines_of-last}
use Rattle.stanza.proofs.FaultLemmas.{first_fault-append, first_fault-comment}
use Rattle.stanza.proofs.StanzaLemmas.{NoSeparators, split-front, split-some}

-- ---- the first line

has-newline-at : (text : List ℕ) (k : ℕ) → k < length text → get_or text k 0 ≡ 10 → has_newline (take (suc k) text) ≡ true
has-newline-at [] k fits here = absurd (omega arith)
has-newline-at (b ∷ bs) zero fits here = rw (eq-eqb b 10 here) refl
has-newline-at (b ∷ bs) (suc k) fits here = elim (cases_Bool (eqb b 10)) [
  | inl h ↦ rw h refl
  | inr h ↦ rw h (has-newline-at bs k (omega arith) here)
]

no-newline-at : (text : List ℕ) → ((j : ℕ) → j < length text → get_or text j 0 ≡ 10 → ⊥) → has_newline text ≡ false
no-newline-at [] none = refl
no-newline-at (b ∷ bs) none = rw (ne_eqb b 10 (none 0 (omega arith))) (no-newline-at bs (λ j h. none (suc j) (omega arith)))

pub no-newline : (text : List ℕ) → IsFirstByte (is_byte 10) text None → has_newline text ≡ false
no-newline text none = no-newline-at text (λ j h e. none j (omega arith) h (eq-eqb (get_or text j 0) 10 e))

-- the line ends at the first newline
pub EndsLine-at : (is_over : Bool) (text : List ℕ) (k : ℕ) → IsFirstByte (is_byte 10) text (Some k) → EndsLine is_over text (suc k)
EndsLine-at is_over text k first_newline =
    let fits : k < length text = first_newline.0.high in
    let here : get_or text k 0 ≡ 10 = eqb-true (get_or text k 0) 10 first_newline.1 in
    let none : (j : ℕ) → j < k → get_or text j 0 ≡ 10 → ⊥ = λ j h e. first_newline.0.before j (omega arith) h (eq-eqb (get_or text j 0) 10 e) in
    let line = lines_of-line text k fits none here in
    record {
      some = omega arith;
      within = omega arith;
      first = λ later may. ap lines_of (ap (λ x. x ++ later) (sym (take-append-drop (suc k) text)) ∙ append_assoc (take (suc k) text) (drop (suc k) text) later) ∙ line (drop (suc k) text ++ later);
      alone = ap lines_of (sym (append-nil (take (suc k) text))) ∙ line [];
      newline = λ more. has-newline-at text k fits here;
      whole = λ more rest. line rest ∙ ap (λ ls. ls ++ lines_of rest) (sym (ap lines_of (sym (append-nil (take (suc k) text))) ∙ line []));
    }

-- where there is none, the whole text is its last line
pub EndsLine-last : (text : List ℕ) → 0 < length text → IsFirstByte (is_byte 10) text None → EndsLine true text (length text)
EndsLine-last text some none =
    let all : take (length text) text ≡ text = take_all (length text) text (omega arith) in
    let left : drop (length text) text ≡ [] = drop_all (length text) text (omega arith) in
    let last = lines_of-last text some (λ j h e. none j (omega arith) h (eq-eqb (get_or text j 0) 10 e)) in
    record {
      some = some;
      within = omega arith;
      first = λ later may. rw (may refl, all, left, append-nil) last;
      alone = rw all last;
      newline = λ more. absurd (omega (arith, more refl, ap length left));
      whole = λ more. absurd (omega (arith, more refl, ap length left));
    }

-- ---- what is read of lines

-- a separator adds no item
pub read-separator : (longer : Bool) (form : Form) (n : ℕ) (line : List ℕ) (lines : List (List ℕ)) → is_separator line ≡ true → read_lines longer form n (line ∷ lines) ≡ read_lines longer form (n + 1) lines
read-separator longer form n line lines separator =
    let later = split-some lines in
    let split : slice_split is_separator (line ∷ lines) ≡ [] ∷ later.0 ∷ later.1 = rw (separator, later.2) refl in
    ap (read_parts longer form n) split ∙ rw add-zero refl ∙ sym (ap (read_parts longer form (n + 1)) later.2)

-- a comment at the front adds no item
pub read-comment : (longer : Bool) (form : Form) (n : ℕ) (line : List ℕ) (lines : List (List ℕ)) → is_separator line ≡ false → is_comment form line ≡ true → read_lines longer form n (line ∷ lines) ≡ read_lines longer form (n + 1) lines
read-comment longer form n line lines other comment =
    let later = split-some lines in
    let split : slice_split is_separator (line ∷ lines) ≡ (line ∷ later.0) ∷ later.1 = rw (other, later.2) refl in
    ap (read_parts longer form n) split ∙ go later.0 later.1 ∙ sym (ap (read_parts longer form (n + 1)) later.2) where
      go : (part : List (List ℕ)) (parts : List (List (List ℕ))) → read_parts longer form n ((line ∷ part) ∷ parts) ≡ read_parts longer form (n + 1) (part ∷ parts)
      go part [] = rw (comment, first_fault-comment form line comment [] (n + 1) part) refl
      go part (next ∷ parts) =
          let count : n + suc (length part) + 1 ≡ n + 1 + length part + 1 = omega arith in
          rw (comment, first_fault-comment form line comment [] (n + 1) part, count) refl

-- the stanza of the lines before a separator is the first item
pub read-front : (longer : Bool) (form : Form) (n : ℕ) (a b : List (List ℕ)) (line : List ℕ) (stanza : StanzaText) → NoSeparators a → is_separator line ≡ true → first_fault form [] n a ≡ None → stanza_in form n a ≡ Some stanza → read_lines longer form n (a ++ line ∷ b) ≡ Ok stanza ∷ read_lines longer form (n + length a) (line ∷ b)
read-front longer form n a b line stanza none ends clean is =
    let later = split-some b in
    let behind : slice_split is_separator (line ∷ b) ≡ [] ∷ later.0 ∷ later.1 = rw (ends, later.2) refl in
    let split : slice_split is_separator (a ++ line ∷ b) ≡ a ∷ later.0 ∷ later.1 = split-front a (line ∷ b) [] (later.0 ∷ later.1) none behind ∙ ap (λ x. x ∷ later.0 ∷ later.1) (append-nil a) in
    let next : read_lines longer form (n + length a) (line ∷ b) ≡ read_parts longer form (n + length a + 1) (later.0 ∷ later.1) =
    ap (read_parts longer form (n + length a)) behind ∙ ap (λ k. read_parts longer form (k + 1) (later.0 ∷ later.1)) (add-zero (n + length a)) in
    ap (read_parts longer form n) split ∙ rw (clean, is) refl ∙ ap (λ x. Ok stanza ∷ x) (sym next)

-- the stanza of the last lines is the last item
pub read-last : (form : Form) (n : ℕ) (a : List (List ℕ)) (stanza : StanzaText) → NoSeparators a → first_fault form [] n a ≡ None → stanza_in form n a ≡ Some stanza → read_lines false form n a ≡ Ok stanza ∷ []
read-last form n a stanza none clean is =
    ap (read_parts false form n) (ap (slice_split is_separator) (sym (append-nil a)) ∙ split-front a [] [] [] none refl ∙ ap (λ x. x ∷ []) (append-nil a)) ∙ rw (clean, is) refl

-- lines that have no end yet, and no fault
pub read-open : (form : Form) (n : ℕ) (a : List (List ℕ)) → NoSeparators a → first_fault form [] n a ≡ None → read_lines true form n a ≡ Err TooLarge ∷ []
read-open form n a none clean =
    ap (read_parts true form n) (ap (slice_split is_separator) (sym (append-nil a)) ∙ split-front a [] [] [] none refl ∙ ap (λ x. x ∷ []) (append-nil a)) ∙ rw clean refl

-- a fault behind lines without one is the only item
pub read-fault : (longer : Bool) (form : Form) (n : ℕ) (a b : List (List ℕ)) (line : List ℕ) (fault : StanzaError) → NoSeparators a → is_separator line ≡ false → first_fault form [] n a ≡ None → fault_of form a (n + length a) line ≡ Some fault → read_lines longer form n (a ++ line ∷ b) ≡ Err (Refused fault) ∷ []
read-fault longer form n a b line fault none other clean is =
    let later = split-some b in
    let split : slice_split is_separator (a ++ line ∷ b) ≡ (a ++ line ∷ later.0) ∷ later.1 =
    split-front a (line ∷ b) (line ∷ later.0) later.1 none (rw (other, later.2) refl) in
    let first : first_fault form [] n (a ++ line ∷ later.0) ≡ Some fault =
    first_fault-append form [] n a (line ∷ later.0) ∙ rw (clean, is) refl in
    ap (read_parts longer form n) split ∙ go (a ++ line ∷ later.0) later.1 first where
      go : (part : List (List ℕ)) (parts : List (List (List ℕ))) → first_fault form [] n part ≡ Some fault → read_parts longer form n (part ∷ parts) ≡ Err (Refused fault) ∷ []
      go part [] first = rw first refl
      go part (next ∷ parts) first = rw first refl

-- ---- the lines of a text that are read, one by one

-- the first line and the others, and whether the others are longer than is read
pub record StepsLine (text later : List ℕ) (len most : ℕ) : Type 0 where
  pub lines : lines_within most (text ++ later) ≡ take len text ∷ lines_within (most - len) (drop len text ++ later)
  pub longer : ltb most (length (text ++ later)) ≡ ltb (most - len) (length (drop len text ++ later))

same-take : (k : ℕ) (xs ys : List ℕ) → length xs ≤ k → take k (xs ++ ys) ≡ xs ++ take (k - length xs) ys
same-take k xs ys fits =
    let e : k ≡ length xs + (k - length xs) = omega (arith, fits) in
    ap (λ m. take m (xs ++ ys)) e ∙ take-append-add xs ys (k - length xs)

not-over : (is_over : Bool) (text later : List ℕ) (most : ℕ) → MayFollow is_over later → length text ≤ most → most < length (text ++ later) → is_over ≡ false
not-over false text later most may fits over = refl
not-over true text later most may fits over = absurd (omega (arith, ap length (may refl), length-append text later))

pub line-step : (is_over : Bool) (text later : List ℕ) (len most : ℕ) → EndsLine is_over text len → MayFollow is_over later → length text ≤ most → StepsLine text later len most
line-step is_over text later len most ends may fits = elim (cases_lt most (length (text ++ later))) [
  | inl h ↦
      let left : length (drop len text) ≡ length text - len = length-drop len text in
      let over : is_over ≡ false = not-over is_over text later most may fits h in
      let inside : most - len < length (drop len text ++ later) = omega (arith, h, ends.within, left, length-append text later, length-append (drop len text) later) in
      let more : List ℕ = take (most - length text) later in
      let newline : has_newline (take len text) ≡ true = ends.newline (λ e. absurd (false≢true (sym over ∙ e))) in
      let follows : MayFollow is_over more = λ e. absurd (false≢true (sym over ∙ e)) in
      let same : take (most - len) (drop len text ++ later) ≡ drop len text ++ more = same-take (most - len) (drop len text) later (omega (arith, left, ends.within)) ∙ ap (λ k. drop len text ++ take k later) (let e : most - len - length (drop len text) ≡ most - length text = omega (arith, left, ends.within, fits) in e) in
      record {
        lines = rw (lt-ltb most (length (text ++ later)) h, lt-ltb (most - len) (length (drop len text ++ later)) inside, same-take most text later fits, same, ends.first more follows, newline) refl;
        longer = lt-ltb most (length (text ++ later)) h ∙ sym (lt-ltb (most - len) (length (drop len text ++ later)) inside);
      }
  | inr h ↦
      let left : length (drop len text) ≡ length text - len = length-drop len text in
      let outside : length (drop len text ++ later) ≤ most - len = omega (arith, h, ends.within, left, length-append text later, length-append (drop len text) later) in
      record {
        lines = rw (le-ltb most (length (text ++ later)) h, le-ltb (most - len) (length (drop len text ++ later)) outside) (ends.first later may);
        longer = le-ltb most (length (text ++ later)) h ∙ sym (le-ltb (most - len) (length (drop len text ++ later)) outside);
      }
]

-- what has no newline is one line without an end
no-newline-line : (b : ℕ) (bs : List ℕ) → has_newline (b ∷ bs) ≡ false → lines_of (b ∷ bs) ≡ (b ∷ bs) ∷ []
no-newline-line b [] none = elim (cases_Bool (eqb b 10)) [ inl h ↦ absurd (false≢true (sym none ∙ rw h refl)) | inr h ↦ rw h refl ]
no-newline-line b (c ∷ bs) none = elim (cases_Bool (eqb b 10)) [
  | inl h ↦ absurd (false≢true (sym none ∙ rw h refl))
  | inr h ↦ rw (h, no-newline-line c bs (sym (rw h refl) ∙ none)) refl
]

-- and none of it is read where no more may be read
pub no-line-within : (rest later : List ℕ) → has_newline rest ≡ false → 0 < length later → lines_within (length rest) (rest ++ later) ≡ []
no-line-within rest later none more =
    rw (lt-ltb (length rest) (length (rest ++ later)) (omega (arith, more, length-append rest later)), take_at rest later (length rest) refl) (go rest none) where
      go : (rest : List ℕ) → has_newline rest ≡ false → filter has_newline (lines_of rest) ≡ []
      go [] none = refl
      go (b ∷ bs) none = rw (no-newline-line b bs none, none) refl

-- nothing is read of nothing
pub read-none : (form : Form) (n most : ℕ) → read_within form n most [] ≡ []
read-none form n most = rw (le-ltb most 0 (omega arith)) refl

-- ---- the whole text

before-items-read : (fault : Option StanzaError) (stanza : Option StanzaText) (later : List (Result StanzaText StanzaError)) → before_read fault stanza (map as_read later) ≡ map as_read (before_items fault stanza later)
before-items-read (Some fault) stanza later = refl
before-items-read None None later = refl
before-items-read None (Some stanza) later = refl

parts-read : (form : Form) (n : ℕ) (parts : List (List (List ℕ))) → read_parts false form n parts ≡ map as_read (items_of_parts form n parts)
parts-read form n [] = refl
parts-read form n (part ∷ []) = before-items-read (first_fault form [] n part) (stanza_in form n part) []
parts-read form n (part ∷ next ∷ parts) =
    ap (before_read (first_fault form [] n part) (stanza_in form n part)) (parts-read form (n + length part + 1) (next ∷ parts))
    ∙ before-items-read (first_fault form [] n part) (stanza_in form n part) (items_of_parts form (n + length part + 1) (next ∷ parts))

pub text-read : (form : Form) (text : List ℕ) (most : ℕ) → length text ≤ most → read_within form 1 most text ≡ map as_read (items_of form text)
unfolding items_of
text-read form text most fits = rw (le-ltb most (length text) fits) (parts-read form 1 (slice_split is_separator (lines_of text)))

before-refused : (fault : Option StanzaError) (stanza : Option StanzaText) (later : List (Result StanzaText ReaderError)) → EndsRefused later → EndsRefused (before_read fault stanza later)
before-refused (Some fault) stanza later ends = ([], Refused fault, refl)
before-refused None None later ends = ends
before-refused None (Some stanza) later ends = (stanza ∷ ends.0, ends.1, ap (λ x. Ok stanza ∷ x) ends.2)

parts-refused : (form : Form) (n : ℕ) (part : List (List ℕ)) (parts : List (List (List ℕ))) → EndsRefused (read_parts true form n (part ∷ parts))
parts-refused form n part [] = before-refused (first_fault form [] n part) None (Err TooLarge ∷ []) ([], TooLarge, refl)
parts-refused form n part (next ∷ parts) =
    before-refused (first_fault form [] n part) (stanza_in form n part) (read_parts true form (n + length part + 1) (next ∷ parts)) (parts-refused form (n + length part + 1) next parts)

pub text-refused : (form : Form) (text : List ℕ) (most : ℕ) → most < length text → EndsRefused (read_within form 1 most text)
text-refused form text most long =
    let lines = filter has_newline (lines_of (take most text)) in
    let some = split-some lines in
    let first : read_within form 1 most text ≡ read_parts true form 1 (some.0 ∷ some.1) = rw (lt-ltb most (length text) long) (ap (read_parts true form 1) some.2) in
    subst EndsRefused (sym first) (parts-refused form 1 some.0 some.1)
