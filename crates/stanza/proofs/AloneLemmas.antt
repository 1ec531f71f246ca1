-- The bytes of a stanza, read by themselves, are that stanza: its lines are whole, none has a fault, and the numbers alone differ.
use Rattle.std.proofs.Common.{◌≡◌, ℕ, ◌+◌, Bool, true, false, cond, not, ◌⊎◌, List, [], ◌∷◌, ◌++◌, length, refl, sym, ap, subst, ◌∙◌, arith, eqb, Option, None, Some, Result, Ok, Err, inl, inr}
use Rattle.std.specs.Prelude.{Contains}
use Rattle.std.proofs.lemmas.Bool.{cases_Bool}
use Rattle.std.proofs.lemmas.List.{append-nil}
use Rattle.std.proofs.lemmas.List.Elements.{Contains-append_cases, Contains-push_cases}
use Rattle.std.specs.List.{list_any, concat, slice_split, onto_first, AllByRecursion}
use Rattle.stanza.specs.declared.form.Form.{Form}
use Rattle.stanza.specs.declared.error.StanzaError.{StanzaError}
use Rattle.stanza.specs.declared.error.StanzaError.TheVariants.{BadLine, BadFieldName, DuplicateField}
use Rattle.stanza.specs.Line.{lines_of, is_separator, is_comment, is_continuation, begins_field, IsWhole}
use Rattle.stanza.specs.Field.{is_colon, name_of, is_name, same_name, continued, fields_of, value_named, value_of}
use Rattle.stanza.specs.Fault.{is_open, is_repeated, fault_of, first_fault, or_then}
use Rattle.stanza.specs.Stanza.{StanzaText, stanza_of, stanza_in, without_last_comments, before_kept, before_items, items_of_parts, items_of_lines, items_of}
use Rattle.stanza.specs.File.{IsAlone}
use Rattle.stanza.proofs.FaultLemmas.{first_fault-append, first_fault-comment}
use Rattle.stanza.proofs.StanzaLemmas.{NoSeparators, split-some, items-front, kept-some}

-- ---- lines of a text

-- each is a line, and ends with a newline where another follows
unfoldable pub AreLines : List (List ℕ) → Type 0
AreLines [] = Unit {0}
AreLines (line ∷ lines) = (lines_of line ≡ line ∷ []) × ((lines ≡ []) ⊎ IsWhole line) × AreLines lines

AreLines-onto : (b : ℕ) (lines : List (List ℕ)) → eqb b 10 ≡ false → AreLines lines → AreLines (onto_first b lines)
unfolding AreLines
AreLines-onto b [] other are = (rw other refl, inl refl, tt)
AreLines-onto b (line ∷ lines) other are =
    let alone : lines_of (b ∷ line) ≡ (b ∷ line) ∷ [] = rw (other, are.0) refl in
    (alone, elim are.1 [ inl none ↦ inl none | inr whole ↦ inr (longer alone whole) ], are.2) where
      longer : lines_of (b ∷ line) ≡ (b ∷ line) ∷ [] → IsWhole line → IsWhole (b ∷ line)
      longer alone whole rest =
          let first : lines_of (line ++ rest) ≡ line ∷ lines_of rest = whole rest ∙ ap (λ x. x ++ lines_of rest) are.0 in
          rw (alone) (rw (other, first) refl)

pub AreLines-lines_of : (text : List ℕ) → AreLines (lines_of text)
unfolding AreLines
AreLines-lines_of [] = tt
AreLines-lines_of (b ∷ bs) = elim (cases_Bool (eqb b 10)) [
  | inl h ↦ rw h (rw h refl, inr (ended h), AreLines-lines_of bs)
  | inr h ↦ rw h (AreLines-onto b (lines_of bs) h (AreLines-lines_of bs))
] where
  ended : eqb b 10 ≡ true → IsWhole (b ∷ [])
  ended h rest = rw h refl

pub lines_of-concat : (lines : List (List ℕ)) → AreLines lines → lines_of (concat lines) ≡ lines
unfolding AreLines
lines_of-concat [] are = refl
lines_of-concat (line ∷ []) are = ap lines_of (append-nil line) ∙ are.0
lines_of-concat (line ∷ next ∷ lines) are = elim are.1 [
  | inl none ↦ absurd (nothing none)
  | inr whole ↦ whole (concat (next ∷ lines)) ∙ ap (λ x. x ++ lines_of (concat (next ∷ lines))) are.0 ∙ ap (λ x. line ∷ x) (lines_of-concat (next ∷ lines) are.2)
] where
  nothing : next ∷ lines ≡ [] → ⊥
  nothing e = cc

-- ---- parts of lines

-- the part has lines of a text, and no separator
record IsPart (part : List (List ℕ)) : Type 0 where
  lines : AreLines part
  inside : NoSeparators part

split-parts : (lines : List (List ℕ)) → AreLines lines → AllByRecursion IsPart (slice_split is_separator lines)
unfolding AreLines
split-parts [] are = (record { lines = tt; inside = tt }, tt)
split-parts (line ∷ lines) are = elim (cases_Bool (is_separator line)) [
  | inl h ↦ rw h (record { lines = tt; inside = tt }, split-parts lines are.2)
  | inr h ↦ let later = split-some lines in
      let parts : AllByRecursion IsPart (later.0 ∷ later.1) = subst (AllByRecursion IsPart) later.2 (split-parts lines are.2) in
      rw (h, later.2) (
        record {
          lines = (are.0, elim are.1 [ inl none ↦ inl (empty none later.0 later.1 later.2) | inr whole ↦ inr whole ], parts.0.lines);
          inside = (h, parts.0.inside);
        },
        parts.1,
      )
] where
  empty : lines ≡ [] → (part : List (List ℕ)) (parts : List (List (List ℕ))) → slice_split is_separator lines ≡ part ∷ parts → part ≡ []
  empty none part parts e = heads (sym e ∙ ap (slice_split is_separator) none) where
    heads : ◌≡◌ {A = List (List (List ℕ))} (part ∷ parts) ([] ∷ []) → part ≡ []
    heads h = cc

-- ---- where an item comes from

-- a part without a fault, which has the stanza
record Origin (form : Form) (stanza : StanzaText) : Type 0 where
  n : ℕ
  part : List (List ℕ)
  is_part : IsPart part
  clean : first_fault form [] n part ≡ None
  is : stanza_in form n part ≡ Some stanza

contains-nil : (x : Result StanzaText StanzaError) → Contains {X = Result StanzaText StanzaError} [] x → ⊥
contains-nil x has = absurd (omega (arith, has.1))

abbrev Items : Type 0
Items = List (Result StanzaText StanzaError)

contains-cons : (item : Result StanzaText StanzaError) (items : Items) (x : Result StanzaText StanzaError) → Contains (item ∷ items) x → (item ≡ x) ⊎ Contains items x
contains-cons item items x has = elim (Contains-append_cases (item ∷ []) items x has) [
  | inl here ↦ elim (Contains-push_cases [] item x here) [ inl none ↦ absurd (contains-nil x none) | inr e ↦ inl e ]
  | inr later ↦ inr later
]

ok-same : {x y : StanzaText} → ◌≡◌ {A = Result StanzaText StanzaError} (Ok x) (Ok y) → x ≡ y
ok-same e = cc

ok-err : {x : StanzaText} {e : StanzaError} → ◌≡◌ {A = Result StanzaText StanzaError} (Err e) (Ok x) → ⊥
ok-err h = cc

origin-before : (form : Form) (stanza : StanzaText) (fault : Option StanzaError) (read : Option StanzaText) (later : Items) → (Contains later (Ok stanza) → Origin form stanza) → (fault ≡ None → read ≡ Some stanza → Origin form stanza) → Contains (before_items fault read later) (Ok stanza) → Origin form stanza
origin-before form stanza (Some fault) read later behind here has = elim (contains-cons (Err fault) [] (Ok stanza) has) [
  | inl e ↦ absurd (ok-err e)
  | inr none ↦ absurd (contains-nil (Ok stanza) none)
]
origin-before form stanza None None later behind here has = behind has
origin-before form stanza None (Some first) later behind here has = elim (contains-cons (Ok first) later (Ok stanza) has) [
  | inl e ↦ here refl (ap (λ x. Some x) (ok-same e))
  | inr rest ↦ behind rest
]

origin : (form : Form) (stanza : StanzaText) (n : ℕ) (parts : List (List (List ℕ))) → AllByRecursion IsPart parts → Contains (items_of_parts form n parts) (Ok stanza) → Origin form stanza
origin form stanza n [] are has = absurd (contains-nil (Ok stanza) has)
origin form stanza n (part ∷ parts) are has =
    origin-before form stanza (first_fault form [] n part) (stanza_in form n part) (items_of_parts form (n + length part + 1) parts)
    (origin form stanza (n + length part + 1) parts are.1)
    (λ clean is. record { n = n; part = part; is_part = are.0; clean = clean; is = is })
    has

-- ---- the lines of a stanza

-- lines of a text without a separator and without a fault, of which the first and the last are no comments
pub record Alone (form : Form) (stanza : StanzaText) : Type 0 where
  pub lines : List (List ℕ)
  pub are : AreLines lines
  pub inside : NoSeparators lines
  pub clean : (m : ℕ) → first_fault form [] m lines ≡ None
  pub first : (m : ℕ) → stanza_in form m lines ≡ Some (stanza_of form m lines)
  pub n : ℕ
  pub is : stanza ≡ stanza_of form n lines

-- a fault does not hang on the number of the line
fault_of-number : (form : Form) (before : List (List ℕ)) (n m : ℕ) (line : List ℕ) → fault_of form before n line ≡ None → fault_of form before m line ≡ None
fault_of-number form before n m line clean =
    go (is_comment form line) (is_continuation line) (is_open form before) (list_any is_colon line) (is_name (name_of line)) (is_repeated form before (name_of line)) clean where
      go : (comment continues opened colon name repeated : Bool) → cond comment None (cond continues (cond opened None (Some (BadLine n))) (cond (not colon) (Some (BadLine n)) (cond (not name) (Some (BadFieldName n)) (cond repeated (Some (DuplicateField n)) None)))) ≡ None
          → cond comment None (cond continues (cond opened None (Some (BadLine m))) (cond (not colon) (Some (BadLine m)) (cond (not name) (Some (BadFieldName m)) (cond repeated (Some (DuplicateField m)) None)))) ≡ None
      go true a b d e f h = refl
      go false true true d e f h = refl
      go false true false d e f h = cc
      go false false b false e f h = cc
      go false false b true false f h = cc
      go false false b true true true h = cc
      go false false b true true false h = refl

or_then-none : (x y : Option StanzaError) → or_then x y ≡ None → (x ≡ None) × (y ≡ None)
or_then-none None y h = (refl, h)
or_then-none (Some fault) y h = cc

both-none : (x y : Option StanzaError) → x ≡ None → y ≡ None → or_then x y ≡ None
both-none x y p q = ap (λ z. or_then z y) p ∙ q

first_fault-number : (form : Form) (before : List (List ℕ)) (n m : ℕ) (lines : List (List ℕ)) → first_fault form before n lines ≡ None → first_fault form before m lines ≡ None
first_fault-number form before n m [] clean = refl
first_fault-number form before n m (line ∷ lines) clean =
    let parts = or_then-none (fault_of form before n line) (first_fault form (before ++ line ∷ []) (n + 1) lines) clean in
    both-none (fault_of form before m line) (first_fault form (before ++ line ∷ []) (m + 1) lines)
    (fault_of-number form before n m line parts.0) (first_fault-number form (before ++ line ∷ []) (n + 1) (m + 1) lines parts.1)

-- the lines that are kept stand at the front
kept-front : (form : Form) (lines : List (List ℕ)) → (dropped : List (List ℕ)) × (lines ≡ without_last_comments form lines ++ dropped)
kept-front form [] = ([], refl)
kept-front form (line ∷ lines) =
    let later = kept-front form lines in
    go (without_last_comments form lines) later.0 later.1 where
      go : (kept dropped : List (List ℕ)) → lines ≡ kept ++ dropped → (others : List (List ℕ)) × (line ∷ lines ≡ before_kept form line kept ++ others)
      go [] dropped e = elim (cases_Bool (is_comment form line)) [
        | inl h ↦ (line ∷ lines, rw h refl)
        | inr h ↦ (dropped, rw h (ap (λ x. line ∷ x) e))
      ]
      go (next ∷ kept) dropped e = (dropped, ap (λ x. line ∷ x) e)

kept-again : (form : Form) (lines : List (List ℕ)) → without_last_comments form (without_last_comments form lines) ≡ without_last_comments form lines
kept-again form [] = refl
kept-again form (line ∷ lines) = go (without_last_comments form lines) (kept-again form lines) where
  go : (kept : List (List ℕ)) → without_last_comments form kept ≡ kept → without_last_comments form (before_kept form line kept) ≡ before_kept form line kept
  go [] e = elim (cases_Bool (is_comment form line)) [
    | inl h ↦ rw h refl
    | inr h ↦ rw h (rw h refl)
  ]
  go (next ∷ kept) e = ap (before_kept form line) e

NoSeparators-front : (a b : List (List ℕ)) → NoSeparators (a ++ b) → NoSeparators a
NoSeparators-front [] b inside = tt
NoSeparators-front (line ∷ a) b inside = (inside.0, NoSeparators-front a b inside.1)

pub AreLines-front : (a b : List (List ℕ)) → AreLines (a ++ b) → AreLines a
unfolding AreLines
AreLines-front [] b are = tt
AreLines-front (line ∷ []) b are = (are.0, inl refl, tt)
AreLines-front (line ∷ next ∷ a) b are = (are.0, elim are.1 [ inl none ↦ absurd (nothing none) | inr whole ↦ inr whole ], AreLines-front (next ∷ a) b are.2) where
  nothing : next ∷ (a ++ b) ≡ [] → ⊥
  nothing e = cc

-- the stanza of lines that begin with a field's, without the comments at their end
alone-kept : (form : Form) (n : ℕ) (line : List ℕ) (lines : List (List ℕ)) → IsPart (line ∷ lines) → is_comment form line ≡ false → first_fault form [] n (line ∷ lines) ≡ None → Alone form (stanza_of form n (without_last_comments form (line ∷ lines)))
unfolding AreLines
alone-kept form n line lines part other clean =
    let kept = without_last_comments form (line ∷ lines) in
    let front = kept-front form (line ∷ lines) in
    let some = kept-some form line lines other in
    let clean_front : first_fault form [] n kept ≡ None =
    (or_then-none (first_fault form [] n kept) (first_fault form kept (n + length kept) front.0)
    (sym (first_fault-append form [] n kept front.0) ∙ ap (first_fault form [] n) (sym front.1) ∙ clean)).0 in
    record {
      lines = kept;
      are = AreLines-front kept front.0 (subst AreLines front.1 part.lines);
      inside = NoSeparators-front kept front.0 (subst NoSeparators front.1 part.inside);
      clean = λ m. first_fault-number form [] n m kept clean_front;
      first = λ m. ap (stanza_in form m) some.1 ∙ (rw other refl) ∙ ap (λ ls. Some (stanza_of form m (without_last_comments form ls))) (sym some.1) ∙ ap (λ ls. Some (stanza_of form m ls)) (kept-again form (line ∷ lines));
      n = n;
      is = refl;
    }

alone-in : (form : Form) (stanza : StanzaText) (n : ℕ) (part : List (List ℕ)) → IsPart part → first_fault form [] n part ≡ None → stanza_in form n part ≡ Some stanza → Alone form stanza
unfolding AreLines
alone-in form stanza n [] part clean is = absurd (nothing is) where
  nothing : ◌≡◌ {A = Option StanzaText} None (Some stanza) → ⊥
  nothing e = cc
alone-in form stanza n (line ∷ lines) part clean is = elim (cases_Bool (is_comment form line)) [
  | inl h ↦ alone-in form stanza (n + 1) lines (record { lines = part.lines.2; inside = part.inside.1 }) (behind h) (rw h at is)
  | inr h ↦ subst (Alone form) (some-same (rw h at is)) (alone-kept form n line lines part h clean)
] where
  behind : is_comment form line ≡ true → first_fault form [] (n + 1) lines ≡ None
  behind h = sym (first_fault-comment form line h [] (n + 1) lines) ∙ (rw h at clean)

  some-same : {x y : StanzaText} → ◌≡◌ {A = Option StanzaText} (Some x) (Some y) → x ≡ y
  some-same e = cc

-- the value of a name does not hang on the number of the line
value_named-number : (form : Form) (n m : ℕ) (lines : List (List ℕ)) (name : List ℕ) → value_named name (fields_of form n lines) ≡ value_named name (fields_of form m lines)
value_named-number form n m [] name = refl
value_named-number form n m (line ∷ lines) name = elim (cases_Bool (begins_field form line)) [
  | inl h ↦ rw h (ap (λ x. cond (same_name (name_of line) name) (Some (value_of line (continued lines))) x) (value_named-number form (n + 1) (m + 1) lines name))
  | inr h ↦ rw h (value_named-number form (n + 1) (m + 1) lines name)
]

IsAlone-from : (form : Form) (stanza : StanzaText) → Alone form stanza → IsAlone form stanza
unfolding items_of
IsAlone-from form stanza a =
    let raw : stanza.raw ≡ concat a.lines = ap (λ (s : StanzaText). s.raw) a.is in
    let lines : lines_of stanza.raw ≡ a.lines = ap lines_of raw ∙ lines_of-concat a.lines a.are in
    let line : stanza.line ≡ a.n = ap (λ (s : StanzaText). s.line) a.is in
    record {
      itself = a.is ∙ ap (λ k. stanza_of form k a.lines) (sym line) ∙ ap (stanza_of form stanza.line) (sym lines);
      alone = ap (items_of_lines form 1) (lines ∙ sym (append-nil a.lines))
          ∙ items-front form 1 a.lines [] (stanza_of form 1 a.lines) a.inside tt (a.clean 1) (a.first 1)
          ∙ ap (λ ls. Ok (stanza_of form 1 ls) ∷ []) (sym lines);
      values = λ name. ap (λ ls. value_named name (fields_of form 1 ls)) lines ∙ value_named-number form 1 a.n a.lines name
          ∙ ap (λ (s : StanzaText). value_named name s.fields) (sym a.is);
    }

-- each stanza of a text has such lines
pub alone-from_items : (form : Form) (text : List ℕ) (stanza : StanzaText) → Contains (items_of form text) (Ok stanza) → Alone form stanza
unfolding items_of
alone-from_items form text stanza has =
    let origin_is = origin form stanza 1 (slice_split is_separator (lines_of text)) (split-parts (lines_of text) (AreLines-lines_of text)) has in
    alone-in form stanza origin_is.n origin_is.part origin_is.is_part origin_is.clean origin_is.is

pub items_of-IsAlone : (form : Form) (text : List ℕ) (stanza : StanzaText) → Contains (items_of form text) (Ok stanza) → IsAlone form stanza
items_of-IsAlone form text stanza has = IsAlone-from form stanza (alone-from_items form text stanza has)
