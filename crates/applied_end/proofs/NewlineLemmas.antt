-- The text of a stanza is read as the same stanza of an index with a newline at its end.
use Rattle.std.proofs.Common.{◌≡◌, ℕ, suc, ◌+◌, ◌-◌, ◌==◌, ◌⊎◌, Bool, true, false, true≢false, cond, not, ◌&&◌, List, [], ◌∷◌, ◌++◌, map, drop, length, Some, Result, Ok, refl, sym, ap, subst, ◌∙◌, arith, eqb, eqb-true, inl, inr}
use Rattle.std.specs.Prelude.{Contains, if◌then◌else◌}
use Rattle.std.specs.Cmp.Lexicographic.{pointwise}
use Rattle.std.specs.List.{concat, ends_with, onto_first}
use Rattle.std.proofs.lemmas.Bool.{cases_Bool}
use Rattle.index.specs.Alone.{alone, alone_in, unless_refused}
use Rattle.index.specs.Index.{first_place, read_entry}
use Rattle.relation.specs.PackageStanza.{field_of, read_stanza}
use Rattle.rules.specs.ElementLaws.{Contains-head}
use Rattle.rules.specs.Stanza.{Field, Stanza}
use Rattle.stanza.specs.declared.form.Form.TheVariants.{Plain}
use Rattle.stanza.specs.declared.lines.TheConstants.{NEWLINE}
use Rattle.stanza.specs.declared.error.StanzaError.{StanzaError}
use Rattle.stanza.specs.Field.{FieldText, continued, fields_of, without_newline}
use Rattle.stanza.specs.Field as Lines
use Rattle.stanza.specs.Line.{begins_field, is_continuation, is_white, lines_of}
use Rattle.stanza.specs.Stanza.{StanzaText, items_of, stanza_of}
use Rattle.stanza.proofs.AloneLemmas.{items_of-IsAlone}
use Rattle.stanza.proofs.LineLemmas.{concat-lines_of, lines_of-head}
use Rattle.status_text.specs.Spelling.{closed}
use Rattle.status_text.proofs.MoreLemmas.{white-plain}
use Rattle.status_text.proofs.NameLemmas.{is_comment-plain}
use Rattle.status_text.proofs.ReadLemmas.{ReadsAs-one}
use Rattle.status_text.proofs.WrittenLemmas.{each-one}

-- The numbers of lines

-- the last line with its newline
abbrev last_closed : List (List ℕ) → List (List ℕ)
last_closed [] = []
last_closed (line ∷ []) = closed line ∷ []
last_closed (line ∷ next ∷ lines) = line ∷ last_closed (next ∷ lines)

lines_closed : (b : ℕ) (bs : List ℕ) → lines_of (closed (b ∷ bs)) ≡ last_closed (lines_of (b ∷ bs))
lines_closed b [] = elim (cases_Bool (eqb b 10)) [
  | inl h ↦ rw h (rw h refl)
  | inr h ↦ rw h (rw h refl)
]
lines_closed b (c ∷ bs) =
    let first = lines_of-head c bs in
    let later : lines_of (closed (c ∷ bs)) ≡ last_closed ((c ∷ first.0) ∷ first.1) = lines_closed c bs ∙ ap last_closed first.2 in
    elim (cases_Bool (eqb b 10)) [
      | inl h ↦ rw (h, later, first.2) refl
      | inr h ↦ rw (h, later, first.2) (go first.0 first.1)
    ] where
      go : (line : List ℕ) (lines : List (List ℕ)) → onto_first b (last_closed ((c ∷ line) ∷ lines)) ≡ last_closed ((b ∷ c ∷ line) ∷ lines)
      go line [] = refl
      go line (next ∷ lines) = refl

-- a line continues a field where it does with its newline
continues_closed : (line : List ℕ) → is_continuation (closed line) ≡ is_continuation line
continues_closed [] = refl
continues_closed (b ∷ []) = elim (cases_Bool (eqb b 10)) [
  | inl h ↦ rw h (by (is_white b) (λ white. white-plain b white) h)
  | inr h ↦ rw h refl
] where
  by : (white : Bool) → (white ≡ true → eqb b 10 ≡ false) → eqb b 10 ≡ true → false ≡ white
  by true plain is = absurd (true≢false (sym is ∙ plain refl))
  by false plain is = refl
continues_closed (b ∷ c ∷ bs) = refl

begins_closed : (line : List ℕ) → begins_field Plain (closed line) ≡ begins_field Plain line
begins_closed line =
    (λ i. not (is_comment-plain (closed line) i) && not (continues_closed line i)) ∙ (λ i. not (sym (is_comment-plain line) i) && not (is_continuation line))

-- the numbers of the lines that begin a field
abbrev numbers : ℕ → List Bool → List ℕ
numbers n [] = []
numbers n (begins ∷ later) = cond begins (n ∷ numbers (n + 1) later) (numbers (n + 1) later)

numbers_of : (n : ℕ) (lines : List (List ℕ)) → map (λ (field : FieldText). field.line) (fields_of Plain n lines) ≡ numbers n (map (begins_field Plain) lines)
numbers_of n [] = refl
numbers_of n (line ∷ lines) = by (begins_field Plain line) (numbers_of (n + 1) lines)
  where
    by : (b : Bool) → map (λ (field : FieldText). field.line) (fields_of Plain (n + 1) lines) ≡ numbers (n + 1) (map (begins_field Plain) lines) → map (λ (field : FieldText). field.line) (cond b (Lines.field_of n line (continued lines) ∷ fields_of Plain (n + 1) lines) (fields_of Plain (n + 1) lines))
        ≡ cond b (n ∷ numbers (n + 1) (map (begins_field Plain) lines)) (numbers (n + 1) (map (begins_field Plain) lines))
    by true later = ap (λ rest. n ∷ rest) later
    by false later = later

begun_closed : (lines : List (List ℕ)) → map (begins_field Plain) (last_closed lines) ≡ map (begins_field Plain) lines
begun_closed [] = refl
begun_closed (line ∷ []) = ap (λ b. b ∷ []) (begins_closed line)
begun_closed (line ∷ next ∷ lines) = ap (λ later. begins_field Plain line ∷ later) (begun_closed (next ∷ lines))

numbers_closed : (text : List ℕ) → map (begins_field Plain) (lines_of (closed text)) ≡ map (begins_field Plain) (lines_of text) ⊎ (text ≡ [])
numbers_closed [] = inr refl
numbers_closed (b ∷ bs) = inl (ap (map (begins_field Plain)) (lines_closed b bs) ∙ begun_closed (lines_of (b ∷ bs)))

-- One stanza

-- fields of the same names and values, on the same lines
same_fields : (fields others : List FieldText) → map field_of fields ≡ map field_of others
    → map (λ (field : FieldText). field.line) fields ≡ map (λ (field : FieldText). field.line) others → fields ≡ others
same_fields [] [] same lines = refl
same_fields [] (other ∷ others) same lines = absurd (let e = same in cc)
same_fields (field ∷ fields) [] same lines = absurd (let e = same in cc)
same_fields (field ∷ fields) (other ∷ others) same lines =
    let first : field_of field ≡ field_of other = let e = same in cc in
    let rest : map field_of fields ≡ map field_of others = let e = same in cc in
    let line : field.line ≡ other.line = let e = lines in cc in
    let later : map (λ (f : FieldText). f.line) fields ≡ map (λ (f : FieldText). f.line) others = let e = lines in cc in
    let name : field.name ≡ other.name = ap (λ (f : Field). f.name) first in
    let value : field.value ≡ other.value = ap (λ (f : Field). f.value) first in
    λ i. record { name = name i; value = value i; line = line i } ∷ same_fields fields others rest later i

-- the text is one stanza, from its first line to its last
abbrev pub IsOneStanza : List ℕ → Type 0
IsOneStanza text = items_of Plain text ≡ Ok (stanza_of Plain 1 (lines_of text)) ∷ []

one_same : (a b : StanzaText) → ◌≡◌ {A = List (Result StanzaText StanzaError)} (Ok a ∷ []) (Ok b ∷ []) → a ≡ b
one_same a b e = let h = e in cc

raw_same : (a b : List ℕ) → Some a ≡ Some b → a ≡ b
raw_same a b e = let h = e in cc

-- with a newline at its end it is one stanza of the same names and values
closed_stanza : (text : List ℕ) → IsOneStanza text
    → IsOneStanza (closed text) × (map field_of (fields_of Plain 1 (lines_of (closed text))) ≡ map field_of (fields_of Plain 1 (lines_of text)))
closed_stanza text one =
    let within : Contains (items_of Plain text) (Ok st) = subst (λ items. Contains items (Ok st)) (sym one) (Contains-head (Ok st) []) in
    let reads = ReadsAs-one (map field_of st.fields) (closed st.raw) (each-one (read_stanza st ∷ []) (inl (text, st, within, refl), tt)).0 in
    subst (λ (t : List ℕ). IsOneStanza (closed t) × (map field_of (fields_of Plain 1 (lines_of (closed t))) ≡ map field_of st.fields)) (concat-lines_of text)
    (by reads.0 reads.1 reads.2)
  where
    st : StanzaText
    st = stanza_of Plain 1 (lines_of text)

    by : (read : List StanzaText) → items_of Plain (closed st.raw) ≡ map Ok read
        → map read_stanza read ≡ record { fields = map field_of st.fields; bytes = Some (closed st.raw) } ∷ []
        → IsOneStanza (closed st.raw) × (map field_of (fields_of Plain 1 (lines_of (closed st.raw))) ≡ map field_of st.fields)
    by [] items same = absurd (let e = same in cc)
    by (first ∷ other ∷ more) items same = absurd (let e = same in cc)
    by (first ∷ []) items same =
        let is : read_stanza first ≡ record { fields = map field_of st.fields; bytes = Some (closed st.raw) } = let e = same in cc in
        let raw : first.raw ≡ closed st.raw = raw_same first.raw (closed st.raw) (ap (λ (s : Stanza). s.bytes) is) in
        let itself = items_of-IsAlone Plain (closed st.raw) first (subst (λ all_items. Contains all_items (Ok first)) (sym items) (Contains-head (Ok first) [])) in
        let alone : IsOneStanza (closed st.raw) = subst (λ (t : List ℕ). IsOneStanza t) raw itself.alone in
        let whole : stanza_of Plain 1 (lines_of (closed st.raw)) ≡ first = one_same (stanza_of Plain 1 (lines_of (closed st.raw))) first (sym alone ∙ items) in
        (alone, ap (λ (s : StanzaText). map field_of s.fields) whole ∙ ap (λ (s : Stanza). s.fields) is)

-- no text has no stanza
no_stanza : (stanza : StanzaText) → items_of Plain [] ≡ Ok stanza ∷ [] → ⊥
unfolding items_of
no_stanza stanza e = cc

-- and it is read as the same stanza of an index
pub closed_alone : (arch text : List ℕ) → IsOneStanza text → alone arch (closed text) ≡ alone arch text
closed_alone arch text one =
    let (again, fields) = closed_stanza text one in
    elim (numbers_closed text) [
      | inl begun ↦
          let lines = numbers_of 1 (lines_of (closed text)) ∙ ap (numbers 1) begun ∙ sym (numbers_of 1 (lines_of text)) in
          let same = same_fields (fields_of Plain 1 (lines_of (closed text))) (fields_of Plain 1 (lines_of text)) fields lines in
          ap (alone_in arch) again
          ∙ (λ i. unless_refused (read_entry arch (first_place 1) (record { line = 1; raw = concat (lines_of (closed text)); fields = same i })))
          ∙ sym (ap (alone_in arch) one)
      | inr none ↦ absurd (no_stanza (stanza_of Plain 1 (lines_of text)) (ap (items_of Plain) (sym none) ∙ one))
    ]

-- the bytes of a stanza of a text are one
pub raw_is_one : (text : List ℕ) (stanza : StanzaText) → Contains (items_of Plain text) (Ok stanza) → IsOneStanza stanza.raw
raw_is_one text stanza within = (items_of-IsAlone Plain text stanza within).alone

-- The newline

abbrev ends : List ℕ → Bool
ends text = ends_with (λ a b. a == b) text (NEWLINE ∷ [])

ends_behind : (b c : ℕ) (bs : List ℕ) → ends (b ∷ c ∷ bs) ≡ ends (c ∷ bs)
ends_behind b c bs =
    let e : length (b ∷ c ∷ bs) - 1 ≡ suc (length (c ∷ bs) - 1) = omega arith in
    ap (λ n. pointwise (λ a b. a == b) (NEWLINE ∷ []) (drop n (b ∷ c ∷ bs))) e

pub ended_closed : (text : List ℕ) → (if ends text then text else text ++ NEWLINE ∷ []) ≡ closed text
ended_closed [] = refl
ended_closed (b ∷ []) = elim (cases_Bool (eqb b 10)) [
  | inl h ↦ subst (λ (x : ℕ). (if ends (x ∷ []) then x ∷ [] else x ∷ NEWLINE ∷ []) ≡ closed (x ∷ [])) (sym (eqb-true b 10 h)) refl
  | inr h ↦ rw (h, by (eqb 10 b) refl h) refl
] where
  by : (t : Bool) → eqb 10 b ≡ t → eqb b 10 ≡ false → t ≡ false
  by false is not_newline = refl
  by true is not_newline = absurd (true≢false (ap (λ (x : ℕ). eqb x 10) (eqb-true 10 b is) ∙ not_newline))
ended_closed (b ∷ c ∷ bs) =
    ap (λ t. if t then b ∷ c ∷ bs else b ∷ c ∷ (bs ++ NEWLINE ∷ [])) (ends_behind b c bs) ∙ by (ends (c ∷ bs)) ∙ ap (λ rest. b ∷ rest) (ended_closed (c ∷ bs))
  where
    by : (t : Bool) → (if t then b ∷ c ∷ bs else b ∷ c ∷ (bs ++ NEWLINE ∷ [])) ≡ b ∷ (if t then c ∷ bs else c ∷ (bs ++ NEWLINE ∷ []))
    by true = refl
    by false = refl
