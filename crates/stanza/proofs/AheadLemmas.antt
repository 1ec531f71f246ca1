-- The loops over the lines of a text of which more may come: through the gap before a stanza, and through the stanza.
use Rattle.std.proofs.Common.{◌≡◌, ℕ, ◌+◌, ◌-◌, ◌<◌, ◌≤◌, Bool, true, false, cond, not, ◌||◌, List, [], ◌∷◌, ◌++◌, length, take, drop, refl, sym, ap, subst, ◌∙◌, arith, append_assoc, add_assoc, add-zero, ltb, eqb, None, Some, Ok, inl, inr}
use Rattle.std.proofs.lemmas.Bool.{false≢true, cases_Bool, cases_lt, lt-ltb, le-ltb}
use Rattle.std.proofs.lemmas.List.{append-nil, take-append-drop, drop-drop, length-append, length-take, length-drop, length_push, drop_all}
use Rattle.std.proofs.Math.Seq.{take-add}
use Rattle.stanza.specs.declared.form.Form.{Form}
use Rattle.stanza.specs.declared.error.StanzaError.{StanzaError}
use Rattle.stanza.specs.declared.known.Known.{Known}
use Rattle.stanza.specs.declared.starts.FieldStart.{FieldStart}
use Rattle.stanza.specs.Line.{lines_of, begins_field, is_comment, is_separator, IsWhole}
use Rattle.stanza.specs.Field.{name_of, names_of}
use Rattle.stanza.specs.Fault.{is_open, fault_of, first_fault, or_then}
use Rattle.stanza.specs.Known.{AreKnown}
use Rattle.stanza.specs.Stanza.{stanza_of, stanza_in, before_kept, without_last_comments}
use Rattle.stanza.specs.Starts.{starts_of}
use Rattle.stanza.specs.Streamed.{BeginsAhead, EndsLine, IsAhead, IsFaulty, IsOpen, MayFollow, SkipsAhead, has_newline, lines_within, read_lines, read_within}
use Rattle.stanza.proofs.FaultLemmas.{first_fault-append, is_open-push}
use Rattle.stanza.proofs.FrontLemmas.{IsWhole-append}
use Rattle.stanza.proofs.StanzaLemmas.{NoSeparators, NoSeparators-push, kept-comment, kept-field, kept-some}
use Rattle.stanza.proofs.StreamLemmas.{StepsLine, line-step, no-line-within, read-comment, read-fault, read-front, read-last, read-none, read-open, read-separator}

-- ---- the gap

read-gap : (longer : Bool) (form : Form) (n : ℕ) (line : List ℕ) (lines : List (List ℕ)) → (is_comment form line || is_separator line) ≡ true → read_lines longer form n (line ∷ lines) ≡ read_lines longer form (n + 1) lines
read-gap longer form n line lines gap = elim (cases_Bool (is_separator line)) [
  | inl h ↦ read-separator longer form n line lines h
  | inr h ↦ read-comment longer form n line lines h (only (is_comment form line) (ap (λ b. is_comment form line || b) (sym h) ∙ gap))
] where
  only : (b : Bool) → (b || false) ≡ true → b ≡ true
  only true h = refl
  only false h = h

gap-step : (is_over : Bool) (form : Form) (n : ℕ) (text later : List ℕ) (len most : ℕ) → EndsLine is_over text len → (is_comment form (take len text) || is_separator (take len text)) ≡ true → MayFollow is_over later → length text ≤ most → read_within form n most (text ++ later) ≡ read_within form (n + 1) (most - len) (drop len text ++ later)
gap-step is_over form n text later len most ends gap may fits =
    let step = line-step is_over text later len most ends may fits in
    ap (λ ls. read_lines (ltb most (length (text ++ later))) form n ls) step.lines
    ∙ ap (λ b. read_lines b form n (take len text ∷ lines_within (most - len) (drop len text ++ later))) step.longer
    ∙ read-gap (ltb (most - len) (length (drop len text ++ later))) form n (take len text) (lines_within (most - len) (drop len text ++ later)) gap

pub SkipsAhead-none : (is_over : Bool) (form : Form) (n : ℕ) (text : List ℕ) → SkipsAhead is_over form n text 0 0
SkipsAhead-none is_over form n text = record {
  items = λ later most may fits. ap (λ k. read_within form k most (text ++ later)) (sym (add-zero n)) ∙ ap (λ k. read_within form (n + 0) k (text ++ later)) (let e : most ≡ most - 0 = omega arith in e);
  within = omega arith;
  each = omega arith;
}

pub SkipsAhead-more : (is_over : Bool) (form : Form) (n : ℕ) (text : List ℕ) (offset len lines : ℕ) → SkipsAhead is_over form n text offset lines → EndsLine is_over (drop offset text) len → (is_comment form (take len (drop offset text)) || is_separator (take len (drop offset text))) ≡ true → SkipsAhead is_over form n text (offset + len) (lines + 1)
SkipsAhead-more is_over form n text offset len lines skips ends gap =
    let left : length (drop offset text) ≡ length text - offset = length-drop offset text in
    let behind : drop len (drop offset text) ≡ drop (offset + len) text = drop-drop len offset text in
    record {
      items = λ later most may fits.
          let few : most - offset - len ≡ most - (offset + len) = omega arith in
          skips.items later most may fits
          ∙ gap-step is_over form (n + lines) (drop offset text) later len (most - offset) ends gap may (omega (arith, left, fits, skips.within))
          ∙ ap (λ k. read_within form k (most - offset - len) (drop len (drop offset text) ++ later)) (add_assoc n lines 1)
          ∙ ap (λ k. read_within form (n + (lines + 1)) k (drop len (drop offset text) ++ later)) few
          ∙ ap (λ x. read_within form (n + (lines + 1)) (most - (offset + len)) (x ++ later)) behind;
      within = omega (arith, ends.within, left, skips.within);
      each = omega (arith, skips.each, ends.some);
    }

-- ---- the line behind a gap

any-front : (front back : List ℕ) → has_newline front ≡ true → has_newline (front ++ back) ≡ true
any-front [] back h = absurd (false≢true h)
any-front (b ∷ front) back h = go (eqb b 10) (has_newline front) h (any-front front back) where
  go : (first rest : Bool) → (first || rest) ≡ true → (rest ≡ true → has_newline (front ++ back) ≡ true) → (first || has_newline (front ++ back)) ≡ true
  go true rest h later = refl
  go false rest h later = later h

newline-in-front : (text : List ℕ) (len : ℕ) → has_newline (take len text) ≡ true → has_newline text ≡ true
newline-in-front text len some = ap has_newline (sym (take-append-drop len text)) ∙ any-front (take len text) (drop len text) some

-- no line is whole where more may come and no newline is there
pub no-whole-line : (is_over : Bool) (text : List ℕ) (len : ℕ) → is_over ≡ false → has_newline text ≡ false → EndsLine is_over text len → ⊥
no-whole-line is_over text len more none ends =
    false≢true (sym none ∙ newline-in-front text len (ends.newline (λ over. absurd (false≢true (sym more ∙ over)))))

heads : {x y : List ℕ} {xs ys : List (List ℕ)} → x ∷ xs ≡ y ∷ ys → x ≡ y
heads e = cc

-- the first line is but one
pub same-line : (is_over : Bool) (text : List ℕ) (a b : ℕ) → EndsLine is_over text a → EndsLine is_over text b → take a text ≡ take b text
same-line is_over text a b first second = heads (sym (first.first [] (λ _. refl)) ∙ second.first [] (λ _. refl))

pub BeginsAhead-open : (is_over : Bool) (form : Form) (text : List ℕ) → is_over ≡ false → has_newline text ≡ false → BeginsAhead is_over form text
BeginsAhead-open is_over form text more none = λ len ends. absurd (no-whole-line is_over text len more none ends)

pub BeginsAhead-line : (is_over : Bool) (form : Form) (text : List ℕ) (len : ℕ) → EndsLine is_over text len → (is_comment form (take len text) || is_separator (take len text)) ≡ false → BeginsAhead is_over form text
BeginsAhead-line is_over form text len ends other = λ k there.
    ap (λ line. is_comment form line || is_separator line) (same-line is_over text k len there ends) ∙ other

pub BeginsAhead-none : (is_over : Bool) (form : Form) (text : List ℕ) → length text ≤ 0 → BeginsAhead is_over form text
BeginsAhead-none is_over form text none = λ len ends. absurd (omega (arith, ends.some, ends.within, none))

-- ---- the stanza

-- the lines up to an offset and those behind it, and whether these are longer than is read
pub record StepsBy (text later : List ℕ) (offset most : ℕ) : Type 0 where
  pub lines : lines_within most (text ++ later) ≡ lines_of (take offset text) ++ lines_within (most - offset) (drop offset text ++ later)
  pub longer : ltb most (length (text ++ later)) ≡ ltb (most - offset) (length (drop offset text ++ later))

-- the lines up to an offset are read: none parts stanzas, none has a fault, and the fields end at `end`
pub record Reads (is_over : Bool) (form : Form) (n : ℕ) (text : List ℕ) (offset lines end : ℕ) (opened : Bool) (known : Known) (starts : List FieldStart) : Type 0 where
  pub within : offset ≤ length text
  pub count : lines ≡ length (lines_of (take offset text))
  pub each : lines ≤ offset
  pub whole : (is_over ≡ true → 0 < length (drop offset text)) → IsWhole (take offset text)
  pub split : (later : List ℕ) (most : ℕ) → MayFollow is_over later → length text ≤ most → StepsBy text later offset most
  pub none : NoSeparators (lines_of (take offset text))
  pub clean : first_fault form [] n (lines_of (take offset text)) ≡ None
  pub kept : lines_of (take end text) ≡ without_last_comments form (lines_of (take offset text))
  pub ended : end ≤ offset
  pub open_is : opened ≡ is_open form (lines_of (take offset text))
  pub known_is : AreKnown known (names_of form (lines_of (take offset text)))
  pub starts_are : starts ≡ starts_of form 0 n (lines_of (take offset text))
  pub first : 0 < offset → (line : List ℕ) × (more : List (List ℕ)) × (lines_of (take offset text) ≡ line ∷ more) × (is_comment form line ≡ false)

pub Reads-none : (is_over : Bool) (form : Form) (n : ℕ) (text : List ℕ) (known : Known) → AreKnown known [] → Reads is_over form n text 0 0 0 false known []
Reads-none is_over form n text known none = record {
  within = omega arith;
  count = refl;
  each = omega arith;
  whole = λ _ rest. refl;
  split = λ later most may fits. let e : most ≡ most - 0 = omega arith in record {
    lines = ap (λ k. lines_within k (text ++ later)) e;
    longer = ap (λ k. ltb k (length (text ++ later))) e;
  };
  none = tt;
  clean = refl;
  kept = refl;
  ended = omega arith;
  open_is = refl;
  known_is = none;
  starts_are = refl;
  first = λ some. absurd (omega (arith, some));
}

module _ (is_over : Bool) (form : Form) (n : ℕ) (text : List ℕ) (offset lines end : ℕ) (opened : Bool) (known : Known) (starts : List FieldStart) (len : ℕ) where
  -- something follows what was read
  more-behind : EndsLine is_over (drop offset text) len → is_over ≡ true → 0 < length (drop offset text)
  more-behind ends over = omega (arith, ends.some, ends.within)

  take-line : take (offset + len) text ≡ take offset text ++ take len (drop offset text)
  take-line = take-add offset len text

  -- the lines with one more
  lines-more : Reads is_over form n text offset lines end opened known starts → EndsLine is_over (drop offset text) len → lines_of (take (offset + len) text) ≡ lines_of (take offset text) ++ take len (drop offset text) ∷ []
  lines-more reads ends =
      ap lines_of take-line ∙ reads.whole (more-behind ends) (take len (drop offset text)) ∙ ap (λ x. lines_of (take offset text) ++ x) ends.alone

  -- where the fields end, with one more line
  kept-more : Reads is_over form n text offset lines end opened known starts → EndsLine is_over (drop offset text) len → (comment : Bool) → is_comment form (take len (drop offset text)) ≡ comment → lines_of (take (cond (not comment) (offset + len) end) text) ≡ without_last_comments form (lines_of (take offset text) ++ take len (drop offset text) ∷ [])
  kept-more reads ends true is = reads.kept ∙ sym (kept-comment form (lines_of (take offset text)) (take len (drop offset text)) is)
  kept-more reads ends false is = lines-more reads ends ∙ sym (kept-field form (lines_of (take offset text)) (take len (drop offset text)) is)

  ended-more : end ≤ offset → (comment : Bool) → cond (not comment) (offset + len) end ≤ offset + len
  ended-more within true = omega arith
  ended-more within false = omega arith

  -- the line after those that were read, and what is left
  next-line : Reads is_over form n text offset lines end opened known starts → EndsLine is_over (drop offset text) len → (later : List ℕ) (most : ℕ) → MayFollow is_over later → length text ≤ most → StepsLine (drop offset text) later len (most - offset)
  next-line reads ends later most may fits = line-step is_over (drop offset text) later len (most - offset) ends may (omega (arith, length-drop offset text, fits, reads.within))

  first-more : Reads is_over form n text offset lines end opened known starts → EndsLine is_over (drop offset text) len → (offset ≡ 0 → is_comment form (take len (drop offset text)) ≡ false) → (line : List ℕ) × (more : List (List ℕ)) × (lines_of (take (offset + len) text) ≡ line ∷ more) × (is_comment form line ≡ false)
  first-more reads ends begins = elim (cases_lt 0 offset) [
    | inl some ↦ let f = reads.first some in (f.0, f.1 ++ take len (drop offset text) ∷ [], lines-more reads ends ∙ ap (λ x. x ++ take len (drop offset text) ∷ []) f.2, f.3)
    | inr none ↦ let z : offset ≡ 0 = omega (arith, none) in (take len (drop offset text), [], lines-more reads ends ∙ ap (λ k. lines_of (take k text) ++ take len (drop offset text) ∷ []) z, begins z)
  ]

  pub Reads-more : (later-known : Known) (later-starts : List FieldStart) → Reads is_over form n text offset lines end opened known starts → EndsLine is_over (drop offset text) len
      → is_separator (take len (drop offset text)) ≡ false → (offset ≡ 0 → is_comment form (take len (drop offset text)) ≡ false)
      → fault_of form (lines_of (take offset text)) (n + lines) (take len (drop offset text)) ≡ None
      → AreKnown later-known (names_of form (lines_of (take offset text) ++ take len (drop offset text) ∷ []))
      → later-starts ≡ starts_of form 0 n (lines_of (take offset text) ++ take len (drop offset text) ∷ [])
      → Reads is_over form n text (offset + len) (lines + 1) (cond (not (is_comment form (take len (drop offset text)))) (offset + len) end) (not (is_comment form (take len (drop offset text)))) later-known later-starts
  Reads-more later-known later-starts reads ends other begins clean known_is starts-are =
      let d = lines_of (take offset text) in
      let line = take len (drop offset text) in
      let more = lines-more reads ends in
      let behind : drop len (drop offset text) ≡ drop (offset + len) text = drop-drop len offset text in
      record {
        within = omega (arith, ends.within, length-drop offset text, reads.within);
        count = ap (λ k. k + 1) reads.count ∙ sym (length_push d line) ∙ sym (ap length more);
        each = omega (arith, reads.each, ends.some);
        whole = λ follows. subst IsWhole (sym take-line) (IsWhole-append (take offset text) line (reads.whole (more-behind ends)) (ends.whole (λ over. subst (λ x. 0 < length x) (sym behind) (follows over))));
        split = λ later most may fits.
            let before = reads.split later most may fits in
            let next = next-line reads ends later most may fits in
            let few : most - offset - len ≡ most - (offset + len) = omega arith in
            record {
              lines = before.lines ∙ ap (λ x. d ++ x) next.lines ∙ sym (append_assoc d (line ∷ []) (lines_within (most - offset - len) (drop len (drop offset text) ++ later)))
                  ∙ ap (λ x. x ++ lines_within (most - offset - len) (drop len (drop offset text) ++ later)) (sym more)
                  ∙ ap (λ k. lines_of (take (offset + len) text) ++ lines_within k (drop len (drop offset text) ++ later)) few
                  ∙ ap (λ x. lines_of (take (offset + len) text) ++ lines_within (most - (offset + len)) (x ++ later)) behind;
              longer = before.longer ∙ next.longer ∙ ap (λ k. ltb k (length (drop len (drop offset text) ++ later))) few ∙ ap (λ x. ltb (most - (offset + len)) (length (x ++ later))) behind;
            };
        none = subst NoSeparators (sym more) (NoSeparators-push d line reads.none other);
        clean = ap (first_fault form [] n) more ∙ first_fault-append form [] n d (line ∷ []) ∙ ap (λ f. or_then f (first_fault form d (n + length d) (line ∷ []))) reads.clean ∙ ap (λ k. or_then (fault_of form d k line) None) (ap (λ k. n + k) (sym reads.count)) ∙ ap (λ f. or_then f None) clean;
        kept = kept-more reads ends (is_comment form line) refl ∙ ap (without_last_comments form) (sym more);
        ended = ended-more reads.ended (is_comment form line);
        open_is = sym (is_open-push form d line) ∙ ap (is_open form) (sym more);
        known_is = subst (λ x. AreKnown later-known (names_of form x)) (sym more) known_is;
        starts_are = starts-are ∙ ap (starts_of form 0 n) (sym more);
        first = λ _. first-more reads ends begins;
      }

  -- the fault of the line behind those that were read
  pub Reads-fault : (fault : StanzaError) → Reads is_over form n text offset lines end opened known starts → EndsLine is_over (drop offset text) len → is_separator (take len (drop offset text)) ≡ false → fault_of form (lines_of (take offset text)) (n + lines) (take len (drop offset text)) ≡ Some fault → IsFaulty is_over form n text fault
  Reads-fault fault reads ends other is = λ later most may fits.
      let d = lines_of (take offset text) in
      let line = take len (drop offset text) in
      let next = next-line reads ends later most may fits in
      ap (λ ls. read_lines (ltb most (length (text ++ later))) form n ls) ((reads.split later most may fits).lines ∙ ap (λ x. d ++ x) next.lines)
      ∙ read-fault (ltb most (length (text ++ later))) form n d (lines_within (most - offset - len) (drop len (drop offset text) ++ later)) line fault reads.none other reads.clean (ap (λ k. fault_of form d (n + k) line) (sym reads.count) ∙ is)

-- the stanza of lines that begin with one that is no comment
stanza_in-lines : (form : Form) (n : ℕ) (d : List (List ℕ)) (line : List ℕ) (lines : List (List ℕ)) → d ≡ line ∷ lines → is_comment form line ≡ false → stanza_in form n d ≡ Some (stanza_of form n (without_last_comments form d))
stanza_in-lines form n d line lines e other = rw e (rw other refl)

-- bytes with a line are some
some-lines : (bytes line : List ℕ) (lines : List (List ℕ)) → lines_of bytes ≡ line ∷ lines → 0 < length bytes
some-lines [] line lines e = cc
some-lines (b ∷ bs) line lines e = omega arith

comments-start : (form : Form) (at n : ℕ) (line : List ℕ) (kept : List (List ℕ)) → starts_of form at n (before_kept form line kept) ≡ starts_of form at n (line ∷ kept)
comments-start form at n line [] = elim (cases_Bool (is_comment form line)) [
  | inl h ↦ rw h refl
  | inr h ↦ ap (starts_of form at n) (alone h)
] where
  alone : is_comment form line ≡ false → before_kept form line [] ≡ line ∷ []
  alone h = rw h refl
comments-start form at n line (next ∷ kept) = refl

-- comments at the end begin no field
starts-kept : (form : Form) (at n : ℕ) (lines : List (List ℕ)) → starts_of form at n (without_last_comments form lines) ≡ starts_of form at n lines
starts-kept form at n [] = refl
starts-kept form at n (line ∷ lines) =
    comments-start form at n line (without_last_comments form lines)
    ∙ ap (λ x. cond (begins_field form line) (record { at = at; name_len = length (name_of line); line = n } ∷ x) x) (starts-kept form (at + length line) (n + 1) lines)

module _ (is_over : Bool) (form : Form) (n : ℕ) (text : List ℕ) (offset lines end : ℕ) (opened : Bool) (known : Known) (starts : List FieldStart) where
  the-stanza : Reads is_over form n text offset lines end opened known starts → 0 < offset → stanza_in form n (lines_of (take offset text)) ≡ Some (stanza_of form n (lines_of (take end text)))
  the-stanza reads some =
      let f = reads.first some in
      stanza_in-lines form n (lines_of (take offset text)) f.0 f.1 f.2 f.3 ∙ ap (λ x. Some (stanza_of form n x)) (sym reads.kept)

  some-bytes : Reads is_over form n text offset lines end opened known starts → 0 < offset → 0 < end
  some-bytes reads some =
      let f = reads.first some in
      let kept = kept-some form f.0 f.1 f.3 in
      omega (arith, some-lines (take end text) f.0 kept.0 (reads.kept ∙ ap (without_last_comments form) f.2 ∙ kept.1), length-take end text)

  the-starts : Reads is_over form n text offset lines end opened known starts → starts ≡ starts_of form 0 n (lines_of (take end text))
  the-starts reads = reads.starts_are ∙ sym (starts-kept form 0 n (lines_of (take offset text))) ∙ ap (starts_of form 0 n) (sym reads.kept)

  -- before a separator
  pub IsAhead-before : (len : ℕ) → Reads is_over form n text offset lines end opened known starts → 0 < offset → EndsLine is_over (drop offset text) len → is_separator (take len (drop offset text)) ≡ true → IsAhead is_over form n text end offset lines × (starts ≡ starts_of form 0 n (lines_of (take end text)))
  IsAhead-before len reads some ends separator = (
    record {
      items = λ later most may fits.
          let d = lines_of (take offset text) in
          let line = take len (drop offset text) in
          let longer = ltb most (length (text ++ later)) in
          let split = reads.split later most may fits in
          let next = line-step is_over (drop offset text) later len (most - offset) ends may (omega (arith, length-drop offset text, fits, reads.within)) in
          let rest = lines_within (most - offset - len) (drop len (drop offset text) ++ later) in
          ap (λ ls. read_lines longer form n ls) (split.lines ∙ ap (λ x. d ++ x) next.lines)
          ∙ read-front longer form n d rest line (stanza_of form n (lines_of (take end text))) reads.none separator reads.clean (the-stanza reads some)
          ∙ ap (λ ls. Ok (stanza_of form n (lines_of (take end text))) ∷ read_lines longer form (n + length d) ls) (sym next.lines)
          ∙ ap (λ k. Ok (stanza_of form n (lines_of (take end text))) ∷ read_lines longer form (n + k) (lines_within (most - offset) (drop offset text ++ later))) (sym reads.count)
          ∙ ap (λ b. Ok (stanza_of form n (lines_of (take end text))) ∷ read_lines b form (n + lines) (lines_within (most - offset) (drop offset text ++ later))) split.longer;
      some = some-bytes reads some;
      order = reads.ended;
      within = reads.within;
      each = reads.each;
    },
    the-starts reads,
  )

  -- at the text's end
  pub IsAhead-last : Reads is_over form n text offset lines end opened known starts → 0 < offset → length text ≤ offset → is_over ≡ true → IsAhead is_over form n text end offset lines × (starts ≡ starts_of form 0 n (lines_of (take end text)))
  IsAhead-last reads some all over = (
    record {
      items = λ later most may fits.
          let d = lines_of (take offset text) in
          let split = reads.split later most may fits in
          let left : drop offset text ++ later ≡ [] = ap (λ x. x ++ later) (drop_all offset text all) ∙ may over in
          let short : ltb most (length (text ++ later)) ≡ false = le-ltb most (length (text ++ later)) (omega (arith, fits, length-append text later, ap length (may over))) in
          let none : lines_within (most - offset) (drop offset text ++ later) ≡ [] = ap (lines_within (most - offset)) left ∙ rw (le-ltb (most - offset) 0 (omega arith)) refl in
          ap (λ ls. read_lines (ltb most (length (text ++ later))) form n ls) (split.lines ∙ ap (λ x. d ++ x) none ∙ append-nil d)
          ∙ ap (λ b. read_lines b form n d) short
          ∙ read-last form n d (stanza_of form n (lines_of (take end text))) reads.none reads.clean (the-stanza reads some)
          ∙ ap (λ x. Ok (stanza_of form n (lines_of (take end text))) ∷ x) (sym (ap (read_within form (n + lines) (most - offset)) left ∙ read-none form (n + lines) (most - offset)));
      some = some-bytes reads some;
      order = reads.ended;
      within = reads.within;
      each = reads.each;
    },
    the-starts reads,
  )

  -- where more is needed
  pub Reads-open : Reads is_over form n text offset lines end opened known starts → is_over ≡ false → has_newline (drop offset text) ≡ false → IsOpen form n text
  Reads-open reads more none = λ later follows.
      let d = lines_of (take offset text) in
      let split = reads.split later (length text) (λ over. absurd (false≢true (sym more ∙ over))) (omega arith) in
      let same : length text - offset ≡ length (drop offset text) = sym (length-drop offset text) in
      let long : ltb (length text) (length (text ++ later)) ≡ true = lt-ltb (length text) (length (text ++ later)) (omega (arith, follows, length-append text later)) in
      ap (λ ls. read_lines (ltb (length text) (length (text ++ later))) form n ls) (split.lines ∙ ap (λ k. d ++ lines_within k (drop offset text ++ later)) same ∙ ap (λ x. d ++ x) (no-line-within (drop offset text) later none follows) ∙ append-nil d)
      ∙ ap (λ b. read_lines b form n d) long
      ∙ read-open form n d reads.none reads.clean

-- the first line is neither a comment nor a separator
first-line : (is_over : Bool) (form : Form) (text : List ℕ) (len : ℕ) → BeginsAhead is_over form text → EndsLine is_over text len → (is_comment form (take len text) ≡ false) × (is_separator (take len text) ≡ false)
first-line is_over form text len begins ends = both (is_comment form (take len text)) (is_separator (take len text)) (begins len ends) where
  both : (a b : Bool) → (a || b) ≡ false → (a ≡ false) × (b ≡ false)
  both true b h = absurd (false≢true (sym h))
  both false b h = (refl, h)

pub separator-behind : (is_over : Bool) (form : Form) (text : List ℕ) (offset len : ℕ) → BeginsAhead is_over form text → EndsLine is_over (drop offset text) len → is_separator (take len (drop offset text)) ≡ true → 0 < offset
separator-behind is_over form text offset len begins ends separator = elim (cases_lt 0 offset) [
  | inl some ↦ some
  | inr none ↦ let z : offset ≡ 0 = omega (arith, none) in
      absurd (false≢true (sym ((first-line is_over form text len begins (subst (λ k. EndsLine is_over (drop k text) len) z ends)).1) ∙ sym (ap (λ k. is_separator (take len (drop k text))) z) ∙ separator))
]

pub no-comment-first : (is_over : Bool) (form : Form) (text : List ℕ) (offset len : ℕ) → BeginsAhead is_over form text → EndsLine is_over (drop offset text) len → offset ≡ 0 → is_comment form (take len (drop offset text)) ≡ false
no-comment-first is_over form text offset len begins ends z =
    ap (λ k. is_comment form (take len (drop k text))) z ∙ (first-line is_over form text len begins (subst (λ k. EndsLine is_over (drop k text) len) z ends)).0
