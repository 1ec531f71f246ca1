-- The loops over the lines of a text: through the gap before a stanza, and through the stanza.
use Rattle.std.proofs.Common.{◌≡◌, ℕ, ◌+◌, ◌<◌, ◌≤◌, Bool, true, false, cond, not, ◌||◌, List, [], ◌∷◌, ◌++◌, length, take, drop, refl, sym, ap, subst, ◌∙◌, arith, append_assoc, add_assoc, None, Some, Ok, inl, inr}
use Rattle.std.proofs.lemmas.Bool.{false≢true, cases_Bool}
use Rattle.std.proofs.lemmas.List.{length-append, length-take, length-drop, length_push}
use Rattle.stanza.specs.declared.form.Form.{Form}
use Rattle.stanza.specs.declared.error.StanzaError.{StanzaError}
use Rattle.stanza.specs.Line.{lines_of, is_comment, is_separator, IsWhole}
use Rattle.stanza.specs.Field.{names_of}
use Rattle.stanza.specs.Fault.{is_open, fault_of, first_fault, or_then}
use Rattle.stanza.specs.Seen.{AreSeen}
use Rattle.stanza.specs.Stanza.{stanza_of, stanza_in, without_last_comments, items_of_lines}
use Rattle.stanza.specs.Cut.{CutsLine}
use Rattle.stanza.specs.Front.{BeginsStanza, IsFront, HasFault, SkipsGap}
use Rattle.stanza.proofs.LineLemmas.{lines_of-head}
use Rattle.stanza.proofs.FieldsLemmas.{take-more, drop-more}
use Rattle.stanza.proofs.FaultLemmas.{first_fault-append, is_open-push}
use Rattle.stanza.proofs.StanzaLemmas.{NoSeparators, NoSeparators-push, EndsStanza, items-front, items-fault, items-separator, items-comment, kept-comment, kept-field, kept-some}

-- ---- the gap

items-gap : (form : Form) (n : ℕ) (line : List ℕ) (lines : List (List ℕ)) → (is_comment form line || is_separator line) ≡ true → items_of_lines form n (line ∷ lines) ≡ items_of_lines form (n + 1) lines
items-gap form n line lines gap = elim (cases_Bool (is_separator line)) [
  | inl h ↦ items-separator form n line lines h
  | inr h ↦ items-comment form n line lines h (only (is_comment form line) (ap (λ b. is_comment form line || b) (sym h) ∙ gap))
] where
  only : (b : Bool) → (b || false) ≡ true → b ≡ true
  only true h = refl
  only false h = h

pub SkipsGap-more : (form : Form) (text rest line after : List ℕ) (lines : ℕ) → SkipsGap form text rest lines → CutsLine rest line after → (is_comment form line || is_separator line) ≡ true → SkipsGap form text after (lines + 1)
SkipsGap-more form text rest line after lines skips cut gap = record {
  items = λ n. skips.items n ∙ ap (items_of_lines form (n + lines)) cut.first ∙ items-gap form (n + lines) line (lines_of after) gap ∙ ap (λ k. items_of_lines form k (lines_of after)) (add_assoc n lines 1);
  left = omega (arith, skips.left, cut.some, ap length cut.joined, length-append line after);
}

-- ---- the stanza

-- two texts of whole lines are one
pub IsWhole-append : (a b : List ℕ) → IsWhole a → IsWhole b → IsWhole (a ++ b)
IsWhole-append a b whole_a whole_b rest =
    ap lines_of (append_assoc a b rest) ∙ whole_a (b ++ rest) ∙ ap (λ x. lines_of a ++ x) (whole_b rest)
    ∙ sym (append_assoc (lines_of a) (lines_of b) (lines_of rest)) ∙ ap (λ x. x ++ lines_of rest) (sym (whole_a b))

-- the lines up to an offset are read: none parts stanzas, none has a fault, and the fields end at `end`
pub record Walks (form : Form) (n : ℕ) (text : List ℕ) (offset lines end : ℕ) (opened : Bool) (slots : List Bool) : Type 0 where
  pub within : offset ≤ length text
  pub count : lines ≡ length (lines_of (take offset text))
  pub each : lines ≤ offset
  pub whole : offset < length text → IsWhole (take offset text)
  pub joined : lines_of text ≡ lines_of (take offset text) ++ lines_of (drop offset text)
  pub none : NoSeparators (lines_of (take offset text))
  pub clean : first_fault form [] n (lines_of (take offset text)) ≡ None
  pub kept : lines_of (take end text) ≡ without_last_comments form (lines_of (take offset text))
  pub ended : end ≤ offset
  pub open_is : opened ≡ is_open form (lines_of (take offset text))
  pub seen : AreSeen slots (names_of form (lines_of (take offset text)))

pub Walks-none : (form : Form) (n : ℕ) (text : List ℕ) (slots : List Bool) → Walks form n text 0 0 0 false slots
Walks-none form n text slots = record {
  within = omega arith;
  count = refl;
  each = omega arith;
  whole = λ _ rest. refl;
  joined = refl;
  none = tt;
  clean = refl;
  kept = refl;
  ended = omega arith;
  open_is = refl;
  seen = tt;
}

module _ (form : Form) (n : ℕ) (text : List ℕ) (offset lines end : ℕ) (opened : Bool) (slots later : List Bool) (line after : List ℕ) where
  -- the lines with one more
  lines-more : Walks form n text offset lines end opened slots → CutsLine (drop offset text) line after → lines_of (take (offset + length line) text) ≡ lines_of (take offset text) ++ line ∷ []
  lines-more walks cut =
      let short : offset < length text = omega (arith, cut.some, ap length cut.joined, length-append line after, length-drop offset text) in
      ap lines_of (take-more text line after offset walks.within cut.joined) ∙ walks.whole short line ∙ ap (λ x. lines_of (take offset text) ++ x) cut.alone

  -- where the fields end, with one more line
  kept-more : Walks form n text offset lines end opened slots → CutsLine (drop offset text) line after → (comment : Bool) → is_comment form line ≡ comment → lines_of (take (cond (not comment) (offset + length line) end) text) ≡ without_last_comments form (lines_of (take offset text) ++ line ∷ [])
  kept-more walks cut true is = walks.kept ∙ sym (kept-comment form (lines_of (take offset text)) line is)
  kept-more walks cut false is = lines-more walks cut ∙ sym (kept-field form (lines_of (take offset text)) line is)

  ended-more : end ≤ offset → (comment : Bool) → cond (not comment) (offset + length line) end ≤ offset + length line
  ended-more within true = omega arith
  ended-more within false = omega arith

  pub Walks-more : Walks form n text offset lines end opened slots → CutsLine (drop offset text) line after → is_separator line ≡ false → fault_of form (lines_of (take offset text)) (n + lines) line ≡ None → AreSeen later (names_of form (lines_of (take offset text) ++ line ∷ []))
      → Walks form n text (offset + length line) (lines + 1) (cond (not (is_comment form line)) (offset + length line) end) (not (is_comment form line)) later
  Walks-more walks cut other clean seen =
      let d = lines_of (take offset text) in
      let more = lines-more walks cut in
      let fits : offset + length line + length after ≡ length text = omega (arith, walks.within, ap length cut.joined, length-append line after, length-drop offset text) in
      let rest : drop (offset + length line) text ≡ after = drop-more text line after offset cut.joined in
      record {
        within = omega arith;
        count = ap (λ k. k + 1) walks.count ∙ sym (length_push d line) ∙ sym (ap length more);
        each = omega (arith, walks.each, cut.some);
        whole = λ short. rw (take-more text line after offset walks.within cut.joined) (IsWhole-append (take offset text) line (walks.whole (omega (arith, cut.some))) (cut.whole (omega (arith, short))));
        joined = walks.joined ∙ ap (λ x. d ++ x) cut.first ∙ sym (append_assoc d (line ∷ []) (lines_of after)) ∙ ap (λ x. x ++ lines_of after) (sym more) ∙ ap (λ x. lines_of (take (offset + length line) text) ++ lines_of x) (sym rest);
        none = subst NoSeparators (sym more) (NoSeparators-push d line walks.none other);
        clean = ap (first_fault form [] n) more ∙ first_fault-append form [] n d (line ∷ []) ∙ ap (λ f. or_then f (first_fault form d (n + length d) (line ∷ []))) walks.clean ∙ ap (λ k. or_then (fault_of form d k line) None) (ap (λ k. n + k) (sym walks.count)) ∙ ap (λ f. or_then f None) clean;
        kept = kept-more walks cut (is_comment form line) refl ∙ ap (without_last_comments form) (sym more);
        ended = ended-more walks.ended (is_comment form line);
        open_is = sym (is_open-push form d line) ∙ ap (is_open form) (sym more);
        seen = subst (λ x. AreSeen later (names_of form x)) (sym more) seen;
      }

  -- the fault of the line behind those that were read
  pub Walks-fault : (fault : StanzaError) → Walks form n text offset lines end opened slots → CutsLine (drop offset text) line after → is_separator line ≡ false → fault_of form (lines_of (take offset text)) (n + lines) line ≡ Some fault → HasFault form n text fault
  Walks-fault fault walks cut other is =
      let d = lines_of (take offset text) in
      ap (items_of_lines form n) (walks.joined ∙ ap (λ x. d ++ x) cut.first)
      ∙ items-fault form n d (lines_of after) line fault walks.none other walks.clean (ap (λ k. fault_of form d (n + k) line) (sym walks.count) ∙ is)

heads : {x y : List ℕ} {xs ys : List (List ℕ)} → x ∷ xs ≡ y ∷ ys → x ≡ y
heads e = cc

nothing : {x : List ℕ} {xs : List (List ℕ)} → [] ≡ x ∷ xs → ⊥
nothing e = cc

-- the lines of a stanza begin with one that is no comment
stanza_in-lines : (form : Form) (text : List ℕ) (d rest : List (List ℕ)) → BeginsStanza form text → lines_of text ≡ d ++ rest → EndsStanza rest → (line : List ℕ) × (lines : List (List ℕ)) × (d ≡ line ∷ lines) × (is_comment form line ≡ false)
stanza_in-lines form [] d rest begins joined ends = absurd (omega (arith, begins.some))
stanza_in-lines form (b ∷ bs) d rest begins joined ends =
    let head = lines_of-head b bs in
    go head.0 head.1 head.2 d rest joined ends where
      go : (line : List ℕ) (lines : List (List ℕ)) → lines_of (b ∷ bs) ≡ (b ∷ line) ∷ lines → (d rest : List (List ℕ)) → lines_of (b ∷ bs) ≡ d ++ rest → EndsStanza rest → (line : List ℕ) × (lines : List (List ℕ)) × (d ≡ line ∷ lines) × (is_comment form line ≡ false)
      go line lines first (l ∷ d) rest joined ends = (l, d, refl, ap (is_comment form) (heads (sym joined ∙ first)) ∙ begins.field)
      go line lines first [] [] joined ends = absurd (nothing (sym joined ∙ first))
      go line lines first [] (l ∷ rest) joined ends = absurd (false≢true (sym (begins.line l rest joined) ∙ ends))

-- bytes with a line are some
some-lines : (bytes line : List ℕ) (lines : List (List ℕ)) → lines_of bytes ≡ line ∷ lines → 0 < length bytes
some-lines [] line lines e = cc
some-lines (b ∷ bs) line lines e = omega arith

-- where a separator or nothing follows, the stanza is the first item
pub IsFront-made : (form : Form) (n : ℕ) (text : List ℕ) (offset lines end : ℕ) (opened : Bool) (slots : List Bool) → BeginsStanza form text → Walks form n text offset lines end opened slots → EndsStanza (lines_of (drop offset text)) → IsFront form n text (take end text) (drop offset text) lines
IsFront-made form n text offset lines end opened slots begins walks ends =
    let d = lines_of (take offset text) in
    let first = stanza_in-lines form text d (lines_of (drop offset text)) begins walks.joined ends in
    let stanza = stanza_of form n (without_last_comments form d) in
    let is : stanza_in form n d ≡ Some stanza = stanza_in-first form n d first.0 first.1 first.2 first.3 in
    let kept = kept-some form first.0 first.1 first.3 in
    record {
      items = ap (items_of_lines form n) walks.joined ∙ items-front form n d (lines_of (drop offset text)) stanza walks.none ends walks.clean is
          ∙ ap (λ x. Ok (stanza_of form n x) ∷ items_of_lines form (n + length d) (lines_of (drop offset text))) (sym walks.kept)
          ∙ ap (λ k. Ok (stanza_of form n (lines_of (take end text))) ∷ items_of_lines form (n + k) (lines_of (drop offset text))) (sym walks.count);
      some = some-lines (take end text) first.0 kept.0 (walks.kept ∙ ap (without_last_comments form) first.2 ∙ kept.1);
      within = omega (arith, length-take end text);
      left = omega (arith, walks.each, walks.within, length-drop offset text);
    } where
      stanza_in-first : (form : Form) (n : ℕ) (d : List (List ℕ)) (line : List ℕ) (lines : List (List ℕ)) → d ≡ line ∷ lines → is_comment form line ≡ false → stanza_in form n d ≡ Some (stanza_of form n (without_last_comments form d))
      stanza_in-first form n d line lines e other = rw e (rw other refl)

pub EndsStanza-separator : (text line after : List ℕ) → CutsLine text line after → is_separator line ≡ true → EndsStanza (lines_of text)
EndsStanza-separator text line after cut is = subst EndsStanza (sym cut.first) is
