-- The name at the front of a line: where a colon stands behind the bytes that a name may have, these are the name.
use Rattle.std.proofs.Common.{◌≡◌, ℕ, suc, ◌+◌, Bool, true, false, not, ◌&&◌, ◌||◌, List, [], ◌∷◌, take, drop, refl, sym, ap, subst, ◌∙◌, arith, eqb, None, Some, inl, inr}
use Rattle.std.proofs.lemmas.Bool.{cases_Bool, eqb-true}
use Rattle.std.specs.List.{list_all, list_any, position_or_len, prefix_len}
use Rattle.stanza.specs.declared.form.Form.{Form}
use Rattle.stanza.specs.declared.error.StanzaError.{StanzaError}
use Rattle.stanza.specs.declared.error.StanzaError.TheVariants.{BadLine, BadFieldName}
use Rattle.stanza.specs.Line.{is_comment, is_continuation}
use Rattle.stanza.specs.Field.{is_colon, is_name_byte, is_name, name_of}
use Rattle.stanza.specs.Fault.{fault_of}
use Rattle.stanza.specs.Name.{begins_colon, name_fault}
use Rattle.stanza.proofs.FaultLemmas.{fault_of-name, fault_of-no_colon}

-- no name has a colon
no-colon : (b : ℕ) → is_name_byte b ≡ true → is_colon b ≡ false
no-colon b is = elim (cases_Bool (is_colon b)) [
  | inl h ↦ absurd (other (subst (λ (c : ℕ). is_name_byte c ≡ true) (eqb-true b 58 h) is))
  | inr h ↦ h
] where
  other : is_name_byte 58 ≡ true → ⊥
  other e = cc

-- the bytes at the front are those of a name
pub front-all : (line : List ℕ) → list_all is_name_byte (take (prefix_len is_name_byte line) line) ≡ true
front-all [] = refl
front-all (b ∷ bs) = elim (cases_Bool (is_name_byte b)) [
  | inl h ↦ rw h (step (prefix_len is_name_byte bs) h (front-all bs))
  | inr h ↦ rw h refl
] where
  step : (k : ℕ) → is_name_byte b ≡ true → list_all is_name_byte (take k bs) ≡ true → list_all is_name_byte (take (1 + k) (b ∷ bs)) ≡ true
  step k h e =
      let more : 1 + k ≡ suc k = omega arith in
      rw more (rw (h, e) refl)

-- a colon behind them is the first, and they are the name
pub record EndsName (line front : List ℕ) : Type 0 where
  pub colon : list_any is_colon line ≡ true
  pub name : front ≡ name_of line

pub ends-name : (line : List ℕ) → begins_colon (drop (prefix_len is_name_byte line) line) ≡ true → EndsName line (take (prefix_len is_name_byte line) line)
ends-name [] begins = cc
ends-name (b ∷ bs) begins = elim (cases_Bool (is_name_byte b)) [
  | inl h ↦
      let n = prefix_len is_name_byte bs in
      let more : 1 + n ≡ suc n = omega arith in
      let other = no-colon b h in
      let later = ends-name bs (sym (rw (h, more) refl) ∙ begins) in
      record {
        colon = rw other later.colon;
        name = rw (h, other) (step n (position_or_len is_colon bs) later.name);
      }
  | inr h ↦
      let here : is_colon b ≡ true = sym (rw h refl) ∙ begins in
      record { colon = rw here refl; name = rw (h, here) refl }
] where
  step : (n k : ℕ) → take n bs ≡ take k bs → take (1 + n) (b ∷ bs) ≡ take (1 + k) (b ∷ bs)
  step n k e =
      let first : 1 + n ≡ suc n = omega arith in
      let second : 1 + k ≡ suc k = omega arith in
      rw (first, second) (ap (λ x. b ∷ x) e)

-- another byte behind them is in what stands before the first colon
pub record PassesName (line rest : List ℕ) : Type 0 where
  pub colon : list_any is_colon rest ≡ list_any is_colon line
  pub name : list_any is_colon line ≡ true → list_all is_name_byte (name_of line) ≡ false

pub passes-name : (line : List ℕ) → begins_colon (drop (prefix_len is_name_byte line) line) ≡ false → PassesName line (drop (prefix_len is_name_byte line) line)
passes-name [] begins = record { colon = refl; name = λ e. cc }
passes-name (b ∷ bs) begins = elim (cases_Bool (is_name_byte b)) [
  | inl h ↦
      let n = prefix_len is_name_byte bs in
      let more : 1 + n ≡ suc n = omega arith in
      let other = no-colon b h in
      let later = passes-name bs (sym (rw (h, more) refl) ∙ begins) in
      record {
        colon = rw (h, more, other) later.colon;
        name = λ e. rw other (step (position_or_len is_colon bs) (later.name (sym (rw other refl) ∙ e)));
      }
  | inr h ↦
      let other : is_colon b ≡ false = sym (rw h refl) ∙ begins in
      record { colon = rw h refl; name = λ e. rw other (last h (position_or_len is_colon bs)) }
] where
  step : (k : ℕ) → list_all is_name_byte (take k bs) ≡ false → list_all is_name_byte (take (1 + k) (b ∷ bs)) ≡ false
  step k e =
      let more : 1 + k ≡ suc k = omega arith in
      rw (more, e) (go (is_name_byte b)) where
        go : (c : Bool) → (c && false) ≡ false
        go true = refl
        go false = refl

  last : is_name_byte b ≡ false → (k : ℕ) → list_all is_name_byte (take (1 + k) (b ∷ bs)) ≡ false
  last h k =
      let more : 1 + k ≡ suc k = omega arith in
      rw (more, h) refl

-- bytes that no name has make no name
pub no-name : (name : List ℕ) → list_all is_name_byte name ≡ false → is_name name ≡ false
no-name [] e = refl
no-name (b ∷ bs) e = rw e (go (not (eqb b 35 || eqb b 45))) where
  go : (c : Bool) → (c && false) ≡ false
  go true = refl
  go false = refl

-- what is wrong with the name on a line is what is wrong with the line
pub line-fault : (form : Form) (before : List (List ℕ)) (n : ℕ) (line : List ℕ) (fault : StanzaError) → is_comment form line ≡ false → is_continuation line ≡ false
    → name_fault n line ≡ Some fault → fault_of form before n line ≡ Some fault
line-fault form before n line fault other begins is = elim (cases_Bool (list_any is_colon line)) [
  | inl colon ↦ elim (cases_Bool (is_name (name_of line))) [
    | inl name ↦ absurd (none (sym (rw (colon, name) refl) ∙ is))
    | inr name ↦ fault_of-name form before n line other begins colon name ∙ sym (rw (colon, name) refl) ∙ is
  ]
  | inr colon ↦ fault_of-no_colon form before n line other begins colon ∙ sym (rw colon refl) ∙ is
] where
  none : None ≡ Some fault → ⊥
  none e = cc

-- ---- a line that is cut behind the bytes that a name may have

pub record CutsName (line front rest : List ℕ) : Type 0 where
  pub front_is : front ≡ take (prefix_len is_name_byte line) line
  pub rest_is : rest ≡ drop (prefix_len is_name_byte line) line

pub cut-at : (line front rest : List ℕ) (end : ℕ) → end ≡ prefix_len is_name_byte line → front ≡ take end line → rest ≡ drop end line → CutsName line front rest
cut-at line front rest end is front_is rest_is = record { front_is = front_is ∙ ap (λ (k : ℕ). take k line) is; rest_is = rest_is ∙ ap (λ (k : ℕ). drop k line) is }

pub cut-all : (line front rest : List ℕ) → CutsName line front rest → list_all is_name_byte front ≡ true
cut-all line front rest cuts = ap (list_all is_name_byte) cuts.front_is ∙ front-all line

pub cut-ends : (line front rest : List ℕ) → CutsName line front rest → begins_colon rest ≡ true → EndsName line front
cut-ends line front rest cuts colon = subst (EndsName line) (sym cuts.front_is) (ends-name line (sym (ap begins_colon cuts.rest_is) ∙ colon))

cut-passes : (line front rest : List ℕ) → CutsName line front rest → begins_colon rest ≡ false → PassesName line rest
cut-passes line front rest cuts other = subst (PassesName line) (sym cuts.rest_is) (passes-name line (sym (ap begins_colon cuts.rest_is) ∙ other))

pub bad-first : (n : ℕ) (line front rest : List ℕ) → CutsName line front rest → begins_colon rest ≡ true → is_name front ≡ false → name_fault n line ≡ Some (BadFieldName n)
bad-first n line front rest cuts colon bad =
    let ends = cut-ends line front rest cuts colon in
    let name : is_name (name_of line) ≡ false = ap is_name (sym ends.name) ∙ bad in
    rw (ends.colon, name) refl

pub bad-byte : (n : ℕ) (line front rest : List ℕ) → CutsName line front rest → begins_colon rest ≡ false → list_any is_colon rest ≡ true → name_fault n line ≡ Some (BadFieldName n)
bad-byte n line front rest cuts other colon =
    let passes = cut-passes line front rest cuts other in
    let there : list_any is_colon line ≡ true = sym passes.colon ∙ colon in
    let name : is_name (name_of line) ≡ false = no-name (name_of line) (passes.name there) in
    rw (there, name) refl

pub colon-wanted : (n : ℕ) (line front rest : List ℕ) → CutsName line front rest → begins_colon rest ≡ false → list_any is_colon rest ≡ false → name_fault n line ≡ Some (BadLine n)
colon-wanted n line front rest cuts other none =
    let there : list_any is_colon line ≡ false = sym (cut-passes line front rest cuts other).colon ∙ none in
    rw there refl
