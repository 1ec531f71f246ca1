-- The first line of a text, with its newline, and what is behind it.
use Rattle.std.proofs.Common.{◌≡◌, ℕ, suc, ◌+◌, ◌<◌, ◌≤◌, Bool, true, false, not, Some, None, Option, List, [], ◌∷◌, ◌++◌, length, take, drop, ltb, eqb, refl, sym, ◌∙◌, ap, subst, arith, inl, inr}
use Rattle.std.proofs.lemmas.Bool.{cases_Bool, ltb-false, ltb-true}
use Rattle.std.proofs.lemmas.List.{take_all, drop_all}
use Rattle.std.specs.Io.BufRead.{take_through, drop_through}
use Rattle.std.specs.List.{position, position_or_len, onto_first, slice_split}
use Rattle.std.specs.Prelude.{Result, Ok}
use Rattle.plantext.specs.Cut.{parts_at}
use Rattle.std.specs.Option.{ok_or, option_and_then}
use Rattle.plantext.specs.Plan.{only_line, read_step}
use Rattle.plantext.specs.StepLine.{step_of}
use Rattle.plantext.specs.declared.error.PlanFault.TheVariants.{BadPlan}
use Rattle.rules.specs.declared.step.Step.{Step}

-- the first line ends behind the first newline
pub record Parted (at : ℕ) (text : List ℕ) : Type 0 where
  pub line : take at text ≡ take_through 10 text
  pub behind : drop at text ≡ drop_through 10 text

parted : (text : List ℕ) → Parted (position_or_len (λ b. eqb b 10) text + 1) text
parted [] = record { line = refl; behind = refl }
parted (b ∷ text) = elim (cases_Bool (eqb b 10)) [
  | inl h ↦ record { line = rw h refl; behind = rw h refl }
  | inr h ↦
      let later = parted text in
      let n = position_or_len (λ b. eqb b 10) text in
      let more : 1 + n + 1 ≡ suc (n + 1) = omega arith in
      record {
        line = rw (h, more) (ap (λ (l : List ℕ). b ∷ l) later.line);
        behind = rw (h, more) later.behind;
      }
]

-- where a newline stands first
pub parted_at : (text : List ℕ) (at : ℕ) → position (λ b. eqb b 10) text ≡ Some at → Parted (at + 1) text
parted_at text at is =
    let p : ℕ → Bool = λ b. eqb b 10 in
    elim (cases_Bool (ltb (position_or_len p text) (length text))) [
      | inl inside ↦
          let position_is : position p text ≡ Some (position_or_len p text) = rw inside refl in
          let same : position_or_len p text ≡ at = cc (is, position_is) in
          subst (λ n. Parted (n + 1) text) same (parted text)
      | inr past ↦ let none : position p text ≡ None = rw past refl in absurd (cc (is, none))
    ]

-- where there is none
pub parted_past : (text : List ℕ) → position (λ b. eqb b 10) text ≡ None → Parted (length text) text
parted_past text is =
    let p : ℕ → Bool = λ b. eqb b 10 in
    elim (cases_Bool (ltb (position_or_len p text) (length text))) [
      | inl inside ↦ let position_is : position p text ≡ Some (position_or_len p text) = rw inside refl in absurd (cc (is, position_is))
      | inr past ↦
          let far : length text ≤ position_or_len p text + 1 = let le = ltb-false _ _ past in omega (arith, le) in
          let later = parted text in
          record {
            line = take_all (length text) text (omega arith) ∙ sym (take_all (position_or_len p text + 1) text far) ∙ later.line;
            behind = drop_all (length text) text (omega arith) ∙ sym (drop_all (position_or_len p text + 1) text far) ∙ later.behind;
          }
    ]

-- the line is the first of each text that begins with it
pub record IsFirst (line behind : List ℕ) : Type 0 where
  pub line_is : take_through 10 (line ++ behind) ≡ line
  pub behind_is : drop_through 10 (line ++ behind) ≡ behind

-- a text has a first part
parts_some : (text : List ℕ) → (first : List ℕ) × (later : List (List ℕ)) × (parts_at 10 text ≡ first ∷ later)
parts_some [] = ([], [], refl)
parts_some (b ∷ text) = elim (cases_Bool (eqb b 10)) [
  | inl h ↦ ([], parts_at 10 text, rw h refl)
  | inr h ↦ rw h (onto (parts_at 10 text))
] where
  onto : (parts : List (List ℕ)) → (first : List ℕ) × (later : List (List ℕ)) × (onto_first b parts ≡ first ∷ later)
  onto [] = (b ∷ [], [], refl)
  onto (part ∷ parts) = (b ∷ part, parts, refl)

-- behind a newline nothing more is parted only where nothing stands
nothing_more : (bytes line : List ℕ) → only_line ([] ∷ parts_at 10 bytes) ≡ Some line → bytes ≡ []
nothing_more [] line is = refl
nothing_more (b ∷ bytes) line is = elim (cases_Bool (eqb b 10)) [
  | inl h ↦ let some = parts_some bytes in absurd (twice some.0 some.1 (rw (h, some.2) at is))
  | inr h ↦ let some = parts_some bytes in absurd (onto some.0 some.1 (rw (h, some.2) at is))
] where
  twice : (first : List ℕ) (later : List (List ℕ)) → only_line ([] ∷ [] ∷ first ∷ later) ≡ Some line → ⊥
  twice first later e = cc e

  onto : (first : List ℕ) (later : List (List ℕ)) → only_line ([] ∷ (b ∷ first) ∷ later) ≡ Some line → ⊥
  onto first [] e = cc e
  onto first (next ∷ later) e = cc e

-- a line of which newlines part nothing more ends with its one newline
line_first : (line only behind : List ℕ) → only_line (parts_at 10 line) ≡ Some only → IsFirst line behind
line_first [] only behind is = absurd (cc is)
line_first (b ∷ line) only behind is = elim (cases_Bool (eqb b 10)) [
  | inl h ↦
      let none : line ≡ [] = nothing_more line only (rw h at is) in
      rw none (record { line_is = rw h refl; behind_is = rw h refl })
  | inr h ↦
      let some = parts_some line in
      let below = shorter some.0 some.1 (rw (h, some.2) at is) in
      let later = line_first line below.0 behind (ap (λ (l : List (List ℕ)). only_line l) some.2 ∙ below.1) in
      record { line_is = rw h (ap (λ (l : List ℕ). b ∷ l) later.line_is); behind_is = rw h later.behind_is }
] where
  shorter : (first : List ℕ) (later : List (List ℕ)) → only_line ((b ∷ first) ∷ later) ≡ Some only → (short : List ℕ) × (only_line (first ∷ later) ≡ Some short)
  shorter first [] e = absurd (cc e)
  shorter first ([] ∷ []) e = (first, refl)
  shorter first ((a ∷ next) ∷ []) e = absurd (cc e)
  shorter first (next ∷ last ∷ later) e = absurd (many next last later e)
    where
      many : (next last : List ℕ) (later : List (List ℕ)) → only_line ((b ∷ first) ∷ next ∷ last ∷ later) ≡ Some only → ⊥
      many [] last later e = cc e
      many (a ∷ next) last later e = cc e

-- the line of a step is the first of each text that begins with it
pub step_first : (line : List ℕ) (step : Step) (behind : List ℕ) → read_step line ≡ Ok step → IsFirst line behind
unfolding read_step
step_first line step behind read = elim (cases_Bool (ltb 268435456 (length line))) [
  | inl long ↦ absurd (cc (rw long at read))
  | inr short ↦ with_line (only_line (parts_at 10 line)) refl (rw short at read)
] where
  with_line : (answer : Option (List ℕ)) → only_line (parts_at 10 line) ≡ answer
      → ok_or (option_and_then step_of answer) (BadPlan 1) ≡ Ok step → IsFirst line behind
  with_line None is e = absurd (cc e)
  with_line (Some only) is e = line_first line only behind is
