-- What is written is read again: each word, then each line, then all lines.
use Rattle.std.proofs.Common.{◌≡◌, ℕ, ◌+◌, ◌≤◌, ◌<◌, ◌^◌, true, false, List, [], ◌∷◌, ◌++◌, length, Some, Ok, refl, sym, ap, ◌∙◌, eqb, append_assoc, append-nil, arith, eq-eqb}
use Rattle.std.proofs.lemmas.Bool.{and_parts, le-ltb, ne_eqb}
use Rattle.std.proofs.lemmas.Fmt.{digits_decimal}
use Rattle.std.proofs.lemmas.List.Elements.{All-append, All-cons, All-nil}
use Rattle.std.proofs.lemmas.Str.Parse.{digit_from_value, numerals_by_value, tells_digits}
use Rattle.std.proofs.lemmas.List.Splits.{slice_split_at, slice_split_none}
use Rattle.std.specs.List.{flat_map, join_with_byte, list_all}
use Rattle.std.specs.Option.{is_none, ok_or, option_and_then}
use Rattle.std.specs.Prelude.{codes, decimal, not}
use Rattle.std.specs.Str.{bytes_eq}
use Rattle.std.specs.Str.Parse.{AllDigits}
use Rattle.rules.specs.Name.{is_name}
use Rattle.rules.specs.NamedLaws.{bytes_eq-same}
use Rattle.rules.specs.VersionFault.{first_fault}
use Rattle.rules.specs.declared.limits.TheConstants.{STEPS, TEXT_BYTES}
use Rattle.rules.specs.declared.step.Step.{Step}
use Rattle.rules.specs.declared.step.Step.TheVariants.{Unpack, Deconfigure, Configure, Remove, Purge}
use Rattle.plantext.specs.Cut.{parts_at}
use Rattle.plantext.specs.Plan.{end_line, only_line, plan_text, plan_text_2, put_step, read_plan, read_step, read_steps, read_steps_2, step_in_line, IsReadAsPlan, IsReadAsStep}
use Rattle.plantext.specs.StepLine.{is_spelled, step_line, step_of, step_of_words, words_of}
use Rattle.plantext.specs.declared.error.PlanFault.TheVariants.{BadPlan}
use Rattle.plantext.proofs.ByteLemmas.{AreFree, IsFree, joined_free, newline_outside, passing_free, space_outside, words_free}
use Rattle.plantext.proofs.PlanLemmas.{read_steps_2_more, read_steps_more}

-- Words

-- the first of joined words stands before the others, each with the separator before it
pub joined_behind : (separator : ℕ) (word : List ℕ) (later : List (List ℕ))
    → join_with_byte separator (word ∷ later) ≡ word ++ flat_map (λ next. separator ∷ next) later
joined_behind separator word [] = sym (append-nil word)
joined_behind separator word (next ∷ later) = ap (λ text. word ++ separator ∷ text) (joined_behind separator next later)

pub group_written : (text : List ℕ) (names : List (List ℕ))
    → (text ++ codes "configure") ++ flat_map (λ name. 32 ∷ name) names ≡ text ++ join_with_byte 32 (codes "configure" ∷ names)
group_written text names =
    append_assoc text (codes "configure") (flat_map (λ name. 32 ∷ name) names)
    ∙ ap (λ written. text ++ written) (sym (joined_behind 32 (codes "configure") names))

-- words that are joined are parted again
pub joined_parts : (separator : ℕ) (word : List ℕ) (later : List (List ℕ)) → AreFree separator (word ∷ later)
    → parts_at separator (join_with_byte separator (word ∷ later)) ≡ word ∷ later
joined_parts separator word [] free = slice_split_none (λ b. eqb b separator) word free.0
joined_parts separator word (next ∷ later) free =
    slice_split_at (λ b. eqb b separator) word separator (join_with_byte separator (next ∷ later)) free.0 (eq-eqb separator separator refl)
    ∙ ap (λ (words : List (List ℕ)). word ∷ words) (joined_parts separator next later free.1)

-- the words of a step are read as it
words_again : (step : Step) → is_spelled step ≡ true → step_of_words (words_of step) ≡ Some step
words_again (Unpack name version) h =
    let both = and_parts (is_name name) (is_none (first_fault version)) h in
    rw (both.0, both.1) refl
words_again (Deconfigure name) h = rw h refl
words_again (Configure names) h = rw h refl
words_again (Remove name) h = rw h refl
words_again (Purge name) h = rw h refl

-- Lines

-- the words of a step with spaces between them
abbrev line_of : Step → List ℕ
line_of step = join_with_byte 32 (words_of step)

words_parted : (step : Step) → AreFree 32 (words_of step) → parts_at 32 (line_of step) ≡ words_of step
words_parted (Unpack name version) free = joined_parts 32 (codes "unpack") (name ∷ version ∷ []) free
words_parted (Deconfigure name) free = joined_parts 32 (codes "deconfigure") (name ∷ []) free
words_parted (Configure names) free = joined_parts 32 (codes "configure") names free
words_parted (Remove name) free = joined_parts 32 (codes "remove") (name ∷ []) free
words_parted (Purge name) free = joined_parts 32 (codes "purge") (name ∷ []) free

-- the line of a step is read as it
line_again : (step : Step) → is_spelled step ≡ true → step_of (line_of step) ≡ Some step
unfolding step_of
line_again step h = ap step_of_words (words_parted step (words_free 32 step space_outside h)) ∙ words_again step h

line_free : (step : Step) → is_spelled step ≡ true → IsFree 10 (line_of step)
line_free step h = joined_free 10 32 (words_of step) refl (words_free 10 step newline_outside h)

-- a line and its newline before other bytes
line_parted : (step : Step) (rest : List ℕ) → is_spelled step ≡ true → parts_at 10 (step_line step ++ rest) ≡ line_of step ∷ parts_at 10 rest
unfolding step_line
line_parted step rest h =
    ap (parts_at 10) (append_assoc (line_of step) (10 ∷ []) rest)
    ∙ slice_split_at (λ b. eqb b 10) (line_of step) 10 rest (line_free step h) refl

line_in_place : (number : ℕ) (step : Step) → is_spelled step ≡ true → number ≤ STEPS → step_in_line number (line_of step) ≡ Ok step
line_in_place number step h within = rw (line_again step h, le-ltb STEPS number within) refl

-- the lines of steps are read as them
lines_again : (number : ℕ) (steps : List Step) → list_all is_spelled steps ≡ true → number + length steps ≤ STEPS + 1
    → read_steps number (parts_at 10 (flat_map step_line steps)) ≡ Ok steps
lines_again number [] h within = refl
lines_again number (step ∷ later) h within =
    let both = and_parts (is_spelled step) (list_all is_spelled later) h in
    let rest = flat_map step_line later in
    let here : number ≤ STEPS = omega arith in
    let left : (number + 1) + length later ≤ STEPS + 1 = omega arith in
    ap (read_steps number) (line_parted step rest both.0)
    ∙ read_steps_more number (line_of step) rest
    ∙ ap (λ read. put_step read (read_steps (number + 1) (parts_at 10 rest))) (line_in_place number step both.0 here)
    ∙ ap (put_step (Ok step)) (lines_again (number + 1) later both.1 left)

-- the line that ends a plan

digits_free : (digits : List ℕ) → AllDigits 10 digits → IsFree 10 digits
digits_free [] all = All-nil (λ b. eqb b 10 ≡ false)
digits_free (b ∷ later) all =
    let range = digit_from_value b all.0 in
    All-cons (λ x. eqb x 10 ≡ false) b later (ne_eqb b 10 (λ e. omega arith)) (digits_free later all.1)

end_free : (count : ℕ) → count < 2 ^ 64 → IsFree 10 (end_line count)
end_free count small =
    All-append (λ b. eqb b 10 ≡ false) (codes "end ") (decimal count) (letters_and_space refl)
    (digits_free (decimal count) (digits_decimal (numerals_by_value (AllDigits 10) tells_digits) count small)) where
      letters_and_space : list_all (λ b. not (eqb b 10)) (codes "end ") ≡ true → IsFree 10 (codes "end ")
      letters_and_space h = passing_free (λ b. not (eqb b 10)) 10 (codes "end ") refl h

-- no step's line ends a plan
step_is_no_end : (step : Step) (count : ℕ) → bytes_eq (line_of step) (end_line count) ≡ false
step_is_no_end (Unpack name version) count = refl
step_is_no_end (Deconfigure name) count = refl
step_is_no_end (Configure []) count = refl
step_is_no_end (Configure (name ∷ names)) count = refl
step_is_no_end (Remove name) count = refl
step_is_no_end (Purge name) count = refl

end_parted : (count : ℕ) → count < 2 ^ 64 → parts_at 10 (end_line count ++ 10 ∷ []) ≡ end_line count ∷ [] ∷ []
end_parted count small = slice_split_at (λ b. eqb b 10) (end_line count) 10 [] (end_free count small) refl

-- the line that ends a plan is read as its end
end_again : (count : ℕ) → count < 2 ^ 64 → read_steps_2 count (parts_at 10 (end_line count ++ 10 ∷ [])) ≡ Ok []
end_again count small = ap (read_steps_2 count) (end_parted count small) ∙ rw (bytes_eq-same (end_line count) (end_line count) refl) refl

-- the lines of steps and the line that ends them are read as them
lines_again_2 : (count : ℕ) (steps : List Step) → list_all is_spelled steps ≡ true → count + length steps ≤ STEPS
    → read_steps_2 count (parts_at 10 (flat_map step_line steps ++ (end_line (count + length steps) ++ 10 ∷ []))) ≡ Ok steps
lines_again_2 count [] h within =
    let none : count + length {A = Step} [] ≡ count = omega arith in
    ap (λ n. read_steps_2 count (parts_at 10 (end_line n ++ 10 ∷ []))) none ∙ end_again count (omega arith)
lines_again_2 count (step ∷ later) h within =
    let both = and_parts (is_spelled step) (list_all is_spelled later) h in
    let end = end_line (count + length (step ∷ later)) ++ 10 ∷ [] in
    let rest = flat_map step_line later ++ end in
    let here : count + 1 ≤ STEPS = omega arith in
    let left : (count + 1) + length later ≤ STEPS = omega arith in
    let same : count + length (step ∷ later) ≡ (count + 1) + length later = omega arith in
    ap (λ text. read_steps_2 count (parts_at 10 text)) (append_assoc (step_line step) (flat_map step_line later) end)
    ∙ ap (read_steps_2 count) (line_parted step rest both.0)
    ∙ read_steps_2_more count (line_of step) rest (step_is_no_end step count)
    ∙ ap (λ read. put_step read (read_steps_2 (count + 1) (parts_at 10 rest))) (line_in_place (count + 1) step both.0 here)
    ∙ ap (λ n. put_step (Ok step) (read_steps_2 (count + 1) (parts_at 10 (flat_map step_line later ++ (end_line n ++ 10 ∷ []))))) same
    ∙ ap (put_step (Ok step)) (lines_again_2 (count + 1) later both.1 left)

-- Texts

-- the version 1 text of a plan is read as its steps
pub plan_again : (steps : List Step) (text : List ℕ) → text ≡ plan_text steps → list_all is_spelled steps ≡ true → IsReadAsPlan steps text
unfolding read_plan plan_text
plan_again steps text e h small few =
    rw (le-ltb TEXT_BYTES (length text) small, e) (lines_again 1 steps h (omega arith))

-- the version 2 text of a plan is read as its steps
pub plan_again_2 : (steps : List Step) (text : List ℕ) → text ≡ plan_text_2 steps → list_all is_spelled steps ≡ true → IsReadAsPlan steps text
unfolding read_plan plan_text_2
plan_again_2 steps text e h small few =
    let same : 0 + length steps ≡ length steps = omega arith in
    rw (le-ltb TEXT_BYTES (length text) small, e)
    (ap (λ lines. read_steps_2 0 (parts_at 10 lines)) (append_assoc (flat_map step_line steps) (end_line (length steps)) (10 ∷ []))
    ∙ ap (λ n. read_steps_2 0 (parts_at 10 (flat_map step_line steps ++ (end_line n ++ 10 ∷ [])))) (sym same) ∙ lines_again_2 0 steps h (omega arith))

line_alone : (step : Step) → is_spelled step ≡ true → parts_at 10 (line_of step ++ 10 ∷ []) ≡ line_of step ∷ [] ∷ []
line_alone step h = slice_split_at (λ b. eqb b 10) (line_of step) 10 [] (line_free step h) refl

-- the line of a step is read as it
pub step_again : (step : Step) (text : List ℕ) → text ≡ step_line step → is_spelled step ≡ true → IsReadAsStep step text
unfolding read_step step_line
step_again step text e h small =
    rw (le-ltb TEXT_BYTES (length text) small, e) (ap (λ parts. ok_or (option_and_then step_of (only_line parts)) (BadPlan 1)) (line_alone step h) ∙ rw (line_again step h) refl)
