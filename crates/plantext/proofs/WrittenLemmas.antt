-- What is read as a plan is the text of its steps: each word, then each line, then all lines.
use Rattle.std.proofs.Common.{◌≡◌, ℕ, ◌+◌, true, ltb, List, [], ◌∷◌, ◌++◌, length, Option, Some, None, Result, Ok, Err, refl, sym, ap, subst, ◌∙◌, append_assoc, append-nil, arith, inl, inr}
use Rattle.std.proofs.lemmas.Bool.{cases_Bool}
use Rattle.std.proofs.lemmas.List.Splits.{join_with_byte-slice_split}
use Rattle.std.specs.List.{flat_map, join_with_byte}
use Rattle.std.specs.Option.{is_none, ok_or, option_and_then, option_map}
use Rattle.std.specs.Prelude.{codes}
use Rattle.std.specs.Str.{bytes_eq}
use Rattle.rules.specs.Name.{is_name}
use Rattle.rules.specs.NamedLaws.{bytes_eq-true}
use Rattle.rules.specs.VersionFault.{first_fault}
use Rattle.rules.specs.declared.limits.TheConstants.{STEPS, TEXT_BYTES}
use Rattle.rules.specs.declared.step.Step.{Step}
use Rattle.rules.specs.declared.step.Step.TheVariants.{Unpack, Deconfigure, Configure, Remove, Purge}
use Rattle.plantext.specs.Cut.{parts_at}
use Rattle.plantext.specs.Group.{is_group}
use Rattle.plantext.specs.Plan.{IsPlanText, end_line, header, header_2, numbered_step, only_line, plan_text, plan_text_2, put_step, read_end, read_lines, read_plan, read_step, read_steps, read_steps_2, step_in_line}
use Rattle.plantext.specs.StepLine.{configure_of, only_version, step_by, step_line, step_of, step_of_words, unpack_of, version_in, words_of}
use Rattle.plantext.specs.Word.{name_in, only_name}
use Rattle.plantext.specs.declared.error.PlanFault.{PlanFault}
use Rattle.plantext.specs.declared.error.PlanFault.TheVariants.{BadPlan}

-- Words

name_is : (word name : List ℕ) → name_in word ≡ Some name → word ≡ name
name_is word name h = elim (cases_Bool (is_name word)) [ inl e ↦ cc (rw e at h) | inr e ↦ cc (rw e at h) ]

version_is : (word version : List ℕ) → version_in word ≡ Some version → word ≡ version
version_is word version h = elim (cases_Bool (is_none (first_fault word))) [ inl e ↦ cc (rw e at h) | inr e ↦ cc (rw e at h) ]

pub only_name_is : (words : List (List ℕ)) (name : List ℕ) → only_name words ≡ Some name → words ≡ name ∷ []
only_name_is [] name h = cc
only_name_is (word ∷ []) name h = ap (λ (w : List ℕ). w ∷ []) (name_is word name h)
only_name_is (word ∷ next ∷ later) name h = cc

only_version_is : (words : List (List ℕ)) (version : List ℕ) → only_version words ≡ Some version → words ≡ version ∷ []
only_version_is [] version h = cc
only_version_is (word ∷ []) version h = ap (λ (w : List ℕ). w ∷ []) (version_is word version h)
only_version_is (word ∷ next ∷ later) version h = cc

-- Actions

named_is : (to_step : List ℕ → Step) (action : List ℕ) (words : List (List ℕ)) (step : Step)
    → ((name : List ℕ) → words_of (to_step name) ≡ action ∷ name ∷ [])
    → option_map to_step (only_name words) ≡ Some step → action ∷ words ≡ words_of step
named_is to_step action words step spelled h = go (only_name words) refl h where
  go : (answer : Option (List ℕ)) → only_name words ≡ answer → option_map to_step answer ≡ Some step → action ∷ words ≡ words_of step
  go None e g = cc
  go (Some name) e g =
      let same : to_step name ≡ step = cc in
      ap (λ (ws : List (List ℕ)). action ∷ ws) (only_name_is words name e) ∙ sym (spelled name) ∙ ap words_of same

unpack_is : (words : List (List ℕ)) (step : Step) → unpack_of words ≡ Some step → codes "unpack" ∷ words ≡ words_of step
unpack_is [] step h = cc
unpack_is (word ∷ later) step h = go (name_in word) refl (only_version later) refl h where
  go : (answer : Option (List ℕ)) → name_in word ≡ answer → (kept : Option (List ℕ)) → only_version later ≡ kept
      → option_and_then (λ name. option_map (λ version. Unpack name version) kept) answer ≡ Some step → codes "unpack" ∷ word ∷ later ≡ words_of step
  go None e kept k g = cc
  go (Some name) e None k g = cc
  go (Some name) e (Some version) k g =
      let same : Unpack name version ≡ step = cc in
      ap (λ (w : List ℕ). codes "unpack" ∷ w ∷ later) (name_is word name e)
      ∙ ap (λ (ws : List (List ℕ)). codes "unpack" ∷ name ∷ ws) (only_version_is later version k) ∙ ap words_of same

configure_is : (words : List (List ℕ)) (step : Step) → configure_of words ≡ Some step → codes "configure" ∷ words ≡ words_of step
configure_is words step h = elim (cases_Bool (is_group words)) [
  | inl e ↦ let same : Configure words ≡ step = cc (rw e at h) in ap words_of same
  | inr e ↦ cc (rw e at h)
]

-- an action that is this word, before words that are the step's
acted : (action word : List ℕ) (words : List (List ℕ)) (step : Step) → bytes_eq action word ≡ true → word ∷ words ≡ words_of step → action ∷ words ≡ words_of step
acted action word words step e h = ap (λ (a : List ℕ). a ∷ words) (bytes_eq-true action word e) ∙ h

step_by_is : (action : List ℕ) (words : List (List ℕ)) (step : Step) → step_by action words ≡ Some step → action ∷ words ≡ words_of step
step_by_is action words step h = elim (cases_Bool (bytes_eq action (codes "unpack"))) [
  | inl e ↦ acted action (codes "unpack") words step e (unpack_is words step (rw e at h))
  | inr e ↦ let h1 = rw e at h in elim (cases_Bool (bytes_eq action (codes "deconfigure"))) [
    | inl e ↦ acted action (codes "deconfigure") words step e (named_is (λ name. Deconfigure name) (codes "deconfigure") words step (λ name. refl) (rw e at h1))
    | inr e ↦ let h2 = rw e at h1 in elim (cases_Bool (bytes_eq action (codes "configure"))) [
      | inl e ↦ acted action (codes "configure") words step e (configure_is words step (rw e at h2))
      | inr e ↦ let h3 = rw e at h2 in elim (cases_Bool (bytes_eq action (codes "remove"))) [
        | inl e ↦ acted action (codes "remove") words step e (named_is (λ name. Remove name) (codes "remove") words step (λ name. refl) (rw e at h3))
        | inr e ↦ let h4 = rw e at h3 in elim (cases_Bool (bytes_eq action (codes "purge"))) [
          | inl e ↦ acted action (codes "purge") words step e (named_is (λ name. Purge name) (codes "purge") words step (λ name. refl) (rw e at h4))
          | inr e ↦ cc (rw e at h4)
        ]
      ]
    ]
  ]
]

-- Lines

words_are : (words : List (List ℕ)) (step : Step) → step_of_words words ≡ Some step → words ≡ words_of step
words_are [] step h = cc
words_are (action ∷ words) step h = step_by_is action words step h

-- a line that is read as a step is the step's
line_is : (line : List ℕ) (step : Step) → step_of line ≡ Some step → line ++ 10 ∷ [] ≡ step_line step
unfolding step_of step_line
line_is line step h = ap (λ (text : List ℕ). text ++ 10 ∷ [])
    (sym (join_with_byte-slice_split 32 line) ∙ ap (join_with_byte 32) (words_are (parts_at 32 line) step h))

numbered_is : (number : ℕ) (answer : Option Step) (step : Step) → numbered_step number answer ≡ Ok step → answer ≡ Some step
numbered_is number None step h = cc
numbered_is number (Some other) step h = elim (cases_Bool (ltb STEPS number)) [ inl e ↦ cc (rw e at h) | inr e ↦ cc (rw e at h) ]

-- the step that was read, and the steps behind it
record Puts (read : Result Step PlanFault) (later : Result (List Step) PlanFault) (steps : List Step) : Type 0 where
  step : Step
  more : List Step
  here : read ≡ Ok step
  behind : later ≡ Ok more
  all : steps ≡ step ∷ more

puts : (read : Result Step PlanFault) (later : Result (List Step) PlanFault) (steps : List Step) → put_step read later ≡ Ok steps → Puts read later steps
puts (Ok step) (Ok more) steps h = record { step = step; more = more; here = refl; behind = refl; all = cc }
puts (Ok step) (Err fault) steps h = cc
puts (Err fault) later steps h = cc

-- where nothing is refused behind the last line, nothing stands there
end_is : (number : ℕ) (parts : List (List ℕ)) (steps : List Step) → read_end number parts ≡ Ok steps → (steps ≡ []) × (join_with_byte 10 parts ≡ [])
end_is number [] steps h = cc
end_is number (line ∷ next ∷ later) steps h = cc
end_is number ([] ∷ []) steps h = let none : steps ≡ [] = cc in (none, refl)
end_is number ((b ∷ bytes) ∷ []) steps h = cc

-- a line and its newline, before the lines behind it
line_before : (line before behind : List ℕ) (later : List (List ℕ)) → line ++ 10 ∷ [] ≡ before → join_with_byte 10 later ≡ behind
    → line ++ 10 ∷ join_with_byte 10 later ≡ before ++ behind
line_before line before behind later here rest =
    sym (append_assoc line (10 ∷ []) (join_with_byte 10 later))
    ∙ ap (λ (text : List ℕ). text ++ join_with_byte 10 later) here ∙ ap (λ (text : List ℕ). before ++ text) rest

-- the lines that are read as steps are the steps'
steps_are : (number : ℕ) (parts : List (List ℕ)) (steps : List Step) → read_steps number parts ≡ Ok steps → join_with_byte 10 parts ≡ flat_map step_line steps
steps_are number [] steps h = cc
steps_are number (last ∷ []) steps h = let nothing = end_is number (last ∷ []) steps h in rw (nothing.0) nothing.1
steps_are number (line ∷ next ∷ later) steps h =
    let put = puts (step_in_line number line) (read_steps (number + 1) (next ∷ later)) steps h in
    let behind = steps_are (number + 1) (next ∷ later) put.more put.behind in
    let here = line_is line put.step (numbered_is number (step_of line) put.step put.here) in
    line_before line (step_line put.step) (flat_map step_line put.more) (next ∷ later) here behind
    ∙ sym (ap (flat_map step_line) put.all)

-- the lines of steps behind this many, and the line that ends a plan of all
abbrev ended : ℕ → List Step → List ℕ
ended count steps = flat_map step_line steps ++ (end_line (count + length steps) ++ 10 ∷ [])

-- the line of a step before the lines of more steps and the line that ends them
before_more : (count : ℕ) (line : List ℕ) (step : Step) (more steps : List Step) (later : List (List ℕ)) → steps ≡ step ∷ more
    → line ++ 10 ∷ [] ≡ step_line step → join_with_byte 10 later ≡ ended (count + 1) more → line ++ 10 ∷ join_with_byte 10 later ≡ ended count steps
before_more count line step more steps later all here behind =
    let end = end_line ((count + 1) + length more) ++ 10 ∷ [] in
    let same : (count + 1) + length more ≡ count + length steps = omega (arith, ap length all) in
    line_before line (step_line step) (flat_map step_line more ++ end) later here behind
    ∙ sym (append_assoc (step_line step) (flat_map step_line more) end)
    ∙ sym (ap (λ (put : List Step). flat_map step_line put ++ end) all)
    ∙ ap (λ n. flat_map step_line steps ++ (end_line n ++ 10 ∷ [])) same

-- the line that ends a plan, before nothing
before_nothing : (count : ℕ) (line : List ℕ) (steps : List Step) (later : List (List ℕ)) → line ≡ end_line count → steps ≡ []
    → join_with_byte 10 later ≡ [] → line ++ 10 ∷ join_with_byte 10 later ≡ ended count steps
before_nothing count line steps later ends none nothing =
    let same : count + length steps ≡ count = omega (arith, ap length none) in
    rw (same, none) (line_before line (end_line count ++ 10 ∷ []) [] later (ap (λ (text : List ℕ). text ++ 10 ∷ []) ends) nothing
    ∙ append-nil (end_line count ++ 10 ∷ []))

-- the lines that are read as steps with their number behind them are the steps' and the line that ends them
steps_are_2 : (count : ℕ) (parts : List (List ℕ)) (steps : List Step) → read_steps_2 count parts ≡ Ok steps → join_with_byte 10 parts ≡ ended count steps
steps_are_2 count [] steps h = cc
steps_are_2 count (last ∷ []) steps h = cc
steps_are_2 count (line ∷ next ∷ later) steps h = elim (cases_Bool (bytes_eq line (end_line count))) [
  | inl e ↦
      let nothing = end_is (count + 2) (next ∷ later) steps (rw e at h) in
      before_nothing count line steps (next ∷ later) (bytes_eq-true line (end_line count) e) nothing.0 nothing.1
  | inr e ↦
      let put = puts (step_in_line (count + 1) line) (read_steps_2 (count + 1) (next ∷ later)) steps (rw e at h) in
      before_more count line put.step put.more steps (next ∷ later) put.all
      (line_is line put.step (numbered_is (count + 1) (step_of line) put.step put.here)) (steps_are_2 (count + 1) (next ∷ later) put.more put.behind)
]

-- the header's line before other lines
header_before : (first start behind : List ℕ) (later : List (List ℕ)) → bytes_eq first start ≡ true → join_with_byte 10 later ≡ behind
    → first ++ 10 ∷ join_with_byte 10 later ≡ start ++ 10 ∷ behind
header_before first start behind later e rest =
    ap (λ (text : List ℕ). text ++ 10 ∷ join_with_byte 10 later) (bytes_eq-true first start e)
    ∙ ap (λ (text : List ℕ). start ++ 10 ∷ text) rest

-- a header alone is no plan
headless : (first : List ℕ) (steps : List Step) → read_lines (first ∷ []) ≡ Ok steps → ⊥
headless first steps h = elim (cases_Bool (bytes_eq first header)) [
  | inl e ↦ cc (rw e at h)
  | inr e ↦ let other = rw e at h in elim (cases_Bool (bytes_eq first header_2)) [ inl e2 ↦ cc (rw e2 at other) | inr e2 ↦ cc (rw e2 at other) ]
]

lines_are : (parts : List (List ℕ)) (steps : List Step) → read_lines parts ≡ Ok steps → IsPlanText steps (join_with_byte 10 parts)
unfolding plan_text plan_text_2
lines_are [] steps h = cc
lines_are (first ∷ []) steps h = absurd (headless first steps h)
lines_are (first ∷ next ∷ later) steps h = elim (cases_Bool (bytes_eq first header)) [
  | inl e ↦ inl (header_before first header (flat_map step_line steps) (next ∷ later) e (steps_are 1 (next ∷ later) steps (rw e at h)))
  | inr e ↦ let other = rw e at h in elim (cases_Bool (bytes_eq first header_2)) [
    | inl e2 ↦
        let same : 0 + length steps ≡ length steps = omega arith in
        inr (header_before first header_2 (flat_map step_line steps ++ end_line (length steps) ++ 10 ∷ []) (next ∷ later) e2
        (rw same at (steps_are_2 0 (next ∷ later) steps (rw e2 at other)) ∙ sym (append_assoc (flat_map step_line steps) (end_line (length steps)) (10 ∷ []))))
    | inr e2 ↦ cc (rw e2 at other)
  ]
]

pub read_is_written : (text : List ℕ) (steps : List Step) → read_plan text ≡ Ok steps → IsPlanText steps text
unfolding read_plan
read_is_written text steps h = elim (cases_Bool (ltb TEXT_BYTES (length text))) [
  | inl e ↦ cc (rw e at h)
  | inr e ↦ subst (IsPlanText steps) (join_with_byte-slice_split 10 text) (lines_are (parts_at 10 text) steps (rw e at h))
]

-- the line that is all, and its newline, are the text
only_line_is : (parts : List (List ℕ)) (line : List ℕ) → only_line parts ≡ Some line → join_with_byte 10 parts ≡ line ++ 10 ∷ []
only_line_is [] line h = cc
only_line_is (last ∷ []) line h = cc
only_line_is (first ∷ [] ∷ []) line h = let same : first ≡ line = cc in rw same refl
only_line_is (first ∷ (b ∷ bytes) ∷ []) line h = cc
only_line_is (first ∷ next ∷ last ∷ later) line h = cc

only_step_is : (text : List ℕ) (answer : Option (List ℕ)) (step : Step) → only_line (parts_at 10 text) ≡ answer
    → ok_or (option_and_then step_of answer) (BadPlan 1) ≡ Ok step → text ≡ step_line step
only_step_is text None step e h = cc
only_step_is text (Some line) step e h = go (step_of line) refl h where
  go : (read : Option Step) → step_of line ≡ read → ok_or read (BadPlan 1) ≡ Ok step → text ≡ step_line step
  go None r g = cc
  go (Some other) r g =
      let same : other ≡ step = cc in
      sym (join_with_byte-slice_split 10 text) ∙ only_line_is (parts_at 10 text) line e ∙ line_is line step (rw same at r)

pub step_read_is_written : (text : List ℕ) (step : Step) → read_step text ≡ Ok step → text ≡ step_line step
unfolding read_step
step_read_is_written text step h = elim (cases_Bool (ltb TEXT_BYTES (length text))) [
  | inl e ↦ cc (rw e at h)
  | inr e ↦ only_step_is text (only_line (parts_at 10 text)) step refl (rw e at h)
]
