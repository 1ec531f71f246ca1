-- Texts of plans, worked by hand, and the last step that is read.
use Rattle.std.proofs.Common.{◌≡◌, [], ◌∷◌, ◌++◌, Ok, Err, refl, arith}
use Rattle.std.proofs.lemmas.Fmt.{decimal_digit}
use Rattle.std.specs.Prelude.{codes}
use Rattle.rules.specs.declared.step.Step.{Step}
use Rattle.rules.specs.declared.step.Step.TheVariants.{Unpack, Configure, Purge}
use Rattle.plantext.specs.Plan.{counted_step, plan_text, plan_text_2, read_plan, read_step}
use Rattle.plantext.specs.StepLine.{step_line, step_of}
use Rattle.plantext.specs.declared.error.PlanFault.TheVariants.{BadPlan, TooLarge}

-- the millionth step is read, and the next is one too many
last_step : (step : Step) → counted_step 1000000 step ≡ Ok step
last_step step = refl

step_too_many : (step : Step) → counted_step 1000001 step ≡ Err TooLarge
step_too_many step = refl

-- `unpack foo 1.0` and its line
unpack_line : step_line (Unpack (codes "foo") (codes "1.0")) ≡ codes "unpack foo 1.0" ++ 10 ∷ []
unfolding step_line
unpack_line = refl

-- the group of bar and foo
group_line : step_line (Configure (codes "bar" ∷ codes "foo" ∷ [])) ≡ codes "configure bar foo" ++ 10 ∷ []
unfolding step_line
group_line = refl

-- a plan without steps, and one with a step
empty_text : plan_text [] ≡ codes "plan 1" ++ 10 ∷ []
unfolding plan_text
empty_text = refl

purge_text : plan_text (Purge (codes "q") ∷ []) ≡ codes "plan 1" ++ 10 ∷ codes "purge q" ++ 10 ∷ []
unfolding plan_text step_line
purge_text = refl

-- the same in version 2, where the last line has the number of the steps
empty_text_2 : plan_text_2 [] ≡ codes "plan 2" ++ 10 ∷ codes "end 0" ++ 10 ∷ []
unfolding plan_text_2
empty_text_2 = rw (decimal_digit 0 (omega arith)) refl

purge_text_2 : plan_text_2 (Purge (codes "q") ∷ []) ≡ codes "plan 2" ++ 10 ∷ codes "purge q" ++ 10 ∷ codes "end 1" ++ 10 ∷ []
unfolding plan_text_2 step_line
purge_text_2 = rw (decimal_digit 1 (omega arith)) refl

-- the end without steps is read; where it is missing the line behind all lines is refused, where it has another number it is,
-- and where it has another line behind it that is, also without its newline
end_read : read_plan (codes "plan 2" ++ 10 ∷ codes "end 0" ++ 10 ∷ []) ≡ Ok []
unfolding read_plan
end_read = rw (decimal_digit 0 (omega arith)) refl

end_missing : read_plan (codes "plan 2" ++ 10 ∷ []) ≡ Err (BadPlan 2)
unfolding read_plan
end_missing = refl

other_end : read_plan (codes "plan 2" ++ 10 ∷ codes "end 1" ++ 10 ∷ []) ≡ Err (BadPlan 2)
unfolding read_plan step_of
other_end = rw (decimal_digit 0 (omega arith)) refl

end_unended : read_plan (codes "plan 2" ++ 10 ∷ codes "end 0") ≡ Err (BadPlan 2)
unfolding read_plan
end_unended = refl

line_behind : read_plan (codes "plan 2" ++ 10 ∷ codes "end 0" ++ 10 ∷ codes "x") ≡ Err (BadPlan 3)
unfolding read_plan
line_behind = rw (decimal_digit 0 (omega arith)) refl

third_version : read_plan (codes "plan 3" ++ 10 ∷ codes "end 0" ++ 10 ∷ []) ≡ Err (BadPlan 1)
unfolding read_plan
third_version = refl

-- one step's line is read with its newline alone
purge_read : read_step (codes "purge q" ++ 10 ∷ []) ≡ Ok (Purge (codes "q"))
unfolding read_step step_of
purge_read = refl

unended_refused : read_step (codes "purge q") ≡ Err (BadPlan 1)
unfolding read_step
unended_refused = refl

two_refused : read_step (codes "purge q" ++ 10 ∷ codes "purge q" ++ 10 ∷ []) ≡ Err (BadPlan 1)
unfolding read_step
two_refused = refl
