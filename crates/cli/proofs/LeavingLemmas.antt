-- What is left by an outcome, or where memory was wanting for one.
use Rattle.std.proofs.Common.{Err, IfOk, IsErr, List, Ok, Option, Result, inl, inr, ℕ}
use Rattle.std.specs.Prelude.{⊤}
use Rattle.apply_engine.specs.declared.question.Prepared.{Prepared}
use Rattle.apply_engine.specs.declared.question.Prepared.TheVariants.{Judged, Ready}
use Rattle.cli.specs.Applied.{IsOutcomeOfPrepared}
use Rattle.cli.specs.Calls.{IsOutcomeOfAsked}
use Rattle.cli.specs.Files.{Files}
use Rattle.cli.specs.Kept.{Kept, Untouched}
use Rattle.cli.specs.Leaving.{IsLeftOfAsked, IsLeftOfPrepared, IsLeftUntold, IsLeftWith, Leaving}
use Rattle.command_line.specs.Asked as ask
use Rattle.command_line.specs.Asked.{Asked}
use Rattle.disk.specs.Facts.{DiskFacts}
use Rattle.inputs.specs.declared.refusal.Refusal.{Refusal}
use Rattle.outcomes.specs.declared.outcome.Outcome.{Outcome}

-- the plan isn't good
abbrev pub IsUnready : Result Prepared Refusal → Type 0
IsUnready (Ok (Ready plan)) = ⊥
IsUnready said = ⊤

-- it asks for no file that is written
abbrev pub WritesNothing : Asked → Type 0
WritesNothing (ask.solve given request limit extent explains written) = ⊥
WritesNothing (ask.apply given request plan journal output) = ⊥
WritesNothing (ask.installable given survey folder explains written) = ⊥
WritesNothing asked = ⊤

module _ {J E : Type 0} (at : Files) (was : Kept J) (files : Option Files) (kept : Option (Kept J)) where
  -- what is left so is left so by what it means
  pub left_so : (P Q : Leaving J) → ((outcome : Outcome) → P outcome files kept → Q outcome files kept)
      → (r : Result Outcome E) → IsLeftWith P at was r files kept → IsLeftWith Q at was r files kept
  left_so P Q then (Ok outcome) left = then outcome left
  left_so P Q then (Err e) (inl same) = inl same
  left_so P Q then (Err e) (inr behind) = inr (behind.0, then behind.0 behind.1)

  -- nothing is changed by an outcome, nor where memory was wanting for it
  pub all_left : (Says : Outcome → Type 0) (Q : Leaving J) → ((outcome : Outcome) → Says outcome → Untouched at was files kept → Q outcome files kept)
      → (r : Result Outcome E) → IfOk r Says → Untouched at was files kept → IsLeftWith Q at was r files kept
  all_left Says Q then (Ok outcome) says same = then outcome says same
  all_left Says Q then (Err e) says same = inl same

  -- as much is left by an outcome as where memory was wanting for it
  pub left_behind : (Says : Outcome → Type 0) (Q : Leaving J) → ((outcome : Outcome) → Says outcome → Q outcome files kept)
      → ((made : Outcome) × Says made) → (r : Result Outcome E) → IfOk r Says → IsLeftWith Q at was r files kept
  left_behind Says Q then made (Ok outcome) says = then outcome says
  left_behind Says Q then made (Err e) says = inr (made.0, then made.0 made.1)

  -- where there is no outcome as much is left as behind one that isn't told
  pub untold : (Q : Leaving J) (r : Result Outcome E) → IsErr r → IsLeftWith Q at was r files kept → IsLeftUntold Q at was files kept
  untold Q (Ok outcome) is left = absurd (let e : IsErr {E = E} (Ok outcome) = is in cc)
  untold Q (Err e) is left = left

  -- nothing is changed before an outcome is made
  pub none_left : (Q : Leaving J) (r : Result Outcome E) → IsErr r → Untouched at was files kept → IsLeftWith Q at was r files kept
  none_left Q (Ok outcome) is same = absurd (let e : IsErr {E = E} (Ok outcome) = is in cc)
  none_left Q (Err e) is same = inl same

  -- by what asks for no file that is written nothing is changed
  pub nothing_left : (honest : J → Type 0) (facts : J → DiskFacts) (asked : Asked) → WritesNothing asked
      → (r : Result Outcome E) → IfOk r (IsOutcomeOfAsked at asked) → Untouched at was files kept
      → IsLeftWith (IsLeftOfAsked honest facts asked at was) at was r files kept
  nothing_left honest facts (ask.compare version word other) quiet r says same =
      all_left (IsOutcomeOfAsked at (ask.compare version word other)) (IsLeftOfAsked honest facts (ask.compare version word other) at was)
      (λ outcome is still. (is, still)) r says same
  nothing_left honest facts (ask.candidate given names explains written) quiet r says same =
      all_left (IsOutcomeOfAsked at (ask.candidate given names explains written))
      (IsLeftOfAsked honest facts (ask.candidate given names explains written) at was) (λ outcome is still. (is, still)) r says same
  nothing_left honest facts (ask.solve given request limit extent explains written) quiet r says same = absurd quiet
  nothing_left honest facts (ask.check_plan given request plan explains written) quiet r says same =
      all_left (IsOutcomeOfAsked at (ask.check_plan given request plan explains written))
      (IsLeftOfAsked honest facts (ask.check_plan given request plan explains written) at was) (λ outcome is still. (is, still)) r says same
  nothing_left honest facts (ask.check_refutation given request refutation explains written) quiet r says same =
      all_left (IsOutcomeOfAsked at (ask.check_refutation given request refutation explains written))
      (IsLeftOfAsked honest facts (ask.check_refutation given request refutation explains written) at was) (λ outcome is still. (is, still)) r says same
  nothing_left honest facts (ask.apply given request plan journal output) quiet r says same = absurd quiet
  nothing_left honest facts (ask.installable given survey folder explains written) quiet r says same = absurd quiet
  nothing_left honest facts (ask.batch given limit) quiet r says same =
      all_left (IsOutcomeOfAsked at (ask.batch given limit)) (IsLeftOfAsked honest facts (ask.batch given limit) at was)
      (λ outcome is still. (is, still)) r says same

  -- behind a plan that isn't good nothing is changed
  pub unready_left : (honest : J → Type 0) (facts : J → DiskFacts) (said : Result Prepared Refusal) (journal output : List ℕ) → IsUnready said
      → (r : Result Outcome E) → IfOk r (IsOutcomeOfPrepared said) → Untouched at was files kept
      → IsLeftWith (IsLeftOfPrepared honest facts said journal output at was) at was r files kept
  unready_left honest facts (Ok (Judged verdict)) journal output unready r says same =
      all_left (IsOutcomeOfPrepared (Ok (Judged verdict))) (IsLeftOfPrepared honest facts (Ok (Judged verdict)) journal output at was)
      (λ outcome is still. (is, still)) r says same
  unready_left honest facts (Ok (Ready plan)) journal output unready r says same = absurd unready
  unready_left honest facts (Err refused) journal output unready r says same =
      all_left (IsOutcomeOfPrepared (Err refused)) (IsLeftOfPrepared honest facts (Err refused) journal output at was)
      (λ outcome is still. (is, still)) r says same
