-- What a call leaves of the files and the journals of a host.
use Rattle.std.proofs.Common.{◌≡◌, ◌∷◌, ◌++◌, [], ◌∙◌, inl, inr, ap, append-nil, codes, false, refl, subst, sym, List, ℕ, Option, Some, Result, Ok, Err}
use Rattle.apply_engine.specs.GoodPlan.{IsCarriedOut, ReadyPlan}
use Rattle.apply_engine.specs.declared.good_plan.CarriedOut.{CarriedOut}
use Rattle.cli.specs.Applied.{IsOutcomeOfPut, IsOutcomeOfReady, IsOutcomeOfStop, IsRunThrough}
use Rattle.cli.specs.Files.{Files, Puts}
use Rattle.cli.specs.Kept.{Finishes, GivesBack, IsBack, IsLent, Kept, NotesPut, Put}
use Rattle.cli.specs.Leaving.{IsLeftOfKept, IsLeftOfReady}
use Rattle.cli.specs.Possible.{IsPrintedOfPut, IsPrintedWhere}
use Rattle.cli.specs.declared.applied.Stop.{Stop}
use Rattle.cli.specs.declared.applied.Stop.TheVariants.{NotBegun, Stopped}
use Rattle.disk.specs.Facts.{DiskFacts}
use Rattle.outcomes.specs.Answer.{applied_line}
use Rattle.outcomes.specs.Exit.{exit_of_begin_error, exit_of_run_error}
use Rattle.outcomes.specs.declared.exit.Exit.TheVariants as exit
use Rattle.outcomes.specs.declared.outcome.Outcome.{Outcome}
use Rattle.outcomes.specs.declared.outcome.Outcome.TheVariants as outcome
use Rattle.refusal_lines.specs.Lines.{stopped_line, unbegun_line}

module _ {J : Type 0} (journal : List ℕ) (at : Files) (was : Kept J) where
  module _ (honest : J → Type 0) (facts : J → DiskFacts) (plan : ReadyPlan) where
    -- a run between the journal that was there and the one that is
    moved : (run : Result CarriedOut Stop) (mine yours : J) (mid left : Kept J) (more : List Put) → IsLent journal mine was mid
        → IsBack journal yours more mid left → IsRunThrough honest facts plan mine run yours
        → IsRunThrough honest facts plan (was.journals journal) run (left.journals journal)
    moved run mine yours mid left more lent back through =
        subst (λ (new : J). IsRunThrough honest facts plan (was.journals journal) run new) (sym back.is)
        (subst (λ (old : J). IsRunThrough honest facts plan old run yours) lent.is through)

    -- behind a run that was stopped
    pub stop_left : (output : List ℕ) (stop : Stop) (mine yours : J) (mid : Kept J) (files : Option Files) (kept : Option (Kept J))
        → IsLent journal mine was mid → IsRunThrough honest facts plan mine (Err stop) yours → files ≡ Some at → GivesBack journal yours mid kept
        → (outcome : Outcome) → IsOutcomeOfStop stop outcome → IsLeftOfReady honest facts plan journal output at was outcome files kept
    stop_left output stop mine yours mid files kept lent through f back outcome printed = record {
      run = Err stop;
      left = back.0;
      kept_is = back.1;
      elsewhere = λ path not. back.2.elsewhere path not ∙ lent.elsewhere path not;
      through = moved (Err stop) mine yours mid back.0 [] lent back.2 through;
      outcome = (printed, f, back.2.puts ∙ append-nil mid.puts ∙ lent.puts);
    }

    -- behind one that came to its end
    of_status : {A E : Type 0} (output : List ℕ) (done : CarriedOut) (mine yours : J) (mid : Kept J) (r : Result A E) (files : Option Files)
        (kept : Option (Kept J)) → IsLent journal mine was mid → IsRunThrough honest facts plan mine (Ok done) yours
        → Puts output done.status.items at r files → Finishes journal yours output done.status.items mid r kept
        → (outcome : Outcome) → IsOutcomeOfPut done.steps r outcome → IsLeftOfReady honest facts plan journal output at was outcome files kept
    of_status output done mine yours mid (Ok put_is) files kept lent through put back outcome printed = record {
      run = Ok done;
      left = back.0;
      kept_is = back.1;
      elsewhere = λ path not. back.2.elsewhere path not ∙ lent.elsewhere path not;
      through = moved (Ok done) mine yours mid back.0 _ lent back.2 through;
      outcome = inl (
        printed,
        put,
        back.2.puts
            ∙ ap (λ (ps : List Put). ps ++ record { path = output; text = done.status.items; held = Some journal; named = false } ∷ []) lent.puts,
      );
    }
    of_status output done mine yours mid (Err e) files kept lent through put back outcome printed = record {
      run = Ok done;
      left = back.0;
      kept_is = back.1;
      elsewhere = λ path not. back.2.elsewhere path not ∙ lent.elsewhere path not;
      through = moved (Ok done) mine yours mid back.0 [] lent back.2 through;
      outcome = inr (printed, put, back.2.puts ∙ append-nil mid.puts ∙ lent.puts);
    }

    pub done_left : {A E : Type 0} (output text : List ℕ) (done : CarriedOut) (mine yours : J) (mid : Kept J) (r : Result A E) (files : Option Files)
        (kept : Option (Kept J)) → text ≡ done.status.items → IsLent journal mine was mid → IsRunThrough honest facts plan mine (Ok done) yours
        → Puts output text at r files → Finishes journal yours output text mid r kept
        → (outcome : Outcome) → IsOutcomeOfPut done.steps r outcome → IsLeftOfReady honest facts plan journal output at was outcome files kept
    done_left output text done mine yours mid r files kept same lent through put back outcome printed =
        of_status output done mine yours mid r files kept lent through (subst (λ (t : List ℕ). Puts output t at r files) same put)
        (subst (λ (t : List ℕ). Finishes journal yours output t mid r kept) same back) outcome printed

-- what is printed of a plan that was carried out
pub run_of_put : {A E : Type 0} (plan : ReadyPlan) (done : CarriedOut) (r : Result A E) → IsCarriedOut plan done → (outcome : Outcome)
    → IsOutcomeOfPut done.steps r outcome → IsOutcomeOfReady plan outcome
run_of_put plan done (Ok put_is) carried outcome is = (Ok done, carried, inl is)
run_of_put plan done (Err e) carried outcome is = (Ok done, carried, inr is)

-- behind a request that was put
pub put_where : {A E : Type 0} (path : List ℕ) (printed : Outcome) (r : Result A E) (outcome : Outcome) → IsPrintedOfPut r printed outcome
    → IsPrintedWhere (Some path) printed outcome
put_where path printed (Ok done) outcome is = inl is
put_where path printed (Err e) outcome is = inr is

module _ {J : Type 0} {A E : Type 0} (path text : List ℕ) (at : Files) (was : Kept J) where
  pub put_left : (printed : Outcome) (r : Result A E) (files : Option Files) (kept : Option (Kept J)) → Puts path text at r files → NotesPut false path text was r kept
      → (outcome : Outcome) → IsPrintedOfPut r printed outcome → IsLeftOfKept (Some path) text printed at was outcome files kept
  put_left printed (Ok done) files kept put noted outcome is = inl (is, (put, noted))
  put_left printed (Err e) files kept put noted outcome is = inr (is, (put, noted))

-- Something is printed of each

-- of what stood against a plan
pub some_of_stop : (stop : Stop) → (made : Outcome) × IsOutcomeOfStop stop made
some_of_stop (NotBegun e) = (outcome.Complaint (unbegun_line e) (exit_of_begin_error e), refl)
some_of_stop (Stopped e) = (outcome.Complaint (stopped_line e) (exit_of_run_error e), refl)

-- of a plan that was carried out
pub some_of_put : {A E : Type 0} (steps : ℕ) (r : Result A E) → (made : Outcome) × IsOutcomeOfPut steps r made
some_of_put steps (Ok done) = (outcome.Answer (applied_line steps) exit.Success, refl)
some_of_put steps (Err e) = (outcome.Complaint (codes "debplan: output: E26 Write\n") exit.Device, refl)

-- of a request that is left
pub some_of_request_put : {A E : Type 0} (printed : Outcome) (r : Result A E) → (made : Outcome) × IsPrintedOfPut r printed made
some_of_request_put printed (Ok done) = (printed, refl)
some_of_request_put printed (Err e) = (outcome.Complaint (codes "debplan: request-out: E26 Write\n") exit.Device, refl)
