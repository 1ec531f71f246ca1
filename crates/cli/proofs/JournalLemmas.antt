-- Journals are kept by what a call leaves.
use Rattle.std.proofs.Common.{◌≡◌, ◌∷◌, [], ◌∙◌, inl, inr, refl, subst, sym, ℕ, List, Option, None, Some, Result, Ok, Err}
use Rattle.apply.proofs.KeptLemmas.{not_begun_kept, run_kept, untouched_kept}
use Rattle.apply.specs.Kept.{KeepsHistory}
use Rattle.apply_engine.specs.GoodPlan.{ReadyPlan}
use Rattle.apply_engine.specs.declared.good_plan.CarriedOut.{CarriedOut}
use Rattle.apply_engine.specs.declared.question.Prepared.{Prepared}
use Rattle.apply_engine.specs.declared.question.Prepared.TheVariants.{Judged, Ready}
use Rattle.cli.specs.Again.{ArchiveOf, archives_by}
use Rattle.cli.specs.Applied.{IsRunThrough}
use Rattle.cli.specs.Files.{Files}
use Rattle.cli.specs.Journals.{AskForJournal, KeepsJournal, KeepsJournals}
use Rattle.cli.specs.Kept.{Kept, Untouched}
use Rattle.cli.specs.Leaving.{IsLeftOfAsked, IsLeftOfKept, IsLeftOfPrepared, IsLeftOfReady, IsLeftOfSaid, IsLeftOrUntold}
use Rattle.cli.specs.Packages.{ArePut, IsLeftOfSurveyIn, files_of_survey}
use Rattle.cli.specs.Places.{texts_for}
use Rattle.cli.specs.Words.{IsLeftOfWords}
use Rattle.cli.specs.declared.applied.Stop.{Stop}
use Rattle.cli.specs.declared.applied.Stop.TheVariants.{NotBegun, Stopped}
use Rattle.cli.specs.declared.refutations.Placed.{Placed}
use Rattle.command_line.specs.Asked as ask
use Rattle.command_line.specs.Asked.{Asked}
use Rattle.command_line.specs.Joined.{Text, joined_words}
use Rattle.command_line.specs.Spelled.{spelled}
use Rattle.command_line.specs.declared.call.Format.{Format}
use Rattle.disk.specs.Facts.{DiskFacts}
use Rattle.inputs.specs.declared.refusal.Refusal.{Refusal}
use Rattle.installable.specs.declared.answer.Surveyed.{Surveyed}
use Rattle.keep_back.specs.declared.keep_back.KeptBack.{KeptBack}
use Rattle.outcomes.specs.declared.outcome.Outcome.{Outcome}
use Rattle.rules.proofs.Decided.{dec_text}

-- each journal is the one that was there
abbrev SameJournals : {J : Type 0} → Kept J → Option (Kept J) → Type 0
SameJournals {J} was kept = (left : Kept J) × (kept ≡ Some left) × ((path : List ℕ) → left.journals path ≡ was.journals path)

module _ {J : Type 0} where
  -- where nothing is changed
  untouched_same : (at : Files) (was : Kept J) (files : Option Files) (kept : Option (Kept J)) → Untouched at was files kept → SameJournals was kept
  untouched_same at was files kept same = (was, same.1, λ path. refl)

  -- where files are put
  put_same : (placed lost : List Placed) (at : Files) (was : Kept J) (files : Option Files) (kept : Option (Kept J))
      → ArePut placed lost at was files kept → SameJournals was kept
  put_same [] lost at was files kept same = untouched_same at was files kept same.1
  put_same (file ∷ others) lost at was files kept (inl put) =
      let then = put_same others lost put.0 put.1 files kept put.4 in
      (then.0, then.1, λ path. then.2 path ∙ put.3.journals path)
  put_same (file ∷ others) lost at was files kept (inr not) = put_same others not.0 at was files kept not.2

  -- where packages are asked about
  survey_same : (folder : Option (List ℕ)) (written : Format) (said : Result Surveyed Refusal) (at : Files) (was : Kept J) (outcome : Outcome)
      (files : Option Files) (kept : Option (Kept J)) → IsLeftOfSurveyIn folder written said at was outcome files kept → SameJournals was kept
  survey_same None written said at was outcome files kept left = untouched_same at was files kept left.1
  survey_same (Some folder) written (Err refused) at was outcome files kept left = untouched_same at was files kept left.1
  survey_same (Some folder) written (Ok surveyed) at was outcome files kept (inl put) =
      put_same (files_of_survey folder surveyed) put.0 at was files kept put.2
  survey_same (Some folder) written (Ok surveyed) at was outcome files kept (inr stopped) =
      put_same stopped.1.before stopped.1.lost at was files kept stopped.1.put

  -- where a request is put, or nothing
  request_same : (output : Option (List ℕ)) (request : List ℕ) (printed : Outcome) (at : Files) (was : Kept J) (outcome : Outcome)
      (files : Option Files) (kept : Option (Kept J)) → IsLeftOfKept output request printed at was outcome files kept → SameJournals was kept
  request_same None request printed at was outcome files kept left = untouched_same at was files kept left.1
  request_same (Some path) request printed at was outcome files kept (inl put) =
      let noted = put.1.1 in (noted.0, noted.1, noted.2.journals)
  request_same (Some path) request printed at was outcome files kept (inr left) = untouched_same at was files kept left.1

  -- where as much of a request is asked for as can be
  said_same : (archives : ArchiveOf) (written : Format) (said : Result KeptBack Refusal) (output : Option (List ℕ)) (at : Files) (was : Kept J)
      (outcome : Outcome) (files : Option Files) (kept : Option (Kept J)) → IsLeftOfSaid archives written said output at was outcome files kept
      → SameJournals was kept
  said_same archives written (Ok back) output at was outcome files kept left =
      request_same output back.request left.0 at was outcome files kept left.2
  said_same archives written (Err refused) output at was outcome files kept left = untouched_same at was files kept left.1

  module _ (honest : J → Type 0) (facts : J → DiskFacts) where
    -- a journal is kept by a run
    through_kept : (plan : ReadyPlan) (old : J) (run : Result CarriedOut Stop) (new : J) → IsRunThrough honest facts plan old run new
        → KeepsJournal honest facts old new
    through_kept plan old (Err (NotBegun e)) new through is =
        let then = through is in
        (then.0, not_begun_kept plan.arch plan.start (facts old) (facts new) e then.1)
    through_kept plan old (Err (Stopped e)) new (begun, through) is =
        let then = through is in
        (then.0, run_kept {T = CarriedOut} plan.arch plan.start plan.records (facts old) (facts begun) (facts new) (Err e) then.1 then.2)
    through_kept plan old (Ok done) new (carried, (begun, through)) is =
        let then = through is in
        (then.0, run_kept plan.arch plan.start plan.records (facts old) (facts begun) (facts new) (Ok done) then.1 then.2)

    -- one that isn't changed is kept
    same_kept : (old new : J) → new ≡ old → KeepsJournal honest facts old new
    same_kept old new same is =
        subst (λ (j : J). honest j × KeepsHistory (facts old) (facts j)) (sym same) (is, untouched_kept (facts old))

    module _ (words : List Text) (at : Files) (was : Kept J) (outcome : Outcome) (files : Option Files) (kept : Option (Kept J)) where
      -- all that aren't changed are kept
      all_kept : SameJournals was kept → KeepsJournals honest facts words was kept
      all_kept (left, is, same) = (
        left,
        is,
        record {
          kept = λ path. same_kept (was.journals path) (left.journals path) (same path);
          others = λ path unasked. same path;
        },
      )

      none_kept : Untouched at was files kept → KeepsJournals honest facts words was kept
      none_kept same = all_kept (untouched_same at was files kept same)

      -- where a good plan is run on one of them
      ready_kept : (plan : ReadyPlan) (journal output : List ℕ) → AskForJournal words journal
          → IsLeftOfReady honest facts plan journal output at was outcome files kept → KeepsJournals honest facts words was kept
      ready_kept plan journal output asks ready = (
        ready.left,
        ready.kept_is,
        record {
          kept = λ path. at_path path (dec_text path journal);
          others = λ path unasked. ready.elsewhere path (λ same. unasked (subst (AskForJournal words) (sym same) asks));
        },
      )
        where
          at_path : (path : List ℕ) → Dec (path ≡ journal) → KeepsJournal honest facts (was.journals path) (ready.left.journals path)
          at_path path (yes same) =
              subst (λ (p : List ℕ). KeepsJournal honest facts (was.journals p) (ready.left.journals p)) (sym same)
              (through_kept plan (was.journals journal) ready.run (ready.left.journals journal) ready.through)
          at_path path (no other) = same_kept (was.journals path) (ready.left.journals path) (ready.elsewhere path other)

      -- where a plan is to be carried out
      prepared_kept : (said : Result Prepared Refusal) (journal output : List ℕ) → AskForJournal words journal
          → IsLeftOfPrepared honest facts said journal output at was outcome files kept → KeepsJournals honest facts words was kept
      prepared_kept (Ok (Judged verdict)) journal output asks left = none_kept left.1
      prepared_kept (Ok (Ready plan)) journal output asks (inl one) = none_kept one.2
      prepared_kept (Ok (Ready plan)) journal output asks (inr left) = ready_kept plan journal output asks left.1
      prepared_kept (Err refused) journal output asks left = none_kept left.1

      -- by what is left of what is asked for
      asked_kept : (asked : Asked) → spelled (joined_words words) ≡ Some asked
          → IsLeftOfAsked honest facts asked at was outcome files kept → KeepsJournals honest facts words was kept
      asked_kept (ask.compare version word other) is left = none_kept left.1
      asked_kept (ask.candidate given names explains written) is left = none_kept left.1
      asked_kept (ask.solve given request limit (ask.whole names_pairs) explains written) is left = none_kept left.1
      asked_kept (ask.solve given request limit (ask.possible output) explains written) is (inl one) = none_kept one.2
      asked_kept (ask.solve given request limit (ask.possible output) explains written) is (inr left) =
          all_kept (said_same (archives_by (texts_for at given request)) written left.1.0 output at was outcome files kept left.1.2)
      asked_kept (ask.check_plan given request plan explains written) is left = none_kept left.1
      asked_kept (ask.check_refutation given request refutation explains written) is left = none_kept left.1
      asked_kept (ask.apply given request plan journal output) is (inl one) = none_kept one.2
      asked_kept (ask.apply given request plan journal output) is (inr left) =
          prepared_kept left.1.0 journal output (given, request, plan, output, is) left.1.2
      asked_kept (ask.installable given survey folder explains written) is (inl one) = none_kept one.1
      asked_kept (ask.installable given survey folder explains written) is (inr left) =
          all_kept (survey_same folder written left.1.0 at was outcome files kept left.1.2)
      asked_kept (ask.batch given limit) is left = none_kept left.1

      -- by what is left of words
      words_kept : IsLeftOfWords honest facts words at was outcome files kept → KeepsJournals honest facts words was kept
      words_kept (inl (utf8, left)) = asked_kept left.0 left.1 left.2
      words_kept (inr left) = none_kept left.1

    -- and where memory was wanting
    pub journals_kept : (words : List Text) (at : Files) (was : Kept J) (outcome : Outcome) (files : Option Files) (kept : Option (Kept J))
        → IsLeftOrUntold (IsLeftOfWords honest facts words at was) at was outcome files kept → KeepsJournals honest facts words was kept
    journals_kept words at was outcome files kept (inl left) = words_kept words at was outcome files kept left
    journals_kept words at was outcome files kept (inr (memory, inl same)) = none_kept words at was outcome files kept same
    journals_kept words at was outcome files kept (inr (memory, inr (made, left))) = words_kept words at was made files kept left
