-- Files that are put, one after the other.
use Rattle.std.proofs.Common.{◌≡◌, ◌∷◌, ◌++◌, [], ◌<◌, ℕ, Bool, true, List, Option, Some, Result, Ok, Err, IfOk, IsErr, codes, drop, drop-cons, get_or, inl, inr, length, refl, suc, subst, sym, take, take-append-drop, ◌∙◌, ap, append-nil}
use Rattle.cli.specs.Files.{Files, Puts}
use Rattle.cli.specs.Kept.{Kept, NotesPut, Untouched}
use Rattle.cli.specs.Leaving.{IsLeftWith}
use Rattle.cli.specs.Packages.{ArePut, IsLeftOfFile, IsLeftOfSurveyIn, IsPutAnswer, IsStopped, files_of_survey, lost_unless}
use Rattle.cli.specs.declared.refutations.Placed.{Placed}
use Rattle.command_line.specs.declared.call.Format.{Format}
use Rattle.installable.specs.declared.answer.Surveyed.{Surveyed}
use Rattle.outcomes.specs.Survey.{IsOutcomeOfSurvey}
use Rattle.outcomes.specs.declared.exit.Exit.TheVariants as exit
use Rattle.outcomes.specs.declared.outcome.Outcome.{Outcome}
use Rattle.outcomes.specs.declared.outcome.Outcome.TheVariants as outcome

module _ {J : Type 0} where
  -- one more file was put or is lost
  pub put_more : (ps : List Placed) (p : Placed) (lost more : List Placed) (at : Files) (was : Kept J) (fs files : Option Files)
      (ks kept : Option (Kept J)) → ArePut ps lost at was fs ks
      → ((mid : Files) (now : Kept J) → fs ≡ Some mid → ks ≡ Some now → ArePut (p ∷ []) more mid now files kept)
      → ArePut (ps ++ p ∷ []) (lost ++ more) at was files kept
  put_more [] p lost more at was fs files ks kept same then =
      subst (λ (all : List Placed). ArePut (p ∷ []) (all ++ more) at was files kept) (sym same.0) (then at was same.1.0 same.1.1)
  put_more (q ∷ ps) p lost more at was fs files ks kept (inl put) then =
      inl (put.0, put.1, put.2, put.3, put_more ps p lost more put.0 put.1 fs files ks kept put.4 then)
  put_more (q ∷ ps) p lost more at was fs files ks kept (inr not) then =
      inr (not.0 ++ more, ap (λ (all : List Placed). all ++ more) not.1, put_more ps p not.0 more at was fs files ks kept not.2 then)

  -- nothing more was changed
  pub put_still : (ps lost : List Placed) (at : Files) (was : Kept J) (fs files : Option Files) (ks kept : Option (Kept J))
      → ArePut ps lost at was fs ks → ((mid : Files) (now : Kept J) → fs ≡ Some mid → ks ≡ Some now → Untouched mid now files kept)
      → ArePut ps lost at was files kept
  put_still [] lost at was fs files ks kept same then = (same.0, then at was same.1.0 same.1.1)
  put_still (q ∷ ps) lost at was fs files ks kept (inl put) then =
      inl (put.0, put.1, put.2, put.3, put_still ps lost put.0 put.1 fs files ks kept put.4 then)
  put_still (q ∷ ps) lost at was fs files ks kept (inr not) then =
      inr (not.0, not.1, put_still ps not.0 at was fs files ks kept not.2 then)

  -- what is left of one file, by what its host answers
  pub file_left : {A E F : Type 0} (file : Placed) (put : Result A E) (r : Result Bool F) (at : Files) (was : Kept J)
      (files : Option Files) (kept : Option (Kept J)) → Puts file.path file.text at put files → NotesPut true file.path file.text was put kept
      → IsPutAnswer put r → IsLeftOfFile file at was r files kept
  file_left file (Ok done) (Ok is_put) at was files kept puts notes is =
      subst (λ (b : Bool). ArePut (file ∷ []) (lost_unless b file) at was files kept) (sym is)
      (inl (puts.0, notes.0, puts.2, notes.2, (refl, (puts.1, notes.1))))
  file_left file (Ok done) (Err e) at was files kept puts notes is = absurd is
  file_left file (Err e) (Ok is_put) at was files kept puts notes is =
      subst (λ (b : Bool). ArePut (file ∷ []) (lost_unless b file) at was files kept) (sym is) (inr ([], refl, (refl, (puts, notes))))
  file_left file (Err e) (Err f) at was files kept puts notes is = (puts, notes)

  -- where memory was wanting, the first files were put
  pub stopped_left : {E : Type 0} (folder : List ℕ) (written : Format) (surveyed : Surveyed) (at : Files) (was : Kept J) (files : Option Files)
      (kept : Option (Kept J)) (r : Result Outcome E) → IsErr r → IsStopped (files_of_survey folder surveyed) at was files kept
      → IsLeftWith (IsLeftOfSurveyIn (Some folder) written (Ok surveyed) at was) at was r files kept
  stopped_left {E} folder written surveyed at was files kept (Ok outcome) is stopped = absurd (let e : IsErr {E = E} (Ok outcome) = is in cc)
  stopped_left folder written surveyed at was files kept (Err e) is stopped =
      inr (outcome.Complaint (codes "debplan: memory: E1 OutOfMemory\n") exit.Device, inr (refl, stopped))

  -- all of them were put, but those that are lost
  pub answers_left : {E : Type 0} (folder : List ℕ) (written : Format) (surveyed : Surveyed) (lost : List Placed) (at : Files) (was : Kept J)
      (files : Option Files) (kept : Option (Kept J)) (r : Result Outcome E)
      → IfOk r (IsOutcomeOfSurvey written (length lost) (Ok surveyed)) → ArePut (files_of_survey folder surveyed) lost at was files kept
      → IsLeftWith (IsLeftOfSurveyIn (Some folder) written (Ok surveyed) at was) at was r files kept
  answers_left folder written surveyed lost at was files kept (Ok made) is put = inl (lost, is, put)
  answers_left folder written surveyed lost at was files kept (Err e) is put =
      stopped_left folder written surveyed at was files kept (Err e) refl (record {
        before = files_of_survey folder surveyed;
        behind = [];
        lost = lost;
        split = sym (append-nil (files_of_survey folder surveyed));
        put = put;
      })

-- a list is cut at one of its items
pub cut_at : {A : Type 0} (xs : List A) (place : ℕ) (x : A) → place < length xs → xs ≡ take place xs ++ get_or xs place x ∷ drop (suc place) xs
cut_at xs place x within = sym (take-append-drop place xs) ∙ ap (λ ys. take place xs ++ ys) (drop-cons xs place x within)
