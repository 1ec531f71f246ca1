-- The candidates of names, one name at a time.
use Rattle.std.proofs.Common.{◌++◌, ℕ, List, [], ◌∷◌, Option}
use Rattle.std.specs.List.{AllZip}
use Rattle.candidates.specs.Offer.{Offer}
use Rattle.inputs.specs.Before.{AreRead}
use Rattle.inputs.specs.Texts.{Texts}
use Rattle.pins.specs.Prefs.{Preferences}
use Rattle.rules.specs.Available.{Index}
use Rattle.rules.specs.Database.{Record}
use Rattle.cli_engine.specs.Answer.{AreCandidateAnswers, AreCandidatesOf}

-- one more pair at the ends of two lists
pub zip_more : {A B : Type 0} (R : A → B → Type 0) (xs : List A) (ys : List B) (x : A) (y : B) → AllZip R xs ys → R x y
    → AllZip R (xs ++ x ∷ []) (ys ++ y ∷ [])
zip_more R [] [] x y all here = (here, tt)
zip_more R [] (b ∷ ys) x y all here = absurd all
zip_more R (a ∷ xs) [] x y all here = absurd all
zip_more R (a ∷ xs) (b ∷ ys) x y all here = (all.0, zip_more R xs ys x y all.1 here)

-- candidates by what the texts are read as are an answer
pub answered_by : (texts : Texts) (start : List Record) (indices : List Index) (prefs : Preferences) (names : List (List ℕ))
    (candidates : List (Option Offer)) → AreRead texts start indices prefs → AreCandidatesOf start indices prefs names candidates
    → AreCandidateAnswers texts names candidates
answered_by texts start indices prefs [] [] read are = tt
answered_by texts start indices prefs [] (candidate ∷ candidates) read are = absurd are
answered_by texts start indices prefs (name ∷ names) [] read are = absurd are
answered_by texts start indices prefs (name ∷ names) (candidate ∷ candidates) read are = (
  record {
    start = start;
    indices = indices;
    prefs = prefs;
    read = read;
    holds = are.0;
  },
  answered_by texts start indices prefs names candidates read are.1,
)
