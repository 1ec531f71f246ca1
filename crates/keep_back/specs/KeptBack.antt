-- As much of a request as can be: what is left of it where lines are left out (this project's own).
use Rattle.std.specs.Prelude.{◌≡◌, ◌⊎◌, ℕ, Bool, true, false, List, length, Option, None, Some, Result, Ok, Err}
use Rattle.std.specs.List.{slice_set}
use Rattle.inputs.specs.Meaning.{Denotes}
use Rattle.inputs.specs.ReadAs.{asking}
use Rattle.inputs.specs.Refused.{IsRefusal}
use Rattle.inputs.specs.Texts.{Texts}
use Rattle.inputs.specs.declared.refusal.Refusal.{Refusal}
use Rattle.rules.specs.Database.{Record}
use Rattle.rules.specs.Universe.{Universe}
use Rattle.solver.specs.Solved.{IsSolved}
use Rattle.solver.specs.declared.solved.Solved.TheVariants as solved
use Rattle.solver.specs.declared.solved.Undecided.{Undecided}
use Rattle.request_lines.specs.Goals.{AsksForMoreAt}
use Rattle.request_lines.specs.Spelled.{spelled_out, staying, stays_at, text_of}
use Rattle.request_lines.specs.Upgraded.{names_to_upgrade}
use Rattle.cli_engine.specs.Refuted.{AreRefuted}
use Rattle.cli_engine.specs.Solution.{IsSolution}
use Rattle.keep_back.specs.declared.keep_back.KeptBack.{KeptBack}

-- the lines are those of the request of the texts, with `upgrade-all` spelled out by the names of which it asks for another version
pub record AreLinesOf (texts : Texts) (lines : List (List ℕ)) : Type 0 where
  pub request : List ℕ
  pub universe : Universe
  pub start : List Record
  pub there : texts.request ≡ Some request
  pub denoted : Denotes texts universe start
  pub lines_are : lines ≡ spelled_out texts.arch (names_to_upgrade universe) request

-- the text of the request of these lines, where each is marked by whether it stays
abbrev pub request_left : List (List ℕ) → List Bool → List ℕ
request_left lines stays = text_of (staying lines stays)

-- at the limit the request of the texts is undecided
pub record AreUndecided (texts : Texts) (limit : ℕ) : Type 0 where
  pub universe : Universe
  pub start : List Record
  pub denoted : Denotes texts universe start
  pub why : Undecided
  pub holds : IsSolved universe start limit (solved.Undecided why)

-- the texts are refuted, or at the limit they are undecided
abbrev pub AreWithoutPlan : Texts → ℕ → Type 0
AreWithoutPlan texts limit = AreRefuted texts ⊎ AreUndecided texts limit

-- the line at this place asks for an installation or an upgrade, and it was left out of a request of these lines that is refuted
pub record WasLeftOut (texts : Texts) (lines : List (List ℕ)) (place : ℕ) : Type 0 where
  pub asks : AsksForMoreAt texts.arch lines place
  pub stays : List Bool
  pub stood : stays_at stays place ≡ true
  pub refuted : AreRefuted (asking (request_left lines stays) texts)

-- the request is what is left of these lines, those of the texts, which are refuted: each line that doesn't stay was left out of a
-- request that is refuted
pub record IsRest (texts : Texts) (lines : List (List ℕ)) (stays : List Bool) (request : List ℕ) : Type 0 where
  pub lines_of : AreLinesOf texts lines
  pub refuted : AreRefuted texts
  pub marked : length stays ≡ length lines
  pub out : (place : ℕ) → stays_at stays place ≡ false → WasLeftOut texts lines place
  pub request_is : request ≡ request_left lines stays

-- each line that doesn't stay can't be had alone beside those that do: with it the request is refuted, or at the limit it is undecided
abbrev pub IsAsMuchAsCanBe : Texts → ℕ → List (List ℕ) → List Bool → Type 0
IsAsMuchAsCanBe texts limit lines stays =
    (place : ℕ) → stays_at stays place ≡ false → AreWithoutPlan (asking (request_left lines (slice_set stays place true)) texts) limit

-- the request is that of the texts; or it is what is left of its lines, as these are marked, and is as much as can be
abbrev pub IsLeft : Texts → ℕ → Option (List Bool) → List ℕ → Type 0
IsLeft texts limit None request = texts.request ≡ Some request
IsLeft texts limit (Some stays) request = (lines : List (List ℕ)) × IsRest texts lines stays request × IsAsMuchAsCanBe texts limit lines stays

-- the answer is true of the request that is left, with the reasons that are told and the lines of a refutation where there is a document
pub record IsKeptBack (texts : Texts) (limit : ℕ) (tells_reasons has_document : Bool) (kept : KeptBack) : Type 0 where
  pub left : IsLeft texts limit kept.stays kept.request
  pub holds : IsSolution (asking kept.request texts) limit false tells_reasons has_document kept.answered

-- lines were left out, and what is left of the request is refused so
pub record IsLeftRefusal (texts : Texts) (refused : Refusal) : Type 0 where
  pub lines : List (List ℕ)
  pub stays : List Bool
  pub request : List ℕ
  pub rest : IsRest texts lines stays request
  pub refused_so : IsRefusal (asking request texts) refused

-- it is the first refusal of the texts, or of what is left of their request
abbrev pub IsKeptRefusal : Texts → Refusal → Type 0
IsKeptRefusal texts refused = IsRefusal texts refused ⊎ IsLeftRefusal texts refused

-- what is said of as much of a request as can be: the answer to what is left of it, or the first refusal, of the request or of what is
-- left of it
abbrev pub IsSaidOfKept : Texts → ℕ → Bool → Bool → Result KeptBack Refusal → Type 0
IsSaidOfKept texts limit tells_reasons has_document (Ok kept) = IsKeptBack texts limit tells_reasons has_document kept
IsSaidOfKept texts limit tells_reasons has_document (Err refused) = IsKeptRefusal texts refused
