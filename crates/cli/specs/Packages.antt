-- What is printed of packages that are asked about, and which files are written beside it.
use Rattle.std.specs.Prelude.{◌≡◌, ◌⊎◌, ◌-◌, ℕ, Bool, true, false, List, [], ◌∷◌, ◌++◌, Option, None, Some, Result, Ok, Err, ⊤, codes, if◌then◌else◌, length, nat_le}
use Rattle.std.specs.List.{flat_map}
use Rattle.cli.specs.Files.{Files, HasPut}
use Rattle.cli.specs.Kept.{IsNoted, Kept, Untouched}
use Rattle.cli.specs.Places.{AreOutside, IsFolderFree}
use Rattle.cli.specs.declared.refutations.Placed.{Placed}
use Rattle.command_line.specs.Asked.{Survey}
use Rattle.command_line.specs.declared.call.Format.{Format}
use Rattle.command_line.specs.declared.call.ShardNumber.{ShardNumber as ShardWords}
use Rattle.hex.specs.Hex.{encode_lower}
use Rattle.inputs.specs.Texts.{Texts}
use Rattle.inputs.specs.declared.refusal.Refusal.{Refusal}
use Rattle.installable.specs.Answers.{IsSaidOfPackages, names_of}
use Rattle.installable.specs.declared.answer.Installability.{Installability}
use Rattle.installable.specs.declared.answer.Installability.TheVariants as answer
use Rattle.installable.specs.declared.answer.PackageAnswer.{PackageAnswer}
use Rattle.installable.specs.declared.answer.Surveyed.{Surveyed}
use Rattle.installable.specs.declared.question.Installable.{Installable}
use Rattle.installable.specs.declared.shard.Shard.{Shard}
use Rattle.outcomes.specs.Outcome.{IsOutcomeOfMemory, IsOutcomeOfOneFile, IsOutcomeOfRefusal}
use Rattle.outcomes.specs.Survey.{IsFolderUnwritten, IsOutcomeOfSurvey}
use Rattle.outcomes.specs.declared.outcome.Outcome.{Outcome}
use Rattle.sha2.specs.Sha256.{sha256}

-- The question

-- it is the K-th of every N: K - 1 come before its first, and N - 1 are left out between two
pub record IsShardOfWords (words : ShardWords) (shard : Shard) : Type 0 where
  pub before : shard.before ≡ words.number - 1
  pub between : shard.between ≡ words.of - 1

-- the question asks of the packages that the words ask about
pub record IsQuestionOf (survey : Survey) (question : Installable) : Type 0 where
  pub names : names_of question ≡ survey.names
  pub all_versions : question.asks_all_versions ≡ survey.asks_all_versions
  pub essential : question.without_essential ≡ survey.without_essential
  pub shard : IsShardOfWords survey.shard question.shard
  pub limit : question.limit ≡ survey.limit

-- this is said of the packages that the words ask about, by the texts
abbrev pub IsSaidOfSurvey : Texts → Survey → Result Surveyed Refusal → Type 0
IsSaidOfSurvey texts survey said = (question : Installable) × IsQuestionOf survey question × IsSaidOfPackages texts question said

-- The files

-- the file in the folder, with this name and ending, and this text
abbrev pub placed_in : List ℕ → List ℕ → List ℕ → List ℕ → Placed
placed_in folder stem ending text = record { path = folder ++ (codes "/" ++ (stem ++ ending)); text = text }

-- the files of a request: if it has no acceptable selection, it and its refutation
abbrev pub files_of : List ℕ → List ℕ → Installability → List Placed
files_of folder stem (answer.Broken refuted) =
    placed_in folder stem (codes ".request") refuted.request ∷ placed_in folder stem (codes ".refutation") refuted.refutation ∷ []
files_of folder stem installability = []

-- how files are named without their endings: so, or by the SHA-256 of that (FIPS 180-4) if it has over 200 bytes
abbrev pub file_stem : List ℕ → List ℕ
file_stem stem = if nat_le (length stem) 200 then stem else codes "sha256-" ++ encode_lower (sha256 stem)

-- a package, as its files are named
abbrev pub stem_of : PackageAnswer → List ℕ
stem_of answered = file_stem (answered.name ++ (codes "_" ++ answered.version))

-- the files of a package
abbrev pub files_of_package : List ℕ → PackageAnswer → List Placed
files_of_package folder answered = files_of folder (stem_of answered) answered.installability

-- the files of what is answered: of what stands beside each package by itself, and of the packages in their order
abbrev pub files_of_survey : List ℕ → Surveyed → List Placed
files_of_survey folder surveyed = files_of folder (codes "base") surveyed.base ++ flat_map (files_of_package folder) surveyed.packages

-- each file was put, or is one of those that are lost and wasn't, one after the other; and nothing else is changed
abbrev pub ArePut : {J : Type 0} → List Placed → List Placed → Files → Kept J → Option Files → Option (Kept J) → Type 0
ArePut [] lost at was files kept = (lost ≡ []) × Untouched at was files kept
ArePut {J} (file ∷ others) lost at was files kept = ((next : Files) × (left : Kept J) × HasPut file.path file.text at next
    × IsNoted true file.path file.text was left × ArePut others lost next left files kept)
    ⊎ ((more : List Placed) × (lost ≡ file ∷ more) × ArePut others more at was files kept)

-- the files before one of them were put, but those that are lost, and nothing else is changed
pub record IsStopped {J : Type 0} (all : List Placed) (at : Files) (was : Kept J) (files : Option Files) (kept : Option (Kept J)) : Type 0 where
  pub before : List Placed
  pub behind : List Placed
  pub lost : List Placed
  pub split : all ≡ before ++ behind
  pub put : ArePut before lost at was files kept

-- the file alone, if it wasn't put
abbrev pub lost_unless : Bool → Placed → List Placed
lost_unless is_put file = if is_put then [] else file ∷ []

-- it is known whether the file was put; and if memory was wanting for it, it wasn't
abbrev pub IsPutAnswer : {A E F : Type 0} → Result A E → Result Bool F → Type 0
IsPutAnswer (Ok done) (Ok is_put) = is_put ≡ true
IsPutAnswer (Err e) (Ok is_put) = is_put ≡ false
IsPutAnswer (Ok done) (Err f) = ⊥
IsPutAnswer (Err e) (Err f) = ⊤

-- the file was put or is lost; and if memory was wanting for it, nothing is changed
abbrev pub IsLeftOfFile : {J E : Type 0} → Placed → Files → Kept J → Result Bool E → Option Files → Option (Kept J) → Type 0
IsLeftOfFile file at was (Ok is_put) files kept = ArePut (file ∷ []) (lost_unless is_put file) at was files kept
IsLeftOfFile file at was (Err e) files kept = Untouched at was files kept

-- What is printed and left

-- the folder of refutations is refused: no file can be written there, or one of these could be one of its files
abbrev pub IsFolderRefused : Option (List ℕ) → List (List ℕ) → Outcome → Type 0
IsFolderRefused None others outcome = ⊥
IsFolderRefused (Some folder) others outcome = IsFolderUnwritten outcome ⊎ ((¬ AreOutside folder others) × IsOutcomeOfOneFile outcome)

-- the outcome is that of what is said; if there is a folder, it tells how many files couldn't be written there
abbrev pub IsOutcomeOfSurveyIn : Option (List ℕ) → Format → Result Surveyed Refusal → Outcome → Type 0
IsOutcomeOfSurveyIn None written said outcome = IsOutcomeOfSurvey written 0 said outcome
IsOutcomeOfSurveyIn (Some folder) written said outcome = (unwritten : ℕ) × IsOutcomeOfSurvey written unwritten said outcome

-- the outcome is that of what is said of the packages that the words ask about, by the texts, in this format
abbrev pub IsOutcomeOfSurveyed : Texts → Survey → Option (List ℕ) → Format → Outcome → Type 0
IsOutcomeOfSurveyed texts survey folder written outcome =
    (said : Result Surveyed Refusal) × IsSaidOfSurvey texts survey said × IsOutcomeOfSurveyIn folder written said outcome

-- so it is, or the folder is refused beside these files that are read
abbrev pub IsOutcomeOfPackages : Texts → List (List ℕ) → Survey → Option (List ℕ) → Format → Outcome → Type 0
IsOutcomeOfPackages texts read survey folder written outcome =
    IsFolderRefused folder read outcome ⊎ (IsFolderFree folder read × IsOutcomeOfSurveyed texts survey folder written outcome)

-- if there is a folder, the files of what is said were put, but those that are lost, and it is printed with their number; or memory was
-- wanting, and the first of them were; else nothing is changed
abbrev pub IsLeftOfSurveyIn : {J : Type 0} → Option (List ℕ) → Format → Result Surveyed Refusal → Files → Kept J
    → Outcome → Option Files → Option (Kept J) → Type 0
IsLeftOfSurveyIn None written said at was outcome files kept = IsOutcomeOfSurvey written 0 said outcome × Untouched at was files kept
IsLeftOfSurveyIn (Some folder) written (Err refused) at was outcome files kept = IsOutcomeOfRefusal refused outcome × Untouched at was files kept
IsLeftOfSurveyIn (Some folder) written (Ok surveyed) at was outcome files kept =
    ((lost : List Placed) × IsOutcomeOfSurvey written (length lost) (Ok surveyed) outcome
    × ArePut (files_of_survey folder surveyed) lost at was files kept)
    ⊎ (IsOutcomeOfMemory outcome × IsStopped (files_of_survey folder surveyed) at was files kept)

-- what is left is that of what is said of the packages that the words ask about, by the texts
abbrev pub IsLeftOfSurveyed : {J : Type 0} → Texts → Survey → Option (List ℕ) → Format → Files → Kept J
    → Outcome → Option Files → Option (Kept J) → Type 0
IsLeftOfSurveyed texts survey folder written at was outcome files kept =
    (said : Result Surveyed Refusal) × IsSaidOfSurvey texts survey said × IsLeftOfSurveyIn folder written said at was outcome files kept

-- so it is; and if the folder is refused beside these files that are read, nothing is changed
abbrev pub IsLeftOfPackages : {J : Type 0} → Texts → List (List ℕ) → Survey → Option (List ℕ) → Format → Files → Kept J
    → Outcome → Option Files → Option (Kept J) → Type 0
IsLeftOfPackages texts read survey folder written at was outcome files kept = (IsFolderRefused folder read outcome × Untouched at was files kept)
    ⊎ (IsFolderFree folder read × IsLeftOfSurveyed texts survey folder written at was outcome files kept)
