-- Why a version isn't admitted (apt_preferences(5)), and what may admit it, in words (this project's own form). Which priority a version
-- has, and by which record of the preferences, isn't stated here: any are told.
use Rattle.std.specs.Prelude.{◌≡◌, ◌⊎◌, ◌++◌, ℕ, ℤ, Bool, true, false, List, [], Option, None, Some, codes, decimal, if◌then◌else◌}
use Rattle.std.specs.Fmt.{signed_decimal}
use Rattle.std.specs.Option.{option_map_or}
use Rattle.std.specs.declared.cmp.Ordering.TheVariants.{Less}
use Rattle.refutation_sentences.specs.Offers.{standing_of}
use Rattle.rules.specs.Universe.{Universe, candidate_of, start_in}
use Rattle.rules.specs.Version.{version_cmp}
use Rattle.universe_parts.specs.Parts.{number_among}

-- the start says that the name is held
abbrev pub is_held : Universe → List ℕ → Bool
is_held u name = option_map_or (λ start. start.is_held) (start_in u name) false

-- that a name is held, in the version that stands, if one does
abbrev pub held_words : List ℕ → Option (List ℕ) → List ℕ
held_words name None = name ++ codes " is held and not installed"
held_words name (Some standing) = name ++ (codes " is held at " ++ standing)

-- the number of the record of the preferences that gives a priority
abbrev pub record_words : ℕ → List ℕ
record_words number = codes ", by record " ++ (decimal number ++ codes " of the preferences")

-- a priority, and the record of the preferences that gives it, if one does
abbrev pub rating_words : ℤ → Option ℕ → List ℕ
rating_words priority None = signed_decimal priority
rating_words priority (Some number) = signed_decimal priority ++ record_words number

-- the version that is taken in the place of others, if there is one
abbrev pub candidate_words : Option (List ℕ) → List ℕ
candidate_words None = codes ", and no version of it may be chosen"
candidate_words (Some candidate) = codes ", and the candidate is " ++ candidate

-- that a version is lower than the one that stands
abbrev pub lower_words : List ℕ → List ℕ
lower_words standing = codes ", and it is lower than the installed " ++ standing

-- what is said tells that the version of the name is lower than the one that stands
abbrev pub IsLowerTold : Universe → List ℕ → List ℕ → List ℕ → Type 0
IsLowerTold u name version said = (standing : List ℕ) × (standing_of u name ≡ Some standing) × (version_cmp version standing ≡ Less)
    × (said ≡ lower_words standing)

-- what is said tells what is taken in the place of the version of the name
abbrev pub IsTakenTold : Universe → List ℕ → List ℕ → List ℕ → Type 0
IsTakenTold u name version said = (said ≡ candidate_words (candidate_of u name)) ⊎ IsLowerTold u name version said

-- what stands before the name and behind the version of what may admit it, among it a line all-versions or not
abbrev pub remedy_before : Bool → List ℕ
remedy_before is_offered = if is_offered then codes " (a line all-versions, or the goal install " else codes " (the goal install "

abbrev pub remedy_behind : Bool → List ℕ
remedy_behind is_offered = if is_offered then codes "), may admit it)" else codes ") may admit it)"

-- what may admit the version of the name
abbrev pub remedy_words : Bool → List ℕ → List ℕ → List ℕ
remedy_words is_offered name version =
    remedy_before is_offered ++ (name ++ (codes " (= " ++ (version ++ remedy_behind is_offered)))

-- the same of a version that isn't admitted, and nothing of one that is
abbrev pub remedy_where_left_out : Universe → List ℕ → List ℕ → List ℕ
remedy_where_left_out u name version = option_map_or (λ number. []) (number_among u.pairs name version) (remedy_words false name version)

-- what is said tells why a version of a name that isn't held isn't chosen
pub record IsUnchosenTold (u : Universe) (name version said : List ℕ) : Type 0 where
  pub priority : ℤ
  pub record_number : Option ℕ
  pub taken : List ℕ
  pub is_offered : Bool
  pub is_taken : IsTakenTold u name version taken
  pub words : said
      ≡ codes "its priority is " ++ (rating_words priority record_number ++ (taken ++ remedy_words is_offered name version))

-- what is said tells why the version of the name isn't admitted
abbrev pub IsReasonTold : Universe → List ℕ → List ℕ → List ℕ → Type 0
IsReasonTold u name version said = ((is_held u name ≡ true) × (said ≡ held_words name (standing_of u name)))
    ⊎ ((is_held u name ≡ false) × IsUnchosenTold u name version said)
