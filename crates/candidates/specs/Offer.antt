-- The versions of names with their priorities, and which one is to be chosen first (apt_preferences(5)).
use Rattle.std.specs.Prelude.{◌≡◌, ℕ, ℤ, pos, Bool, false, not, ◌&&◌, List, Option, int_lt}
use Rattle.std.specs.List.{filter, find}
use Rattle.std.specs.Option.{option_map_or}
use Rattle.std.specs.Ordering.{flip_args, int_cmp, on, then_cmp}
use Rattle.std.specs.declared.cmp.Ordering.{Ordering}
use Rattle.rules.specs.Database.{Record}
use Rattle.rules.specs.Name.{name_cmp}
use Rattle.rules.specs.Step.{is_named}
use Rattle.rules.specs.Version.{SameVersion, version_cmp}
use Rattle.candidates.specs.Recorded.{stands_above}

-- a version of a name, and its priority
pub record Offer : Type 0 where
  pub name : List ℕ
  pub version : List ℕ
  pub priority : ℤ

-- the offer is of the name and the version
abbrev pub IsFor : List ℕ → List ℕ → Offer → Type 0
IsFor name version offer = (offer.name ≡ name) × SameVersion offer.version version

-- the offer may be chosen beside the record of its name, if it has one: its priority is above 0, and it is no downgrade with
-- a priority below 1000
abbrev pub is_eligible_beside : Option Record → Offer → Bool
is_eligible_beside entry offer = int_lt (pos 0) offer.priority
    && not (int_lt offer.priority (pos 1000) && option_map_or (stands_above offer.version) entry false)

-- the offer may be chosen
abbrev pub is_eligible : List Record → Offer → Bool
is_eligible db offer = is_eligible_beside (find (is_named offer.name) db) offer

-- the offers that may be chosen
abbrev pub eligible : List Record → List Offer → List Offer
eligible db offers = filter (is_eligible db) offers

-- the order of offers of one name, the one to choose first: the greater priority, and of one priority the higher version
abbrev pub choice_cmp : Offer → Offer → Ordering
choice_cmp =
    flip_args (then_cmp (on (λ offer. offer.priority) int_cmp) (on (λ offer. offer.version) version_cmp))

-- the order of names of offers
abbrev pub offer_name_cmp : Offer → Offer → Ordering
offer_name_cmp = on (λ offer. offer.name) name_cmp

-- the order of offers: by name, the last first, and of one name the one to choose first
abbrev pub offer_cmp : Offer → Offer → Ordering
offer_cmp = then_cmp (flip_args offer_name_cmp) choice_cmp
