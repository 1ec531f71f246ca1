-- Where the offers of each name stand among offers in order, by a table of the names.
use Rattle.std.specs.Prelude.{◌≡◌, ℕ, true, ◌≤◌, List, Option, None, Some, bytes_eq, drop, is_some, length, take}
use Rattle.std.specs.Borrow.{Bor}
use Rattle.std.specs.List.{All, filter}
use Rattle.std.specs.Map.{lookup}
use Rattle.providers.specs.Offers.{Offer, is_offer_of}

-- from the first place up to the second, which isn't one of them, stand the offers of the name
pub record IsSpan (name : List ℕ) (offers : List Offer) (start end : ℕ) : Type 0 where
  pub within : end ≤ length offers
  pub before : start ≤ end
  pub same : drop start (take end offers) ≡ filter (is_offer_of name) offers

-- what the table says of the name
abbrev pub span_in : List (Bor (List ℕ) × (ℕ × ℕ)) → List ℕ → Option (ℕ × ℕ)
span_in table name = lookup (λ key. bytes_eq name key.now) table

-- what the table says of a name is so
abbrev pub AreSpans : List Offer → List (Bor (List ℕ) × (ℕ × ℕ)) → Type 0
AreSpans offers table = (name : List ℕ) (start end : ℕ) → span_in table name ≡ Some (start, end) → IsSpan name offers start end

-- the table has the names of these offers
abbrev pub HasNames : List Offer → List (Bor (List ℕ) × (ℕ × ℕ)) → Type 0
HasNames offers table = All (λ offer. is_some (span_in table offer.name) ≡ true) offers

-- the table has no name of these offers
abbrev pub HasNoNames : List Offer → List (Bor (List ℕ) × (ℕ × ℕ)) → Type 0
HasNoNames offers table = All (λ offer. span_in table offer.name ≡ None) offers

-- the table has the names of the offers before this place, says of each where its offers stand, and has no later name
pub record IsTableUpTo (offers : List Offer) (place : ℕ) (table : List (Bor (List ℕ) × (ℕ × ℕ))) : Type 0 where
  pub within : place ≤ length offers
  pub right : AreSpans offers table
  pub whole : HasNames (take place offers) table
  pub later : HasNoNames (drop place offers) table

-- the table says of each name where its offers stand
pub record IsTable (offers : List Offer) (table : List (Bor (List ℕ) × (ℕ × ℕ))) : Type 0 where
  pub right : AreSpans offers table
  pub whole : HasNames offers table
