-- What was left out of a request is put back.
use Rattle.std.specs.Prelude.{◌≡◌, ℕ, ◌<◌, suc, Bool, true, false, List, [], ◌∷◌, Option, None, Some}
use Rattle.std.specs.List.{slice_set}
use Rattle.inputs.specs.declared.before.Before.{Before}
use Rattle.keep_back.specs.Further.{AreOut, IsFurther, request_of}
use Rattle.keep_back.specs.KeptBack.{request_left}
use Rattle.keep_back.specs.Round.{IsRequestWithoutPlan, IsSolvedRequest}
use Rattle.keep_back.specs.declared.kept.Kept.{Kept}
use Rattle.keep_back.specs.declared.left.Left.{Left}
use Rattle.keep_back.specs.declared.round.SolvedRequest.{SolvedRequest}
use Rattle.request_lines.specs.Spelled.{lines_in, stays_at}
use Rattle.request_lines.specs.declared.wish.Wish.{Wish}

-- with the wish at this place beside what is left there is no plan
abbrev pub IsAlone : Before → ℕ → List Wish → List Bool → ℕ → Type 0
IsAlone before limit wishes stays place = IsRequestWithoutPlan before limit (request_left (lines_in wishes) (slice_set stays place true))

-- so it is with each that doesn't stay
abbrev pub AreAlone : Before → ℕ → List Wish → List Bool → Type 0
AreAlone before limit wishes stays = (place : ℕ) → stays_at stays place ≡ false → IsAlone before limit wishes stays place

-- the wishes and their marks are the same
pub record IsSame (old new : Left) : Type 0 where
  pub wishes : new.wishes.items ≡ old.wishes.items
  pub stays : new.stays.items ≡ old.stays.items

-- the wish at this place is put back, of the same wishes
pub record IsPutBack (place : ℕ) (old new : Left) : Type 0 where
  pub wishes : new.wishes.items ≡ old.wishes.items
  pub stays : new.stays.items ≡ slice_set old.stays.items place true

-- the wish at this place is put back, and the answer is that to what is left; or with it there is no plan
abbrev pub IsTried : Before → ℕ → ℕ → Left → Left → Option SolvedRequest → Type 0
IsTried before limit place old new None = IsSame old new × IsAlone before limit old.wishes.items old.stays.items place
IsTried before limit place old new (Some solved) = IsPutBack place old new × IsSolvedRequest before limit (request_of new) solved

-- how many don't stay
abbrev pub count_out : List Bool → ℕ
count_out [] = 0
count_out (true ∷ stays) = count_out stays
count_out (false ∷ stays) = suc (count_out stays)

-- at true fewer are left out than were; at false with none of the wishes at the places below this there is a plan
abbrev pub IsPass : Before → ℕ → ℕ → Left → Left → Bool → Type 0
IsPass before limit below old new true = IsFurther before old new × (count_out new.stays.items < count_out old.stays.items)
IsPass before limit below old new false = IsSame old new
    × ((place : ℕ) → place < below → stays_at old.stays.items place ≡ false → IsAlone before limit old.wishes.items old.stays.items place)

-- of these wishes is kept what stays, as they are marked, and is as much as can be
pub record IsRestKept (before : Before) (limit : ℕ) (wishes : List Wish) (kept : Kept) : Type 0 where
  pub stays : List Bool
  pub marked : kept.stays ≡ Some stays
  pub out : AreOut before wishes stays
  pub alone : AreAlone before limit wishes stays
  pub request : kept.request.items ≡ request_left (lines_in wishes) stays
