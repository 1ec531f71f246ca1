-- What was left out of a request, one goal after the other.
use Rattle.std.specs.Prelude.{◌≡◌, ◌⊎◌, ℕ, Bool, true, false, List, [], length, Option, None, Some}
use Rattle.std.specs.List.{slice_index_or}
use Rattle.inputs.specs.ReadAs.{asking}
use Rattle.inputs.specs.Reading.{out_of_memory}
use Rattle.inputs.specs.Refused.{IsRefusal}
use Rattle.inputs.specs.Texts.{Texts}
use Rattle.inputs.specs.declared.before.Before.{Before}
use Rattle.inputs.specs.declared.refusal.Refusal.{Refusal}
use Rattle.keep_back.specs.KeptBack.{request_left}
use Rattle.keep_back.specs.Reason.{IsRefutation}
use Rattle.keep_back.specs.Round.{IsRefutedRequest, IsSolvedRequest}
use Rattle.keep_back.specs.declared.left.Left.{Left}
use Rattle.keep_back.specs.declared.round.SolvedRequest.{SolvedRequest}
use Rattle.solver.specs.declared.solved.Solved.{Solved}
use Rattle.request_lines.specs.Goals.{asks_for_more, only_goal}
use Rattle.request_lines.specs.Spelled.{goals_of, lines_in, stays_at}
use Rattle.request_lines.specs.declared.wish.Wish.{Wish}

-- the text of the request that is left
abbrev pub request_of : Left → List ℕ
request_of left = request_left (lines_in left.wishes.items) left.stays.items

-- every line stays
abbrev pub AllStay : List Bool → Type 0
AllStay stays = (place : ℕ) → stays_at stays place ≡ true

-- the wish at this place asks for an installation or an upgrade
abbrev pub AsksAt : List Wish → ℕ → Type 0
AsksAt wishes place = asks_for_more (only_goal (slice_index_or (goals_of wishes) place [])) ≡ true

-- further wishes were left out that ask for an installation or an upgrade
pub record IsFewer (old new : Left) : Type 0 where
  pub wishes : new.wishes.items ≡ old.wishes.items
  pub long : length new.stays.items ≡ length old.stays.items
  pub out : (place : ℕ) → stays_at new.stays.items place ≡ false → (stays_at old.stays.items place ≡ false) ⊎ AsksAt old.wishes.items place

-- at true further ones were, and at false nothing has changed
abbrev pub IsFewerBy : Bool → Left → Left → Type 0
IsFewerBy true old new = IsFewer old new
IsFewerBy false old new = new ≡ old

-- at true further wishes were left out, and the answer is a refutation; at false nothing has changed
abbrev pub IsLeftOutFor : Solved → Left → Left → Bool → Type 0
IsLeftOutFor answer old new true = IsRefutation answer × IsFewer old new
IsLeftOutFor answer old new false = new ≡ old

-- the wish at this place asks for an installation or an upgrade, and it was left out of a request that is refuted
pub record WasOut (before : Before) (wishes : List Wish) (place : ℕ) : Type 0 where
  pub asks : AsksAt wishes place
  pub stays : List Bool
  pub stood : stays_at stays place ≡ true
  pub refuted : IsRefutedRequest before (request_left (lines_in wishes) stays)

-- of the same wishes each that doesn't stay was left out of a request that is refuted, or didn't stay before
pub record IsFurther (before : Before) (old new : Left) : Type 0 where
  pub wishes : new.wishes.items ≡ old.wishes.items
  pub long : length new.stays.items ≡ length old.stays.items
  pub out : (place : ℕ) → stays_at new.stays.items place ≡ false
      → (stays_at old.stays.items place ≡ false) ⊎ WasOut before old.wishes.items place

-- what is left is answered, or wishes of it are left out
abbrev pub IsStep : Before → ℕ → Left → Left → Option SolvedRequest → Type 0
IsStep before limit old new None = IsFurther before old new
IsStep before limit old new (Some solved) = (new ≡ old) × IsSolvedRequest before limit (request_of old) solved

-- the texts are refused so with this request in the place of theirs
abbrev pub IsRefusedWith : Texts → List ℕ → Refusal → Type 0
IsRefusedWith texts request refused = IsRefusal (asking request texts) refused

-- wishes were left out, and what is left then is refused so
pub record IsFurtherRefusal (before : Before) (texts : Texts) (old : Left) (refused : Refusal) : Type 0 where
  pub new : Left
  pub further : IsFurther before old new
  pub refused_so : IsRefusedWith texts (request_of new) refused

-- of these wishes, as they are marked, each that doesn't stay was left out of a request that is refuted
pub record AreOut (before : Before) (wishes : List Wish) (stays : List Bool) : Type 0 where
  pub long : length stays ≡ length wishes
  pub out : (place : ℕ) → stays_at stays place ≡ false → WasOut before wishes place

-- what is left of these wishes is refused so
pub record IsRestRefused (before : Before) (texts : Texts) (wishes : List Wish) (refused : Refusal) : Type 0 where
  pub stays : List Bool
  pub out : AreOut before wishes stays
  pub refused_so : IsRefusedWith texts (request_left (lines_in wishes) stays) refused

-- or memory is wanting
abbrev pub IsRestRefusal : Before → Texts → List Wish → Refusal → Type 0
IsRestRefusal before texts wishes refused = (refused ≡ out_of_memory) ⊎ IsRestRefused before texts wishes refused
