-- The first goal that isn't fulfilled, by its place.
use Rattle.std.proofs.Common.{◌≡◌, ℕ, ◌+◌, ◌<◌, List, length, get_or, refl, subst, arith}
use Rattle.std.specs.Ordering.{nat_cmp}
use Rattle.std.proofs.lemmas.Cmp.{by_ranked, ranked}
use Rattle.std.proofs.lemmas.Option.{slice_get_read, get_or_from_slice_get}
use Rattle.rules.specs.Database.{Record}
use Rattle.rules.specs.Run.{IsUnfulfilled}
use Rattle.rules.specs.Universe.{Universe}
use Rattle.rules.specs.declared.goal.Goal.{Goal}
use Rattle.plancheck_end.specs.FirstGoal.{IsFulfilled, IsFirstUnfulfilled}

-- a goal that isn't fulfilled is the first where all before it are
pub first_at : (u : Universe) (db : List Record) (place : ℕ) (asked : Goal) → place < length u.goals
    → asked ≡ get_or u.goals place asked → ¬ IsFulfilled u db asked
    → ((k : ℕ) (d : Goal) → k < place → IsFulfilled u db (get_or u.goals k d)) → IsFirstUnfulfilled u db (place + 1)
unfolding IsUnfulfilled
first_at u db place asked within is fails before = (
  (place, asked, refl, slice_get_read u.goals (length u.goals) place asked refl within is, fails),
  λ other (at, goal, number_is, there, unfulfilled). by_ranked (at < place) (at ≡ place) (place < at) (nat_cmp at place)
      (ranked at place (nat_cmp at place) refl)
      (λ _ below. absurd (unfulfilled (let P : Goal → Type 0 = IsFulfilled u db in
      subst P (get_or_from_slice_get u.goals at goal goal there) (before at goal below))))
      (λ _ same. omega arith) (λ _ above. omega arith),
)
