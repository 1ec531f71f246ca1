-- A sort that is freed of repetitions.
use Rattle.std.proofs.Common.{◌≡◌, ◌↔◌, ℕ, List, Contains, eqb, subst, sym}
use Rattle.std.specs.List.{dedup}
use Rattle.std.specs.List.Sorted.{IsStrictlyIncreasing}
use Rattle.std.proofs.lemmas.List.Filters.{dedup_is}
use Rattle.std.proofs.lemmas.List.Kept.{Contains-dedup_nat, Contains-from_dedup}
use Rattle.std.proofs.lemmas.List.Sorted.{Contains-permutation, IsPermutation-sym}
use Rattle.std.proofs.lemmas.Map.Keys.{IsStrictlyIncreasing-dedup}
use Rattle.providers.proofs.places.in_order.Goals as goal

pub returns-clause-same : goal.returns-clause-same
returns-clause-same c =
    let places = c.args.places.items in
    let sorted = c.sort.new.self.items in
    let left : c.dedup.new.self.items ≡ dedup eqb sorted = dedup_is eqb sorted c.dedup.new.self.items c.dedup.ensures.filtered in
    λ place. subst (λ (items : List ℕ). Contains items place ↔ Contains places place) (sym left) (
      λ within. Contains-permutation sorted places place (IsPermutation-sym places sorted c.sort.ensures.permutation)
          (Contains-from_dedup eqb sorted place within),
      λ within. Contains-dedup_nat sorted place (Contains-permutation places sorted place c.sort.ensures.permutation within),
    )

pub returns-clause-ascending : goal.returns-clause-ascending
returns-clause-ascending c =
    let sorted = c.sort.new.self.items in
    let left : c.dedup.new.self.items ≡ dedup eqb sorted = dedup_is eqb sorted c.dedup.new.self.items c.dedup.ensures.filtered in
    subst IsStrictlyIncreasing (sym left) (IsStrictlyIncreasing-dedup sorted c.in_ok-sort.ensures.sorted)
