-- A sort has the same places.
use Rattle.std.proofs.lemmas.List.Sorted.{Contains-permutation, IsPermutation-sym}
use Rattle.encode.proofs.facts.Facts.by_preference.Goals as goal

pub returns : goal.returns
returns c = λ place.
    let places = c.args.places.items in
    let sorted = c.sort_by_key.new.self.items in (
      λ within. Contains-permutation sorted places place (IsPermutation-sym places sorted c.sort_by_key.ensures.permutation) within,
      λ within. Contains-permutation places sorted place c.sort_by_key.ensures.permutation within,
    )
