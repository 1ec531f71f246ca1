-- One pair more is known.
use Rattle.std.proofs.Common.{◌≡◌, ◌≤◌, Bor, Some, true, List, length, sym, ap, subst, ◌∙◌, arith}
use Rattle.std.specs.Prelude.{◌↔◌, ℕ, slice_get}
use Rattle.std.proofs.lemmas.List.{length-map}
use Rattle.rules.specs.Minimal.{WasPresent}
use Rattle.rules.specs.Universe.{Pair}
use Rattle.search_settle.proofs.EncodedLemmas.{mapped_at, some_at}
use Rattle.search_settle.proofs.KnowingLemmas.{known_all, known_covered, known_more}
use Rattle.search_settle.proofs.pairs.known_of.Goals as goal

pub loop-pair-preserved : goal.loop-pair-preserved
loop-pair-preserved c =
    let items = c.pairs-pair-items.result.now in
    let pair = c.pair-item.result in
    let at : slice_get c.args.part.now.pairs c.loop-pair.pair-index ≡ Some pair.now =
    subst (λ (pairs : List Pair). slice_get pairs c.loop-pair.pair-index ≡ Some pair.now) c.pairs-pair-items.ensures.items
    (mapped_at (λ (p : Bor Pair). p.now) items c.loop-pair.pair-index pair
    (some_at items c.loop-pair.pair-index pair c.loop-pair-test.true ∙ ap (λ (p : Bor Pair). Some p) (sym c.pair-item.is))) in
    known_more c.args.part.now c.loop-pair.known c.push.new.self c.loop-pair.pair-index pair.now c.was_present-present.result
    c.stood-stands.result c.is_wanted-wanted.result c.loop-pair.invariant at c.in_ok-push.ensures.present c.in_ok-push.ensures.stood
    c.in_ok-push.ensures.wanted
    (subst (λ (name : List ℕ). (c.was_present-present.result ≡ true) ↔ WasPresent c.args.part.now name) c.name.ensures c.was_present-present.ensures)
    c.stood-stands.ensures c.is_wanted-wanted.ensures

pub returns-clause-known : goal.returns-clause-known
returns-clause-known c =
    let all : length c.args.part.now.pairs ≤ c.loop-pair.pair-index = omega (
      arith,
      ap length c.pairs-pair-items.ensures.items,
      length-map c.pairs-pair-items.result.now (λ (p : Bor Pair). p.now),
    ) in
    known_all c.args.part.now c.loop-pair.known c.loop-pair.pair-index all c.loop-pair.invariant

pub returns-clause-covered : goal.returns-clause-covered
returns-clause-covered c =
    let all : c.loop-pair.pair-index ≤ length c.args.part.now.pairs = omega (
      arith,
      ap length c.pairs-pair-items.ensures.items,
      length-map c.pairs-pair-items.result.now (λ (p : Bor Pair). p.now),
    ) in
    known_covered c.args.part.now c.loop-pair.known c.loop-pair.pair-index all c.loop-pair.invariant
