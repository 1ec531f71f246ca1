-- One more number has what it needs.
use Rattle.std.proofs.Common.{◌≡◌, ◌<◌, ◌^◌, Some, arith, length, sym}
use Rattle.std.specs.List.{slice_get}
use Rattle.std.proofs.lemmas.Option.{slice_get_within, get_or_from_slice_get}
use Rattle.search_settle.specs.Truth.{holds}
use Rattle.search_settle.proofs.ReachLemmas.{extends_further, more_have}
use Rattle.search_settle.proofs.reached.Reached.close.Goals as goal

pub loop-place-preserved : goal.loop-place-preserved
loop-place-preserved c =
    let old = c.loop-place.self in
    let new = c.expand.new.self in
    let there : slice_get old.order c.loop-place.place ≡ Some c.in-Some.number = sym c.in-Some.ensures.value in
    let within : c.loop-place.place < length old.order = slice_get_within old.order c.loop-place.place c.in-Some.number there in
    let few : c.loop-place.place < 2 ^ 63 = c.in-Some.ensures.few in (
      c.in_ok-expand.ensures.members,
      extends_further c.args.self.now old new c.loop-place.invariant.1 c.in_ok-expand.ensures.extends,
      more_have c.args.given.now (holds c.args.set.now.items) old new c.loop-place.place c.in-Some.number c.in_ok-expand.ensures.extends within
          (get_or_from_slice_get old.order c.loop-place.place c.in-Some.number 0 there) c.loop-place.invariant.2 c.in_ok-expand.ensures.has,
      omega (arith, within, c.in_ok-expand.ensures.extends.longer),
      omega (arith, few),
    )
