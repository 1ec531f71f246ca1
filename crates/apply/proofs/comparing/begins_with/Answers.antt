use Rattle.std.proofs.Common.{◌≡◌, ◌∙◌, ◌+◌, ◌<◌, None, get_or, length, map, drop, arith, refl, sym}
use Rattle.std.proofs.Math.ListN.{drop_of_length-le}
use Rattle.std.specs.Option.{option_copied}
use Rattle.journal.specs.Adding.{recorded_of}
use Rattle.apply.specs.Planned.{BeginsWith, planned}
use Rattle.apply.proofs.PlanLemmas.{begins_all, begins_not, begins_same, length-plan, no_longer, step_in_front, taken_in_front}
use Rattle.apply.proofs.comparing.begins_with.Goals as goal

pub returns-then-taken-steps : goal.returns-then-taken-steps
returns-then-taken-steps c = (
  λ no. absurd (cc no),
  λ begun. absurd (omega (
    arith,
    c.if-taken-steps.true,
    no_longer (planned c.args.steps.now (map option_copied c.args.texts.now)) c.args.taken.now begun,
    length-plan c.args.steps.now c.args.texts.now c.requires,
  )),
)

pub returns-then-not-is_recorded : goal.returns-then-not-is_recorded
returns-then-not-is_recorded c =
    let texts = map option_copied c.args.texts.now in
    let i = c.loop-i.i in
    let s = c.index-steps-i.result in
    let wanted = recorded_of s (option_copied (get_or c.args.texts.now i None)) in
    let below : i < length c.args.steps.now = omega arith in
    let same : BeginsWith (planned c.args.steps.now texts) c.args.taken.now → c.index-taken-i.result ≡ wanted =
    λ (begun : BeginsWith (planned c.args.steps.now texts) c.args.taken.now).
    begins_not (planned (drop i c.args.steps.now) (drop i texts)) (drop i c.args.taken.now) wanted c.index-taken-i.result
    (planned (drop (i + 1) c.args.steps.now) (drop (i + 1) texts)) (drop (i + 1) c.args.taken.now)
    (step_in_front c.args.steps.now c.args.texts.now i s below c.requires c.index-steps-i.is)
    (taken_in_front c.args.taken.now i c.index-taken-i.result c.loop-i-test.true c.index-taken-i.is) (c.loop-i.invariant.0 begun) in
    (λ no. absurd (cc no), λ begun. sym c.if-not-is_recorded.true ∙ c.is_recorded.ensures.1 (same begun))

pub loop-i-preserved : goal.loop-i-preserved
loop-i-preserved c =
    let texts = map option_copied c.args.texts.now in
    let i = c.loop-i.i in
    let s = c.index-steps-i.result in
    let wanted = recorded_of s (option_copied (get_or c.args.texts.now i None)) in
    let below : i < length c.args.steps.now = omega arith in
    let same : c.index-taken-i.result ≡ wanted = c.is_recorded.ensures.0 c.if-not-is_recorded.false in
    let more = begins_same (planned (drop i c.args.steps.now) (drop i texts)) (drop i c.args.taken.now) wanted c.index-taken-i.result
    (planned (drop (i + 1) c.args.steps.now) (drop (i + 1) texts)) (drop (i + 1) c.args.taken.now)
    (step_in_front c.args.steps.now c.args.texts.now i s below c.requires c.index-steps-i.is)
    (taken_in_front c.args.taken.now i c.index-taken-i.result c.loop-i-test.true c.index-taken-i.is) same in
    (λ begun. more.0 (c.loop-i.invariant.0 begun), λ begun. c.loop-i.invariant.1 (more.1 begun))

pub returns : goal.returns
returns c = (
  λ yes. c.loop-i.invariant.1 (begins_all (planned (drop c.loop-i.i c.args.steps.now) (drop c.loop-i.i (map option_copied c.args.texts.now)))
      (drop c.loop-i.i c.args.taken.now) (drop_of_length-le c.args.taken.now c.loop-i-test.false)),
  λ begun. refl,
)
