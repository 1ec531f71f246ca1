-- The first bytes, put byte by byte.
use Rattle.std.proofs.Common.{◌≡◌, ℕ, suc, ◌+◌, List, set, get_or, take, arith, ap, ◌∙◌, refl}
use Rattle.candidates.specs.Prefix.{padded}
use Rattle.candidates.proofs.Prefixes.{put_all, put_next}
use Rattle.candidates.proofs.prefix.prefix_of.Goals as goal

pub loop-place-init : goal.loop-place-init
loop-place-init c = refl

pub loop-place-preserved : goal.loop-place-preserved
loop-place-preserved c =
    let next : suc c.loop-place.place ≡ c.loop-place.place + 1 = omega arith in
    ap (λ (prefix : List ℕ). set prefix c.loop-place.place (get_or c.args.name.now c.loop-place.place 0)) c.loop-place.invariant
    ∙ put_next 16 c.loop-place.place c.args.name.now (omega arith) (omega arith)
    ∙ ap (λ (count : ℕ). padded 16 (take count c.args.name.now)) next

pub returns : goal.returns
returns c = c.loop-place.invariant ∙ put_all 16 c.loop-place.place c.args.name.now (λ within below. omega arith)
