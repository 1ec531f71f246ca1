-- Rows of which steps may stand after what came of those that were handed in.
use Rattle.std.proofs.Common.{inl, inr, [], ◌∷◌, length, refl, ap, arith}
use Rattle.journal.specs.Calls.{MayStand, acknowledged, unknown}
use Rattle.journal.specs.Payload.{RecordedStep}

module _ (a b c : RecordedStep) where
  -- the one of which it isn't known is left out
  pub left_out : MayStand (acknowledged a ∷ unknown b ∷ acknowledged c ∷ []) (a ∷ c ∷ [])
  left_out = (c ∷ [], refl, inl ([], refl, refl))

  -- it is in its place
  pub in_its_place : MayStand (acknowledged a ∷ unknown b ∷ acknowledged c ∷ []) (a ∷ b ∷ c ∷ [])
  in_its_place = (b ∷ c ∷ [], refl, inr (c ∷ [], refl, ([], refl, refl)))

  -- the last acknowledged one is never left out
  pub not_without_the_last : ¬ MayStand (acknowledged a ∷ unknown b ∷ acknowledged c ∷ []) (a ∷ [])
  not_without_the_last (rest, is, inl (later, last, none)) = omega (arith, ap length is, ap length last)
  not_without_the_last (rest, is, inr (later, taken, last)) = omega (arith, ap length is, ap length taken)

  -- nor does another stand behind it
  pub none_behind : ¬ MayStand (acknowledged a ∷ []) (a ∷ b ∷ [])
  none_behind (rest, is, none) = omega (arith, ap length is, ap length none)
