-- Premises of the lines so far are among others, and so are those of one line more.
use Rattle.std.proofs.Common.{◌≡◌, ℕ, ◌+◌, ◌<◌, List, [], ◌∷◌, ◌++◌, inl, inr, length, take, get_or, subst, sym}
use Rattle.std.specs.List.{Contains}
use Rattle.std.proofs.lemmas.List.{take_more}
use Rattle.std.proofs.lemmas.List.Elements.{Contains-push_cases}
use Rattle.refutation.specs.declared.line.Line.{Line}
use Rattle.refutation.specs.declared.line.Line.TheVariants as line
use Rattle.trim.specs.Needed.{ArePremisesOf}
use Rattle.refutation_sentences.specs.Core.{IsPremiseIn}

-- with one line more that is among the others, if it is a premise
pub with_one_more : (lines others : List Line) (place : ℕ) (one : Line) → place < length lines → one ≡ get_or lines place one
    → ArePremisesOf (take place lines) others → IsPremiseIn others one → ArePremisesOf (take (place + 1) lines) others
with_one_more lines others place one within is before here = λ premise has.
    let more : take (place + 1) lines ≡ take place lines ++ get_or lines place one ∷ [] = take_more lines place one within in
    let with_one : Contains (take place lines ++ one ∷ []) (line.Premise premise) =
    subst (λ (last : Line). Contains (take place lines ++ last ∷ []) (line.Premise premise)) (sym is)
    (subst (λ (ls : List Line). Contains ls (line.Premise premise)) more has) in
    elim (Contains-push_cases (take place lines) one (line.Premise premise) with_one)
    [ inl earlier ↦ before premise earlier | inr same ↦ subst (λ (last : Line). IsPremiseIn others last) same here ]
