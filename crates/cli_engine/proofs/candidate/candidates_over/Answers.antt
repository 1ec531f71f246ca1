-- One more name has its candidate behind those so far.
use Rattle.std.proofs.Common.{◌+◌, ◌++◌, ℕ, [], ◌∷◌, List, map, subst, sym, take, take_all}
use Rattle.std.proofs.lemmas.List.{map_more}
use Rattle.candidates.specs.Candidates.{IsCandidateOf}
use Rattle.candidates.specs.Inputs.{indices_of, inputs_of}
use Rattle.inputs.specs.ReadAs.{start_of}
use Rattle.cli_engine.specs.Answer.{AreCandidatesOf}
use Rattle.cli_engine.proofs.NameLemmas.{zip_more}
use Rattle.cli_engine.proofs.candidate.candidates_over.Goals as goal

pub loop-name-preserved : goal.loop-name-preserved
loop-name-preserved c =
    let start = start_of c.args.before.now in
    let indices = indices_of c.args.before.now.indices.now in
    let prefs = c.args.before.now.prefs.now in
    let names = c.args.names.now in
    let at = c.loop-name.name-index in
    subst (AreCandidatesOf start indices prefs (map (λ name. name.now) (take (at + 1) names))) (sym c.in_ok-push.ensures.items)
    (subst (λ ns. AreCandidatesOf start indices prefs ns (c.loop-name.candidates.items ++ c.in_ok-candidate.candidate ∷ []))
    (sym (map_more (λ name. name.now) names at _ c.loop-name-test.true))
    (zip_more _ _ _ _ _ c.loop-name.invariant
    (λ request. subst (λ (name : List ℕ). IsCandidateOf (inputs_of start indices prefs request) name c.in_ok-candidate.candidate)
    c.as_bytes.ensures.value (c.in_ok-candidate.ensures request))))

pub returns : goal.returns
returns c = subst (λ ns. AreCandidatesOf (start_of c.args.before.now) (indices_of c.args.before.now.indices.now) c.args.before.now.prefs.now
    (map (λ name. name.now) ns) c.loop-name.candidates.items) (take_all c.loop-name.name-index c.args.names.now c.loop-name-test.false)
    c.loop-name.invariant
