-- The requests before the index are answered.
use Rattle.std.proofs.Common.{map, take}
use Rattle.inputs.specs.Each.{AreSaid, Comes}
use Rattle.inputs.specs.ReadAs.{AreReadAs, asking}
use Rattle.inputs.specs.Texts.{Texts}
use Rattle.inputs.proofs.each.all.Given as goal

abbrev pub invariant-loop-request : goal.invariant-loop-request
invariant-loop-request g l = record {
  said : (texts : Texts) → AreReadAs texts l.before → AreSaid (λ request. g.Q.OverRequest.says l.question (asking request texts))
      (map (λ r. r.now) (take l.request-index l.requests)) l.fn.beside l.results.items l.beside;
  kept : Comes (g.Q.OverRequest.keeps l.question) l.fn.beside l.beside;
}
