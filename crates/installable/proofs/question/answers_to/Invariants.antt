-- The packages so far have their answers, and nothing is read for them.
use Rattle.std.proofs.Common.{take, Ok}
use Rattle.std.specs.List.{AllZip}
use Rattle.inputs.specs.ReadAs.{AreReadAs}
use Rattle.inputs.specs.ReadBy.{IsReadBy}
use Rattle.inputs.specs.Texts.{Texts}
use Rattle.installable.specs.Answers.{IsPackageAnswer}
use Rattle.installable.proofs.question.answers_to.Given as goal

abbrev pub invariant-loop-stanza : goal.invariant-loop-stanza
invariant-loop-stanza g l = record {
  said : (texts : Texts) → AreReadAs texts l.before
      → AllZip (IsPackageAnswer texts l.question.limit l.beside) (take l.stanza-index l.asked) l.answers.items;
  read : IsReadBy g.S.Shelf l.fn.shelf (Ok l.answers) l.shelf;
}
