-- A name that is known to be lost is.
use Rattle.std.proofs.Common.{ℕ, List, subst, refl}
use Rattle.std.specs.Prelude.{◌↔◌, IsTrue}
use Rattle.std.specs.List.{Contains}
use Rattle.std.proofs.lemmas.List.Elements.{All-contains}
use Rattle.plancheck_group.specs.Part.{NothingWithout}
use Rattle.plancheck_group.proofs.group.is_lost_name.Goals as goal

pub returns-then-has : goal.returns-then-has
returns-then-has c = (
  λ _. All-contains (NothingWithout c.args.db.now c.args.ready.now) c.args.lost.now c.args.name.now c.requires.lost
      (subst (Contains c.args.lost.now) c.as_bytes-text.ensures.bytes (c.has.ensures.0 c.if-has.true)),
  λ _. refl,
)

pub returns : goal.returns
returns c = subst (λ (n : List ℕ). IsTrue c.in_ok-answer.answer ↔ NothingWithout c.args.db.now c.args.ready.now n) c.as_bytes-text.ensures.bytes
    c.in_ok-answer.ensures
