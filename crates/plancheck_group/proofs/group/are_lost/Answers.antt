-- A name without which something passes makes the answer no.
use Rattle.std.proofs.Common.{◌≡◌, ◌∙◌, true, false, sym, take, refl}
use Rattle.std.specs.List.{All}
use Rattle.std.proofs.lemmas.List.Elements.{All-contains, All-push}
use Rattle.plancheck_group.specs.Part.{NothingWithout}
use Rattle.plancheck_group.proofs.PartLemmas.{up_to_end, up_to_next}
use Rattle.plancheck_group.proofs.group.are_lost.Goals as goal

pub loop-name-preserved : goal.loop-name-preserved
loop-name-preserved c = up_to_next (All (NothingWithout c.args.db.now c.args.ready.now)) c.args.names.now c.loop-name.name-index c.name-item.result
    c.loop-name-test.true c.name-item.is
    (All-push (NothingWithout c.args.db.now c.args.ready.now) (take c.loop-name.name-index c.args.names.now) c.name-item.result c.loop-name.invariant
    (c.in_ok-known.ensures.0 c.if-not-known.false))

pub returns-then-not-known : goal.returns-then-not-known
returns-then-not-known c = (
  λ answer. absurd (let e : false ≡ true = answer in cc),
  λ all. absurd (let e : true ≡ false = sym (c.in_ok-known.ensures.1 (All-contains (NothingWithout c.args.db.now c.args.ready.now)
      c.args.names.now c.name-item.result all (c.loop-name.name-index, c.loop-name-test.true, sym c.name-item.is))) ∙ c.if-not-known.true in cc),
)

pub returns : goal.returns
returns c = (
  λ _. up_to_end (All (NothingWithout c.args.db.now c.args.ready.now)) c.args.names.now c.loop-name.name-index c.loop-name-test.false
      c.loop-name.invariant,
  λ _. refl,
)
