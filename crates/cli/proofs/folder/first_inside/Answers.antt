-- A place that is inside, and those before it that are outside.
use Rattle.std.proofs.Common.{◌+◌, ◌∷◌, ◌∙◌, ap, drop, drop_of_length-le, map, subst, sym}
use Rattle.command_line.proofs.WordLemmas.{left_at}
use Rattle.cli.specs.Places.{AreOutside}
use Rattle.cli.proofs.folder.first_inside.Goals as goal

pub loop-place-init : goal.loop-place-init
loop-place-init g c = λ at f. (λ all. all, λ all. all)

pub returns-then-may_be_put : goal.returns-then-may_be_put
returns-then-may_be_put g c = λ at f all.
    let next = left_at (λ place. place.path.now) c.args.places.now c.loop-place.place-index c.place-item.result c.loop-place-test.true in
    let here = subst (AreOutside c.args.folder.now) (next ∙ ap (λ p. p.path.now ∷ map (λ place. place.path.now) (drop (c.loop-place.place-index + 1) c.args.places.now)) (sym c.place-item.is)) ((c.loop-place.invariant at f).1 all) in
    absurd (let put = c.may_be_put.ensures at f in let yes = c.if-may_be_put.true in let no = here.0 in cc)

pub loop-place-preserved : goal.loop-place-preserved
loop-place-preserved g c = λ at f.
    let next = left_at (λ place. place.path.now) c.args.places.now c.loop-place.place-index c.place-item.result c.loop-place-test.true
    ∙ ap (λ p. p.path.now ∷ map (λ place. place.path.now) (drop (c.loop-place.place-index + 1) c.args.places.now)) (sym c.place-item.is) in
    let known = c.loop-place.invariant at f in (
      λ more. known.0 (subst (AreOutside c.args.folder.now) (sym next) (sym (c.may_be_put.ensures at f) ∙ c.if-may_be_put.false, more)),
      λ all. (subst (AreOutside c.args.folder.now) next (known.1 all)).1,
    )

pub returns : goal.returns
returns g c = λ at f. (c.loop-place.invariant at f).0
    (subst (AreOutside c.args.folder.now) (sym (ap (map (λ place. place.path.now)) (drop_of_length-le c.args.places.now c.loop-place-test.false))) tt)
