-- A place that is the file, and those before it that aren't.
use Rattle.std.proofs.Common.{◌+◌, ◌∷◌, ◌∙◌, ap, drop, drop_of_length-le, map, subst, sym}
use Rattle.command_line.proofs.WordLemmas.{left_at}
use Rattle.cli.specs.Places.{AreOthers}
use Rattle.cli.proofs.one_file.first_same.Goals as goal

pub loop-place-init : goal.loop-place-init
loop-place-init g c = λ at f. (λ all. all, λ all. all)

pub returns-then-is_same_file : goal.returns-then-is_same_file
returns-then-is_same_file g c = λ at f all.
    let next = left_at (λ place. place.path.now) c.args.places.now c.loop-place.place-index c.place-item.result c.loop-place-test.true in
    let here = subst (AreOthers c.args.path.now) (next ∙ ap (λ p. p.path.now ∷ map (λ place. place.path.now) (drop (c.loop-place.place-index + 1) c.args.places.now)) (sym c.place-item.is)) ((c.loop-place.invariant at f).1 all) in
    here.0 ((c.is_same_file.ensures at f).0 c.if-is_same_file.true)

pub loop-place-preserved : goal.loop-place-preserved
loop-place-preserved g c = λ at f.
    let next = left_at (λ place. place.path.now) c.args.places.now c.loop-place.place-index c.place-item.result c.loop-place-test.true
    ∙ ap (λ p. p.path.now ∷ map (λ place. place.path.now) (drop (c.loop-place.place-index + 1) c.args.places.now)) (sym c.place-item.is) in
    let known = c.loop-place.invariant at f in (
      λ more. known.0 (subst (AreOthers c.args.path.now) (sym next) ((λ same. absurd (let yes = (c.is_same_file.ensures at f).1 same in cc)), more)),
      λ all. (subst (AreOthers c.args.path.now) next (known.1 all)).1,
    )

pub returns : goal.returns
returns g c = λ at f. (c.loop-place.invariant at f).0
    (subst (AreOthers c.args.path.now) (sym (ap (map (λ place. place.path.now)) (drop_of_length-le c.args.places.now c.loop-place-test.false))) tt)
