-- One place more for each file.
use Rattle.std.proofs.Common.{◌++◌, ◌+◌, ◌∷◌, [], ◌∙◌, ap, append-nil, append_assoc, drop, drop_of_length-le, map, sym}
use Rattle.command_line.proofs.WordLemmas.{left_at}
use Rattle.cli.proofs.one_file.places_of_indices.Goals as goal

pub loop-file-preserved : goal.loop-file-preserved
loop-file-preserved c =
    let before = map (λ place. place.path.now) c.loop-file.places.items in
    let later = map (λ file. file.items) (drop (c.loop-file.file-index + 1) c.args.files.now) in
    let next = left_at (λ file. file.items) c.args.files.now c.loop-file.file-index c.file-item.result c.loop-file-test.true
    ∙ ap (λ f. f.items ∷ later) (sym c.file-item.is) in
    ap (λ ps. ps ++ later) (c.in_ok-push_place.ensures ∙ ap (λ p. before ++ p ∷ []) c.as_slice.ensures.value)
    ∙ append_assoc before (c.file-item.result.items ∷ []) later
    ∙ ap (λ fs. before ++ fs) (sym next)
    ∙ c.loop-file.invariant

pub returns : goal.returns
returns c = sym (append-nil (map (λ place. place.path.now) c.loop-file.places.items))
    ∙ sym (ap (λ fs. map (λ place. place.path.now) c.loop-file.places.items ++ map (λ file. file.items) fs) (drop_of_length-le c.args.files.now c.loop-file-test.false))
    ∙ c.loop-file.invariant
