-- The request stands before its refutation.
use Rattle.std.proofs.Common.{◌≡◌, ◌∙◌, ◌∷◌, ◌++◌, [], List, ℕ, ap, ap₂, append_assoc, codes}
use Rattle.cli.specs.Packages.{placed_in}
use Rattle.cli.specs.declared.refutations.Placed.{Placed}
use Rattle.cli.proofs.refutations.push_files.Goals as goal

pub returns-in_ok-push-in-Broken-2 : goal.returns-in_ok-push-in-Broken-2
returns-in_ok-push-in-Broken-2 c =
    let files = c.args.files.now.items in
    let refuted = c.in-Broken.refuted in
    let place = placed_in c.args.folder.now c.args.stem.now in
    let one = place (codes ".request") refuted.request in
    let two = place (codes ".refutation") refuted.refutation in
    let first : c.in_ok-placed_in-in-Broken.field-0 ≡ one =
    c.in_ok-placed_in-in-Broken.ensures ∙ ap (λ (text : List ℕ). place (codes ".request") text) c.as_slice-request.ensures in
    let second : c.in_ok-placed_in-in-Broken-2.field-0 ≡ two =
    c.in_ok-placed_in-in-Broken-2.ensures ∙ ap (λ (text : List ℕ). place (codes ".refutation") text) c.as_slice-refutation.ensures in
    rw c.in-Broken.is (c.in_ok-push-in-Broken-2.ensures.items
    ∙ ap₂ (λ (ps : List Placed) (p : Placed). ps ++ p ∷ []) (c.in_ok-push-in-Broken.ensures.items ∙ ap (λ (p : Placed). files ++ p ∷ []) first) second
    ∙ append_assoc files (one ∷ []) (two ∷ []))
