-- What is left of a file is what its host answers.
use Rattle.std.proofs.Common.{List, subst, true, ℕ}
use Rattle.cli.proofs.PutLemmas.{file_left}
use Rattle.cli.proofs.refutations.put_file.Goals as goal
use Rattle.cli.specs.Files.{Puts}
use Rattle.cli.specs.Kept.{NotesPut}

pub returns : goal.returns
returns g c at was f k =
    let file = c.args.file.now in
    let r = c.put_named.result in
    let files = g.H.Host.files c.put_named.new.self in
    let kept = g.H.Host.kept c.put_named.new.self in
    let put = subst (λ (text : List ℕ). Puts file.path text at r files) c.as_slice-2.ensures
    (subst (λ (path : List ℕ). Puts path c.as_slice-2.result.now at r files) c.as_slice.ensures (c.put_named.ensures.put at f)) in
    let noted = subst (λ (text : List ℕ). NotesPut true file.path text was r kept) c.as_slice-2.ensures
    (subst (λ (path : List ℕ). NotesPut true path c.as_slice-2.result.now was r kept) c.as_slice.ensures (c.put_named.ensures.noted was k)) in
    file_left file r c.is_put.result at was files kept put noted c.is_put.ensures
