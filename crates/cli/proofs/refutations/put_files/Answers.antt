-- One more file was put or is lost.
use Rattle.std.proofs.Common.{◌∙◌, ◌∷◌, ◌+◌, ◌++◌, [], List, ap, append_assoc, drop, map, suc, subst, sym, take, take-append-drop, take_all}
use Rattle.std.proofs.lemmas.List.{take_more}
use Rattle.cli.proofs.PutLemmas.{cut_at, put_more, put_still}
use Rattle.cli.proofs.ResultLemmas.{always_err}
use Rattle.cli.proofs.refutations.put_files.Goals as goal
use Rattle.cli.specs.Packages.{ArePut, lost_unless}
use Rattle.cli.specs.declared.refutations.Placed.{Placed}

pub returns-in_err-is_put-clause-stopped : goal.returns-in_err-is_put-clause-stopped
returns-in_err-is_put-clause-stopped g c at was f k =
    let all = c.args.files.now in
    let before = take c.loop-file.file-index all in
    let lost = map (λ one. one.now) c.loop-file.lost.items in
    let fs = g.H.Host.files c.loop-file.host in
    let ks = g.H.Host.kept c.loop-file.host in
    let files = g.H.Host.files c.put_file.new.host in
    let kept = g.H.Host.kept c.put_file.new.host in
    always_err c.from_residual.result _ (record {
      before = before;
      behind = drop c.loop-file.file-index all;
      lost = lost;
      split = sym (take-append-drop c.loop-file.file-index all);
      put = put_still before lost at was fs files ks kept (c.loop-file.invariant at was f k)
          (λ mid now fm kn. c.in_err-is_put.ensures mid now fm kn);
    })

pub returns-in_err-push_lost-clause-stopped : goal.returns-in_err-push_lost-clause-stopped
returns-in_err-push_lost-clause-stopped g c at was f k =
    let all = c.args.files.now in
    let place = c.loop-file.file-index in
    let item = c.file-item.result in
    let behind = drop (suc place) all in
    let lost = map (λ one. one.now) c.loop-file.lost.items in
    let fs = g.H.Host.files c.loop-file.host in
    let ks = g.H.Host.kept c.loop-file.host in
    let files = g.H.Host.files c.put_file.new.host in
    let kept = g.H.Host.kept c.put_file.new.host in
    always_err c.from_residual-in_err-push_lost.result _ (record {
      before = take place all ++ item ∷ [];
      behind = behind;
      lost = lost ++ lost_unless c.in_ok-is_put.is_put item;
      split = cut_at all place item c.loop-file-test.true ∙ ap (λ (p : Placed). take place all ++ p ∷ behind) (sym c.file-item.is)
          ∙ sym (append_assoc (take place all) (item ∷ []) behind);
      put = put_more (take place all) item lost (lost_unless c.in_ok-is_put.is_put item) at was fs files ks kept (c.loop-file.invariant at was f k)
          (λ mid now fm kn. c.in_ok-is_put.ensures mid now fm kn);
    })

pub loop-file-preserved : goal.loop-file-preserved
loop-file-preserved g c = λ at was f k.
    let all = c.args.files.now in
    let place = c.loop-file.file-index in
    let item = c.file-item.result in
    let lost = map (λ one. one.now) c.loop-file.lost.items in
    let more = lost_unless c.in_ok-is_put.is_put item in
    let fs = g.H.Host.files c.loop-file.host in
    let ks = g.H.Host.kept c.loop-file.host in
    let files = g.H.Host.files c.put_file.new.host in
    let kept = g.H.Host.kept c.put_file.new.host in
    subst (λ (ls : List Placed). ArePut (take (place + 1) all) ls at was files kept) (sym c.in_ok-push_lost.ensures)
    (subst (λ (ps : List Placed). ArePut ps (lost ++ more) at was files kept)
    (sym (take_more all place item c.loop-file-test.true ∙ ap (λ (p : Placed). take place all ++ p ∷ []) (sym c.file-item.is)))
    (put_more (take place all) item lost more at was fs files ks kept (c.loop-file.invariant at was f k)
    (λ mid now fm kn. c.in_ok-is_put.ensures mid now fm kn)))

pub returns-clause-put : goal.returns-clause-put
returns-clause-put g c at was f k =
    subst (λ (ps : List Placed). ArePut ps (map (λ one. one.now) c.loop-file.lost.items) at was (g.H.Host.files c.loop-file.host) (g.H.Host.kept c.loop-file.host))
    (take_all c.loop-file.file-index c.args.files.now c.loop-file-test.false) (c.loop-file.invariant at was f k)
