use Rattle.std.proofs.Common.{◌∷◌, ◌≤◌, length, ap, subst, arith, length-append}
use Rattle.disk.specs.Facts.{Synced}
use Rattle.journal.proofs.CommitLemmas.{in_settle, cut_off}
use Rattle.journal.proofs.commit.settle.Goals as goal

pub returns-in_err-shorten-clause-any_moment : goal.returns-in_err-shorten-clause-any_moment
returns-in_err-shorten-clause-any_moment g c = λ honest front tail at file.
    let a = g.D.Disk.facts c.args.disk.now in
    let s = g.D.Disk.facts c.keep.new.disk in
    let d = g.D.Disk.facts c.shorten.new.disk in
    let honest-1 = c.keep.ensures.honest.1 honest in
    let long : c.args.end ≤ length a.seen = omega (arith, at, ap length file, length-append front (0 ∷ tail)) in
    let held = c.in_ok-keep.ensures.done honest in
    in_settle front tail c.args.end a s d at file (c.keep.ensures.any_moment honest) (c.shorten.ensures.any_moment honest-1 a.seen long held)

pub returns-in_ok-shorten-clause-any_moment : goal.returns-in_ok-shorten-clause-any_moment
returns-in_ok-shorten-clause-any_moment g c = λ honest front tail at file.
    let a = g.D.Disk.facts c.args.disk.now in
    let s = g.D.Disk.facts c.keep.new.disk in
    let d = g.D.Disk.facts c.shorten.new.disk in
    let honest-1 = c.keep.ensures.honest.1 honest in
    let long : c.args.end ≤ length a.seen = omega (arith, at, ap length file, length-append front (0 ∷ tail)) in
    let held = c.in_ok-keep.ensures.done honest in
    in_settle front tail c.args.end a s d at file (c.keep.ensures.any_moment honest) (c.shorten.ensures.any_moment honest-1 a.seen long held)

pub returns-in_ok-shorten-clause-done : goal.returns-in_ok-shorten-clause-done
returns-in_ok-shorten-clause-done g c = λ honest front tail at file size.
    let a = g.D.Disk.facts c.args.disk.now in
    let s = g.D.Disk.facts c.keep.new.disk in
    let d = g.D.Disk.facts c.shorten.new.disk in
    let honest-1 = c.keep.ensures.honest.1 honest in
    let long : c.args.end ≤ length a.seen = omega (arith, at, ap length file, length-append front (0 ∷ tail)) in
    let held = c.in_ok-keep.ensures.done honest in
    subst (λ f. Synced f d) (cut_off front tail a.seen c.args.end at file) (c.in_ok-shorten.ensures.done honest-1 a.seen long held)
