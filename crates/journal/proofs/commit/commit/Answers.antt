use Rattle.std.proofs.Common.{◌++◌, ◌∷◌, [], ◌+◌, ◌≤◌, length, subst, arith, length-append}
use Rattle.disk.specs.Facts.{Synced}
use Rattle.journal.proofs.CommitLemmas.{staged, gate_opened, in_both}
use Rattle.journal.proofs.commit.commit.Goals as goal

pub returns-in_err-put-2-clause-any_moment : goal.returns-in_err-put-2-clause-any_moment
returns-in_err-put-2-clause-any_moment g c = λ honest front at synced.
    let bytes = c.args.bytes.now in
    let a = g.D.Disk.facts c.args.disk.now in
    let b = g.D.Disk.facts c.put.new.disk in
    let d = g.D.Disk.facts c.put-2.new.disk in
    let honest-1 = c.put.ensures.honest.1 honest in
    let long : c.args.gate + 1 ≤ length (front ++ 0 ∷ []) = omega (arith, at, length-append front (0 ∷ [])) in
    let short : c.args.gate ≤ length (front ++ 0 ∷ bytes) = omega (arith, at, length-append front (0 ∷ bytes)) in
    let stage = subst (λ f. Synced f b) (staged front bytes c.args.gate at) (c.in_ok-put.ensures.done honest (front ++ 0 ∷ []) long synced) in
    in_both front bytes c.args.gate at a b d (c.put.ensures.any_moment honest (front ++ 0 ∷ []) long synced) (c.put-2.ensures.any_moment honest-1 (front ++ 0 ∷ bytes) short stage)

pub returns-clause-any_moment : goal.returns-clause-any_moment
returns-clause-any_moment g c = λ honest front at synced.
    let bytes = c.args.bytes.now in
    let a = g.D.Disk.facts c.args.disk.now in
    let b = g.D.Disk.facts c.put.new.disk in
    let d = g.D.Disk.facts c.put-2.new.disk in
    let honest-1 = c.put.ensures.honest.1 honest in
    let long : c.args.gate + 1 ≤ length (front ++ 0 ∷ []) = omega (arith, at, length-append front (0 ∷ [])) in
    let short : c.args.gate ≤ length (front ++ 0 ∷ bytes) = omega (arith, at, length-append front (0 ∷ bytes)) in
    let stage = subst (λ f. Synced f b) (staged front bytes c.args.gate at) (c.in_ok-put.ensures.done honest (front ++ 0 ∷ []) long synced) in
    in_both front bytes c.args.gate at a b d (c.put.ensures.any_moment honest (front ++ 0 ∷ []) long synced) (c.put-2.ensures.any_moment honest-1 (front ++ 0 ∷ bytes) short stage)

pub returns-clause-done : goal.returns-clause-done
returns-clause-done g c = λ honest front at synced.
    let bytes = c.args.bytes.now in
    let a = g.D.Disk.facts c.args.disk.now in
    let b = g.D.Disk.facts c.put.new.disk in
    let d = g.D.Disk.facts c.put-2.new.disk in
    let honest-1 = c.put.ensures.honest.1 honest in
    let long : c.args.gate + 1 ≤ length (front ++ 0 ∷ []) = omega (arith, at, length-append front (0 ∷ [])) in
    let short : c.args.gate ≤ length (front ++ 0 ∷ bytes) = omega (arith, at, length-append front (0 ∷ bytes)) in
    let stage = subst (λ f. Synced f b) (staged front bytes c.args.gate at) (c.in_ok-put.ensures.done honest (front ++ 0 ∷ []) long synced) in
    subst (λ f. Synced f d) (gate_opened front bytes c.args.gate at) (c.in_ok-put-2.ensures.done honest-1 (front ++ 0 ∷ bytes) short stage)
