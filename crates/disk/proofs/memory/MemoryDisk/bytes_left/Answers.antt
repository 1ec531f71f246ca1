use Rattle.std.proofs.Common.{◌≡◌, ℕ, List, length, drop, take, reverse, sym, ◌∙◌, ap, subst, arith, rules}
use Rattle.std.proofs.lemmas.List.{length-reverse}
use Rattle.disk.specs.declared.changes.Made.{Made}
use Rattle.disk.specs.Crash.{undone}
use Rattle.disk.specs.Memory.{Leaves, Since}
use Rattle.disk.proofs.CrashLemmas.{left_since, left_now}
use Rattle.disk.proofs.memory.MemoryDisk.bytes_left.Goals as goal

pub returns-clause-since : goal.returns-clause-since
returns-clause-since c = λ le.
    let calls = c.calls-calls.result.now in
    let same : calls ≡ c.args.self.now.calls.items = c.calls-calls.ensures in
    let to = c.min-to.result in
    let lengths : length (reverse c.args.self.now.calls.items) ≡ length calls = length-reverse c.args.self.now.calls.items ∙ ap (λ (l : List Made). length l) (sym same) in
    let is : to ≡ c.args.moment = omega (arith, c.min-to.ensures, le, lengths) in
    let bytes_left : Leaves (undone (drop to calls) c.args.self.now.bytes.items) (reverse (take to calls)) c.redo_all.new.left.items =
    c.in_ok-redo_all.ensures c.args.self.now.bytes.items (search rules) in
    subst (λ (l : List Made). Since c.args.moment c.args.self.now.bytes.items (reverse l) c.redo_all.new.left.items) same
    (subst (λ (t : ℕ). Since t c.args.self.now.bytes.items (reverse calls) c.redo_all.new.left.items) is
    (left_since calls to c.args.self.now.bytes.items c.redo_all.new.left.items (omega (arith, c.min-to.ensures)) bytes_left))

pub returns-clause-now : goal.returns-clause-now
returns-clause-now c = λ le.
    let calls = c.calls-calls.result.now in
    let same : calls ≡ c.args.self.now.calls.items = c.calls-calls.ensures in
    let to = c.min-to.result in
    let lengths : length (reverse c.args.self.now.calls.items) ≡ length calls = length-reverse c.args.self.now.calls.items ∙ ap (λ (l : List Made). length l) (sym same) in
    let is : to ≡ length calls = omega (arith, c.min-to.ensures, le, lengths) in
    let bytes_left : Leaves (undone (drop to calls) c.args.self.now.bytes.items) (reverse (take to calls)) c.redo_all.new.left.items =
    c.in_ok-redo_all.ensures c.args.self.now.bytes.items (search rules) in
    subst (λ (l : List Made). Leaves c.args.self.now.bytes.items (reverse l) c.redo_all.new.left.items) same
    (left_now calls to c.args.self.now.bytes.items c.redo_all.new.left.items is bytes_left)
