-- The line is kept where it is marked, and else left out.
use Rattle.std.proofs.Common.{◌≡◌, ℕ, ◌+◌, true, false, List, [], ◌∷◌, ◌++◌, length, slice_index_or, subst, sym}
use Rattle.refutation.specs.declared.line.Line.{Line}
use Rattle.trim.specs.Kept.{AreKept}
use Rattle.trim.proofs.KeptLemmas.{passed, pushed}
use Rattle.trim.proofs.kept.Kept.next.Goals as goal

pub returns-then-is_marked : goal.returns-then-is_marked
returns-then-is_marked c =
    let numbers = c.args.self.now.numbers.items in
    let kept = c.args.self.now.lines.items in
    let marked : slice_index_or c.args.marks.now (c.args.place + 1) false ≡ true = cc (c.is_marked.ensures, c.if-is_marked.true) in
    let ByNumbers : List ℕ → Type 0 = λ new. AreKept c.args.lines.now c.args.marks.now (c.args.place + 1) new c.push.new.self.lines.items in
    let ByLines : List Line → Type 0 = λ new. AreKept c.args.lines.now c.args.marks.now (c.args.place + 1)
    (numbers ++ (length kept + 1) ∷ []) new in
    subst ByNumbers (sym c.in_ok-push.ensures.numbers) (subst ByLines (sym c.in_ok-push.ensures.lines)
    (pushed c.args.lines.now c.args.marks.now c.args.place numbers kept c.args.line.now c.requires.marks c.requires.there marked c.requires.kept))

pub returns : goal.returns
returns c =
    let numbers = c.args.self.now.numbers.items in
    let kept = c.args.self.now.lines.items in
    let unmarked : slice_index_or c.args.marks.now (c.args.place + 1) false ≡ false = cc (c.is_marked.ensures, c.if-is_marked.false) in
    let ByNumbers : List ℕ → Type 0 = λ new. AreKept c.args.lines.now c.args.marks.now (c.args.place + 1) new c.pass.new.self.lines.items in
    let ByLines : List Line → Type 0 = λ new. AreKept c.args.lines.now c.args.marks.now (c.args.place + 1) (numbers ++ 0 ∷ []) new in
    subst ByNumbers (sym c.in_ok-pass.ensures.numbers) (subst ByLines (sym c.in_ok-pass.ensures.lines)
    (passed c.args.lines.now c.args.marks.now c.args.place numbers kept c.args.line.now c.requires.there unmarked c.requires.kept))
