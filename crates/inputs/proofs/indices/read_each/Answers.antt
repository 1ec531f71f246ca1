-- Behind an index that is read the others go on, one that is refused is the first refusal, and at the end nothing is left.
use Rattle.std.proofs.Common.{rules, ◌≡◌, ◌≤◌, ◌+◌, ◌-◌, ◌^◌, ℕ, min, ◌∷◌, length, Some, sym, ap, subst, ◌∙◌, arith}
use Rattle.std.proofs.Math.Nat.{min-eq_left}
use Rattle.std.specs.Vec.Iter.{into_iter_items}
use Rattle.rules.specs.declared.limits.TheConstants.{PACKAGES}
use Rattle.inputs.specs.Indices.{indices_from, read_indices, released, with_indices}
use Rattle.inputs.specs.Texts.{Shelved}
use Rattle.inputs.proofs.IndicesLemmas.{at_end, goes_on, index_fits, is_refused, lengths_more}
use Rattle.inputs.proofs.ReadByLemmas.{answered, read_on, then_wanting}
use Rattle.inputs.proofs.indices.read_each.Goals as goal

pub loop-source-preserved : goal.loop-source-preserved
loop-source-preserved g c =
    let w = c.loop-source in
    let steps : into_iter_items w.source-iterator ≡ c.in-Some.source ∷ into_iter_items c.next.new.self = c.in-Some.ensures.steps.0 in
    let gone = c.in-Some.ensures.steps.1 in
    let short = ap length steps in
    let was = w.invariant.left in
    let count = w.invariant.count in
    let fits : (at : Shelved) → g.S.Shelf.known_texts c.args.shelf.now ≡ Some at → w.before + length c.in-Ok.index.listed ≤ PACKAGES =
    λ at known. index_fits c.args.arch.now at.index (w.number + 1) w.before c.in-Some.source c.in-Ok.index
    (c.in-Ok.ensures.ok at (w.invariant.read.same ∙ known)) (w.invariant.bounded at known) in
    let exact : (at : Shelved) → g.S.Shelf.known_texts c.args.shelf.now ≡ Some at
    → c.saturating_add-before.result ≡ w.before + length c.in-Ok.index.listed =
    λ at known. c.saturating_add-before.ensures ∙ ap (λ n. min (w.before + n) (2 ^ 64 - 1)) c.count.ensures
    ∙ min-eq_left (let within = fits at known in omega (arith, within)) in
    record {
      left = omega arith;
      count = omega arith;
      lengths = lengths_more w.kept.items c.push.new.self.items w.releases.items c.push-in-loop-source.new.self.items c.in-Ok.index c.into_release.result
          w.invariant.lengths (search rules) (search rules);
      read = answered (read_on g.met.S.Shelf.holds_on w.invariant.read c.in-Ok.ensures.read);
      bounded = λ at known. subst (λ (n : ℕ). n ≤ PACKAGES) (sym (exact at known)) (fits at known);
      same = λ at known. w.invariant.same at known
          ∙ goes_on c.args.arch.now at.index (w.number + 1) w.before w.releases.items c.push-in-loop-source.new.self.items w.kept.items
          c.push.new.self.items (into_iter_items w.source-iterator) c.in-Some.source (into_iter_items c.next.new.self) c.into_release.result
          c.in-Ok.index steps c.into_release.ensures (c.in-Ok.ensures.ok at (w.invariant.read.same ∙ known)) w.invariant.lengths (search rules) (search rules)
          ∙ ap (λ (n : ℕ). with_indices (released c.push-in-loop-source.new.self.items c.push.new.self.items)
          (indices_from c.args.arch.now at.index (w.number + 1 + 1) n (into_iter_items c.next.new.self))) (sym (exact at known));
    }

pub returns-in_err-push-clause-read : goal.returns-in_err-push-clause-read
returns-in_err-push-clause-read g c = then_wanting c.from_residual.result
    (read_on g.met.S.Shelf.holds_on c.loop-source.invariant.read c.in-Ok.ensures.read) c.from_residual.ensures.1

pub returns-in-Err-clause-refused : goal.returns-in-Err-clause-refused
unfolding read_indices
returns-in-Err-clause-refused g c = λ at known.
    let w = c.loop-source in
    is_refused c.args.arch.now at.index (w.number + 1) w.before (released w.releases.items w.kept.items) (into_iter_items w.source-iterator)
    c.in-Some.source (into_iter_items c.next.new.self) c.in-Err.refused _ c.in-Some.ensures.steps.0 (w.invariant.same at known)
    (c.in-Err.ensures.refused at (w.invariant.read.same ∙ known))

pub returns-clause-ok : goal.returns-clause-ok
unfolding read_indices
returns-clause-ok g c = λ at known.
    let w = c.loop-source in
    w.invariant.same at known
    ∙ at_end c.args.arch.now at.index (w.number + 1) w.before (released w.releases.items w.kept.items) (into_iter_items w.source-iterator)
    (sym w.invariant.left ∙ c.in-None.ensures.steps.0)
