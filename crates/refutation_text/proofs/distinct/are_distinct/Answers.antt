-- A key that is there is that of an earlier literal; a new one is put behind the others.
use Rattle.std.proofs.Common.{◌≡◌, ◌∙◌, ℕ, true, false, sym, subst, get_or, eqb}
use Rattle.std.proofs.lemmas.List.{drop_more, take_more}
use Rattle.std.specs.List.{list_any}
use Rattle.refutation.specs.declared.literal.Literal.{Literal}
use Rattle.refutation.specs.declared.literal.Literal.TheVariants.{Selected}
use Rattle.refutation_text.specs.Derived.{literal_key}
use Rattle.refutation_text.proofs.DistinctLemmas.{fresh, kept_more, repeated, was_absent, was_there}
use Rattle.refutation_text.proofs.distinct.are_distinct.Goals as goal

pub returns-then-not-branch : goal.returns-then-not-branch
returns-then-not-branch c =
    let literals = c.args.literals.now in
    let i = c.loop-literal.literal-index in
    let x : Literal = get_or literals i (Selected 0) in
    let key : c.literal_key.result ≡ literal_key x = cc c.literal_key.ensures in
    let there : list_any (eqb c.literal_key.result) c.loop-literal.keys.keys ≡ true = was_there c.in_ok-insert.field-0 _ c.in_ok-insert.ensures.added (cc c.if-not-branch.true) in
    sym (sym c.loop-literal.invariant.same
    ∙ repeated literals i x c.loop-literal.keys.keys (drop_more literals i (Selected 0) c.loop-literal-test.true) c.loop-literal.invariant.keys
    (subst (λ (k : ℕ). list_any (eqb k) c.loop-literal.keys.keys ≡ true) key there))

pub loop-literal-preserved : goal.loop-literal-preserved
loop-literal-preserved c =
    let literals = c.args.literals.now in
    let i = c.loop-literal.literal-index in
    let x : Literal = get_or literals i (Selected 0) in
    let key : c.literal_key.result ≡ literal_key x = cc c.literal_key.ensures in
    let absent : list_any (eqb c.literal_key.result) c.loop-literal.keys.keys ≡ false = was_absent c.in_ok-insert.field-0 _ c.in_ok-insert.ensures.added (cc c.if-not-branch.false) in
    let new : list_any (eqb (literal_key x)) c.loop-literal.keys.keys ≡ false = subst (λ (k : ℕ). list_any (eqb k) c.loop-literal.keys.keys ≡ false) key absent in
    let here = drop_more literals i (Selected 0) c.loop-literal-test.true in
    let more = take_more literals i (Selected 0) c.loop-literal-test.true in
    record {
      same = fresh literals i x c.loop-literal.keys.keys here more c.loop-literal.invariant.keys new ∙ c.loop-literal.invariant.same;
      keys = kept_more literals i x c.loop-literal.keys.keys c.insert.new.self.keys more c.loop-literal.invariant.keys new
          (rw (← key) c.in_ok-insert.ensures.keys);
    }
