use Rattle.std.proofs.Common.{◌≡◌, ◌<◌, true, length, nat_lt, refl, sym, ap, ◌∙◌, arith, rules}
use Rattle.std.proofs.lemmas.Bool.Decides.{nat_tests}
use Rattle.relation_text.specs.Place.{is_end}
use Rattle.relation_text.specs.Quick.{place_of, quick_accepts, quick_after, state_of}
use Rattle.relation_text.specs.Refusal.{most_atoms}
use Rattle.relation_text.specs.declared.quick.QuickState.TheVariants.{At}
use Rattle.relation_text.specs.declared.shape.ShapePlace.TheVariants.{Between}
use Rattle.relation_text.proofs.QuickAtoms.{accepted}
use Rattle.relation_text.proofs.QuickNumbers.{state_back}
use Rattle.relation_text.proofs.acceptor.Acceptor.accepts.Goals as goal

-- the number is that of the state behind the value
pub returns-then-value-lt-MOST_ATOMS : goal.returns-then-value-lt-MOST_ATOMS
returns-then-value-lt-MOST_ATOMS c =
    let value = c.args.value.now in
    let after = quick_after c.args.form (At Between) value in
    let few : length value < most_atoms = c.if-value-lt-MOST_ATOMS.true in
    let short : nat_lt (length value) most_atoms ≡ true = grind (arith, nat_tests) in
    let whole : quick_accepts c.args.form value ≡ is_end (place_of after) = rw short refl in
    let ends : c.is_end.result ≡ is_end (place_of after) = c.is_end.ensures
    ∙ ap is_end (c.place_of.ensures ∙ ap place_of (c.state_of.ensures ∙ ap state_of c.number_after.ensures ∙ state_back after)) in
    record {
      exact = ends ∙ sym whole;
      sound = λ yes. (let is_true : c.is_end.result ≡ true = search rules in accepted c.args.form value few (sym ends ∙ is_true));
    }
