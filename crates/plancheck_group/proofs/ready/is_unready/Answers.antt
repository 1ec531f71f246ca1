-- A name that is left is unready where it fails a test.
use Rattle.std.proofs.Common.{◌≡◌, ◌∙◌, true, false, not, Bool, subst, sym}
use Rattle.std.specs.List.{Contains}
use Rattle.plancheck_group.proofs.DropLemmas.{not_not}
use Rattle.plancheck_group.proofs.ready.is_unready.Goals as goal

pub returns-then-not-has-clause-ready : goal.returns-then-not-has-clause-ready
returns-then-not-has-clause-ready c = λ _ there. absurd (let e : true ≡ false =
    sym (c.has.ensures.1 (subst (Contains c.args.part.now) (sym c.as_bytes.ensures.bytes) there)) ∙ c.if-not-has.true in cc)

pub returns-clause-unready : goal.returns-clause-unready
returns-clause-unready c = λ so ready. let P : Bool → Type 0 = λ b. not b ≡ true in
    let e : false ≡ true = subst P (c.is_ready.ensures.1 ready) so in absurd (let f : false ≡ true = e in cc)

pub returns-clause-ready : goal.returns-clause-ready
returns-clause-ready c = λ so _. c.is_ready.ensures.0 (not_not c.is_ready.result so)
