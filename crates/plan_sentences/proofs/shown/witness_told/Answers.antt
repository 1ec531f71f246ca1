-- What is told of these records is told of each that is present.
use Rattle.std.proofs.Common.{◌≡◌, ℕ, Global, List, Vec, subst, sym}
use Rattle.std.specs.Prelude.{codes}
use Rattle.std.proofs.lemmas.Result.{IfOk-at_ok}
use Rattle.rules.specs.Database.{pkg_of}
use Rattle.witness.specs.declared.witness.Witness.{Witness}
use Rattle.plan_sentences.specs.No.{IsAgainstByTold, IsPresentIn, IsUnpackTold, IsWitnessTold, need_words}
use Rattle.plan_sentences.proofs.ResultLemmas.{of_value}
use Rattle.plan_sentences.proofs.WitnessLemmas.{unpack_told}
use Rattle.plan_sentences.proofs.shown.witness_told.Goals as goal

pub returns-in-BrokenBy : goal.returns-in-BrokenBy
returns-in-BrokenBy c = λ distinct. of_value c.broken_by.result _ (λ text is.
    subst (λ (it : Witness). IsWitnessTold c.args.listed.now c.args.db.now it text.items) (sym c.in-BrokenBy.is) (λ entry other present breaking.
    IfOk-at_ok (λ (said : Vec ℕ Global). IsAgainstByTold (codes " breaks ") other other.relations.breaks (pkg_of entry) said.items) is
    (c.broken_by.ensures entry other distinct
    (subst (λ (bytes : List ℕ). IsPresentIn c.args.db.now bytes entry) (sym c.as_bytes.ensures) present)
    (subst (λ (bytes : List ℕ). IsPresentIn c.args.db.now bytes other) (sym c.as_bytes-in-BrokenBy.ensures) breaking))))

pub returns-in-Needs : goal.returns-in-Needs
returns-in-Needs c = λ distinct. of_value c.need.result _ (λ text is.
    subst (λ (it : Witness). IsWitnessTold c.args.listed.now c.args.db.now it text.items) (sym c.in-Needs.is) (λ entry atoms present there.
    IfOk-at_ok (λ (said : Vec ℕ Global). said.items ≡ need_words entry c.in-Needs.field atoms) is
    (c.need.ensures entry atoms distinct
    (subst (λ (bytes : List ℕ). IsPresentIn c.args.db.now bytes entry) (sym c.as_bytes-in-Needs.ensures) present) there)))

pub returns-in_default : goal.returns-in_default
returns-in_default c = λ distinct. of_value c.unpack_of.result _ (λ text is.
    unpack_told c.args.listed.now c.args.db.now c.args.witness.now text.items c.in_default.not-BrokenBy c.in_default.not-Unmet c.in_default.not-Needs
    (λ it same. IfOk-at_ok (λ (said : Vec ℕ Global). IsUnpackTold c.args.db.now it.pkg c.args.witness.now said.items) is (c.unpack_of.ensures it distinct same)))
