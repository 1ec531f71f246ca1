-- What a journal takes of a good plan; and what is refused of the texts of its stanzas.
use Rattle.std.proofs.Common.{◌∙◌, inr, Bor, ℕ, List, map, refl, rules, subst, sym}
use Rattle.std.proofs.lemmas.Result.{err_from_is_err_and}
use Rattle.inputs.specs.ReadAs.{AreNamed}
use Rattle.inputs.specs.Texts.{texts_of}
use Rattle.rules.specs.declared.step.Verdict.TheVariants.{Yes}
use Rattle.apply_engine.proofs.ReadyLemmas.{answered}
use Rattle.apply_engine.proofs.readying.made_ready.Goals as goal

pub returns-in_err-texts-clause-refused : goal.returns-in_err-texts-clause-refused
returns-in_err-texts-clause-refused g c = λ at known read good.
    let p = err_from_is_err_and c.from_residual.result c.from_residual.ensures.1 in
    rw (p.1, p.2) (inr (record {
      universe = c.args.universe.now;
      steps = c.args.steps.items;
      files = map (λ (file : Bor (List ℕ)). file.now) c.args.before.now.files.now;
      good = good;
      named = read.named;
      refusal = rw (← c.as_slice.ensures.value) (c.in_err-texts.ensures.refused at known);
    }))

pub returns-clause-ready : goal.returns-clause-ready
returns-clause-ready g c = λ at known read good.
    let before = c.args.before.now in
    let texts = texts_of before.settings.now at in
    record {
      answer = answered texts at.judged c.args.universe.now c.args.steps.items Yes good;
      planned = record {
        universe = c.args.universe.now;
        steps = c.args.steps.items;
        files = map (λ (file : Bor (List ℕ)). file.now) before.files.now;
        slots = before.status_file.now.slots;
        stanzas = c.in_ok-texts.texts.items;
        good = good;
        named = read.named;
        status_is = read.status_is;
        start_is = c.in_ok-start.ensures;
        fetched = rw (← c.as_slice.ensures.value) (c.in_ok-texts.ensures.texts at known);
        records_are = refl;
      };
      for_it = search rules;
      named = subst (AreNamed texts) (sym c.in_ok-indices.ensures) read.named;
    }
