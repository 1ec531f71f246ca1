-- The file is read, and the run goes on from it.
use Rattle.std.proofs.Common.{◌≡◌, ◌∙◌, ap, ap₂, arith, length, map, rules, sym}
use Rattle.std.proofs.lemmas.List.{length-map}
use Rattle.std.specs.Option.{option_copied}
use Rattle.apply.proofs.PlanLemmas.{length-plan}
use Rattle.apply.specs.Planned.{planned}
use Rattle.apply_engine.proofs.ReadyLemmas.{run_done, run_stopped}
use Rattle.apply_engine.proofs.good_plan.GoodPlan.go_on.Goals as goal

pub returns-in-Ok-go_on-clause-run : goal.returns-in-Ok-go_on-clause-run
returns-in-Ok-go_on-clause-run g c honest =
    let steps = c.as_slice-steps.result.now in
    let texts = map option_copied c.as_slice-5.result.now in
    let arch : c.args.self.now.arch ≡ c.as_slice-3.result.now = search rules in
    let start : c.args.self.now.start ≡ c.as_slice-4.result.now = search rules in
    let records : c.args.self.now.records ≡ planned steps texts =
    ap (λ p. p.records) (sym c.self.view_is) ∙ ap₂ planned (sym c.as_slice-steps.ensures.value)
    (sym c.as_slice.ensures.value ∙ sym c.in-Ok.ensures ∙ ap (map option_copied) (sym c.as_slice-5.ensures.value)) in
    let stays = c.read_all.ensures.stays honest in
    rw (arch, start, records) (run_done c.as_slice-3.result.now c.as_slice-4.result.now (planned steps texts)
    (g.D.Disk.facts c.args.disk.now) (g.D.Disk.facts c.read_all.new.disk) (g.D.Disk.facts c.go_on.new.disk) _ _ stays
    (c.in-Ok-go_on.ensures.run (c.read_all.ensures.honest.1 honest) (c.as_slice-2.ensures.value ∙ c.in-Ok-read_all.ensures.known honest ∙ sym stays.seen)))

pub returns-in-Ok-go_on-clause-done : goal.returns-in-Ok-go_on-clause-done
returns-in-Ok-go_on-clause-done g c =
    let steps = c.as_slice-steps.result.now in
    let texts = map option_copied c.as_slice-5.result.now in
    let arch : c.args.self.now.arch ≡ c.as_slice-3.result.now = search rules in
    let start : c.args.self.now.start ≡ c.as_slice-4.result.now = search rules in
    let records : c.args.self.now.records ≡ planned steps texts =
    ap (λ p. p.records) (sym c.self.view_is) ∙ ap₂ planned (sym c.as_slice-steps.ensures.value)
    (sym c.as_slice.ensures.value ∙ sym c.in-Ok.ensures ∙ ap (map option_copied) (sym c.as_slice-5.ensures.value)) in
    let each : length c.as_slice-5.result.now ≡ length steps =
    omega (
      arith,
      ap length c.as_slice-5.ensures.value,
      length-map c.in-Ok.texts.items option_copied,
      ap length c.in-Ok.ensures,
      ap length c.as_slice.ensures.value,
      c.self.invariant,
      ap length c.as_slice-steps.ensures.value,
    ) in
    record {
      end = rw (arch, start, records) c.in-Ok-go_on.ensures.end;
      count = sym (ap length records ∙ length-plan steps c.as_slice-5.result.now each);
    }

pub returns-clause-run : goal.returns-clause-run
returns-clause-run g c honest =
    let steps = c.as_slice-steps.result.now in
    let texts = map option_copied c.as_slice-5.result.now in
    let arch : c.args.self.now.arch ≡ c.as_slice-3.result.now = search rules in
    let start : c.args.self.now.start ≡ c.as_slice-4.result.now = search rules in
    let records : c.args.self.now.records ≡ planned steps texts =
    ap (λ p. p.records) (sym c.self.view_is) ∙ ap₂ planned (sym c.as_slice-steps.ensures.value)
    (sym c.as_slice.ensures.value ∙ sym c.in-Ok.ensures ∙ ap (map option_copied) (sym c.as_slice-5.ensures.value)) in
    let stays = c.read_all.ensures.stays honest in
    rw (arch, start, records) (run_stopped c.as_slice-3.result.now c.as_slice-4.result.now (planned steps texts)
    (g.D.Disk.facts c.args.disk.now) (g.D.Disk.facts c.read_all.new.disk) (g.D.Disk.facts c.go_on.new.disk) c.in-Err-go_on.e stays
    (c.in-Err-go_on.ensures.run (c.read_all.ensures.honest.1 honest) (c.as_slice-2.ensures.value ∙ c.in-Ok-read_all.ensures.known honest ∙ sym stays.seen)))
