-- What waits is what isn't configured.
use Rattle.std.proofs.Common.{ℕ, List, ap, length, sym, subst, ◌∙◌}
use Rattle.rules.specs.Configure.{ArePreDependsInstalled}
use Rattle.plain.specs.Underway.{unconfigured_of}
use Rattle.fixed_order.specs.Askers.{AreAskers, AreMarked}
use Rattle.fixed_order.specs.Turn.{HasRings}
use Rattle.fixed_order.specs.Waiting.{AscendWith}
use Rattle.fixed_order.proofs.WaitingLemmas.{ascend_with}
use Rattle.fixed_order.proofs.waiting.Waiting.read.Goals as goal

pub returns : goal.returns
returns c =
    let same = c.in_ok-names.ensures ∙ c.as_slice.ensures.value in
    record {
      names = subst (AscendWith (unconfigured_of c.args.db.now)) (sym same)
          (ascend_with (unconfigured_of c.args.db.now) c.in_ok-keys.keys.items c.in_ok-keys.ensures);
      rings = subst (λ (names : List (List ℕ)). HasRings c.args.db.now names c.in_ok-rings.rings.names.items) c.as_slice-3.ensures.value
          c.in_ok-rings.ensures;
      long = c.in_ok-marks.ensures.long ∙ ap (λ (names : List (List ℕ)). length names) c.as_slice-4.ensures.value;
      known = λ so. let is = c.is_known-is_known.ensures so in record {
        pre_depends = subst (ArePreDependsInstalled c.args.db.now) c.as_slice-5.ensures.value is.0;
        askers = subst (AreAskers c.args.db.now c.in_ok-askers.askers) c.as_slice-5.ensures.value is.1;
        marked = subst (λ (names : List (List ℕ)). AreMarked c.args.db.now names c.in_ok-marks.marks.items) c.as_slice-4.ensures.value
            c.in_ok-marks.ensures.marked;
      };
    }
