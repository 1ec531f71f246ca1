-- Each turn goes through one step more.
use Rattle.std.proofs.Common.{◌≡◌, ◌∙◌, ℕ, Option, None, arith, get_or, set, subst}
use Rattle.std.specs.Option.{option_or}
use Rattle.json_answers.proofs.FoundLemmas.{all_found, one_found}
use Rattle.json_answers.proofs.archives.note_at_steps.Goals as goal
use Rattle.json_answers.specs.Unpacked.{archive_where}

pub loop-step-preserved : goal.loop-step-preserved
loop-step-preserved c =
    let w = c.loop-step in
    let give = archive_where c.args.offer.now.name.now c.args.offer.now.version c.args.stanza.now in
    record {
      place = omega (arith, w.invariant.place);
      size = c.in_ok-note_at.ensures.size ∙ w.invariant.size;
      left = one_found give c.args.steps.now w.archives.items c.note_at.new.archives.items w.step-index c.step-item.result c.loop-step-test.true
          w.invariant.size c.step-item.is
          (subst (λ (n : ℕ). c.note_at.new.archives.items ≡ set w.archives.items n (option_or (get_or w.archives.items n None) (give c.step-item.result)))
          w.invariant.place c.in_ok-note_at.ensures.archives)
          ∙ w.invariant.left;
    }

pub returns-clause-archives : goal.returns-clause-archives
returns-clause-archives c =
    let w = c.loop-step in
    all_found (archive_where c.args.offer.now.name.now c.args.offer.now.version c.args.stanza.now) c.args.steps.now c.args.archives.now.items
    w.archives.items w.step-index c.loop-step-test.false w.invariant.left
