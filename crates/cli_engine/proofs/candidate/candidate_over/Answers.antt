-- The candidate of the name over the records of the status file, whatever is asked for.
use Rattle.std.proofs.Common.{◌≡◌, ◌∙◌, Option, Some, ap, map, subst, sym}
use Rattle.candidates.specs.Candidates.{IsCandidateOf}
use Rattle.candidates.specs.Inputs.{indices_of, inputs_of}
use Rattle.candidates.specs.Offer.{Offer}
use Rattle.rules.specs.FileRecord.{records_of}
use Rattle.status_text.specs.Slot.{entries_of}
use Rattle.inputs.specs.ReadAs.{start_of}
use Rattle.cli_engine.proofs.candidate.candidate_over.Goals as goal

pub returns-in-None : goal.returns-in-None
returns-in-None c request =
    let before = c.args.before.now in
    let same : map (λ r. r.now) c.as_slice.result.now ≡ entries_of before.status_file.now.slots = rw c.as_slice.ensures.value c.in_ok-records.ensures.records in
    let is_candidate : IsCandidateOf (inputs_of (start_of before) (indices_of before.indices.now) before.prefs.now request) c.args.name.now
    c.in_ok-candidate.field-0 =
    subst (λ es. IsCandidateOf (inputs_of (records_of es) (indices_of before.indices.now) before.prefs.now request) c.args.name.now
    c.in_ok-candidate.field-0) same (c.in_ok-candidate.ensures request) in
    subst (λ (offer : Option Offer). IsCandidateOf (inputs_of (start_of before) (indices_of before.indices.now) before.prefs.now request)
    c.args.name.now offer) c.in-None.is is_candidate

pub returns : goal.returns
returns c request =
    let before = c.args.before.now in
    let same : map (λ r. r.now) c.as_slice.result.now ≡ entries_of before.status_file.now.slots = rw c.as_slice.ensures.value c.in_ok-records.ensures.records in
    let is_candidate : IsCandidateOf (inputs_of (start_of before) (indices_of before.indices.now) before.prefs.now request) c.args.name.now
    c.in_ok-candidate.field-0 =
    subst (λ es. IsCandidateOf (inputs_of (records_of es) (indices_of before.indices.now) before.prefs.now request) c.args.name.now
    c.in_ok-candidate.field-0) same (c.in_ok-candidate.ensures request) in
    subst (λ (offer : Option Offer). IsCandidateOf (inputs_of (start_of before) (indices_of before.indices.now) before.prefs.now request)
    c.args.name.now offer) (c.in-Some.is ∙ ap Some (sym c.in_ok-copied_from-in-Some.ensures)) is_candidate
