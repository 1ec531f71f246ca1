-- The listing is of the records of the status file.
use Rattle.std.proofs.Common.{◌≡◌, IfOk, map, subst}
use Rattle.candidates.specs.Inputs.{indices_of}
use Rattle.rules.specs.FileRecord.{records_of}
use Rattle.status_text.specs.Slot.{entries_of}
use Rattle.universe_build.specs.Listing.{IsListing}
use Rattle.inputs.proofs.request.listed_in.Goals as goal

pub returns : goal.returns
returns c =
    let before = c.args.before.now in
    let same : map (λ r. r.now) c.as_slice.result.now ≡ entries_of before.status_file.now.slots = rw c.as_slice.ensures.value c.in_ok-records.ensures.records in
    subst (λ es. IfOk c.new.result (IsListing (records_of es) (indices_of before.indices.now) before.prefs.now)) same c.new.ensures.listing
