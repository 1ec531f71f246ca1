-- The universe of the request is built on the records of the status file, is no larger than is kept, and its facts are about
-- distinct names; and what refuses the request is the first refusal of the texts with it.
use Rattle.std.proofs.Common.{◌≡◌, IfSome, List, Some, arith, ap, map, subst, sym, ℕ}
use Rattle.std.specs.Option.{option_copied}
use Rattle.universe_build.specs.Listing.{IsListing}
use Rattle.rules.specs.FileRecord.{records_of}
use Rattle.rules.specs.Universe.{IsUniverse}
use Rattle.candidates.specs.Inputs.{indices_of, inputs_of}
use Rattle.status_text.specs.Slot.{entries_of}
use Rattle.universe_parts.specs.Parts.{HaveDistinctNames}
use Rattle.universe_build.proofs.StartsApart.{starts_apart}
use Rattle.inputs.specs.Meaning.{IsRequested, asked_of}
use Rattle.inputs.specs.ReadAs.{start_of}
use Rattle.inputs.proofs.DenoteLemmas.{built_on}
use Rattle.inputs.proofs.NameLemmas.{pairs_named, status_named}
use Rattle.inputs.proofs.ReadAsLemmas.{read-asking, request-refused}
use Rattle.inputs.proofs.request.requested_in.Goals as goal

pub universe_in-requires-clause-listed : goal.universe_in-requires-clause-listed
universe_in-requires-clause-listed c =
    let before = c.args.before.now in
    let same : map (λ r. r.now) c.as_slice.result.now ≡ entries_of before.status_file.now.slots = rw c.as_slice.ensures.value c.in_ok-records.ensures.records in
    subst (λ es. IfSome (option_copied c.args.listing) (IsListing (records_of es) (indices_of before.indices.now) before.prefs.now)) (sym same) c.requires.listed

pub returns-in-Ok-clause-over : goal.returns-in-Ok-clause-over
returns-in-Ok-clause-over c =
    let before = c.args.before.now in
    let u = c.in-Ok.requested.universe in
    let same : map (λ r. r.now) c.as_slice.result.now ≡ entries_of before.status_file.now.slots = rw c.as_slice.ensures.value c.in_ok-records.ensures.records in
    let asked = asked_of c.in-Ok.ensures.ok.0 in
    let inputs = inputs_of (start_of before) (indices_of before.indices.now) before.prefs.now asked in
    let made = c.in-Ok.ensures.ok.1.built in
    let is : IsUniverse inputs u =
    subst (λ es. IsUniverse (inputs_of (records_of es) (indices_of before.indices.now) before.prefs.now asked) u) same made.universe in
    let built = built_on c.universe_is_built.ensures _ _ u (map (λ r. r.now) c.as_slice.result.now) (entries_of before.status_file.now.slots)
    (indices_of before.indices.now) before.prefs.now same c.in_ok-records.ensures.distinct (c.in-Ok.ensures.ok.0, c.in-Ok.ensures.ok.1) in
    let read = c.in_ok-records.ensures.read in
    let named = status_named before.status_file.now.arch read.text before.status_file.now.slots read.read in
    record {
      request = asked;
      universe = is;
      built = built;
      few = (let bounded = made.bounded in omega (arith, bounded));
      start = c.in_ok-records.ensures.distinct;
      distinct = subst HaveDistinctNames (sym built.starts) (starts_apart _ built.distinct);
      start_names = named;
      pair_names = pairs_named inputs u named c.packages_are_named.ensures is;
    }

pub returns-in-Ok-clause-asked : goal.returns-in-Ok-clause-asked
returns-in-Ok-clause-asked c texts read =
    let before = c.args.before.now in
    let same : map (λ r. r.now) c.as_slice.result.now ≡ entries_of before.status_file.now.slots = rw c.as_slice.ensures.value c.in_ok-records.ensures.records in
    let indices = indices_of before.indices.now in
    let prefs = before.prefs.now in
    let text = c.args.text.now in
    let asked = c.in-Ok.ensures.ok.0 in
    let u = c.in-Ok.requested.universe in
    let requested : IsRequested before.settings.now.arch.now (Some text) (start_of before) indices prefs asked u =
    subst (λ es. IsRequested before.settings.now.arch.now (Some text) (records_of es) indices prefs asked u) same c.in-Ok.ensures.ok.1 in
    record {
      denoted = record {
        indices = indices;
        prefs = prefs;
        asked = asked;
        read = read-asking texts text (start_of before) indices prefs read.read;
        requested = subst (λ (arch : List ℕ). IsRequested arch (Some text) (start_of before) indices prefs asked u) (sym read.arch) requested;
      };
      asks = c.in-Ok.ensures.ok.2;
    }

pub returns-clause-refused : goal.returns-clause-refused
returns-clause-refused c texts read =
    let same : map (λ r. r.now) c.as_slice.result.now ≡ entries_of c.args.before.now.status_file.now.slots = rw c.as_slice.ensures.value c.in_ok-records.ensures.records in
    request-refused texts c.args.before.now c.args.text.now _ c.in-Err.fault _ read (ap records_of same) c.in-Err.ensures.err c.refused_at.ensures
