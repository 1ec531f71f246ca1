-- The package at the place is that of the record at the place.
use Rattle.std.proofs.Common.{◌<◌, length, sym, ap, ◌∙◌, get_or, map}
use Rattle.std.proofs.lemmas.List.{get_or-map, length-map}
use Rattle.plancheck_state.specs.Packages.{present_pkg}
use Rattle.plancheck_state.proofs.records.package_records.Goals as goal

pub package_record-requires : goal.package_record-requires
package_record-requires c =
    let at = c.loop-record in
    let records = c.args.records.now in
    let entry = c.record-item.result in
    let pkg = c.index-packages-place.result in
    let within : at.place < length records = rw at.invariant.1 c.loop-record-test.true in
    c.index-packages-place.is
    ∙ ap (λ xs. get_or xs at.place pkg) c.requires
    ∙ get_or-map (λ entry. present_pkg entry.status) (map (λ r. r.now) records) at.place entry.now pkg
    (rw (length-map records (λ r. r.now)) within)
    ∙ ap (λ entry. present_pkg entry.status) (get_or-map (λ r. r.now) records at.place entry entry.now within)
    ∙ ap (λ i. present_pkg (get_or records i entry).now.status) at.invariant.1
    ∙ ap (λ r. present_pkg r.now.status) (sym c.record-item.is)
