use Rattle.std.proofs.Common.{◌≡◌, ◌∙◌, ◌++◌, List, ℕ, sym, ap}
use Rattle.journal.specs.declared.header.FormatVersion.TheVariants.{One, Two}
use Rattle.journal.specs.File.{magic_of}
use Rattle.journal.proofs.HeaderLemmas.{header_1, header_2, no_header_1, no_header_2}
use Rattle.journal.proofs.header.read_header.Goals as goal

pub returns-in_default : goal.returns-in_default
returns-in_default c = rw c.in-One.is (no_header_1 c.args.rest.now (rw c.in_default.is at c.parts_1.ensures))

pub returns-in_default-parts_2 : goal.returns-in_default-parts_2
returns-in_default-parts_2 c = rw c.in-Two.is (no_header_2 c.args.rest.now (rw c.in_default-parts_2.is at c.parts_2.ensures))

pub returns-in-Some : goal.returns-in-Some
returns-in-Some c = rw c.in-One.is (
  record { name_fits = tt; start_fits = c.in-Some.ensures.0 },
  ap (λ (l : List ℕ). magic_of One ++ l) c.in-Some.ensures.1 ∙ sym (header_1 c.in-Some.start.now c.in-Some.records.now),
)

pub returns-in-Some-parts_2 : goal.returns-in-Some-parts_2
returns-in-Some-parts_2 c = rw c.in-Two.is (
  record { name_fits = c.in-Some-parts_2.ensures.0; start_fits = c.in-Some-parts_2.ensures.1 },
  ap (λ (l : List ℕ). magic_of Two ++ l) c.in-Some-parts_2.ensures.2 ∙ sym (header_2 c.in-Some-parts_2.name.now c.in-Some-parts_2.start.now c.in-Some-parts_2.records.now),
)
