-- How relation fields are kept: what contracts see of an operator with its version.
use Rattle.std.specs.Prelude.{◌≡◌, ℕ, List, None}
use Rattle.std.specs.List.{AllByRecursion}
use Rattle.std.specs.Borrow.{Bor}
use Rattle.rules.specs.declared.goal.Restriction.{Restriction}
use Rattle.rules.specs.declared.op.Op.{Op}
use Rattle.relation_text.specs.Refusal.{bad_version_of}
use Rattle.relation_text.specs.Spelling.{parts_of}
use Rattle.relation_text.specs.declared.cut.Separator.TheVariants.{Bar}

-- an operator and a version as a restriction
abbrev pub restriction_by : Op × List ℕ → Restriction
restriction_by pair = record { op = pair.0; version = pair.1 }

-- an operator and a version that is lent as a restriction
abbrev pub restriction_by_ref : Op × Bor (List ℕ) → Restriction
restriction_by_ref pair = record { op = pair.0; version = pair.1.now }

-- no version of these texts is refused
abbrev pub HaveGoodVersions : List (List ℕ) → Type 0
HaveGoodVersions texts = AllByRecursion (λ text. bad_version_of text ≡ None) texts

-- no version of the alternatives of these texts is refused
abbrev pub HaveGoodParts : List (List ℕ) → Type 0
HaveGoodParts texts = AllByRecursion (λ text. HaveGoodVersions (parts_of Bar text)) texts
