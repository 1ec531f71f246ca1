-- What literals are told apart by: whether the pair is selected, its name and its version.
use Rattle.std.specs.Prelude.{ℕ, Bool, List, if◌then◌else◌}
use Rattle.std.specs.Borrow.{Bor}
use Rattle.named_refutation.specs.declared.named.NamedLiteral.{NamedLiteral}
use Rattle.named_refutation.specs.declared.named.NamedLiteral.TheVariants.{Selected, Unselected}

-- the literal that says so of the pair of the name and the version
abbrev pub literal_by : Bool × Bor (List ℕ) × Bor (List ℕ) → NamedLiteral
literal_by key =
    if key.0 then Selected (record { name = key.1.now; version = key.2.now })
    else Unselected (record { name = key.1.now; version = key.2.now })
