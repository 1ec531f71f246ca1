-- Where there are names, those that have one of them are asked about.
use Rattle.std.proofs.Common.{◌≡◌, ◌∙◌, ℕ, false, nat_eq, List, Bor, bytes_eq, ap, length}
use Rattle.std.specs.List.{list_any}
use Rattle.installable.proofs.AskedLemmas.{asked_named}
use Rattle.installable.proofs.asked.is_asked.Goals as goal

pub returns : goal.returns
returns c =
    let names = c.args.names.now in
    let some : nat_eq (length names) 0 ≡ false = cc in
    asked_named names c.args.entry.now c.has_name.result some
    (c.has_name.ensures ∙ ap (λ (n : List ℕ). list_any (λ (one : Bor (List ℕ)). bytes_eq one.now n) names) c.name.ensures)
