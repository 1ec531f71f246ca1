use Rattle.std.proofs.Common.{◌≡◌, map, take}
use Rattle.std.specs.List.{zip}
use Rattle.status.proofs.TextLemmas.{names_in}
use Rattle.status.proofs.table.copy_of_numbers.Given as goal

-- the copy has the names so far
abbrev pub invariant-loop-place : goal.invariant-loop-place
invariant-loop-place l = names_in l.copy.entries ≡ zip (take l.place (map (λ name. name.items) l.names)) (take l.place l.numbers)
