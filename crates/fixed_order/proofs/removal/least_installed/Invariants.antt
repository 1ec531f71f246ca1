-- No name before the index is installed.
use Rattle.std.proofs.Common.{take}
use Rattle.std.specs.List.{All}
use Rattle.rules.specs.Database.{HasRecord, IsInstalled}
use Rattle.fixed_order.proofs.removal.least_installed.Given as goal

abbrev pub invariant-loop-key : goal.invariant-loop-key
invariant-loop-key l = All (λ name. ¬ HasRecord IsInstalled name l.db) (take l.key-index l.keys)
