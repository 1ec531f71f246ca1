-- The names so far.
use Rattle.std.proofs.Common.{◌≡◌, map, take}
use Rattle.std.specs.List.{filter}
use Rattle.request_lines.specs.Upgraded.{is_to_upgrade}
use Rattle.request_lines.proofs.upgraded.names_to_upgrade.Given as goal

abbrev pub invariant-loop-start : goal.invariant-loop-start
invariant-loop-start l = map (λ name. name.now) l.names.items
    ≡ map (λ start. start.name) (filter (is_to_upgrade l.universe) (take l.start-index l.universe.starts))
