-- The files so far were put, but those that are lost.
use Rattle.std.proofs.Common.{◌≡◌, Some, map, take}
use Rattle.cli.specs.Files.{Files}
use Rattle.cli.specs.Kept.{Kept}
use Rattle.cli.specs.Packages.{ArePut}
use Rattle.cli.proofs.refutations.put_files.Given as goal

abbrev pub invariant-loop-file : goal.invariant-loop-file
invariant-loop-file g l = (at : Files) (was : Kept g.row.H-Journal.Denot) → g.H.Host.files l.fn.host ≡ Some at → g.H.Host.kept l.fn.host ≡ Some was
    → ArePut (take l.file-index l.files) (map (λ one. one.now) l.lost.items) at was (g.H.Host.files l.host) (g.H.Host.kept l.host)
