use Rattle.std.proofs.Common.{◌≡◌, ◌+◌, ◌++◌, List, ℕ, length, take, drop, sym, subst, rules}
use Rattle.disk.specs.Calls.{Torn}
use Rattle.disk.proofs.TornWrites.{torn_part}
use Rattle.disk.proofs.crash.splice.Goals as goal

pub returns : goal.returns
returns c = λ n fits.
    let is : c.extend_from_slice-3.new.self.items
    ≡ take c.args.at c.args.left.now.items ++ c.args.with.now ++ drop (c.args.at + length c.args.with.now) c.args.left.now.items ++ c.args.beyond.now = search rules in
    subst (λ (l : List ℕ). Torn c.args.at n c.args.left.now.items l) (sym is) (torn_part c.args.at n c.args.with.now c.args.beyond.now c.args.left.now.items fits)
