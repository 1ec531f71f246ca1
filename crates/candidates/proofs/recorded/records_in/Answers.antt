-- What the chain makes of each record.
use Rattle.std.proofs.Common.{rules, ◌≡◌, List, [], ◌∷◌, IfOk, map, refl, sym, ap, subst}
use Rattle.std.proofs.lemmas.Iterator.{YieldsList-from_map, YieldsList-from_slice, items_from_collect}
use Rattle.rules.specs.Database.{Record}
use Rattle.rules.specs.FileRecord.{FileRecord}
use Rattle.candidates.proofs.recorded.records_in.Goals as goal

map_twice : {X Y Z : Type 0} (xs : List X) (f : X → Y) (g : Y → Z) → map g (map f xs) ≡ map (λ x. g (f x)) xs
map_twice [] f g = refl
map_twice (x ∷ xs) f g = ap (λ (rest : List _). g (f x) ∷ rest) (map_twice xs f g)

pub returns : goal.returns
returns c = subst (λ (records : List Record). IfOk c.collect.result (λ recorded. recorded.items ≡ records))
    (sym (map_twice c.args.start.now (λ r. r.now) (λ (entry : FileRecord). entry.status)))
    (items_from_collect c.collect.result c.collect.ensures.ran
    (YieldsList-from_map _ (λ r. r.now.status) (YieldsList-from_slice c.args.start.now cc) c.map.ensures.closure (λ x r q k. search rules)))
