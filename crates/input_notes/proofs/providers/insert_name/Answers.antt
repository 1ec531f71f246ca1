-- A name that is put into the table is put behind those that it has.
use Rattle.std.proofs.Common.{ℕ, List, map, ap, ◌∙◌, Bor}
use Rattle.index.proofs.NameLemmas.{inserted}
use Rattle.input_notes.proofs.providers.insert_name.Goals as goal

pub returns : goal.returns
returns c = ap (λ (keys : List (Bor (List ℕ))). map (λ (key : Bor (List ℕ)). key.now) keys) c.in_ok-insert.ensures.keys
    ∙ inserted c.args.names.now.keys c.args.name
