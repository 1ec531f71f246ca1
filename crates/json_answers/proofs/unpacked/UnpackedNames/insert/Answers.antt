-- A name that is put into the table is put behind those that it has.
use Rattle.std.proofs.Common.{ℕ, List, map, ap, ◌∙◌, Bor}
use Rattle.index.proofs.NameLemmas.{inserted}
use Rattle.index.specs.Names.{with_name}
use Rattle.json_answers.proofs.unpacked.UnpackedNames.insert.Goals as goal

pub returns : goal.returns
returns c = ap (λ (keys : List (Bor (List ℕ))). map (λ (key : Bor (List ℕ)). key.now) keys) c.in_ok-insert.ensures.keys
    ∙ inserted c.self.inside.names.keys c.args.name
    ∙ ap (λ (names : List (List ℕ)). with_name names c.args.name.now) c.self.view_is
