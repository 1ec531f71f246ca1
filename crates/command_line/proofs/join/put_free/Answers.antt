use Rattle.std.proofs.Common.{◌∙◌, ◌++◌, ap, map, sym}
use Rattle.std.specs.Prelude.{string_bytes}
use Rattle.command_line.proofs.WordLemmas.{option_left}
use Rattle.command_line.proofs.join.put_free.Goals as goal

pub returns-then-takes_value : goal.returns-then-takes_value
returns-then-takes_value c = λ rest. ap (λ ts. map string_bytes c.args.all.now.items ++ ts)
    (option_left c.args.word rest (sym c.takes_value.ensures ∙ c.if-takes_value.true))
