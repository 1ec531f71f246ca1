use Rattle.std.specs.Prelude.{string_bytes}
use Rattle.command_line.specs.Joined.{with_value}
use Rattle.command_line.specs.Place.{left}
use Rattle.command_line.specs.declared.join.Place.TheVariants.{Free}
use Rattle.command_line.proofs.WordLemmas.{one_more, whole}
use Rattle.command_line.proofs.join.put_value.Goals as goal

pub returns : goal.returns
returns c = λ rest. whole string_bytes c.args.all.now.items c.push.new.self.items (with_value c.args.option.now c.args.value.now) (left Free rest)
    (one_more string_bytes c.args.all.now.items c.push.new.self.items c.in_ok-text.text _ c.in_ok-push.ensures.items c.in_ok-text.ensures)
