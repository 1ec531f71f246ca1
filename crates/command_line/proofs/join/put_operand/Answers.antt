use Rattle.std.specs.Prelude.{string_bytes}
use Rattle.command_line.proofs.WordLemmas.{whole}
use Rattle.command_line.proofs.join.put_operand.Goals as goal

pub returns : goal.returns
returns c = λ rest. whole string_bytes c.args.all.now.items c.put_word.new.all.items c.args.word.now rest c.in_ok-put_word.ensures
