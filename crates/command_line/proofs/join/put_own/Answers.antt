use Rattle.std.specs.Prelude.{string_bytes}
use Rattle.command_line.proofs.WordLemmas.{own_put}
use Rattle.command_line.proofs.join.put_own.Goals as goal

pub returns : goal.returns
returns c = λ rest. own_put string_bytes c.args.all.now.items c.put_word.new.all.items c.args.word.now c.next_of.result rest c.requires
    c.in_ok-put_word.ensures c.next_of.ensures
