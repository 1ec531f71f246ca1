use Rattle.std.specs.Prelude.{string_bytes}
use Rattle.command_line.proofs.WordLemmas.{one_more}
use Rattle.command_line.proofs.join.put_word.Goals as goal

pub returns : goal.returns
returns c = one_more string_bytes c.args.all.now.items c.push.new.self.items c.in_ok-text.text _ c.in_ok-push.ensures.items c.in_ok-text.ensures
