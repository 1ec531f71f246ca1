use Rattle.command_line.proofs.join.put.Goals as goal

pub returns-in-Free : goal.returns-in-Free
returns-in-Free c = rw c.in-Free.is c.put_free.ensures

pub returns-in-Behind : goal.returns-in-Behind
returns-in-Behind c = rw c.in-Behind.is c.put_value.ensures

pub returns-in-Operands : goal.returns-in-Operands
returns-in-Operands c = rw c.in-Operands.is c.put_operand.ensures
