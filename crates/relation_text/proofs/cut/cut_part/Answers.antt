use Rattle.std.proofs.Common.{sym, arith}
use Rattle.relation_text.specs.Spelling.{separates}
use Rattle.relation_text.proofs.Parts.{split_whole, split_at_position}
use Rattle.relation_text.proofs.cut.cut_part.Goals as goal

pub returns-in-None : goal.returns-in-None
returns-in-None c = record {
  parts = split_whole (separates c.args.separator) c.args.text.now (sym c.in-None.ensures);
  whole = omega arith;
}

pub returns-in-Some : goal.returns-in-Some
returns-in-Some c =
    let cut = split_at_position (separates c.args.separator) c.args.text.now c.in-Some.at (sym c.in-Some.ensures) in
    record {
      parts = rw (c.split_at.ensures.front, c.split_at-in-Some.ensures.back) cut.parts;
      whole = omega (arith, c.split_at.ensures.front_len, c.split_at-in-Some.ensures.back_len);
    }
