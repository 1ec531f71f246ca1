use Rattle.std.proofs.Common.{sym, arith}
use Rattle.universe_request.proofs.LineLemmas.{first_line, one_line}
use Rattle.universe_request.proofs.words.cut_line.Goals as goal

pub returns-in-None : goal.returns-in-None
returns-in-None c = record {
  lines = one_line c.args.text.now (sym c.in-None.ensures);
  whole = omega arith;
}

pub returns-in-Some : goal.returns-in-Some
returns-in-Some c =
    let cut = first_line c.args.text.now c.in-Some.at (sym c.in-Some.ensures) in
    record {
      lines = rw (c.split_at.ensures.front, c.split_at-in-Some.ensures.back) cut.lines;
      whole = omega (arith, c.split_at.ensures.front_len, c.split_at-in-Some.ensures.back_len);
    }
