-- The literals so far stand at the end of the open clause.
use Rattle.std.proofs.Common.{◌≡◌, ◌++◌, map, take}
use Rattle.encode.specs.Encoding.{signed_number}
use Rattle.encode.proofs.encoding.Encoding.push_literals.Given as goal

abbrev pub invariant-loop-literal : goal.invariant-loop-literal
invariant-loop-literal l = record {
  premises : l.self.premises ≡ l.fn.self.premises;
  clauses : l.self.clauses.clauses ≡ l.fn.self.clauses.clauses;
  numbers : l.self.clauses.numbers ≡ l.fn.self.clauses.numbers;
  pushed : l.self.clauses.open_clause ≡ l.fn.self.clauses.open_clause ++ map signed_number (take l.literal-index l.literals);
}
