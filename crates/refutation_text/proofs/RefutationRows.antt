-- Texts of refutations, worked by hand.
use Rattle.std.proofs.Common.{◌≡◌, [], ◌∷◌, ◌++◌, Some, None, Ok, Err, refl}
use Rattle.std.specs.Prelude.{codes}
use Rattle.refutation.specs.declared.line.Line.TheVariants as line
use Rattle.refutation.specs.declared.line.Premise.TheVariants.{Goal, GoalOn}
use Rattle.refutation.specs.declared.literal.Literal.TheVariants.{Unselected}
use Rattle.refutation_text.specs.LineText.{line_of}
use Rattle.refutation_text.specs.Text.{counted_line, read_refutation}
use Rattle.refutation_text.specs.declared.error.RefutationFault.TheVariants.{BadRefutation, TooLarge}

-- the last line that is read, and the next is one too many
last_line : counted_line 10000000 (line.Premise (Goal 1)) ≡ Ok (line.Premise (Goal 1))
last_line = refl

line_too_many : counted_line 10000001 (line.Premise (Goal 1)) ≡ Err TooLarge
line_too_many = refl

-- the header alone has no lines; without its newline it is refused, as an empty text is
header_alone : read_refutation (codes "refutation 1" ++ 10 ∷ []) ≡ Ok []
unfolding read_refutation
header_alone = refl

header_unended : read_refutation (codes "refutation 1") ≡ Err (BadRefutation 1)
unfolding read_refutation
header_unended = refl

empty_refused : read_refutation [] ≡ Err (BadRefutation 1)
unfolding read_refutation
empty_refused = refl

-- lines
derived_read : line_of (codes "derive -2 : 3 4") ≡ Some (line.Derived (Unselected 2 ∷ []) (3 ∷ 4 ∷ []))
unfolding line_of
derived_read = refl

empty_clause_read : line_of (codes "derive : 1") ≡ Some (line.Derived [] (1 ∷ []))
unfolding line_of
empty_clause_read = refl

repeated_refused : line_of (codes "derive 1 1 : 1") ≡ None
unfolding line_of
repeated_refused = refl

no_hint_refused : line_of (codes "derive :") ≡ None
unfolding line_of
no_hint_refused = refl

goal_read : line_of (codes "goal 1 2") ≡ Some (line.Premise (GoalOn 1 2))
unfolding line_of
goal_read = refl

zero_refused : line_of (codes "same 01 2") ≡ None
unfolding line_of
zero_refused = refl

word_missing : line_of (codes "same 1") ≡ None
unfolding line_of
word_missing = refl
