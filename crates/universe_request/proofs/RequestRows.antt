-- The last goal that is read, and what a line is for.
use Rattle.std.proofs.Common.{◌≡◌, ℕ, true, false, Ok, Err, refl}
use Rattle.std.specs.Prelude.{codes}
use Rattle.rules.specs.declared.goal.Goal.{Goal}
use Rattle.universe_request.specs.Request.{counted_goal, is_all_versions, is_goalless, on_line}
use Rattle.universe_request.specs.Words.{after_word, is_skipped, word_of}
use Rattle.universe_request.specs.declared.error.RequestFault.TheVariants.{TooLarge}

-- the hundred thousandth goal is read, and the next is one too many
last_goal : (line : ℕ) (goal : Goal) → counted_goal line 100000 goal ≡ Ok (on_line line goal)
last_goal line goal = refl

goal_too_many : (line : ℕ) (goal : Goal) → counted_goal line 100001 goal ≡ Err TooLarge
goal_too_many line goal = refl

-- the words of `upgrade  foo`
action : word_of (codes "upgrade  foo") ≡ codes "upgrade"
action = refl

name : after_word (codes "upgrade  foo") ≡ codes "foo"
name = refl

-- a comment asks for nothing, and one behind a space is none
comment : is_skipped (codes "# x") ≡ true
comment = refl

no_comment : is_skipped (codes " # x") ≡ false
no_comment = refl

-- all versions are asked for by the word alone, white space round it apart; that line asks for no goal, and each other does
all_versions : is_all_versions (codes " all-versions  ") ≡ true
all_versions = refl

more_behind : is_all_versions (codes "all-versions x") ≡ false
more_behind = refl

begun : is_all_versions (codes "all-version") ≡ false
begun = refl

no_goal : is_goalless (codes "all-versions") ≡ true
no_goal = refl

a_goal : is_goalless (codes "upgrade-all") ≡ false
a_goal = refl
