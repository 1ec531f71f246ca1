-- Words in ascending order (Policy 5.6.12): `~~`, `~~a`, `~`, the empty word, `a`.
use Rattle.std.proofs.Common.{◌≡◌, [], codes, refl}
use Rattle.std.specs.declared.cmp.Ordering.TheVariants.{Less}
use Rattle.rules.specs.Version.{word_cmp}

two_tildes_first : word_cmp (codes "~~") (codes "~~a") ≡ Less
two_tildes_first = refl

tildes_with_a_letter : word_cmp (codes "~~a") (codes "~") ≡ Less
tildes_with_a_letter = refl

tilde_before_the_end : word_cmp (codes "~") [] ≡ Less
tilde_before_the_end = refl

end_before_a_letter : word_cmp [] (codes "a") ≡ Less
end_before_a_letter = refl

letter_before_another_byte : word_cmp (codes "Z") (codes "+") ≡ Less
letter_before_another_byte = refl
