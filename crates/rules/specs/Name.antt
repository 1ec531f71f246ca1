-- Package names and their order (Policy 5.6.1). A name is its bytes. Capitals and names of one byte are
-- this project's own.
use Rattle.std.specs.Prelude.{◌≡◌, ℕ, Bool, false, List, [], ◌∷◌, ◌==◌, ◌&&◌, ◌||◌}
use Rattle.std.specs.Char.{is_ascii_alphanumeric}
use Rattle.std.specs.Cmp.Lexicographic.{slice_cmp}
use Rattle.std.specs.List.{AllPairs, list_all}
use Rattle.std.specs.Ordering.{nat_cmp}
use Rattle.std.specs.declared.cmp.Ordering.{Ordering}
use Rattle.std.specs.declared.cmp.Ordering.TheVariants.{Less}

-- a byte that a name may have after its first: a letter, a digit or one of `+ - .`
abbrev pub is_name_byte : ℕ → Bool
is_name_byte b = is_ascii_alphanumeric b || (b == 43) || (b == 45) || (b == 46)

-- the text is a package name: letters, digits and `+ - .`, beginning with a letter or a digit
abbrev pub is_name : List ℕ → Bool
is_name [] = false
is_name (b ∷ rest) = is_ascii_alphanumeric b && list_all is_name_byte rest

-- the order of names: by their bytes
abbrev pub name_cmp : List ℕ → List ℕ → Ordering
name_cmp = slice_cmp nat_cmp

-- each name is before all that follow it
abbrev pub IsAscending : List (List ℕ) → Type 0
IsAscending names = AllPairs (λ earlier later. name_cmp earlier later ≡ Less) names
