-- What is named is numbered again.
use Rattle.std.proofs.Common.{◌≡◌, ℕ, ◌+◌, List, [], ◌∷◌, Option, Some, None, Result, Ok, refl, sym, ap, ◌∙◌, inl, inr}
use Rattle.std.proofs.lemmas.Bool.{cases_Bool}
use Rattle.std.specs.List.Sorted.{IsStrictlySortedBy}
use Rattle.std.specs.Option.{ok_or, option_and_then, option_map}
use Rattle.rules.specs.Name.{is_name}
use Rattle.rules.specs.Universe.{Pair, pair_cmp}
use Rattle.refutation.specs.declared.line.Line.{Line}
use Rattle.refutation.specs.declared.line.Line.TheVariants as line
use Rattle.refutation.specs.declared.line.Premise.{Premise}
use Rattle.refutation.specs.declared.line.Premise.TheVariants as premise
use Rattle.refutation.specs.declared.literal.Literal.{Literal}
use Rattle.refutation.specs.declared.literal.Literal.TheVariants as literal
use Rattle.universe_parts.specs.Parts.{numbered}
use Rattle.named_refutation.specs.declared.named.NamedLine.{NamedLine}
use Rattle.named_refutation.specs.declared.named.NamedLine.TheVariants as named_line
use Rattle.named_refutation.specs.declared.named.NamedLiteral.{NamedLiteral}
use Rattle.named_refutation.specs.declared.named.NamedLiteral.TheVariants as named_literal
use Rattle.named_refutation.specs.declared.named.NamedPair.{NamedPair}
use Rattle.named_refutation.specs.declared.named.NamedPremise.{NamedPremise}
use Rattle.named_refutation.specs.declared.named.NamedPremise.TheVariants as named_premise
use Rattle.named_refutation.specs.declared.named.NamedRefutation.{NamedRefutation}
use Rattle.named_lines.specs.Naming.{each_some, line_named, literal_named, named_of, pair_named, premise_named, refutation_named, two_named}
use Rattle.named_lines.specs.Numbering.{each_ok, go_on, line_numbered, literal_numbered, made, numbered_from, numbered_lines, pair_numbered, premise_numbered, put_numbered, two_numbered}
use Rattle.named_lines.proofs.EachLemmas.{stopped_at}
use Rattle.named_lines.proofs.NumberLemmas.{number_again}

-- Pairs

-- the pairs ascend
abbrev pub Ascend : List Pair → Type 0
Ascend pairs = IsStrictlySortedBy pair_cmp pairs

pub pair_again : (pairs : List Pair) (number : ℕ) (value : NamedPair) → Ascend pairs → pair_named pairs number ≡ Some value → pair_numbered pairs value ≡ Ok number
pair_again pairs number value ascending h = go (numbered number pairs) refl h where
  of : Pair → NamedPair
  of pair = record { name = pair.pkg.name; version = pair.pkg.version }

  go : (pair : Option Pair) → numbered number pairs ≡ pair → option_and_then named_of pair ≡ Some value → pair_numbered pairs value ≡ Ok number
  go None e g = cc
  go (Some pair) e g = elim (cases_Bool (is_name pair.pkg.name)) [
    | inl named ↦
        let same : of pair ≡ value = cc (rw named at g) in
        sym (ap (pair_numbered pairs) same) ∙ ap (λ (place : Option ℕ). ok_or place (of pair)) (number_again pairs number pair ascending e)
    | inr other ↦ cc (rw other at g)
  ]

two_again : (pairs : List Pair) (number other : ℕ) (value : NamedPair × NamedPair) → Ascend pairs → two_named pairs number other ≡ Some value
    → two_numbered pairs value.0 value.1 ≡ Ok (number, other)
two_again pairs number other value ascending h = go (pair_named pairs number) refl (pair_named pairs other) refl h where
  go : (first : Option NamedPair) → pair_named pairs number ≡ first → (second : Option NamedPair) → pair_named pairs other ≡ second
      → option_and_then (λ one. option_map (λ two. (one, two)) second) first ≡ Some value → two_numbered pairs value.0 value.1 ≡ Ok (number, other)
  go None e second k g = cc
  go (Some first) e None k g = cc
  go (Some first) e (Some second) k g =
      let same : (first, second) ≡ value = cc in
      sym (ap (λ (both : NamedPair × NamedPair). two_numbered pairs both.0 both.1) same)
      ∙ ap (go_on (λ one. made (λ two. (one, two)) (pair_numbered pairs second))) (pair_again pairs number first ascending e)
      ∙ ap (made (λ two. (number, two))) (pair_again pairs other second ascending k)

-- what is made of what is found is numbered as what is found
made_again : {A B N M : Type 0} (name : A → N) (give : B → M) (back : A → Result B NamedPair) (numbering : N → Result M NamedPair) (read : Option A) (item : B) (value : N)
    → ((a : A) → numbering (name a) ≡ made give (back a)) → ((a : A) → read ≡ Some a → back a ≡ Ok item)
    → option_map name read ≡ Some value → numbering value ≡ Ok (give item)
made_again {A} {B} {N} {M} name give back numbering read item value spelled again h = go read refl h where
  go : (got : Option A) → read ≡ got → option_map name got ≡ Some value → numbering value ≡ Ok (give item)
  go None e g = cc
  go (Some a) e g =
      let same : name a ≡ value = cc in
      sym (ap numbering same) ∙ spelled a ∙ ap (made give) (again a e)

-- Premises

premise_again : (pairs : List Pair) (from : Premise) (value : NamedPremise) → Ascend pairs → premise_named pairs from ≡ Some value → premise_numbered pairs value ≡ Ok from
premise_again pairs (premise.Same number other) value ascending h =
    made_again (λ (two : NamedPair × NamedPair). named_premise.Same two.0 two.1) (λ (two : ℕ × ℕ). premise.Same two.0 two.1) (λ two. two_numbered pairs two.0 two.1)
    (premise_numbered pairs) (two_named pairs number other) (number, other) value (λ a. refl) (λ a. two_again pairs number other a ascending) h
premise_again pairs (premise.PreDepends number clause) value ascending h =
    made_again (λ pair. named_premise.PreDepends pair clause) (λ i. premise.PreDepends i clause) (pair_numbered pairs)
    (premise_numbered pairs) (pair_named pairs number) number value (λ a. refl) (λ a. pair_again pairs number a ascending) h
premise_again pairs (premise.Depends number clause) value ascending h =
    made_again (λ pair. named_premise.Depends pair clause) (λ i. premise.Depends i clause) (pair_numbered pairs)
    (premise_numbered pairs) (pair_named pairs number) number value (λ a. refl) (λ a. pair_again pairs number a ascending) h
premise_again pairs (premise.Conflicts number other) value ascending h =
    made_again (λ (two : NamedPair × NamedPair). named_premise.Conflicts two.0 two.1) (λ (two : ℕ × ℕ). premise.Conflicts two.0 two.1) (λ two. two_numbered pairs two.0 two.1)
    (premise_numbered pairs) (two_named pairs number other) (number, other) value (λ a. refl) (λ a. two_again pairs number other a ascending) h
premise_again pairs (premise.Breaks number other) value ascending h =
    made_again (λ (two : NamedPair × NamedPair). named_premise.Breaks two.0 two.1) (λ (two : ℕ × ℕ). premise.Breaks two.0 two.1) (λ two. two_numbered pairs two.0 two.1)
    (premise_numbered pairs) (two_named pairs number other) (number, other) value (λ a. refl) (λ a. two_again pairs number other a ascending) h
premise_again pairs (premise.Goal goal) value ascending h = let same : named_premise.Goal goal ≡ value = cc in sym (ap (premise_numbered pairs) same)
premise_again pairs (premise.GoalOn goal number) value ascending h =
    made_again (λ pair. named_premise.GoalOn goal pair) (λ i. premise.GoalOn goal i) (pair_numbered pairs)
    (premise_numbered pairs) (pair_named pairs number) number value (λ a. refl) (λ a. pair_again pairs number a ascending) h
premise_again pairs (premise.Hold number) value ascending h =
    made_again (λ pair. named_premise.Hold pair) (λ i. premise.Hold i) (pair_numbered pairs)
    (premise_numbered pairs) (pair_named pairs number) number value (λ a. refl) (λ a. pair_again pairs number a ascending) h
premise_again pairs (premise.Essential name) value ascending h = let same : named_premise.Essential name ≡ value = cc in sym (ap (premise_numbered pairs) same)
premise_again pairs (premise.Keep name) value ascending h = let same : named_premise.Keep name ≡ value = cc in sym (ap (premise_numbered pairs) same)

-- Lines

literal_again : (pairs : List Pair) (from : Literal) (value : NamedLiteral) → Ascend pairs → literal_named pairs from ≡ Some value → literal_numbered pairs value ≡ Ok from
literal_again pairs (literal.Selected number) value ascending h =
    made_again (λ pair. named_literal.Selected pair) (λ i. literal.Selected i) (pair_numbered pairs)
    (literal_numbered pairs) (pair_named pairs number) number value (λ a. refl) (λ a. pair_again pairs number a ascending) h
literal_again pairs (literal.Unselected number) value ascending h =
    made_again (λ pair. named_literal.Unselected pair) (λ i. literal.Unselected i) (pair_numbered pairs)
    (literal_numbered pairs) (pair_named pairs number) number value (λ a. refl) (λ a. pair_again pairs number a ascending) h

-- what the first item and those behind it gave
record Parts {B : Type 0} (first : Option B) (behind : Option (List B)) (value : List B) : Type 0 where
  here : B
  rest : List B
  first_is : first ≡ Some here
  behind_is : behind ≡ Some rest
  all : value ≡ here ∷ rest

parts_of : {B : Type 0} (first : Option B) (behind : Option (List B)) (value : List B)
    → option_and_then (λ here. option_map (λ rest. here ∷ rest) behind) first ≡ Some value → Parts first behind value
parts_of None behind value h = cc
parts_of (Some here) None value h = cc
parts_of (Some here) (Some rest) value h = record { here = here; rest = rest; first_is = refl; behind_is = refl; all = cc }

each_again : {A B : Type 0} (give : A → Option B) (back : B → Result A NamedPair) → ((a : A) (b : B) → give a ≡ Some b → back b ≡ Ok a)
    → (items : List A) (value : List B) → each_some give items ≡ Some value → each_ok back value ≡ Ok items
each_again give back again [] value h = let none : [] ≡ value = cc in sym (ap (each_ok back) none)
each_again give back again (item ∷ later) value h =
    let parts = parts_of (give item) (each_some give later) value h in
    ap (each_ok back) parts.all
    ∙ ap (go_on (λ here. made (λ rest. here ∷ rest) (each_ok back parts.rest))) (again item parts.here parts.first_is)
    ∙ ap (made (λ rest. item ∷ rest)) (each_again give back again later parts.rest parts.behind_is)

line_again : (pairs : List Pair) (from : Line) (value : NamedLine) → Ascend pairs → line_named pairs from ≡ Some value → line_numbered pairs value ≡ Ok from
line_again pairs (line.Premise from) value ascending h =
    made_again (λ named. named_line.Premise named) (λ numbered. line.Premise numbered) (premise_numbered pairs)
    (line_numbered pairs) (premise_named pairs from) from value (λ a. refl) (λ a. premise_again pairs from a ascending) h
line_again pairs (line.Derived literals hints) value ascending h =
    made_again (λ named. named_line.Derived named hints) (λ numbered. line.Derived numbered hints) (each_ok (literal_numbered pairs))
    (line_numbered pairs) (each_some (literal_named pairs) literals) literals value (λ a. refl)
    (each_again (literal_named pairs) (literal_numbered pairs) (λ a b. literal_again pairs a b ascending) literals) h

lines_again : (pairs : List Pair) (number : ℕ) (lines : List Line) (value : List NamedLine) → Ascend pairs → each_some (line_named pairs) lines ≡ Some value
    → numbered_from pairs number value ≡ stopped_at lines None
lines_again pairs number [] value ascending h = let none : [] ≡ value = cc in sym (ap (numbered_from pairs number) none)
lines_again pairs number (from ∷ later) value ascending h =
    let parts = parts_of (line_named pairs from) (each_some (line_named pairs) later) value h in
    ap (numbered_from pairs number) parts.all
    ∙ ap (λ (read : Result Line NamedPair). put_numbered number read (numbered_from pairs (number + 1) parts.rest)) (line_again pairs from parts.here ascending parts.first_is)
    ∙ ap (put_numbered number (Ok from)) (lines_again pairs (number + 1) later parts.rest ascending parts.behind_is)

-- a refutation whose pairs are named has its lines again
pub refutation_again : (pairs : List Pair) (lines : List Line) (value : NamedRefutation) → IsStrictlySortedBy pair_cmp pairs
    → refutation_named pairs lines ≡ Some value → numbered_lines pairs value.lines ≡ record { lines = lines; missing = None }
unfolding refutation_named numbered_lines
refutation_again pairs lines value ascending h = go (each_some (line_named pairs) lines) refl h where
  of : List NamedLine → NamedRefutation
  of named = record { indices = []; lines = named }

  go : (read : Option (List NamedLine)) → each_some (line_named pairs) lines ≡ read → option_map of read ≡ Some value
      → numbered_from pairs 1 value.lines ≡ stopped_at lines None
  go None e g = cc
  go (Some named) e g =
      let same : of named ≡ value = cc in
      sym (ap (λ (refutation : NamedRefutation). numbered_from pairs 1 refutation.lines) same) ∙ lines_again pairs 1 lines named ascending e
