-- The numbers of the states of the quick reading, and the cells of its tables.
use Rattle.std.proofs.Common.{◌≡◌, ℕ, ◌+◌, ◌*◌, ◌/◌, ◌%◌, ◌<◌, List, [], ◌∷◌, ◌++◌, length, get_or, refl, ap, ◌∙◌, arith, take, add-one}
use Rattle.std.proofs.Math.Seq.{take-suc}
use Rattle.relation_text.specs.Quick.{IsTable, cell, number_of, quick_after, quick_next, state_of}
use Rattle.relation_text.specs.declared.quick.QuickState.{QuickState}
use Rattle.relation_text.specs.declared.quick.QuickState.TheVariants.{At, OneDigit, BehindEpoch, BehindHyphen}
use Rattle.relation_text.specs.declared.shape.RelationForm.{RelationForm}
use Rattle.relation_text.specs.declared.shape.ShapePlace.TheVariants.{Between, Alternative, InName, AfterName, BeforeQualifier, InQualifier, Opened, Less, Greater, AfterOperator, InVersion, AfterVersion, Closed, Dead}

pub number_small : (state : QuickState) → number_of state < 17
number_small (At Between) = omega arith
number_small (At Alternative) = omega arith
number_small (At InName) = omega arith
number_small (At AfterName) = omega arith
number_small (At BeforeQualifier) = omega arith
number_small (At InQualifier) = omega arith
number_small (At Opened) = omega arith
number_small (At Less) = omega arith
number_small (At Greater) = omega arith
number_small (At AfterOperator) = omega arith
number_small (At InVersion) = omega arith
number_small (At AfterVersion) = omega arith
number_small (At Closed) = omega arith
number_small (At Dead) = omega arith
number_small OneDigit = omega arith
number_small BehindEpoch = omega arith
number_small BehindHyphen = omega arith

-- a state is that of its number
pub state_back : (state : QuickState) → state_of (number_of state) ≡ state
state_back (At Between) = refl
state_back (At Alternative) = refl
state_back (At InName) = refl
state_back (At AfterName) = refl
state_back (At BeforeQualifier) = refl
state_back (At InQualifier) = refl
state_back (At Opened) = refl
state_back (At Less) = refl
state_back (At Greater) = refl
state_back (At AfterOperator) = refl
state_back (At InVersion) = refl
state_back (At AfterVersion) = refl
state_back (At Closed) = refl
state_back (At Dead) = refl
state_back OneDigit = refl
state_back BehindEpoch = refl
state_back BehindHyphen = refl

row_of : (n b : ℕ) → b < 256 → (n * 256 + b) / 256 ≡ n
row_of n b small = omega arith

column_of : (n b : ℕ) → b < 256 → (n * 256 + b) % 256 ≡ b
column_of n b small = omega arith

-- the cell of a state and a byte
cell_of : (form : RelationForm) (state : QuickState) (b : ℕ) → b < 256 → cell form (number_of state * 256 + b) ≡ number_of (quick_next form state b)
unfolding cell
cell_of form state b small =
    let row = row_of (number_of state) b small in
    let column = column_of (number_of state) b small in
    let there : cell form (number_of state * 256 + b) ≡ number_of (quick_next form (state_of (number_of state)) b)
    = (λ i. number_of (quick_next form (state_of (row i)) (column i))) in
    there ∙ ap (λ (s : QuickState). number_of (quick_next form s b)) (state_back state)

pub within_table : (n b : ℕ) → n < 17 → b < 256 → n * 256 + b < 4352
within_table n b row column = omega arith

-- a look into the table is a step of the quick reading
pub looked_up : (form : RelationForm) (table : List ℕ) (state : QuickState) (n b : ℕ) → IsTable form table → n ≡ number_of state → b < 256
    → get_or table (n * 256 + b) 0 ≡ number_of (quick_next form state b)
looked_up form table state n b is e small =
    let low : n < 17 = (let less = number_small state in omega arith) in
    is.cells (n * 256 + b) (within_table n b low small)
    ∙ ap (λ (m : ℕ). cell form (m * 256 + b)) e
    ∙ cell_of form state b small

quick_after-push : (form : RelationForm) (state : QuickState) (bytes : List ℕ) (b : ℕ) → quick_after form state (bytes ++ b ∷ []) ≡ quick_next form (quick_after form state bytes) b
quick_after-push form state [] b = refl
quick_after-push form state (c ∷ bytes) b = quick_after-push form (quick_next form state c) bytes b

-- a byte more
pub quick_after-more : (form : RelationForm) (state : QuickState) (value : List ℕ) (i : ℕ) → i < length value
    → quick_after form state (take (i + 1) value) ≡ quick_next form (quick_after form state (take i value)) (get_or value i 0)
quick_after-more form state value i within =
    ap (λ (n : ℕ). quick_after form state (take n value)) (add-one i)
    ∙ ap (quick_after form state) (take-suc value i 0 within)
    ∙ quick_after-push form state (take i value) (get_or value i 0)
