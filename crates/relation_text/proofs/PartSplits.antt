-- What separators part: each part is free of them, and parts may be parted again.
use Rattle.std.proofs.Common.{◌≡◌, ℕ, Bool, true, false, cond, ◌||◌, Option, Some, None, List, [], ◌∷◌, ◌++◌, map, refl, sym, ap, ◌∙◌, inl, inr, subst, ◌⊎◌}
use Rattle.std.proofs.lemmas.Bool.{cases_Bool, or_from, or_left, or_parts, or_right}
use Rattle.std.proofs.lemmas.List.Folds.{list_any-append}
use Rattle.std.proofs.lemmas.List.Splits.{slice_split-cons_yes, slice_split-cons_no}
use Rattle.std.specs.List.{AllByRecursion, AllZip, filter_map, flat_map, join_with_byte, list_any, onto_first, slice_split}
use Rattle.relation_text.specs.Grammar.{IsWhite, SpellsList, SpellsPart}
use Rattle.relation_text.specs.Spelling.{is_blank, items_of}

-- Facts of each part

pub all_append_left : {X : Type 0} (P : X → Type 0) (xs ys : List X) → AllByRecursion P (xs ++ ys) → AllByRecursion P xs
all_append_left P [] ys all = tt
all_append_left P (x ∷ xs) ys all = (all.0, all_append_left P xs ys all.1)

pub all_append_right : {X : Type 0} (P : X → Type 0) (xs ys : List X) → AllByRecursion P (xs ++ ys) → AllByRecursion P ys
all_append_right P [] ys all = all
all_append_right P (x ∷ xs) ys all = all_append_right P xs ys all.1

pub all_nested : {X Y : Type 0} (P : Y → Type 0) (f : X → List Y) (xs : List X) → AllByRecursion P (flat_map f xs) → AllByRecursion (λ x. AllByRecursion P (f x)) xs
all_nested P f [] all = tt
all_nested P f (x ∷ xs) all = (all_append_left P (f x) (flat_map f xs) all, all_nested P f xs (all_append_right P (f x) (flat_map f xs) all))

pub all_both : {X : Type 0} (P Q : X → Type 0) (xs : List X) → AllByRecursion P xs → AllByRecursion Q xs → AllByRecursion (λ x. P x × Q x) xs
all_both P Q [] ps qs = tt
all_both P Q (x ∷ xs) ps qs = ((ps.0, qs.0), all_both P Q xs ps.1 qs.1)

pub all_map : {X : Type 0} (P Q : X → Type 0) → ((x : X) → P x → Q x) → (xs : List X) → AllByRecursion P xs → AllByRecursion Q xs
all_map P Q then [] ps = tt
all_map P Q then (x ∷ xs) ps = (then x ps.0, all_map P Q then xs ps.1)

-- Parts are free of what parts them

free_onto : (test : ℕ → Bool) (b : ℕ) → test b ≡ false → (parts : List (List ℕ)) → AllByRecursion (λ part. list_any test part ≡ false) parts
    → AllByRecursion (λ part. list_any test part ≡ false) (onto_first b parts)
free_onto test b fails [] free = (or_from (test b) false fails refl, tt)
free_onto test b fails (part ∷ parts) free = (or_from (test b) (list_any test part) fails free.0, free.1)

pub parts_free : (test : ℕ → Bool) (bytes : List ℕ) → AllByRecursion (λ part. list_any test part ≡ false) (slice_split test bytes)
parts_free test [] = (refl, tt)
parts_free test (b ∷ bytes) = elim (cases_Bool (test b)) [
  | inl here ↦ subst (AllByRecursion (λ (part : List ℕ). list_any test part ≡ false)) (sym (slice_split-cons_yes test b bytes here)) (refl, parts_free test bytes)
  | inr other ↦ subst (AllByRecursion (λ (part : List ℕ). list_any test part ≡ false)) (sym (slice_split-cons_no test b bytes other))
      (free_onto test b other (slice_split test bytes) (parts_free test bytes))
]

-- Parts that are parted again

record IsSome (parts : List (List ℕ)) : Type 0 where
  first : List ℕ
  later : List (List ℕ)
  parts_are : parts ≡ first ∷ later

onto_some : (b : ℕ) (parts : List (List ℕ)) → IsSome (onto_first b parts)
onto_some b [] = record { first = b ∷ []; later = []; parts_are = refl }
onto_some b (part ∷ parts) = record { first = b ∷ part; later = parts; parts_are = refl }

split_some : (test : ℕ → Bool) (bytes : List ℕ) → IsSome (slice_split test bytes)
split_some test [] = record { first = []; later = []; parts_are = refl }
split_some test (b ∷ bytes) = elim (cases_Bool (test b)) [
  | inl here ↦ record { first = []; later = slice_split test bytes; parts_are = slice_split-cons_yes test b bytes here }
  | inr other ↦ subst IsSome (sym (slice_split-cons_no test b bytes other)) (onto_some b (slice_split test bytes))
]

onto_append : (b : ℕ) (parts more : List (List ℕ)) → IsSome parts → onto_first b parts ++ more ≡ onto_first b (parts ++ more)
onto_append b [] more some = absurd (let e = some.parts_are in cc e)
onto_append b (part ∷ parts) more some = refl

flat_onto : (other : ℕ → Bool) (b : ℕ) (parts : List (List ℕ)) → IsSome parts → other b ≡ false
    → flat_map (slice_split other) (onto_first b parts) ≡ onto_first b (flat_map (slice_split other) parts)
flat_onto other b [] some fails = absurd (let e = some.parts_are in cc e)
flat_onto other b (part ∷ parts) some fails =
    ap (λ (first : List (List ℕ)). first ++ flat_map (slice_split other) parts) (slice_split-cons_no other b part fails)
    ∙ onto_append b (slice_split other part) (flat_map (slice_split other) parts) (split_some other part)

flat_onto_here : (other : ℕ → Bool) (b : ℕ) (parts : List (List ℕ)) → IsSome parts → other b ≡ true
    → flat_map (slice_split other) (onto_first b parts) ≡ [] ∷ flat_map (slice_split other) parts
flat_onto_here other b [] some passes = absurd (let e = some.parts_are in cc e)
flat_onto_here other b (part ∷ parts) some passes =
    ap (λ (first : List (List ℕ)). first ++ flat_map (slice_split other) parts) (slice_split-cons_yes other b part passes)

-- what two tests part is what the second parts of what the first does
pub split_twice : (test other : ℕ → Bool) (bytes : List ℕ) → slice_split (λ b. test b || other b) bytes ≡ flat_map (slice_split other) (slice_split test bytes)
split_twice test other [] = refl
split_twice test other (b ∷ bytes) =
    let later = split_twice test other bytes in
    elim (cases_Bool (test b)) [
      | inl here ↦
          slice_split-cons_yes (λ (b : ℕ). test b || other b) b bytes (or_left (test b) (other b) here)
          ∙ ap (λ (parts : List (List ℕ)). [] ∷ parts) later
          ∙ sym (ap (flat_map (slice_split other)) (slice_split-cons_yes test b bytes here))
      | inr stays ↦ elim (cases_Bool (other b)) [
        | inl passes ↦
            slice_split-cons_yes (λ (b : ℕ). test b || other b) b bytes (or_right (test b) (other b) passes)
            ∙ ap (λ (parts : List (List ℕ)). [] ∷ parts) later
            ∙ sym (flat_onto_here other b (slice_split test bytes) (split_some test bytes) passes)
            ∙ sym (ap (flat_map (slice_split other)) (slice_split-cons_no test b bytes stays))
        | inr fails ↦
            slice_split-cons_no (λ (b : ℕ). test b || other b) b bytes (or_from (test b) (other b) stays fails)
            ∙ ap (onto_first b) later
            ∙ sym (flat_onto other b (slice_split test bytes) (split_some test bytes) fails)
            ∙ sym (ap (flat_map (slice_split other)) (slice_split-cons_no test b bytes stays))
      ]
    ]

-- a text that is free of what parts is its one part
pub split_free : (test : ℕ → Bool) (bytes : List ℕ) → list_any test bytes ≡ false → slice_split test bytes ≡ bytes ∷ []
split_free test [] free = refl
split_free test (b ∷ bytes) free =
    let both = or_parts (test b) (list_any test bytes) free in
    slice_split-cons_no test b bytes both.0 ∙ ap (onto_first b) (split_free test bytes both.1)

-- Items

-- what a part spells, where each part that isn't white space alone has this value
abbrev pub slot_of : {A : Type 0} → (List ℕ → A) → List ℕ → Option A
slot_of of text = cond (is_blank text) None (Some (of text))

pub items_found : {A : Type 0} (of : List ℕ → A) (parts : List (List ℕ)) → map of (items_of parts) ≡ filter_map (λ item. item) (map (slot_of of) parts)
items_found of [] = refl
items_found {A} of (text ∷ parts) = elim (cases_Bool (is_blank text)) [
  | inl blank ↦ rw blank (items_found of parts)
  | inr other ↦ rw other (ap (λ (items : List A). of text ∷ items) (items_found of parts))
]

-- a part is white space alone, or it isn't and spells its value
abbrev pub IsPart : {A : Type 0} → (List ℕ → A → Type 0) → (List ℕ → A) → List ℕ → Type 0
IsPart Spells of text = IsWhite text ⊎ ((is_blank text ≡ false) × Spells text (of text))

slot_spelled : {A : Type 0} (Spells : List ℕ → A → Type 0) (of : List ℕ → A) (text : List ℕ) → IsPart Spells of text → SpellsPart Spells text (slot_of of text)
slot_spelled Spells of text (inl white) = rw white white
slot_spelled Spells of text (inr item) = let other = item.0 in rw other item.1

pub parts_spelled : {A : Type 0} (Spells : List ℕ → A → Type 0) (of : List ℕ → A) (parts : List (List ℕ)) → AllByRecursion (IsPart Spells of) parts
    → AllZip (SpellsPart Spells) parts (map (slot_of of) parts)
parts_spelled Spells of [] all = tt
parts_spelled Spells of (text ∷ parts) all = (slot_spelled Spells of text all.0, parts_spelled Spells of parts all.1)

-- where no part is white space alone, each is an item
pub all_items : (parts : List (List ℕ)) → AllByRecursion (λ text. is_blank text ≡ false) parts → items_of parts ≡ parts
all_items [] all = refl
all_items (text ∷ parts) all = let other = all.0 in rw other (ap (λ (items : List (List ℕ)). text ∷ items) (all_items parts all.1))

-- Joined texts, each free of what parts, are their parts

split_front : (test : ℕ → Bool) (text : List ℕ) (c : ℕ) (more : List ℕ) → list_any test text ≡ false → test c ≡ true
    → slice_split test (text ++ c ∷ more) ≡ text ∷ slice_split test more
split_front test [] c more free here = slice_split-cons_yes test c more here
split_front test (b ∷ text) c more free here =
    let both = or_parts (test b) (list_any test text) free in
    slice_split-cons_no test b (text ++ c ∷ more) both.0 ∙ ap (onto_first b) (split_front test text c more both.1 here)

pub split_joined : (test : ℕ → Bool) (c : ℕ) → test c ≡ true → (text : List ℕ) (texts : List (List ℕ)) → AllByRecursion (λ text. list_any test text ≡ false) (text ∷ texts)
    → slice_split test (join_with_byte c (text ∷ texts)) ≡ text ∷ texts
split_joined test c here text [] all = split_free test text all.0
split_joined test c here text (following ∷ texts) all =
    split_front test text c (join_with_byte c (following ∷ texts)) all.0 here
    ∙ ap (λ (parts : List (List ℕ)). text ∷ parts) (split_joined test c here following texts all.1)

pub joined_free : (test : ℕ → Bool) (c : ℕ) → test c ≡ false → (texts : List (List ℕ)) → AllByRecursion (λ text. list_any test text ≡ false) texts
    → list_any test (join_with_byte c texts) ≡ false
joined_free test c fails [] all = refl
joined_free test c fails (text ∷ []) all = all.0
joined_free test c fails (text ∷ following ∷ texts) all =
    list_any-append test text (c ∷ join_with_byte c (following ∷ texts))
    ∙ or_from _ _ all.0 (or_from _ _ fails (joined_free test c fails (following ∷ texts) all.1))

pub all_append : {X : Type 0} (P : X → Type 0) (xs ys : List X) → AllByRecursion P xs → AllByRecursion P ys → AllByRecursion P (xs ++ ys)
all_append P [] ys all more = more
all_append P (x ∷ xs) ys all more = (all.0, all_append P xs ys all.1 more)

pub all_flat : {X Y : Type 0} (P : Y → Type 0) (f : X → List Y) (xs : List X) → AllByRecursion (λ x. AllByRecursion P (f x)) xs → AllByRecursion P (flat_map f xs)
all_flat P f [] all = tt
all_flat P f (x ∷ xs) all = all_append P (f x) (flat_map f xs) all.0 (all_flat P f xs all.1)

-- what a part spells that isn't white space alone
pub record IsItem {A : Type 0} (of : List ℕ → A) (text : List ℕ) (item : A) : Type 0 where
  pub some : is_blank text ≡ false
  pub value : of text ≡ item

-- the items of parts are what they spell
pub items_back : {A : Type 0} (Spells : List ℕ → A → Type 0) (of : List ℕ → A) → ((text : List ℕ) (item : A) → Spells text item → IsItem of text item)
    → (parts : List (List ℕ)) (slots : List (Option A)) → AllZip (SpellsPart Spells) parts slots → map of (items_of parts) ≡ filter_map (λ item. item) slots
items_back Spells of back [] [] all = refl
items_back Spells of back [] (slot ∷ slots) all = absurd all
items_back Spells of back (text ∷ parts) [] all = absurd all
items_back Spells of back (text ∷ parts) (None ∷ slots) all = let white : is_blank text ≡ true = all.0 in rw white (items_back Spells of back parts slots all.1)
items_back Spells of back (text ∷ parts) (Some item ∷ slots) all =
    let is = back text item all.0 in
    let some = is.some in
    rw some (λ i. is.value i ∷ items_back Spells of back parts slots all.1 i)

-- a fact of each part, whether it spells an item or none
pub parts_fact : {A : Type 0} (Spells : List ℕ → A → Type 0) (P : List ℕ → Type 0) → ((text : List ℕ) → IsWhite text → P text) → ((text : List ℕ) (item : A) → Spells text item → P text)
    → (parts : List (List ℕ)) (slots : List (Option A)) → AllZip (SpellsPart Spells) parts slots → AllByRecursion P parts
parts_fact Spells P of_white of_item [] slots all = tt
parts_fact Spells P of_white of_item (text ∷ parts) [] all = absurd all
parts_fact Spells P of_white of_item (text ∷ parts) (None ∷ slots) all = (of_white text all.0, parts_fact Spells P of_white of_item parts slots all.1)
parts_fact Spells P of_white of_item (text ∷ parts) (Some item ∷ slots) all = (of_item text item all.0, parts_fact Spells P of_white of_item parts slots all.1)

-- a list that is spelled, with its first part
pub record SpellsSome {A : Type 0} (Spells : List ℕ → A → Type 0) (value : List ℕ) (items : List A) : Type 0 where
  pub first : List ℕ
  pub later : List (List ℕ)
  pub slots : List (Option A)
  pub value_is : value ≡ join_with_byte 44 (first ∷ later)
  pub each : AllZip (SpellsPart Spells) (first ∷ later) slots
  pub items_are : items ≡ filter_map (λ item. item) slots

some_with : {A : Type 0} (Spells : List ℕ → A → Type 0) (value : List ℕ) (items : List A) (parts : List (List ℕ)) (slots : List (Option A))
    → value ≡ join_with_byte 44 parts → AllZip (SpellsPart Spells) parts slots → items ≡ filter_map (λ item. item) slots → SpellsSome Spells value items
some_with Spells value items [] [] e each are = record { first = []; later = []; slots = None ∷ []; value_is = e; each = (refl, tt); items_are = are }
some_with Spells value items [] (slot ∷ slots) e each are = absurd each
some_with Spells value items (text ∷ parts) slots e each are = record { first = text; later = parts; slots = slots; value_is = e; each = each; items_are = are }

pub some_parts : {A : Type 0} (Spells : List ℕ → A → Type 0) (value : List ℕ) (items : List A) → SpellsList Spells value items → SpellsSome Spells value items
some_parts Spells value items is = some_with Spells value items is.parts is.slots is.value_is is.each is.items_are
