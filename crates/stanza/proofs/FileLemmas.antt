-- The items of a text tell what it is: they are the stanzas of its grouping, or end with the first line that none allows.
use Rattle.std.proofs.Common.{◌≡◌, ℕ, suc, ◌+◌, ◌≤◌, Bool, true, false, cond, not, ◌||◌, List, [], ◌∷◌, ◌++◌, length, map, refl, sym, ap, subst, ◌∙◌, arith, append_assoc, add-zero, eqb, Option, None, Some, Result, Ok, Err, inl, inr}
use Rattle.std.proofs.lemmas.Bool.{cases_Bool}
use Rattle.std.proofs.lemmas.List.{append-nil, map-append}
use Rattle.std.specs.List.{list_any, slice_split, onto_first}
use Rattle.std.specs.Option.{option_to_list}
use Rattle.stanza.specs.declared.form.Form.{Form}
use Rattle.stanza.specs.declared.error.StanzaError.{StanzaError}
use Rattle.stanza.specs.declared.error.StanzaError.TheVariants.{BadLine, BadFieldName, DuplicateField}
use Rattle.stanza.specs.Line.{lines_of, is_separator, is_comment, is_continuation}
use Rattle.stanza.specs.Field.{is_colon, name_of, is_name}
use Rattle.stanza.specs.Fault.{is_open, is_repeated, fault_of, first_fault, or_then}
use Rattle.stanza.specs.Stanza.{StanzaText, stanza_in, before_items, items_of_parts, items_of}
use Rattle.stanza.specs.File.{stanza_with, AreStanzas, AreGrouped, reason_of, IsBad, IsReading}
use Rattle.stanza.proofs.StanzaLemmas.{split-some}
use Rattle.stanza.proofs.GroupLemmas.{Groups-from_clean, clean-from_Groups, stanza_in-pieces}

abbrev Items : Type 0
Items = List (Result StanzaText StanzaError)

-- ---- parts

-- the first fault of the parts
parts_fault : Form → ℕ → List (List (List ℕ)) → Option StanzaError
parts_fault form n [] = None
parts_fault form n (part ∷ parts) = or_then (first_fault form [] n part) (parts_fault form (n + length part + 1) parts)

-- the fault with which items end
fault_in : Items → Option StanzaError
fault_in [] = None
fault_in (Ok stanza ∷ items) = fault_in items
fault_in (Err fault ∷ items) = Some fault

before_items-none : (stanza : Option StanzaText) (later : Items) → before_items None stanza later ≡ map Ok (option_to_list stanza) ++ later
before_items-none None later = refl
before_items-none (Some stanza) later = refl

fault_in-before : (fault : Option StanzaError) (stanza : Option StanzaText) (later : Items) → fault_in (before_items fault stanza later) ≡ or_then fault (fault_in later)
unfolding fault_in
fault_in-before None None later = refl
fault_in-before None (Some stanza) later = refl
fault_in-before (Some fault) stanza later = refl

fault_in-parts : (form : Form) (n : ℕ) (parts : List (List (List ℕ))) → fault_in (items_of_parts form n parts) ≡ parts_fault form n parts
unfolding fault_in parts_fault
fault_in-parts form n [] = refl
fault_in-parts form n (part ∷ parts) =
    fault_in-before (first_fault form [] n part) (stanza_in form n part) (items_of_parts form (n + length part + 1) parts)
    ∙ ap (or_then (first_fault form [] n part)) (fault_in-parts form (n + length part + 1) parts)

fault_in-stanzas : (stanzas : List StanzaText) (later : Items) → fault_in (map Ok stanzas ++ later) ≡ fault_in later
unfolding fault_in
fault_in-stanzas [] later = refl
fault_in-stanzas (stanza ∷ stanzas) later = fault_in-stanzas stanzas later

map_Ok-same : (xs ys : List StanzaText) → map {B = Result StanzaText StanzaError} Ok xs ≡ map Ok ys → xs ≡ ys
map_Ok-same [] [] e = refl
map_Ok-same [] (y ∷ ys) e = cc
map_Ok-same (x ∷ xs) [] e = cc
map_Ok-same (x ∷ xs) (y ∷ ys) e =
    let heads : x ≡ y = first e in
    let tails : xs ≡ ys = map_Ok-same xs ys (rest e) in
    cc where
      first : map {B = Result StanzaText StanzaError} Ok (x ∷ xs) ≡ map Ok (y ∷ ys) → x ≡ y
      first h = cc

      rest : map {B = Result StanzaText StanzaError} Ok (x ∷ xs) ≡ map Ok (y ∷ ys) → map {B = Result StanzaText StanzaError} Ok xs ≡ map Ok ys
      rest h = cc

or_then-none : (x y : Option StanzaError) → or_then x y ≡ None → (x ≡ None) × (y ≡ None)
or_then-none None y h = (refl, h)
or_then-none (Some fault) y h = cc

-- the items of parts that are grouped are the stanzas
items-from_stanzas : (form : Form) (n : ℕ) (parts : List (List (List ℕ))) (stanzas : List StanzaText) → AreStanzas form n parts stanzas → items_of_parts form n parts ≡ map Ok stanzas
items-from_stanzas form n [] stanzas are = sym (ap (map Ok) are)
items-from_stanzas form n (part ∷ parts) stanzas are =
    let pieces = are.0 in
    let groups = are.1 in
    let later = are.2.0 in
    let items = items_of_parts form (n + length part + 1) parts in
    let here : option_to_list (stanza_in form n part) ≡ stanza_with form n pieces =
    ap (λ p. option_to_list (stanza_in form n p)) groups.lines ∙ stanza_in-pieces form n pieces groups.each in
    ap (λ f. before_items f (stanza_in form n part) items) (clean-from_Groups form n part pieces groups)
    ∙ before_items-none (stanza_in form n part) items
    ∙ ap (λ s. map Ok s ++ items) here
    ∙ ap (λ x. map Ok (stanza_with form n pieces) ++ x) (items-from_stanzas form (n + length part + 1) parts later are.2.2)
    ∙ sym (map-append Ok (stanza_with form n pieces) later)
    ∙ sym (ap (map Ok) are.2.1)

-- parts without a fault are grouped
stanzas-from_clean : (form : Form) (n : ℕ) (parts : List (List (List ℕ))) → parts_fault form n parts ≡ None → (stanzas : List StanzaText) × AreStanzas form n parts stanzas
unfolding parts_fault
stanzas-from_clean form n [] clean = ([], refl)
stanzas-from_clean form n (part ∷ parts) clean =
    let both = or_then-none (first_fault form [] n part) (parts_fault form (n + length part + 1) parts) clean in
    let groups = Groups-from_clean form n part both.0 in
    let later = stanzas-from_clean form (n + length part + 1) parts both.1 in
    (stanza_with form n groups.0 ++ later.0, (groups.0, groups.1, (later.0, refl, later.1)))

clean-from_stanzas : (form : Form) (n : ℕ) (parts : List (List (List ℕ))) (stanzas : List StanzaText) → AreStanzas form n parts stanzas → parts_fault form n parts ≡ None
unfolding fault_in
clean-from_stanzas form n parts stanzas are =
    sym (fault_in-parts form n parts) ∙ ap fault_in (items-from_stanzas form n parts stanzas are ∙ sym (append-nil (map Ok stanzas))) ∙ fault_in-stanzas stanzas []

stanzas-from_items : (form : Form) (n : ℕ) (parts : List (List (List ℕ))) (stanzas : List StanzaText) → items_of_parts form n parts ≡ map Ok stanzas → AreStanzas form n parts stanzas
unfolding fault_in
stanzas-from_items form n parts stanzas is =
    let clean : parts_fault form n parts ≡ None =
    sym (fault_in-parts form n parts) ∙ ap fault_in (is ∙ sym (append-nil (map Ok stanzas))) ∙ fault_in-stanzas stanzas [] in
    let read = stanzas-from_clean form n parts clean in
    subst (AreStanzas form n parts) (map_Ok-same read.0 stanzas (sym (items-from_stanzas form n parts read.0 read.1) ∙ is)) read.1

-- ---- the fault at the end

some-same : {x y : StanzaError} → ◌≡◌ {A = Option StanzaError} (Some x) (Some y) → x ≡ y
some-same e = cc

EndsWith : Items → StanzaError → Type 0
EndsWith items fault = (stanzas : List StanzaText) × (items ≡ map Ok stanzas ++ Err fault ∷ [])

ends-before : (first : Option StanzaError) (stanza : Option StanzaText) (later : Items) (rest : Option StanzaError) (fault : StanzaError) → (rest ≡ Some fault → EndsWith later fault) → or_then first rest ≡ Some fault → EndsWith (before_items first stanza later) fault
unfolding EndsWith
ends-before (Some x) stanza later rest fault ends h = ([], ap (λ e. Err e ∷ []) (some-same h))
ends-before None None later rest fault ends h = ends h
ends-before None (Some stanza) later rest fault ends h = let later_is = ends h in (stanza ∷ later_is.0, ap (λ x. Ok stanza ∷ x) later_is.1)

ends-from_fault : (form : Form) (n : ℕ) (parts : List (List (List ℕ))) (fault : StanzaError) → parts_fault form n parts ≡ Some fault → EndsWith (items_of_parts form n parts) fault
unfolding parts_fault
ends-from_fault form n [] fault h = cc
ends-from_fault form n (part ∷ parts) fault h =
    ends-before (first_fault form [] n part) (stanza_in form n part) (items_of_parts form (n + length part + 1) parts) (parts_fault form (n + length part + 1) parts) fault
    (ends-from_fault form (n + length part + 1) parts fault) h

fault-from_ends : (form : Form) (n : ℕ) (parts : List (List (List ℕ))) (fault : StanzaError) → EndsWith (items_of_parts form n parts) fault → parts_fault form n parts ≡ Some fault
unfolding EndsWith fault_in
fault-from_ends form n parts fault ends =
    sym (fault_in-parts form n parts) ∙ ap fault_in ends.1 ∙ fault_in-stanzas ends.0 (Err fault ∷ [])

-- ---- lines

-- the first fault of lines, of which the first stands after these in its part
lines_fault : Form → List (List ℕ) → ℕ → List (List ℕ) → Option StanzaError
lines_fault form before n [] = None
lines_fault form before n (line ∷ lines) =
    cond (is_separator line) (lines_fault form [] (n + 1) lines) (or_then (fault_of form before n line) (lines_fault form (before ++ line ∷ []) (n + 1) lines))

-- the lines of the last part
last_part : List (List ℕ) → List (List ℕ) → List (List ℕ)
last_part before [] = before
last_part before (line ∷ lines) = cond (is_separator line) (last_part [] lines) (last_part (before ++ line ∷ []) lines)

or_then-assoc : (x y z : Option StanzaError) → or_then (or_then x y) z ≡ or_then x (or_then y z)
or_then-assoc None y z = refl
or_then-assoc (Some x) y z = refl

-- the first fault of parts, where the first goes on behind these lines
split_fault : Form → List (List ℕ) → ℕ → List (List (List ℕ)) → Option StanzaError
split_fault form before n [] = None
split_fault form before n (part ∷ parts) = or_then (first_fault form before n part) (parts_fault form (n + length part + 1) parts)

split_fault-parts : (form : Form) (n : ℕ) (parts : List (List (List ℕ))) → split_fault form [] n parts ≡ parts_fault form n parts
unfolding split_fault parts_fault
split_fault-parts form n [] = refl
split_fault-parts form n (part ∷ parts) = refl

-- a fault in the lines is one in the parts
lines_fault-split : (form : Form) (before : List (List ℕ)) (n : ℕ) (lines : List (List ℕ)) → lines_fault form before n lines ≡ split_fault form before n (slice_split is_separator lines)
unfolding lines_fault split_fault parts_fault
lines_fault-split form before n [] = refl
lines_fault-split form before n (line ∷ lines) = elim (cases_Bool (is_separator line)) [
  | inl h ↦ rw (h, add-zero) (lines_fault-split form [] (n + 1) lines ∙ split_fault-parts form (n + 1) (slice_split is_separator lines))
  | inr h ↦
      let later = split-some lines in
      let next = before ++ line ∷ [] in
      let count : n + 1 + length later.0 + 1 ≡ n + suc (length later.0) + 1 = omega arith in
      let first = first_fault form next (n + 1) later.0 in
      rw (h, later.2)
      (ap (or_then (fault_of form before n line)) (lines_fault-split form next (n + 1) lines ∙ ap (split_fault form next (n + 1)) later.2)
      ∙ sym (or_then-assoc (fault_of form before n line) first (parts_fault form (n + 1 + length later.0 + 1) later.1))
      ∙ ap (λ k. or_then (or_then (fault_of form before n line) first) (parts_fault form k later.1)) count)
]

lines_fault-parts : (form : Form) (n : ℕ) (lines : List (List ℕ)) → lines_fault form [] n lines ≡ parts_fault form n (slice_split is_separator lines)
lines_fault-parts form n lines = lines_fault-split form [] n lines ∙ split_fault-parts form n (slice_split is_separator lines)

lines_fault-append : (form : Form) (before : List (List ℕ)) (n : ℕ) (a b : List (List ℕ)) → lines_fault form before n (a ++ b) ≡ or_then (lines_fault form before n a) (lines_fault form (last_part before a) (n + length a) b)
unfolding lines_fault last_part
lines_fault-append form before n [] b = rw add-zero refl
lines_fault-append form before n (line ∷ a) b =
    let count : n + 1 + length a ≡ n + suc (length a) = omega arith in
    elim (cases_Bool (is_separator line)) [
      | inl h ↦ rw h (lines_fault-append form [] (n + 1) a b ∙ ap (λ k. or_then (lines_fault form [] (n + 1) a) (lines_fault form (last_part [] a) k b)) count)
      | inr h ↦
          let next = before ++ line ∷ [] in
          rw h (ap (or_then (fault_of form before n line)) (lines_fault-append form next (n + 1) a b
          ∙ ap (λ k. or_then (lines_fault form next (n + 1) a) (lines_fault form (last_part next a) k b)) count)
          ∙ sym (or_then-assoc (fault_of form before n line) (lines_fault form next (n + 1) a) (lines_fault form (last_part next a) (n + suc (length a)) b)))
    ]

-- the line of the first fault, and what stands before it
record Faulty (form : Form) (before : List (List ℕ)) (n : ℕ) (lines : List (List ℕ)) (fault : StanzaError) : Type 0 where
  front : List (List ℕ)
  line : List ℕ
  after : List (List ℕ)
  joined : lines ≡ front ++ line ∷ after
  clean : lines_fault form before n front ≡ None
  inside : is_separator line ≡ false
  here : fault_of form (last_part before front) (n + length front) line ≡ Some fault

different : {fault : StanzaError} → ◌≡◌ {A = Option StanzaError} None (Some fault) → ⊥
different e = cc

-- one more line in front
cons-joined : (first : List ℕ) (lines front : List (List ℕ)) (line : List ℕ) (after : List (List ℕ)) → lines ≡ front ++ line ∷ after → first ∷ lines ≡ (first ∷ front) ++ line ∷ after
cons-joined first lines front line after e = ap (λ x. first ∷ x) e

-- the fault of a line at another spelling of its number
fault-at : (form : Form) (before : List (List ℕ)) (m n : ℕ) (line : List ℕ) (fault : StanzaError) → m ≡ n → fault_of form before m line ≡ Some fault → fault_of form before n line ≡ Some fault
fault-at form before m n line fault same is = subst (λ k. fault_of form before k line ≡ Some fault) same is

Later : Form → ℕ → List (List ℕ) → StanzaError → Type 0
Later form n lines fault = (before : List (List ℕ)) → lines_fault form before n lines ≡ Some fault → Faulty form before n lines fault

faulty-behind : (form : Form) (before : List (List ℕ)) (n : ℕ) (line : List ℕ) (lines : List (List ℕ)) (fault : StanzaError) → Later form (n + 1) lines fault → is_separator line ≡ true → lines_fault form before n (line ∷ lines) ≡ Some fault → Faulty form before n (line ∷ lines) fault
unfolding lines_fault last_part Later
faulty-behind form before n line lines fault recur separator h =
    let later = recur [] (rw separator at h) in
    let count : n + 1 + length later.front ≡ n + suc (length later.front) = omega arith in
    record {
      front = line ∷ later.front;
      line = later.line;
      after = later.after;
      joined = cons-joined line lines later.front later.line later.after later.joined;
      clean = rw separator later.clean;
      inside = later.inside;
      here = rw separator (fault-at form (last_part [] later.front) (n + 1 + length later.front) (n + suc (length later.front)) later.line fault count later.here);
    }

faulty-inside : (form : Form) (before : List (List ℕ)) (n : ℕ) (line : List ℕ) (lines : List (List ℕ)) (fault : StanzaError) → Later form (n + 1) lines fault → is_separator line ≡ false → (first : Option StanzaError) → fault_of form before n line ≡ first → lines_fault form before n (line ∷ lines) ≡ Some fault → Faulty form before n (line ∷ lines) fault
unfolding lines_fault last_part Later
faulty-inside form before n line lines fault recur other None is h =
    let next = before ++ line ∷ [] in
    let rest : lines_fault form next (n + 1) lines ≡ Some fault = ap (λ f. or_then f (lines_fault form next (n + 1) lines)) (sym is) ∙ (rw other at h) in
    let later = recur next rest in
    let count : n + 1 + length later.front ≡ n + suc (length later.front) = omega arith in
    record {
      front = line ∷ later.front;
      line = later.line;
      after = later.after;
      joined = cons-joined line lines later.front later.line later.after later.joined;
      clean = rw other (ap (λ f. or_then f (lines_fault form next (n + 1) later.front)) is ∙ later.clean);
      inside = later.inside;
      here = rw other (fault-at form (last_part next later.front) (n + 1 + length later.front) (n + suc (length later.front)) later.line fault count later.here);
    }
faulty-inside form before n line lines fault recur other (Some first) is h =
    let same : ◌≡◌ {A = Option StanzaError} (Some first) (Some fault) = ap (λ f. or_then f (lines_fault form (before ++ line ∷ []) (n + 1) lines)) (sym is) ∙ (rw other at h) in
    record {
      front = [];
      line = line;
      after = lines;
      joined = refl;
      clean = refl;
      inside = other;
      here = fault-at form before n (n + 0) line fault (sym (add-zero n)) (is ∙ same);
    }

faulty : (form : Form) (before : List (List ℕ)) (n : ℕ) (lines : List (List ℕ)) (fault : StanzaError) → lines_fault form before n lines ≡ Some fault → Faulty form before n lines fault
unfolding lines_fault Later
faulty form before n [] fault h = absurd (different h)
faulty form before n (line ∷ lines) fault h =
    let recur = λ (b : List (List ℕ)) (k : lines_fault form b (n + 1) lines ≡ Some fault). faulty form b (n + 1) lines fault k in
    elim (cases_Bool (is_separator line)) [
      | inl separator ↦ faulty-behind form before n line lines fault recur separator h
      | inr other ↦ faulty-inside form before n line lines fault recur other (fault_of form before n line) refl h
    ]

-- a line's fault is the first test that it fails
fault-reason : (form : Form) (before : List (List ℕ)) (n : ℕ) (line : List ℕ) (fault : StanzaError) → fault_of form before n line ≡ Some fault → fault ≡ reason_of n line
fault-reason form before n line fault is =
    go (is_comment form line) (is_continuation line) (is_open form before) (list_any is_colon line) (is_name (name_of line)) (is_repeated form before (name_of line)) is where
      go : (comment continues opened colon name repeated : Bool) → cond comment None (cond continues (cond opened None (Some (BadLine n))) (cond (not colon) (Some (BadLine n)) (cond (not name) (Some (BadFieldName n)) (cond repeated (Some (DuplicateField n)) None)))) ≡ Some fault
          → fault ≡ cond (continues || not colon) (BadLine n) (cond (not name) (BadFieldName n) (DuplicateField n))
      go true a b d e f h = cc
      go false true true d e f h = cc
      go false true false d e f h = cc
      go false false b false e f h = cc
      go false false b true false f h = cc
      go false false b true true true h = cc
      go false false b true true false h = cc

-- ---- the statement

grouped-clean : (form : Form) (lines : List (List ℕ)) (stanzas : List StanzaText) → AreGrouped form lines stanzas → lines_fault form [] 1 lines ≡ None
grouped-clean form lines stanzas are = lines_fault-parts form 1 lines ∙ clean-from_stanzas form 1 (slice_split is_separator lines) stanzas are

clean-grouped : (form : Form) (lines : List (List ℕ)) → lines_fault form [] 1 lines ≡ None → (stanzas : List StanzaText) × AreGrouped form lines stanzas
clean-grouped form lines clean = stanzas-from_clean form 1 (slice_split is_separator lines) (sym (lines_fault-parts form 1 lines) ∙ clean)

-- lines with one more have its fault, where they have none
one_more : (form : Form) (front : List (List ℕ)) (line : List ℕ) → lines_fault form [] 1 front ≡ None → lines_fault form [] 1 (front ++ line ∷ []) ≡ cond (is_separator line) None (or_then (fault_of form (last_part [] front) (1 + length front) line) None)
unfolding lines_fault
one_more form front line clean =
    lines_fault-append form [] 1 front (line ∷ []) ∙ ap (λ f. or_then f (lines_fault form (last_part [] front) (1 + length front) (line ∷ []))) clean

bad-from_fault : (form : Form) (text : List ℕ) (fault : StanzaError) → lines_fault form [] 1 (lines_of text) ≡ Some fault → IsBad form text fault
bad-from_fault form text fault h =
    let faulty_at = faulty form [] 1 (lines_of text) fault h in
    let count : 1 + length faulty_at.front ≡ length faulty_at.front + 1 = omega arith in
    let more : lines_fault form [] 1 (faulty_at.front ++ faulty_at.line ∷ []) ≡ Some fault =
    one_more form faulty_at.front faulty_at.line faulty_at.clean
    ∙ ap (λ s. cond s None (or_then (fault_of form (last_part [] faulty_at.front) (1 + length faulty_at.front) faulty_at.line) None)) faulty_at.inside
    ∙ ap (λ f. or_then f None) faulty_at.here in
    record {
      before = faulty_at.front;
      line = faulty_at.line;
      after = faulty_at.after;
      lines = faulty_at.joined;
      allowed = clean-grouped form faulty_at.front faulty_at.clean;
      refused = λ stanzas are. different (sym (grouped-clean form (faulty_at.front ++ faulty_at.line ∷ []) stanzas are) ∙ more);
      reason = fault-reason form (last_part [] faulty_at.front) (1 + length faulty_at.front) faulty_at.line fault faulty_at.here ∙ ap (λ k. reason_of k faulty_at.line) count;
    }

fault-from_bad : (form : Form) (text : List ℕ) (fault : StanzaError) → IsBad form text fault → lines_fault form [] 1 (lines_of text) ≡ Some fault
fault-from_bad form text fault bad =
    let clean = grouped-clean form bad.before bad.allowed.0 bad.allowed.1 in
    let n = 1 + length bad.before in
    let number : n ≡ length bad.before + 1 = omega arith in
    let here = fault_of form (last_part [] bad.before) n bad.line in
    let more = one_more form bad.before bad.line clean in
    let joined : lines_of text ≡ (bad.before ++ bad.line ∷ []) ++ bad.after = bad.lines ∙ sym (append_assoc bad.before (bad.line ∷ []) bad.after) in
    let known : (x : StanzaError) → here ≡ Some x → x ≡ fault =
    λ x is. fault-reason form (last_part [] bad.before) n bad.line x is ∙ ap (λ k. reason_of k bad.line) number ∙ sym bad.reason in
    let first : lines_fault form [] 1 (bad.before ++ bad.line ∷ []) ≡ Some fault =
    go (lines_fault form [] 1 (bad.before ++ bad.line ∷ [])) (is_separator bad.line) here refl more known
    (λ none. let grouped = clean-grouped form (bad.before ++ bad.line ∷ []) none in bad.refused grouped.0 grouped.1) in
    ap (lines_fault form [] 1) joined
    ∙ lines_fault-append form [] 1 (bad.before ++ bad.line ∷ []) bad.after
    ∙ ap (λ f. or_then f (lines_fault form (last_part [] (bad.before ++ bad.line ∷ [])) (1 + length (bad.before ++ bad.line ∷ [])) bad.after)) first where
      go : (all : Option StanzaError) (separator : Bool) (here : Option StanzaError) → here ≡ here → all ≡ cond separator None (or_then here None) → ((x : StanzaError) → here ≡ Some x → x ≡ fault) → (all ≡ None → ⊥) → all ≡ Some fault
      go all true here _ is known some = absurd (some is)
      go all false None _ is known some = absurd (some is)
      go all false (Some x) _ is known some = is ∙ ap (λ y. Some y) (known x refl)

-- ---- no more items than bytes

total : List (List (List ℕ)) → ℕ
total [] = 0
total (part ∷ parts) = length part + total parts

total-onto : (line : List ℕ) (parts : List (List (List ℕ))) → total (onto_first line parts) ≡ suc (total parts)
unfolding total
total-onto line [] = omega arith
total-onto line (part ∷ parts) = omega arith

total-split : (lines : List (List ℕ)) → total (slice_split is_separator lines) ≤ length lines
unfolding total
total-split [] = omega arith
total-split (line ∷ lines) = elim (cases_Bool (is_separator line)) [
  | inl h ↦ rw h (omega (arith, total-split lines))
  | inr h ↦ rw h (omega (arith, total-split lines, total-onto line (slice_split is_separator lines)))
]

length-before : (fault : Option StanzaError) (stanza : Option StanzaText) (later : Items) → length (before_items fault stanza later) ≤ 1 + length later
length-before None None later = omega arith
length-before None (Some stanza) later = omega arith
length-before (Some fault) stanza later = omega arith

length-items : (form : Form) (n : ℕ) (parts : List (List (List ℕ))) → length (items_of_parts form n parts) ≤ total parts
unfolding total
length-items form n [] = omega arith
length-items form n ([] ∷ parts) = omega (arith, length-items form (n + 0 + 1) parts)
length-items form n ((line ∷ part) ∷ parts) =
    omega (arith, length-items form (n + suc (length part) + 1) parts, length-before (first_fault form [] n (line ∷ part)) (stanza_in form n (line ∷ part)) (items_of_parts form (n + suc (length part) + 1) parts))

length-onto : (b : ℕ) (lines : List (List ℕ)) → length (onto_first b lines) ≤ suc (length lines)
length-onto b [] = omega arith
length-onto b (line ∷ lines) = omega arith

length-lines_of : (text : List ℕ) → length (lines_of text) ≤ length text
length-lines_of [] = omega arith
length-lines_of (b ∷ bs) = elim (cases_Bool (eqb b 10)) [
  | inl h ↦ rw h (omega (arith, length-lines_of bs))
  | inr h ↦ rw h (omega (arith, length-lines_of bs, length-onto b (lines_of bs)))
]

-- ---- all together

pub items_of-IsReading : (form : Form) (text : List ℕ) → IsReading form text (items_of form text)
unfolding EndsWith items_of
items_of-IsReading form text =
    let lines = lines_of text in
    let parts = slice_split is_separator lines in
    record {
      file = λ stanzas. (stanzas-from_items form 1 parts stanzas, items-from_stanzas form 1 parts stanzas);
      fault = λ fault. (
        λ ends. bad-from_fault form text fault (lines_fault-parts form 1 lines ∙ fault-from_ends form 1 parts fault ends),
        λ bad. ends-from_fault form 1 parts fault (sym (lines_fault-parts form 1 lines) ∙ fault-from_bad form text fault bad),
      );
      count = omega (arith, length-items form 1 parts, total-split lines, length-lines_of text);
    }
