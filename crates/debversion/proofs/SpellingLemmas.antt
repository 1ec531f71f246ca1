-- A text has no fault exactly where it is spelled as a version.
use Rattle.std.proofs.Common.{◌≡◌, ℕ, zero, suc, ◌+◌, ◌<◌, ◌≤◌, Bool, true, false, not, ◌&&◌, Option, Some, None, List, [], ◌∷◌, ◌++◌, length, drop, get_or, refl, sym, ap, ◌∙◌, arith, inl, inr, IfSome, IfNone, nat_lt, cond, one-add, add-one, ◌==◌}
use Rattle.std.proofs.lemmas.Bool.{and_parts, both_ways, cases_Bool, cases_lt, eqb-true, false≢true, le-ltb, ltb-false, ne_eqb, not-false, not-true, or_cases, or_from, or_parts, or_right}
use Rattle.std.proofs.lemmas.List.{length-append}
use Rattle.std.proofs.lemmas.List.Folds.{list_any-append}
use Rattle.std.proofs.lemmas.List.Sums.{AllPass-from_list_all, fails_before_first, list_all-from_AllPass, passes_at_first, split_at_first}
use Rattle.std.proofs.Math.Seq.{take-append_seam}
use Rattle.std.specs.Char.{is_ascii_digit}
use Rattle.std.specs.List.{AllPass, after_first, after_last, before_first, before_last, list_all, list_any, position_or_len}
use Rattle.std.specs.Option.{option_or}
use Rattle.std.specs.Str.Parse.{digits_value}
use Rattle.rules.specs.Version.{after_epoch, after_upstream, before_revision, epoch_of, is_colon, is_hyphen}
use Rattle.debversion.proofs.Cuts.{after_last-at, before_last-at, cut-behind, cut-behind, list_any-at_last, list_any-nowhere}
use Rattle.rules.specs.VersionFault.{epoch_fault, first_fault, greatest_epoch, has_empty_revision, has_good_bytes, is_nothing, is_numeral, is_revision_byte, is_upstream_byte, rest_fault, text_epoch_fault}
use Rattle.debversion.specs.Parts.{IsLastAt}
use Rattle.debversion.specs.Spelling.{FaultlessIsSpelled, IsEpoch, IsRevision, IsSpelled, IsUpstream, before_hyphen, behind_epoch}
use Rattle.rules.specs.declared.bad_version.BadVersion.{BadVersion}
use Rattle.rules.specs.declared.bad_version.BadVersion.TheVariants.{BadByte, EmptyRevision, EmptyUpstream}
use Rattle.rules.specs.declared.bad_version.BadVersion.TheVariants.{BadByte, EmptyRevision, EmptyUpstream}

-- what is written isn't nothing
something : (bytes : List ℕ) → 0 < length bytes → is_nothing bytes ≡ false
something bytes h = ne_eqb (length bytes) 0 (λ e. absurd (omega arith))

written : (bytes : List ℕ) → is_nothing bytes ≡ false → 0 < length bytes
written [] e = cc e
written (b ∷ bytes) e = omega arith

-- the first byte that passes parts a text in two
before_first-behind : (test : ℕ → Bool) (front : List ℕ) (b : ℕ) (rest : List ℕ) → list_any test front ≡ false → test b ≡ true
    → before_first test (front ++ b ∷ rest) ≡ front
before_first-behind test [] b rest none here = rw here refl
before_first-behind test (c ∷ front) b rest none here =
    let parts = or_parts (test c) (list_any test front) none in
    let first = parts.0 in
    rw (first, one-add) (ap (λ (bytes : List ℕ). c ∷ bytes) (before_first-behind test front b rest parts.1 here))

after_first-behind : (test : ℕ → Bool) (front : List ℕ) (b : ℕ) (rest : List ℕ) → list_any test front ≡ false → test b ≡ true
    → after_first test (front ++ b ∷ rest) ≡ rest
after_first-behind test [] b rest none here = rw here refl
after_first-behind test (c ∷ front) b rest none here =
    let parts = or_parts (test c) (list_any test front) none in
    let first = parts.0 in
    rw (first, one-add, add-one) (rw add-one at (after_first-behind test front b rest parts.1 here))

list_any-behind : (test : ℕ → Bool) (front : List ℕ) (b : ℕ) (rest : List ℕ) → test b ≡ true → list_any test (front ++ b ∷ rest) ≡ true
list_any-behind test [] b rest here = rw here refl
list_any-behind test (c ∷ front) b rest here = or_right (test c) (list_any test (front ++ b ∷ rest)) (list_any-behind test front b rest here)

-- where no byte passes, none at any place does
nowhere : (test : ℕ → Bool) (bytes : List ℕ) → list_any test bytes ≡ false → (k : ℕ) → k < length bytes → test (get_or bytes k 0) ≡ false
nowhere test [] none k h = absurd (omega arith)
nowhere test (b ∷ bytes) none zero h = (or_parts (test b) (list_any test bytes) none).0
nowhere test (b ∷ bytes) none (suc k) h = nowhere test bytes (or_parts (test b) (list_any test bytes) none).1 k (omega arith)

-- one more byte in front
last-later : (test : ℕ → Bool) (c : ℕ) (bytes : List ℕ) (i : ℕ) → IsLastAt test bytes i → IsLastAt test (c ∷ bytes) (suc i)
last-later test c bytes i at =
    let inside = at.within in
    record {
      within = omega arith;
      passes = at.passes;
      last = λ k. elim k as (λ k. suc i < k → k < suc (length bytes) → test (get_or (c ∷ bytes) k 0) ≡ false) [
        | zero ↦ λ low high. absurd (omega arith)
        | suc k ↦ λ low high. at.last k (omega arith) (omega arith)
      ];
    }

-- a byte that passes, with none behind it, is the last
last-behind : (test : ℕ → Bool) (front : List ℕ) (b : ℕ) (rest : List ℕ) → test b ≡ true → list_any test rest ≡ false
    → IsLastAt test (front ++ b ∷ rest) (length front)
last-behind test [] b rest here none = record {
  within = omega arith;
  passes = here;
  last = λ k. elim k as (λ k. 0 < k → k < suc (length rest) → test (get_or (b ∷ rest) k 0) ≡ false) [
    | zero ↦ λ low high. absurd (omega arith)
    | suc k ↦ λ low high. nowhere test rest none k (omega arith)
  ];
}
last-behind test (c ∷ front) b rest here none = last-later test c (front ++ b ∷ rest) (length front) (last-behind test front b rest here none)

-- some byte passes, so one is the last that does
some_last : (test : ℕ → Bool) (bytes : List ℕ) → list_any test bytes ≡ true → (i : ℕ) × IsLastAt test bytes i
some_last test [] some = absurd (false≢true some)
some_last test (b ∷ rest) some = elim (cases_Bool (list_any test rest)) [
  | inl later ↦ let last = some_last test rest later in (suc last.0, last-later test b rest last.0 last.1)
  | inr none ↦ elim (or_cases (test b) (list_any test rest) some) [
    | inl here ↦ (0, last-behind test [] b rest here none)
    | inr later ↦ absurd (both_ways (list_any test rest) none later)
  ]
]

-- where some byte passes, the first that does stands within
first-within : (test : ℕ → Bool) (bytes : List ℕ) → list_any test bytes ≡ true → position_or_len test bytes < length bytes
first-within test bytes some = elim (cases_lt (position_or_len test bytes) (length bytes)) [
  | inl within ↦ within
  | inr past ↦
      absurd (both_ways (list_any test bytes)
      (list_any-nowhere test bytes (λ k h. fails_before_first test bytes k 0 (omega arith))) some)
]

-- a chain of two faults without one
no_faults : (a b : Option BadVersion) → option_or a b ≡ None → (a ≡ None) × (b ≡ None)
no_faults None b e = (refl, e)
no_faults (Some x) b e = cc e

-- a test that would have been a fault
passed : (b : Bool) (fault : BadVersion) (other : Option BadVersion) → cond b (Some fault) other ≡ None → (b ≡ false) × (other ≡ None)
passed true fault other e = cc e
passed false fault other e = (refl, e)

-- bytes that all pass a test hold none that doesn't
none-other : (test : ℕ → Bool) (c : ℕ) (bytes : List ℕ) → test c ≡ false → AllPass test bytes → list_any (λ b. b == c) bytes ≡ false
none-other test c bytes fails all = list_any-nowhere (λ b. b == c) bytes (λ k h. other (get_or bytes k 0) (all k 0 h))
  where
    other : (b : ℕ) → test b ≡ true → (b == c) ≡ false
    other b passes = ne_eqb b c (λ e. both_ways (test c) fails (rw (← e) passes))

-- what follows the epoch, taken apart
record SpelledRest (rest : List ℕ) : Type 0 where
  upstream : List ℕ
  revision : Option (List ℕ)
  rest_is : rest ≡ before_hyphen upstream revision
  upstream_is : IsUpstream upstream
  revision_is : IfSome revision IsRevision
  no_hyphen : IfNone revision (list_any is_hyphen upstream ≡ false)

-- the tests that a rest without fault passed
record PassedRest (rest : List ℕ) : Type 0 where
  upstream : is_nothing (before_revision rest) ≡ false
  revision : has_empty_revision rest ≡ false
  bytes : has_good_bytes rest ≡ true

passed_rest : (rest : List ℕ) → rest_fault rest ≡ None → PassedRest rest
passed_rest rest e =
    let first = passed (is_nothing (before_revision rest)) _ _ e in
    let second = passed (has_empty_revision rest) _ _ first.1 in
    let third = passed (not (has_good_bytes rest)) _ _ second.1 in
    record { upstream = first.0; revision = second.0; bytes = not-false (has_good_bytes rest) third.0 }

-- a rest cut at its last hyphen
hyphen-cut : (rest : List ℕ) → list_any is_hyphen rest ≡ true → rest ≡ before_revision rest ++ 45 ∷ after_upstream rest
hyphen-cut rest some =
    let last = some_last is_hyphen rest some in
    let i = last.0 in
    let at = last.1 in
    let byte : get_or rest i 0 ≡ 45 = eqb-true (get_or rest i 0) 45 at.passes in
    rw some
    (cut-behind i rest at.within
    ∙ λ j. sym (before_last-at is_hyphen rest i at) j ++ byte j ∷ (ap (λ n. drop n rest) (sym (add-one i)) ∙ sym (after_last-at is_hyphen rest i at)) j)

-- the second of two tests is what fails
second_fails : (x y : Bool) → x ≡ true → (x && y) ≡ false → y ≡ false
second_fails true y first both = both
second_fails false y first both = absurd (false≢true first)

spelled_with : (rest : List ℕ) → PassedRest rest → list_any is_hyphen rest ≡ true → SpelledRest rest
spelled_with rest passes some =
    let bytes = and_parts (list_all is_upstream_byte (before_revision rest)) (list_all is_revision_byte (after_upstream rest)) passes.bytes in
    record {
      upstream = before_revision rest;
      revision = Some (after_upstream rest);
      rest_is = hyphen-cut rest some;
      upstream_is = record { written = written _ passes.upstream; allowed = AllPass-from_list_all is_upstream_byte _ bytes.0 };
      revision_is = record { written = written _ (second_fails _ _ some passes.revision); allowed = AllPass-from_list_all is_revision_byte _ bytes.1 };
      no_hyphen = tt;
    }

spelled_without : (rest : List ℕ) → PassedRest rest → list_any is_hyphen rest ≡ false → SpelledRest rest
spelled_without rest passes none =
    let whole : before_revision rest ≡ rest = rw none refl in
    let bytes = and_parts (list_all is_upstream_byte (before_revision rest)) (list_all is_revision_byte (after_upstream rest)) passes.bytes in
    record {
      upstream = rest;
      revision = None;
      rest_is = refl;
      upstream_is = record {
        written = written rest (ap is_nothing (sym whole) ∙ passes.upstream);
        allowed = AllPass-from_list_all is_upstream_byte rest (ap (list_all is_upstream_byte) (sym whole) ∙ bytes.0);
      };
      revision_is = tt;
      no_hyphen = none;
    }

spelled_rest : (rest : List ℕ) → rest_fault rest ≡ None → SpelledRest rest
spelled_rest rest e = elim (cases_Bool (list_any is_hyphen rest)) [
  | inl some ↦ spelled_with rest (passed_rest rest e) some
  | inr none ↦ spelled_without rest (passed_rest rest e) none
]

drop-behind : (front : List ℕ) (b : ℕ) (rest : List ℕ) → drop (length front + 1) (front ++ b ∷ rest) ≡ rest
drop-behind front b rest = ap (λ n. drop n (front ++ b ∷ rest)) (add-one (length front)) ∙ drop-suc front b rest
  where
    drop-suc : (front : List ℕ) (b : ℕ) (rest : List ℕ) → drop (suc (length front)) (front ++ b ∷ rest) ≡ rest
    drop-suc [] b rest = refl
    drop-suc (c ∷ front) b rest = drop-suc front b rest

-- a rest of which both parts are known
faultless-known : (rest u r : List ℕ) → before_revision rest ≡ u → after_upstream rest ≡ r → list_any is_hyphen rest ≡ true
    → is_nothing u ≡ false → is_nothing r ≡ false → list_all is_upstream_byte u ≡ true → list_all is_revision_byte r ≡ true
    → rest_fault rest ≡ None
faultless-known rest u r eu er some some_u some_r bytes_u bytes_r =
    (λ i. cond (is_nothing (eu i)) (Some EmptyUpstream)
    (cond (some i && is_nothing (er i)) (Some EmptyRevision)
    (cond (not (list_all is_upstream_byte (eu i) && list_all is_revision_byte (er i))) (Some BadByte) None)))
    ∙ rw (some_u, some_r, bytes_u, bytes_r) refl

-- a spelled rest has no fault
faultless_rest : (upstream : List ℕ) (revision : Option (List ℕ)) → IsUpstream upstream → IfSome revision IsRevision
    → IfNone revision (list_any is_hyphen upstream ≡ false) → rest_fault (before_hyphen upstream revision) ≡ None
faultless_rest u None is_u is_r none =
    let some_u = something u is_u.written in
    let bytes = list_all-from_AllPass is_upstream_byte u is_u.allowed in
    rw (none, some_u, bytes) refl
faultless_rest u (Some r) is_u is_r none =
    let at = last-behind is_hyphen u 45 r refl (none-other is_revision_byte 45 r refl is_r.allowed) in
    let some = list_any-at_last is_hyphen (u ++ 45 ∷ r) (length u) at in
    let before : before_last is_hyphen (u ++ 45 ∷ r) ≡ u = before_last-at is_hyphen _ _ at ∙ take-append_seam u (45 ∷ r) in
    let after : after_last is_hyphen (u ++ 45 ∷ r) ≡ r = after_last-at is_hyphen _ _ at ∙ drop-behind u 45 r in
    let some_u = something u is_u.written in
    let some_r = something r is_r.written in
    let bytes_u = list_all-from_AllPass is_upstream_byte u is_u.allowed in
    let bytes_r = list_all-from_AllPass is_revision_byte r is_r.allowed in
    faultless-known (u ++ 45 ∷ r) u r (rw some before) (rw some after) some some_u some_r bytes_u bytes_r

-- an epoch that has no fault, and the converse
spelled_epoch : (epoch : List ℕ) → epoch_fault epoch ≡ None → IsEpoch epoch
spelled_epoch epoch e =
    let first = passed (not (is_numeral epoch)) _ _ e in
    let second = passed (nat_lt greatest_epoch (digits_value 10 epoch)) _ _ first.1 in
    let numeral = and_parts (not (is_nothing epoch)) (list_all is_ascii_digit epoch) (not-false (is_numeral epoch) first.0) in
    record {
      written = written epoch (not-true (is_nothing epoch) numeral.0);
      digits = AllPass-from_list_all is_ascii_digit epoch numeral.1;
      small = ltb-false _ _ second.0;
    }

faultless_epoch : (epoch : List ℕ) → IsEpoch epoch → epoch_fault epoch ≡ None
faultless_epoch epoch is =
    let some = something epoch is.written in
    let digits = list_all-from_AllPass is_ascii_digit epoch is.digits in
    rw (some, digits, le-ltb greatest_epoch (digits_value 10 epoch) is.small) refl

-- the epoch of a text, taken apart
record SpelledEpoch (text : List ℕ) : Type 0 where
  epoch : Option (List ℕ)
  text_is : text ≡ behind_epoch epoch (after_epoch text)
  epoch_is : IfSome epoch IsEpoch
  no_colon : IfNone epoch (list_any is_colon (after_epoch text) ≡ false)

-- a text cut at its first colon
colon-cut : (text : List ℕ) → list_any is_colon text ≡ true → text ≡ before_first is_colon text ++ 58 ∷ after_first is_colon text
colon-cut text some =
    let within = first-within is_colon text some in
    let byte : get_or text (position_or_len is_colon text) 0 ≡ 58 = eqb-true _ 58 (passes_at_first is_colon text 0 within) in
    split_at_first is_colon text 0 within ∙ ap (λ b. before_first is_colon text ++ b ∷ after_first is_colon text) byte

spelled_text : (text : List ℕ) → text_epoch_fault text ≡ None → SpelledEpoch text
spelled_text text e = elim (cases_Bool (list_any is_colon text)) [
  | inl some ↦
      let after : after_epoch text ≡ after_first is_colon text = rw some refl in
      let before : epoch_of text ≡ before_first is_colon text = rw some refl in
      let fault : text_epoch_fault text ≡ epoch_fault (epoch_of text) = rw some refl in
      record {
        epoch = Some (before_first is_colon text);
        text_is = colon-cut text some ∙ ap (λ (rest : List ℕ). before_first is_colon text ++ 58 ∷ rest) (sym after);
        epoch_is = spelled_epoch _ (ap epoch_fault (sym before) ∙ sym fault ∙ e);
        no_colon = tt;
      }
  | inr none ↦
      let after : after_epoch text ≡ text = rw none refl in
      record { epoch = None; text_is = sym after; epoch_is = tt; no_colon = ap (list_any is_colon) after ∙ none }
]

-- no colon in what a rest is made of
no_colon_in : (epoch : Option (List ℕ)) (rest upstream : List ℕ) (revision : Option (List ℕ)) → rest ≡ before_hyphen upstream revision
    → IfNone epoch (list_any is_colon rest ≡ false) → IfNone epoch (list_any is_colon upstream ≡ false)
no_colon_in (Some epoch) rest upstream revision e none = tt
no_colon_in None rest upstream None e none = ap (list_any is_colon) (sym e) ∙ none
no_colon_in None rest upstream (Some revision) e none =
    (or_parts (list_any is_colon upstream) (list_any is_colon (45 ∷ revision))
    (sym (list_any-append is_colon upstream (45 ∷ revision)) ∙ ap (list_any is_colon) (sym e) ∙ none)).0

-- a text without fault is spelled
spelled_from : (text : List ℕ) → text_epoch_fault text ≡ None → rest_fault (after_epoch text) ≡ None → IsSpelled text
spelled_from text no_epoch_fault no_rest_fault =
    let front = spelled_text text no_epoch_fault in
    let back = spelled_rest (after_epoch text) no_rest_fault in
    record {
      epoch = front.epoch;
      upstream = back.upstream;
      revision = back.revision;
      text_is = front.text_is ∙ ap (behind_epoch front.epoch) back.rest_is;
      epoch_is = front.epoch_is;
      upstream_is = back.upstream_is;
      revision_is = back.revision_is;
      no_colon = no_colon_in front.epoch (after_epoch text) back.upstream back.revision back.rest_is front.no_colon;
      no_hyphen = back.no_hyphen;
    }

spelled : (text : List ℕ) → first_fault text ≡ None → IsSpelled text
unfolding first_fault
spelled text e =
    let first = passed (is_nothing text) _ _ e in
    let both = no_faults (text_epoch_fault text) (rest_fault (after_epoch text)) first.1 in
    spelled_from text both.0 both.1

-- a rest without an epoch before it has no colon
no_colon_rest : (upstream : List ℕ) (revision : Option (List ℕ)) → IfSome revision IsRevision → list_any is_colon upstream ≡ false
    → list_any is_colon (before_hyphen upstream revision) ≡ false
no_colon_rest u None is_r none = none
no_colon_rest u (Some r) is_r none =
    list_any-append is_colon u (45 ∷ r) ∙ or_from _ _ none (none-other is_revision_byte 58 r refl is_r.allowed)

-- what a spelled text has in front of its rest
record FaultlessEpoch (text rest : List ℕ) : Type 0 where
  no_fault : text_epoch_fault text ≡ None
  rest_is : after_epoch text ≡ rest

faultless_text : (epoch : Option (List ℕ)) (rest : List ℕ) → IfSome epoch IsEpoch → IfNone epoch (list_any is_colon rest ≡ false)
    → FaultlessEpoch (behind_epoch epoch rest) rest
faultless_text None rest is_e none = record { no_fault = rw none refl; rest_is = rw none refl }
faultless_text (Some epoch) rest is_e none =
    let none_e = none-other is_ascii_digit 58 epoch refl is_e.digits in
    let some = list_any-behind is_colon epoch 58 rest refl in
    record {
      no_fault = rw some (ap epoch_fault (before_first-behind is_colon epoch 58 rest none_e refl) ∙ faultless_epoch epoch is_e);
      rest_is = rw some (after_first-behind is_colon epoch 58 rest none_e refl);
    }

-- a spelled text is not empty
length-spelled : (epoch : Option (List ℕ)) (upstream : List ℕ) (revision : Option (List ℕ))
    → length upstream ≤ length (behind_epoch epoch (before_hyphen upstream revision))
length-spelled None u None = omega arith
length-spelled None u (Some r) = omega (arith, length-append u (45 ∷ r))
length-spelled (Some e) u None = omega (arith, length-append e (58 ∷ u))
length-spelled (Some e) u (Some r) = omega (arith, length-append u (45 ∷ r), length-append e (58 ∷ (u ++ 45 ∷ r)))

no_colon_behind : (epoch : Option (List ℕ)) (upstream : List ℕ) (revision : Option (List ℕ)) → IfSome revision IsRevision
    → IfNone epoch (list_any is_colon upstream ≡ false) → IfNone epoch (list_any is_colon (before_hyphen upstream revision) ≡ false)
no_colon_behind None u r is_r none = no_colon_rest u r is_r none
no_colon_behind (Some epoch) u r is_r none = tt

-- a spelled text has no fault
faultless_parts : (text : List ℕ) (epoch : Option (List ℕ)) (upstream : List ℕ) (revision : Option (List ℕ))
    → text ≡ behind_epoch epoch (before_hyphen upstream revision) → IfSome epoch IsEpoch → IsUpstream upstream → IfSome revision IsRevision
    → IfNone epoch (list_any is_colon upstream ≡ false) → IfNone revision (list_any is_hyphen upstream ≡ false) → first_fault text ≡ None
unfolding first_fault
faultless_parts text epoch upstream revision text_is is_e is_u is_r no_colon no_hyphen =
    let rest = before_hyphen upstream revision in
    let front = faultless_text epoch rest is_e (no_colon_behind epoch upstream revision is_r no_colon) in
    let size = length-spelled epoch upstream revision in
    let first = is_u.written in
    let some : is_nothing (behind_epoch epoch rest) ≡ false = something _ (omega arith) in
    ap first_fault text_is
    ∙ rw (some, front.no_fault) (ap rest_fault front.rest_is ∙ faultless_rest upstream revision is_u is_r no_hyphen)

pub faultless_is_spelled : (text : List ℕ) → FaultlessIsSpelled text
faultless_is_spelled text = (
  spelled text,
  λ s. faultless_parts text s.epoch s.upstream s.revision s.text_is s.epoch_is s.upstream_is s.revision_is s.no_colon s.no_hyphen,
)
