-- What each call that a file in memory keeps makes of its facts.
use Rattle.std.proofs.Common.{◌≡◌, inl, inr, ⊎_elim, ℕ, ◌≤◌, Bool, false, List, [], ◌∷◌, ◌++◌, length, take, drop, reverse, refl, sym, ◌∙◌, ap, subst, arith}
use Rattle.std.proofs.lemmas.List.{reverse-append}
use Rattle.disk.specs.declared.changes.DiskCall.{DiskCall}
use Rattle.disk.specs.declared.changes.DiskCall.TheVariants.{Length, Reading, Writing, Cutting, Syncing}
use Rattle.disk.specs.declared.changes.Made.{Made}
use Rattle.disk.specs.Calls.{Elapses, Follows, Moves, Same, Shortened, Stays, Torn}
use Rattle.disk.specs.Facts.{Only}
use Rattle.disk.proofs.TornWrites.{put_back}
use Rattle.disk.specs.Memory.{before, bytes_before, Takes, Leaves, Since, among, counts, facts_of, IsQuiet, IsWriteOf}

-- the calls with one more, the newest first
pub newest : (log log' : List Made) (made : Made) → log' ≡ log ++ made ∷ [] → reverse log' ≡ made ∷ reverse log
newest log log' made pushed = ap (λ (l : List Made). reverse l) pushed ∙ reverse-append log (made ∷ [])

elapses : (old new : List ℕ) (log : List Made) (made : Made) → before made new ≡ old → Elapses (facts_of old log) (facts_of new (made ∷ log))
elapses old new log made was = record {
  later = omega arith;
  nothing_else = λ t c le left. ⊎_elim (λ now. inr now) (λ past. inl (subst (λ (l : List ℕ). Since t l log c) was past.1)) left;
  keeps = λ t c le left. inr (le, subst (λ (l : List ℕ). Since t l log c) (sym was) left);
}

-- a call makes a step of each outcome
pub moves_on : (step : List ℕ → List ℕ → Type 0) (old new : List ℕ) (log : List Made) (made : Made) → before made new ≡ old → step old new
    → ((x c : List ℕ) → Takes made.call made.failed x c → step x c) → Moves step (facts_of old log) (facts_of new (made ∷ log))
moves_on step old new log made was now takes = record { leaves = leaves; time = elapses old new log made was }
  where
    leaves : Follows step (Leaves old log) (Leaves new (made ∷ log))
    leaves c (inl is) = (old, among old log, subst (λ (l : List ℕ). step old l) (sym is) now)
    leaves c (inr (d, left, took)) = (d, subst (λ (l : List ℕ). Leaves l log d) was left, takes d c took)

-- the same over calls that are kept with the oldest first
pub pushed_moves : (step : List ℕ → List ℕ → Type 0) (old new : List ℕ) (log log' : List Made) (made : Made) → before made new ≡ old → step old new
    → ((x c : List ℕ) → Takes made.call made.failed x c → step x c) → log' ≡ log ++ made ∷ []
    → Moves step (facts_of old (reverse log)) (facts_of new (reverse log'))
pushed_moves step old new log log' made was now takes pushed =
    subst (λ (l : List Made). Moves step (facts_of old (reverse log)) (facts_of new l)) (sym (newest log log' made pushed))
    (moves_on step old new (reverse log) made was now takes)

-- no call was made
pub moves_not : (step : List ℕ → List ℕ → Type 0) (seen : List ℕ) (log : List Made) → ((x : List ℕ) → step x x) → Moves step (facts_of seen log) (facts_of seen log)
moves_not step seen log here = record {
  leaves = λ c left. (c, left, here c);
  time = record { later = omega arith; nothing_else = λ t c le left. inl left; keeps = λ t c le left. left };
}

-- the same over other names of what is there
pub kept_moves : (step : List ℕ → List ℕ → Type 0) (old new : List ℕ) (log log' : List Made) → new ≡ old → log' ≡ log → ((x : List ℕ) → step x x)
    → Moves step (facts_of old (reverse log)) (facts_of new (reverse log'))
kept_moves step old new log log' same none here =
    subst (λ (l : List Made). Moves step (facts_of old (reverse log)) (facts_of new (reverse l))) (sym none)
    (subst (λ (b : List ℕ). Moves step (facts_of old (reverse log)) (facts_of b (reverse log))) (sym same) (moves_not step old (reverse log) here))

-- the facts are those from before, where no call was kept
pub stays_not : (seen : List ℕ) (log : List Made) → Stays (facts_of seen log) (facts_of seen log)
stays_not seen log = record {
  seen = refl;
  leaves = λ c. ((λ left. left), (λ left. left));
  later = omega arith;
  since = λ t c le. ((λ left. left), (λ left. left));
}

-- a call that changes nothing, of which a crash makes nothing
stays_on : (seen : List ℕ) (log : List Made) (made : Made) → before made seen ≡ seen → ((x c : List ℕ) → Takes made.call made.failed x c → c ≡ x)
    → ((x : List ℕ) → Takes made.call made.failed x x) → Stays (facts_of seen log) (facts_of seen (made ∷ log))
stays_on seen log made was nothing here = record {
  seen = refl;
  leaves = λ c. (back c, (λ left. inr (c, subst (λ (l : List ℕ). Leaves l log c) (sym was) left, here c)));
  later = omega arith;
  since = λ t c le. (
    (λ left. ⊎_elim (λ now. counts seen log t c (back c now)) (λ past. subst (λ (l : List ℕ). Since t l log c) was past.1) left),
    (λ left. inr (le, subst (λ (l : List ℕ). Since t l log c) (sym was) left)),
  );
}
  where
    back : (c : List ℕ) → Leaves seen (made ∷ log) c → Leaves seen log c
    back c (inl is) = subst (λ (l : List ℕ). Leaves seen log l) (sym is) (among seen log)
    back c (inr (d, left, took)) = subst (λ (l : List ℕ). Leaves seen log l) (sym (nothing d c took)) (subst (λ (l : List ℕ). Leaves l log d) was left)

quiet_before : (call : DiskCall) (failed : Bool) (tail x : List ℕ) → IsQuiet call failed → bytes_before call tail x ≡ x
quiet_before Length failed tail x quiet = refl
quiet_before (Reading at n) failed tail x quiet = refl
quiet_before (Writing at b) failed tail x quiet = absurd quiet
quiet_before (Cutting n) failed tail x quiet = absurd quiet
quiet_before Syncing failed tail x quiet = refl

quiet_takes : (call : DiskCall) (failed : Bool) → IsQuiet call failed → (x c : List ℕ) → Takes call failed x c → c ≡ x
quiet_takes Length failed quiet x c took = took
quiet_takes (Reading at n) failed quiet x c took = took
quiet_takes (Writing at b) failed quiet x c took = absurd quiet
quiet_takes (Cutting n) failed quiet x c took = absurd quiet
quiet_takes Syncing failed quiet x c took = took.1

quiet_here : (call : DiskCall) (failed : Bool) → IsQuiet call failed → (x : List ℕ) → Takes call failed x x
quiet_here Length failed quiet x = refl
quiet_here (Reading at n) failed quiet x = refl
quiet_here (Writing at b) failed quiet x = absurd quiet
quiet_here (Cutting n) failed quiet x = absurd quiet
quiet_here Syncing failed quiet x = (quiet, refl)

-- a quiet call more
pub quiet_stays : (seen : List ℕ) (log log' : List Made) (made : Made) → IsQuiet made.call made.failed → log' ≡ log ++ made ∷ []
    → Stays (facts_of seen (reverse log)) (facts_of seen (reverse log'))
quiet_stays seen log log' made quiet pushed =
    subst (λ (l : List Made). Stays (facts_of seen (reverse log)) (facts_of seen l)) (sym (newest log log' made pushed))
    (stays_on seen (reverse log) made (quiet_before made.call made.failed made.tail.items seen quiet) (quiet_takes made.call made.failed quiet) (quiet_here made.call made.failed quiet))

-- after a sync that succeeded a crash leaves what a read gives
pub sync_done : (seen : List ℕ) (log log' : List Made) (made : Made) → made.call ≡ Syncing → made.failed ≡ false → log' ≡ log ++ made ∷ []
    → Only seen (Leaves seen (reverse log'))
sync_done seen log log' made is ok pushed = λ c left.
    only c (subst (λ (l : List Made). Leaves seen l c) (newest log log' made pushed) left)
  where
    none : (d c : List ℕ) → Takes made.call made.failed d c → ⊥
    none d c took = let passed : Takes Syncing false d c = subst (λ (b : Bool). Takes Syncing b d c) ok (subst (λ (k : DiskCall). Takes k made.failed d c) is took) in cc (passed.0)

    only : (c : List ℕ) → Leaves seen (made ∷ reverse log) c → c ≡ seen
    only c (inl same) = same
    only c (inr (d, left, took)) = absurd (none d c took)

pub sync_moves : (seen : List ℕ) (log log' : List Made) (made : Made) → made.call ≡ Syncing → log' ≡ log ++ made ∷ []
    → Moves Same (facts_of seen (reverse log)) (facts_of seen (reverse log'))
sync_moves seen log log' made is pushed = pushed_moves Same seen seen log log' made was refl takes pushed
  where
    was : before made seen ≡ seen
    was = ap (λ (k : DiskCall). bytes_before k made.tail.items seen) is

    takes : (x c : List ℕ) → Takes made.call made.failed x c → c ≡ x
    takes x c took = let passed : Takes Syncing made.failed x c = subst (λ (k : DiskCall). Takes k made.failed x c) is took in passed.1

write_before : (at : ℕ) (written tail x : List ℕ) (call : DiskCall) → IsWriteOf at written call → bytes_before call tail x ≡ take at x ++ tail
write_before at written tail x (Writing offset kept) is = ap (λ (k : ℕ). take k x ++ tail) is.0
write_before at written tail x Length is = absurd is
write_before at written tail x (Reading offset n) is = absurd is
write_before at written tail x (Cutting n) is = absurd is
write_before at written tail x Syncing is = absurd is

write_takes : (at : ℕ) (written x c : List ℕ) (call : DiskCall) (failed : Bool) → IsWriteOf at written call → Takes call failed x c → Torn at (length written) x c
write_takes at written x c (Writing offset kept) failed is took =
    subst (λ (n : ℕ). Torn at n x c) (ap (λ (l : List ℕ). length l) is.1) (subst (λ (k : ℕ). Torn k (length kept.items) x c) is.0 took)
write_takes at written x c Length failed is took = absurd is
write_takes at written x c (Reading offset n) failed is took = absurd is
write_takes at written x c (Cutting n) failed is took = absurd is
write_takes at written x c Syncing failed is took = absurd is

-- a write that was done in part
pub write_moves : (at : ℕ) (written old next new : List ℕ) (log log' : List Made) (made : Made) → IsWriteOf at written made.call → at ≤ length old
    → made.tail.items ≡ drop at old → new ≡ take at old ++ next → Torn at (length written) old new → log' ≡ log ++ made ∷ []
    → Moves (Torn at (length written)) (facts_of old (reverse log)) (facts_of new (reverse log'))
write_moves at written old next new log log' made is le tail done torn pushed =
    pushed_moves (Torn at (length written)) old new log log' made
    (write_before at written made.tail.items new made.call is ∙ put_back at old new next made.tail.items le done tail)
    torn (λ x c took. write_takes at written x c made.call made.failed is took) pushed

-- a cut that was done in part
pub cut_moves : (n : ℕ) (old next new : List ℕ) (log log' : List Made) (made : Made) → made.call ≡ Cutting n → n ≤ length old
    → made.tail.items ≡ drop n old → new ≡ take n old ++ next → Shortened n old new → log' ≡ log ++ made ∷ []
    → Moves (Shortened n) (facts_of old (reverse log)) (facts_of new (reverse log'))
cut_moves n old next new log log' made is le was done short pushed =
    pushed_moves (Shortened n) old new log log' made
    (ap (λ (k : DiskCall). bytes_before k made.tail.items new) is ∙ put_back n old new next made.tail.items le done was)
    short (λ x c took. subst (λ (k : DiskCall). Takes k made.failed x c) is took) pushed
