-- How what a crash leaves goes on over several calls: lemmas for proofs about callers of a disk.
use Rattle.std.specs.Prelude.{ℕ, ◌≤◌, List}
use Rattle.std.proofs.Common.{inl, inr, ⊎_elim, refl, sym, ◌∙◌, subst, arith}
use Rattle.disk.specs.Calls.{Moves, Same, Stays}
use Rattle.disk.specs.Facts.{DiskFacts, LeavesOnly, Synced}

-- before the first call a crash leaves what it may leave now
pub started : (P : List ℕ → Type 0) (a : DiskFacts) → ((c : List ℕ) → a.leaves c → P c) → LeavesOnly P a a
started P a here = record {
  later = omega arith;
  each = λ c left. here c (a.only_now c left);
  before = λ t c le left. inl left;
}

-- one call more, after which a crash leaves a file that has P
pub goes_on : (P : List ℕ → Type 0) (step : List ℕ → List ℕ → Type 0) (a b d : DiskFacts) → LeavesOnly P a b → Moves step b d
    → ((x c : List ℕ) → b.leaves x → step x c → P c) → LeavesOnly P a d
goes_on P step a b d so_far moves here = record {
  later = omega (arith, so_far.later, moves.time.later);
  each = λ c left. ⊎_elim (so_far.each c) (now c) (moves.time.nothing_else a.moment c so_far.later left);
  before = λ t c le left. ⊎_elim (so_far.before t c le) (λ new. inr (now c new))
      (moves.time.nothing_else t c (omega (arith, le, so_far.later)) left);
}
  where
    now : (c : List ℕ) → d.leaves c → P c
    now c new = let from = moves.leaves c new in here from.0 c from.1 from.2

-- a file that has P has Q
pub weaker : (P Q : List ℕ → Type 0) (a b : DiskFacts) → ((c : List ℕ) → P c → Q c) → LeavesOnly P a b → LeavesOnly Q a b
weaker P Q a b map run = record {
  later = run.later;
  each = λ c left. map c (run.each c left);
  before = λ t c le left. ⊎_elim (λ was. inl was) (λ p. inr (map c p)) (run.before t c le left);
}

-- one call more that makes no step, as a sync
pub goes_on_same : (P : List ℕ → Type 0) (a b d : DiskFacts) → LeavesOnly P a b → Moves Same b d → LeavesOnly P a d
goes_on_same P a b d so_far moves =
    goes_on P Same a b d so_far moves
    (λ x c left same. subst P (sym same) (so_far.each x (b.counts_now a.moment x so_far.later left)))

-- what changes none of the facts makes no step
pub stays_moves : (a b : DiskFacts) → Stays a b → Moves Same a b
stays_moves a b stays = record {
  leaves = λ c left. (c, (stays.leaves c).0 left, refl);
  time = record {
    later = stays.later;
    nothing_else = λ t c le left. inl ((stays.since t c le).0 left);
    keeps = λ t c le left. (stays.since t c le).1 left;
  };
}

-- a call that changes none of the facts
pub stays_so : (P : List ℕ → Type 0) (a b : DiskFacts) → Stays a b → ((c : List ℕ) → a.leaves c → P c) → LeavesOnly P a b
stays_so P a b stays here = goes_on_same P a a b (started P a here) (stays_moves a b stays)

-- one run after another
pub then_runs : (P : List ℕ → Type 0) (a b d : DiskFacts) → LeavesOnly P a b → LeavesOnly P b d → LeavesOnly P a d
then_runs P a b d first last = record {
  later = omega (arith, first.later, last.later);
  each = λ c left. ⊎_elim (first.each c) (λ p. p) (last.before a.moment c first.later left);
  before = λ t c le left. ⊎_elim (first.before t c le) (λ p. inr p) (last.before t c (omega (arith, le, first.later)) left);
}

-- two calls that change none of the facts
pub both_stay : (a b d : DiskFacts) → Stays a b → Stays b d → Stays a d
both_stay a b d first last = record {
  seen = last.seen ∙ first.seen;
  leaves = λ c. ((λ left. (first.leaves c).0 ((last.leaves c).0 left)), (λ left. (last.leaves c).1 ((first.leaves c).1 left)));
  later = omega (arith, first.later, last.later);
  since = λ t c le. let over : t ≤ b.moment = omega (arith, le, first.later) in
      ((λ left. (first.since t c le).0 ((last.since t c over).0 left)), (λ left. (last.since t c over).1 ((first.since t c le).1 left)));
}

-- where all is on the disk, a call that changes none of the facts leaves it so
pub synced_stays : (file : List ℕ) (a b : DiskFacts) → Synced file a → Stays a b → Synced file b
synced_stays file a b synced stays = record {
  seen = stays.seen ∙ synced.seen;
  leaves = λ c left. synced.leaves c ((stays.leaves c).0 left);
}

-- after a run in which a crash leaves only files that have P, a crash leaves one
pub leaves_now : (P : List ℕ → Type 0) (a b : DiskFacts) → LeavesOnly P a b → (c : List ℕ) → b.leaves c → P c
leaves_now P a b run c left = run.each c (b.counts_now a.moment c run.later left)
