-- What is known of a disk's file at a moment: what a read gives, what a crash may leave, what one may have left before.
use Rattle.std.specs.Prelude.{◌≡◌, ◌⊎◌, ℕ, ◌≤◌, List, [], ⊤}

-- the three facts of a disk's file, and the laws that hold them together
pub record DiskFacts : Type 1 where
  -- what a read gives
  pub seen : List ℕ
  -- what a crash now may leave
  pub leaves : List ℕ → Type 0
  -- this moment, as a number that doesn't fall
  pub moment : ℕ
  -- what a crash at some moment from that one on may have left, during a call or between two
  pub since : ℕ → List ℕ → Type 0
  -- what a read gives is among what a crash now may leave
  pub among : leaves seen
  -- this moment is one of those from an earlier one on
  pub counts_now : (t : ℕ) (c : List ℕ) → t ≤ moment → leaves c → since t c
  -- from this moment on there is no other
  pub only_now : (c : List ℕ) → since moment c → leaves c

-- a crash leaves this file and no other
abbrev pub Only : List ℕ → (List ℕ → Type 0) → Type 0
Only file leaves = (c : List ℕ) → leaves c → c ≡ file

-- a read gives this file, and a crash leaves it and no other
pub record Synced (file : List ℕ) (now : DiskFacts) : Type 0 where
  pub seen : now.seen ≡ file
  pub leaves : Only file now.leaves

-- a crash at any moment since old, during a call or between two, leaves a file that has P
pub record LeavesOnly (P : List ℕ → Type 0) (old new : DiskFacts) : Type 0 where
  pub later : old.moment ≤ new.moment
  pub each : (c : List ℕ) → new.since old.moment c → P c
  -- a crash since an earlier moment left what one before old left, or a file that has P
  pub before : (t : ℕ) (c : List ℕ) → t ≤ old.moment → new.since t c → old.since t c ⊎ P c

-- the facts of a disk of which nothing is known: a crash may leave any file
abbrev pub nothing_known : DiskFacts
nothing_known = record {
  seen = [];
  leaves = λ c. ⊤;
  moment = 0;
  since = λ t c. ⊤;
  among = tt;
  counts_now = λ t c le left. tt;
  only_now = λ c left. tt;
}
