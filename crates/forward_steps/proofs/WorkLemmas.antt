-- How the work that is left changes with the records.
use Rattle.std.proofs.Common.{◌≡◌, ◌≢◌, ℕ, ◌+◌, ◌<◌, ◌≤◌, lit≤, Bool, true, false, cond, List, [], ◌∷◌, ◌++◌, inl, inr, refl, sym, ap, subst, ◌∙◌, arith}
use Rattle.std.specs.List.{Contains, filter, list_any}
use Rattle.std.proofs.lemmas.List.Elements.{All-contains}
use Rattle.rules.specs.Database.{Record, HasDistinctNames}
use Rattle.rules.specs.ElementLaws.{Any-elim, Any-from_list_any, Contains-cons, Contains-head, Contains-nil, Contains-rest}
use Rattle.rules.specs.NamedLaws.{bytes_eq-true}
use Rattle.rules.specs.Package.{Pkg}
use Rattle.rules.specs.State.{is_present_state, is_unconfigured_state}
use Rattle.rules.specs.Step.{changed, is_named}
use Rattle.rules.specs.declared.status.State.{State}
use Rattle.rules.specs.declared.status.State.TheVariants.{NotInstalled, ConfigFiles, HalfInstalled, Unpacked, HalfConfigured, TriggersAwaited, TriggersPending, Installed}
use Rattle.rules.proofs.Rising.{pairs_head, pairs_tail}
use Rattle.plancheck_state.proofs.NamedChanges.{changed-nowhere}
use Rattle.forward_steps.specs.Work.{is_standing, unpacking, work_in, work_with}

-- States

pub some_work : (state : State) → 1 ≤ work_in state
some_work NotInstalled = lit≤ tt
some_work ConfigFiles = lit≤ tt
some_work HalfInstalled = lit≤ tt
some_work Unpacked = lit≤ tt
some_work HalfConfigured = lit≤ tt
some_work TriggersAwaited = lit≤ tt
some_work TriggersPending = lit≤ tt
some_work Installed = lit≤ tt

pub no_more_work : (state : State) → work_in state ≤ 3
no_more_work NotInstalled = lit≤ tt
no_more_work ConfigFiles = lit≤ tt
no_more_work HalfInstalled = lit≤ tt
no_more_work Unpacked = lit≤ tt
no_more_work HalfConfigured = lit≤ tt
no_more_work TriggersAwaited = lit≤ tt
no_more_work TriggersPending = lit≤ tt
no_more_work Installed = lit≤ tt

pub present_work : (state : State) → is_present_state state ≡ true → 2 ≤ work_in state
present_work NotInstalled is = absurd (let e : false ≡ true = is in cc)
present_work ConfigFiles is = absurd (let e : false ≡ true = is in cc)
present_work HalfInstalled is = lit≤ tt
present_work Unpacked is = lit≤ tt
present_work HalfConfigured is = lit≤ tt
present_work TriggersAwaited is = lit≤ tt
present_work TriggersPending is = lit≤ tt
present_work Installed is = lit≤ tt

pub unconfigured_work : (state : State) → is_unconfigured_state state ≡ true → 3 ≤ work_in state
unconfigured_work NotInstalled is = absurd (let e : false ≡ true = is in cc)
unconfigured_work ConfigFiles is = absurd (let e : false ≡ true = is in cc)
unconfigured_work HalfInstalled is = absurd (let e : false ≡ true = is in cc)
unconfigured_work Unpacked is = lit≤ tt
unconfigured_work HalfConfigured is = lit≤ tt
unconfigured_work TriggersAwaited is = lit≤ tt
unconfigured_work TriggersPending is = lit≤ tt
unconfigured_work Installed is = absurd (let e : false ≡ true = is in cc)

-- Packages that are to be unpacked

-- where each package that stood stands, no more is to be unpacked
pub unpacking_kept : (selected : List Pkg) (old new : List Record)
    → ((pkg : Pkg) → Contains selected pkg → list_any (is_standing pkg) old ≡ true → list_any (is_standing pkg) new ≡ true)
    → unpacking new selected ≤ unpacking old selected
unpacking_kept [] old new kept = lit≤ tt
unpacking_kept (pkg ∷ selected) old new kept =
    at (list_any (is_standing pkg) old) (list_any (is_standing pkg) new) (kept pkg (Contains-head pkg selected))
    (unpacking_kept selected old new (λ other within. kept other (Contains-rest pkg selected other within)))
  where
    at : (before after : Bool) → (before ≡ true → after ≡ true) → unpacking new selected ≤ unpacking old selected
        → cond after 0 4 + unpacking new selected ≤ cond before 0 4 + unpacking old selected
    at true true same rest = omega arith
    at true false same rest = absurd (let e : false ≡ true = same refl in cc)
    at false true same rest = omega arith
    at false false same rest = omega arith

-- and where one that didn't stand does, less is
pub unpacking_falls : (selected : List Pkg) (old new : List Record)
    → ((pkg : Pkg) → Contains selected pkg → list_any (is_standing pkg) old ≡ true → list_any (is_standing pkg) new ≡ true)
    → (one : Pkg) → Contains selected one → list_any (is_standing one) old ≡ false → list_any (is_standing one) new ≡ true
    → unpacking new selected + 4 ≤ unpacking old selected
unpacking_falls [] old new kept one within before after = absurd (Contains-nil one within)
unpacking_falls (pkg ∷ selected) old new kept one within before after = elim (Contains-cons pkg selected one within) [
  | inl same ↦ here (list_any (is_standing pkg) old) (list_any (is_standing pkg) new)
      (ap (λ (p : Pkg). list_any (is_standing p) old) same ∙ before)
      (ap (λ (p : Pkg). list_any (is_standing p) new) same ∙ after)
      (unpacking_kept selected old new (λ other there. kept other (Contains-rest pkg selected other there)))
  | inr later ↦ past (list_any (is_standing pkg) old) (list_any (is_standing pkg) new) (kept pkg (Contains-head pkg selected))
      (unpacking_falls selected old new (λ other there. kept other (Contains-rest pkg selected other there)) one later before after)
]
  where
    here : (b a : Bool) → b ≡ false → a ≡ true → unpacking new selected ≤ unpacking old selected
        → cond a 0 4 + unpacking new selected + 4 ≤ cond b 0 4 + unpacking old selected
    here true a is to rest = absurd (let e : true ≡ false = is in cc)
    here false true is to rest = omega arith
    here false false is to rest = absurd (let e : false ≡ true = to in cc)

    past : (b a : Bool) → (b ≡ true → a ≡ true) → unpacking new selected + 4 ≤ unpacking old selected
        → cond a 0 4 + unpacking new selected + 4 ≤ cond b 0 4 + unpacking old selected
    past true true same rest = omega arith
    past true false same rest = absurd (let e : false ≡ true = same refl in cc)
    past false true same rest = omega arith
    past false false same rest = omega arith

-- Records

-- a change that gives no record more work
pub work_kept : (test : Record → Bool) (change : Record → Record) (db : List Record)
    → ((entry : Record) → Contains db entry → test entry ≡ true → work_in (change entry).state ≤ work_in entry.state)
    → work_with (changed test change db) ≤ work_with db
work_kept test change [] less = lit≤ tt
work_kept test change (entry ∷ db) less = at (test entry) (less entry (Contains-head entry db))
    (work_kept test change db (λ other within. less other (Contains-rest entry db other within)))
  where
    at : (b : Bool) → (b ≡ true → work_in (change entry).state ≤ work_in entry.state) → work_with (changed test change db) ≤ work_with db
        → work_in (cond b (change entry) entry).state + work_with (changed test change db) ≤ work_in entry.state + work_with db
    at true here rest = let h = here refl in omega arith
    at false here rest = omega arith

-- and one of them less
pub work_falls : (test : Record → Bool) (change : Record → Record) (db : List Record)
    → ((entry : Record) → Contains db entry → test entry ≡ true → work_in (change entry).state ≤ work_in entry.state)
    → (one : Record) → Contains db one → test one ≡ true → work_in (change one).state < work_in one.state
    → work_with (changed test change db) < work_with db
work_falls test change [] less one within passes falls = absurd (Contains-nil one within)
work_falls test change (entry ∷ db) less one within passes falls = elim (Contains-cons entry db one within) [
  | inl same ↦ here (test entry) (ap test same ∙ passes)
      (subst (λ (r : Record). work_in (change r).state < work_in r.state) (sym same) falls)
      (work_kept test change db (λ other there. less other (Contains-rest entry db other there)))
  | inr later ↦ past (test entry) (less entry (Contains-head entry db))
      (work_falls test change db (λ other there. less other (Contains-rest entry db other there)) one later passes falls)
]
  where
    here : (b : Bool) → b ≡ true → work_in (change entry).state < work_in entry.state → work_with (changed test change db) ≤ work_with db
        → work_in (cond b (change entry) entry).state + work_with (changed test change db) < work_in entry.state + work_with db
    here true is falls rest = omega arith
    here false is falls rest = absurd (let e : false ≡ true = is in cc)

    past : (b : Bool) → (b ≡ true → work_in (change entry).state ≤ work_in entry.state) → work_with (changed test change db) < work_with db
        → work_in (cond b (change entry) entry).state + work_with (changed test change db) < work_in entry.state + work_with db
    past true more rest = let h = more refl in omega arith
    past false more rest = omega arith

-- one record more
pub work_appended : (db : List Record) (last : Record) → work_with (db ++ last ∷ []) ≡ work_with db + work_in last.state
work_appended [] last = omega arith
work_appended (entry ∷ db) last = let rest = work_appended db last in omega arith

-- none of the later records is of the first one's name
none_later : (name : List ℕ) (entry : Record) (db : List Record) → HasDistinctNames (entry ∷ db) → is_named name entry ≡ true
    → list_any (is_named name) db ≡ false
unfolding HasDistinctNames
none_later name entry db distinct named = at (list_any (is_named name) db) refl
  where
    at : (b : Bool) → list_any (is_named name) db ≡ b → b ≡ false
    at false is = refl
    at true is = absurd (Any-elim (λ (other : Record). is_named name other ≡ true) db ⊥ (λ other within same.
        All-contains (λ (later : Record). entry.name ≢ later.name) db other
        (pairs_head (λ (earlier later : Record). earlier.name ≢ later.name) entry db distinct) within
        (bytes_eq-true entry.name name named ∙ sym (bytes_eq-true other.name name same)))
        (Any-from_list_any (is_named name) db is))

-- the record of a name is the only one that a change by name gives more work
pub work_of_one : (name : List ℕ) (change : Record → Record) (db : List Record) → HasDistinctNames db
    → work_with (changed (is_named name) change db) ≤ work_with db + 3
unfolding HasDistinctNames
work_of_one name change [] distinct = lit≤ tt
work_of_one name change (entry ∷ db) distinct = at (is_named name entry) refl
    (work_of_one name change db (pairs_tail (λ (earlier later : Record). earlier.name ≢ later.name) entry db distinct))
  where
    at : (b : Bool) → is_named name entry ≡ b → work_with (changed (is_named name) change db) ≤ work_with db + 3
        → work_in (cond b (change entry) entry).state + work_with (changed (is_named name) change db) ≤ work_in entry.state + work_with db + 3
    at true is rest =
        let same : work_with db ≡ work_with (changed (is_named name) change db) =
        ap work_with (changed-nowhere name change db (none_later name entry db distinct is)) in
        let most = no_more_work (change entry).state in omega arith
    at false is rest = omega arith

-- what is kept of the records
work_filtered : (test : Record → Bool) (db : List Record) → work_with (filter test db) ≤ work_with db
work_filtered test [] = lit≤ tt
work_filtered test (entry ∷ db) = at (test entry) (work_filtered test db)
  where
    at : (b : Bool) → work_with (filter test db) ≤ work_with db
        → work_with (cond b (entry ∷ filter test db) (filter test db)) ≤ work_in entry.state + work_with db
    at true rest = omega arith
    at false rest = omega arith

pub work_dropped : (test : Record → Bool) (db : List Record) (one : Record) → Contains db one → test one ≡ false
    → work_with (filter test db) < work_with db
work_dropped test [] one within fails = absurd (Contains-nil one within)
work_dropped test (entry ∷ db) one within fails = elim (Contains-cons entry db one within) [
  | inl same ↦ here (test entry) (ap test same ∙ fails) (some_work entry.state) (work_filtered test db)
  | inr later ↦ past (test entry) (work_dropped test db one later fails)
]
  where
    here : (b : Bool) → b ≡ false → 1 ≤ work_in entry.state → work_with (filter test db) ≤ work_with db
        → work_with (cond b (entry ∷ filter test db) (filter test db)) < work_in entry.state + work_with db
    here true is some rest = absurd (let e : true ≡ false = is in cc)
    here false is some rest = omega arith

    past : (b : Bool) → work_with (filter test db) < work_with db
        → work_with (cond b (entry ∷ filter test db) (filter test db)) < work_in entry.state + work_with db
    past true rest = omega arith
    past false rest = omega arith
