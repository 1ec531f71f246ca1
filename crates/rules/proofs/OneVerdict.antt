-- A plan has one verdict: it stops at one step, and one reason against its end is the first.
use Rattle.std.proofs.Common.{◌≡◌, ℕ, suc, ◌+◌, List, [], ◌∷◌, ◌++◌, length, refl, sym, ap, subst, ◌∙◌}
use Rattle.std.specs.Cmp.Lexicographic.{nat_list_cmp_total}
use Rattle.std.specs.Ordering.{is_eq, nat_cmp, ordering_reverse, ordering_then}
use Rattle.std.specs.declared.cmp.Ordering.{Ordering}
use Rattle.std.specs.declared.cmp.Ordering.TheVariants.{Less, Equal, Greater}
use Rattle.std.specs.Cmp.{IsTotalOrder, nat_cmp_total, unsigned_tied}
use Rattle.std.proofs.lemmas.Bool.Decides.{Decides-eqb}
use Rattle.std.proofs.lemmas.Map.Text.{is_eq-slice_cmp}
use Rattle.rules.specs.Database.{Record}
use Rattle.rules.specs.Legal.{Allowed, IsFirstFailing}
use Rattle.rules.specs.Name.{name_cmp}
use Rattle.rules.specs.NamedLaws.{bytes_eq-true}
use Rattle.rules.specs.Run.{Run, StopsAt, IsFirstAgainst, after, reason_cmp}
use Rattle.rules.specs.Universe.{Universe}
use Rattle.rules.specs.UniverseLaws.{OneVerdict}
use Rattle.rules.specs.declared.step.Reason.{Reason}
use Rattle.rules.specs.declared.step.Reason.TheVariants as reason
use Rattle.rules.specs.declared.step.Rule.{Rule}
use Rattle.rules.specs.declared.step.Step.{Step}
use Rattle.rules.specs.declared.step.Verdict.TheVariants as verdict
use Rattle.rules.proofs.LegalLemmas.{allowed_fails_none, one_first_failing}
use Rattle.rules.proofs.RunLemmas.{one_end}
use Rattle.rules.proofs.VerdictLemmas.{good_plan_has_yes, stops_no_run}

-- the parts of a list that isn't empty
head_of : (x y : Step) (xs ys : List Step) → x ∷ xs ≡ y ∷ ys → x ≡ y
head_of x y xs ys same = cc

tail_of : (x y : Step) (xs ys : List Step) → x ∷ xs ≡ y ∷ ys → xs ≡ ys
tail_of x y xs ys same = cc

-- what is allowed at the start of a run isn't where another stops
not_both : (u : Universe) (start reached : List Record) (allowed stopped : Step) (failing : Rule) → reached ≡ start → stopped ≡ allowed
    → Allowed u start allowed → IsFirstFailing u reached stopped failing → ⊥
not_both u start reached allowed stopped failing here same may fails = allowed_fails_none u reached stopped failing
    (subst (λ (db : List Record). Allowed u db stopped) (sym here) (subst (Allowed u start) (sym same) may)) fails

-- two runs over the beginnings of one list that stop at an allowed step's first refusal are of one length, with one rule
one_stop : (u : Universe) (start : List Record) (before later : List Step) (step next : Step) (rest more : List Step)
    (reached there : List Record) (rule other : Rule) → before ++ (step ∷ rest) ≡ later ++ (next ∷ more)
    → Run u start before reached → Run u start later there → IsFirstFailing u reached step rule → IsFirstFailing u there next other
    → (length before ≡ length later) × (rule ≡ other)
one_stop u start [] [] step next rest more reached there rule other same run run' fails fails' = (
  refl,
  one_first_failing u there next rule other
      (subst (λ (db : List Record). IsFirstFailing u db next rule) (run ∙ sym run')
      (subst (λ (s : Step). IsFirstFailing u reached s rule) (head_of step next rest more same) fails))
      fails',
)
one_stop u start [] (taken ∷ later) step next rest more reached there rule other same run run' fails fails' =
    absurd (not_both u start reached taken step rule run (head_of step taken rest (later ++ (next ∷ more)) same) run'.0 fails)
one_stop u start (taken ∷ before) [] step next rest more reached there rule other same run run' fails fails' =
    absurd (not_both u start there taken next other run' (sym (head_of taken next (before ++ (step ∷ rest)) more same)) run.0 fails')
one_stop u start (taken ∷ before) (took ∷ later) step next rest more reached there rule other same run run' fails fails' =
    let one : taken ≡ took = head_of taken took (before ++ (step ∷ rest)) (later ++ (next ∷ more)) same in
    let behind = one_stop u (after u start took) before later step next rest more reached there rule other
    (tail_of taken took (before ++ (step ∷ rest)) (later ++ (next ∷ more)) same)
    (subst (λ (s : Step). Run u (after u start s) before reached) one run.1) run'.1 fails fails' in
    (ap suc behind.0, behind.1)

same_step : (number other : ℕ) (rule rule' : Rule) → number ≡ other → rule ≡ rule'
    → verdict.Step number rule ≡ verdict.Step other rule'
same_step number other rule rule' numbers rules = cc

-- a plan stops at one step, with one rule
one_stopping : (u : Universe) (start : List Record) (steps : List Step) (number other : ℕ) (rule rule' : Rule)
    → StopsAt u start steps number rule → StopsAt u start steps other rule' → verdict.Step number rule ≡ verdict.Step other rule'
one_stopping u start steps number other rule rule' stop stop' =
    let one = one_stop u start stop.before stop'.before stop.step stop'.step stop.rest stop'.rest stop.reached stop'.reached rule rule'
    (sym stop.place ∙ stop'.place) stop.run stop'.run stop.failing stop'.failing in
    same_step number other rule rule' (stop.number_is ∙ ap (λ (n : ℕ). n + 1) one.0 ∙ sym stop'.number_is) one.1

-- neither of two is before the other only where they tie
tied : {X : Type 0} (R : X → X → Ordering) → IsTotalOrder R → (x y : X) → ¬ (R x y ≡ Less) → ¬ (R y x ≡ Less) → R x y ≡ Equal
tied R o x y not_before not_after = at (R x y) refl
  where
    at : (order : Ordering) → R x y ≡ order → R x y ≡ Equal
    at Less is = absurd (not_before is)
    at Equal is = is
    at Greater is = absurd (not_after (o.antisymm y x ∙ ap ordering_reverse is))

-- names of which neither is before the other are one
one_name : (name other : List ℕ) → ¬ (ordering_then (name_cmp name other) Equal ≡ Less)
    → ¬ (ordering_then (name_cmp other name) Equal ≡ Less) → name ≡ other
one_name name other not_before not_after = bytes_eq-true name other
    (sym (is_eq-slice_cmp name other) ∙ ap is_eq (tied name_cmp nat_list_cmp_total name other
    (λ below. not_before (ap (λ (o : Ordering). ordering_then o Equal) below))
    (λ below. not_after (ap (λ (o : Ordering). ordering_then o Equal) below))))

one_number : (number other : ℕ) → ¬ (nat_cmp number other ≡ Less) → ¬ (nat_cmp other number ≡ Less) → number ≡ other
one_number number other not_before not_after =
    let same : nat_cmp number other ≡ Equal = tied nat_cmp nat_cmp_total number other not_before not_after in
    (Decides-eqb number other).0 (sym (unsigned_tied number other) ∙ ap is_eq same)

-- reasons of which neither is before the other are one
one_reason : (reason other : Reason) → ¬ (reason_cmp reason other ≡ Less) → ¬ (reason_cmp other reason ≡ Less) → reason ≡ other
one_reason (reason.Unfinished name) (reason.Unfinished other) not_before not_after =
    ap reason.Unfinished (one_name name other not_before not_after)
one_reason (reason.Unfinished name) (reason.Relation other) not_before not_after = absurd (not_before refl)
one_reason (reason.Unfinished name) (reason.Essential other) not_before not_after = absurd (not_before refl)
one_reason (reason.Unfinished name) (reason.Goal other) not_before not_after = absurd (not_before refl)
one_reason (reason.Relation name) (reason.Unfinished other) not_before not_after = absurd (not_after refl)
one_reason (reason.Relation name) (reason.Relation other) not_before not_after =
    ap reason.Relation (one_name name other not_before not_after)
one_reason (reason.Relation name) (reason.Essential other) not_before not_after = absurd (not_before refl)
one_reason (reason.Relation name) (reason.Goal other) not_before not_after = absurd (not_before refl)
one_reason (reason.Essential name) (reason.Unfinished other) not_before not_after = absurd (not_after refl)
one_reason (reason.Essential name) (reason.Relation other) not_before not_after = absurd (not_after refl)
one_reason (reason.Essential name) (reason.Essential other) not_before not_after =
    ap reason.Essential (one_name name other not_before not_after)
one_reason (reason.Essential name) (reason.Goal other) not_before not_after = absurd (not_before refl)
one_reason (reason.Goal number) (reason.Unfinished other) not_before not_after = absurd (not_after refl)
one_reason (reason.Goal number) (reason.Relation other) not_before not_after = absurd (not_after refl)
one_reason (reason.Goal number) (reason.Essential other) not_before not_after = absurd (not_after refl)
one_reason (reason.Goal number) (reason.Goal other) not_before not_after =
    ap reason.Goal (one_number number other not_before not_after)

-- an end has one first reason against it
one_first_against : (u : Universe) (db : List Record) (reason other : Reason) → IsFirstAgainst u db reason → IsFirstAgainst u db other
    → reason ≡ other
one_first_against u db reason other first first' =
    one_reason reason other (first'.least reason first.against) (first.least other first'.against)

pub one_verdict : OneVerdict
one_verdict u start steps first verdict.Yes is is' = good_plan_has_yes u start steps first is' is
one_verdict u start steps verdict.Yes second is is' = sym (good_plan_has_yes u start steps second is is')
one_verdict u start steps verdict.Start verdict.Start is is' = refl
one_verdict u start steps verdict.Start (verdict.Step number rule) is is' = absurd (is is'.0)
one_verdict u start steps verdict.Start (verdict.End reason) is is' = absurd (is is'.0)
one_verdict u start steps (verdict.Step number rule) verdict.Start is is' = absurd (is' is.0)
one_verdict u start steps (verdict.End reason) verdict.Start is is' = absurd (is' is.0)
one_verdict u start steps (verdict.Step number rule) (verdict.Step other rule') is is' =
    one_stopping u start steps number other rule rule' is.1 is'.1
one_verdict u start steps (verdict.Step number rule) (verdict.End reason) is is' =
    absurd (stops_no_run u start is'.1.0 steps number rule is.1 is'.1.1)
one_verdict u start steps (verdict.End reason) (verdict.Step number rule) is is' =
    absurd (stops_no_run u start is.1.0 steps number rule is'.1 is.1.1)
one_verdict u start steps (verdict.End reason) (verdict.End other) is is' =
    ap verdict.End (one_first_against u is'.1.0 reason other
    (subst (λ (db : List Record). IsFirstAgainst u db reason) (one_end u start is.1.0 is'.1.0 steps is.1.1 is'.1.1) is.1.2) is'.1.2)
