-- What follows where lines are left out of a request, and where they are put back.
use Rattle.std.proofs.Common.{◌≡◌, ◌∙◌, ℕ, suc, ◌<◌, ◌+◌, Bool, true, false, List, length, Option, None, Some, ap, arith, refl, subst, sym}
use Rattle.std.specs.Prelude.{◌⊎◌, IfErr, IsErrAnd, OnOk, Result, Ok, Err}
use Rattle.std.specs.List.{slice_set}
use Rattle.std.proofs.lemmas.Bool.{cases_order}
use Rattle.std.proofs.lemmas.List.{length-map, length-set}
use Rattle.candidates.specs.Inputs.{indices_of}
use Rattle.cli_engine.specs.Refuted.{AreRefuted}
use Rattle.cli_engine.specs.Reasons.{IsToldWhere, TellsSolved}
use Rattle.cli_engine.specs.Solution.{HasSolvedLines}
use Rattle.inputs.specs.ReadAs.{AreReadAs, asking, start_of}
use Rattle.inputs.specs.Reading.{out_of_memory}
use Rattle.inputs.specs.Refused.{IsRefusal}
use Rattle.inputs.specs.Texts.{Texts}
use Rattle.inputs.specs.declared.before.Before.{Before}
use Rattle.inputs.specs.declared.refusal.Refusal.{Refusal}
use Rattle.inputs.specs.declared.request.Requested.{Requested}
use Rattle.inputs.proofs.MeaningLemmas.{one_meaning}
use Rattle.inputs.proofs.ReadAsLemmas.{asking-same, indexed-asking}
use Rattle.rules.specs.Database.{Record}
use Rattle.rules.specs.Sound.{IsAcceptable}
use Rattle.rules.specs.Universe.{Universe}
use Rattle.solver.specs.Solved.{IsSolved}
use Rattle.solver.specs.declared.solved.Solved.{Solved}
use Rattle.solver.specs.declared.solved.Solved.TheVariants as solved
use Rattle.keep_back.specs.Back.{AreAlone, IsAlone, IsPass, IsPutBack, IsRestKept, IsSame, IsTried, count_out}
use Rattle.keep_back.specs.Further.{AllStay, AreOut, AsksAt, IsFewer, IsFewerBy, IsFurther, IsFurtherRefusal, IsRefusedWith, IsRestRefusal, WasOut, request_of}
use Rattle.keep_back.specs.KeptBack.{AreLinesOf, AreWithoutPlan, IsKeptBack, IsKeptRefusal, IsLeft, IsRest, WasLeftOut, request_left}
use Rattle.keep_back.specs.Reason.{IsRefutation, has_no_plan}
use Rattle.keep_back.specs.Round.{IsRefutedRequest, IsRequestWithoutPlan, IsRequestedBy, IsSolvedRequest}
use Rattle.keep_back.specs.declared.keep_back.KeptBack.{KeptBack}
use Rattle.keep_back.specs.declared.kept.Kept.{Kept}
use Rattle.keep_back.specs.declared.left.Left.{Left}
use Rattle.keep_back.specs.declared.round.SolvedRequest.{SolvedRequest}
use Rattle.keep_back.proofs.MarkLemmas.{count-less, out-again, out-less, out-more, out-within}
use Rattle.request_lines.specs.Spelled.{AreReadBy, lines_in, spelled_out, stays_at}
use Rattle.request_lines.specs.Upgraded.{names_to_upgrade}
use Rattle.request_lines.specs.declared.wish.Wish.{Wish}
use mathlib.Core.Logic.{inl, inr}

-- A request that is refuted, or has no plan

-- where the answer is a refutation, no selection is acceptable
pub none-acceptable : (u : Universe) (start : List Record) (limit : ℕ) (answer : Solved) → IsSolved u start limit answer
    → IsRefutation answer → (selection : ℕ → Bool) → ¬ IsAcceptable u selection
none-acceptable u start limit (solved.Plan steps) is so = absurd so
none-acceptable u start limit (solved.Refuted lines) is so = is.2
none-acceptable u start limit (solved.Undecided why) is so = absurd so

-- a request is refuted where its answer is a refutation
pub refuted-request : (before : Before) (limit : ℕ) (request : List ℕ) (answer : SolvedRequest) → IsSolvedRequest before limit request answer
    → IsRefutation answer.solved → IsRefutedRequest before request
refuted-request before limit request answer is so = λ texts read. record {
  universe = answer.requested.universe;
  start = start_of before;
  denoted = (is.asked texts read).denoted;
  only = λ u begin also. (one_meaning (asking request texts) answer.requested.universe u (start_of before) begin (is.asked texts read).denoted also).0;
  none = none-acceptable answer.requested.universe (start_of before) limit answer.solved is.holds so;
}

-- a request whose answer has no plan is refuted, or at the limit it is undecided
pub without-plan : (before : Before) (limit : ℕ) (request : List ℕ) (answer : SolvedRequest) → IsSolvedRequest before limit request answer
    → has_no_plan answer.solved ≡ true → IsRequestWithoutPlan before limit request
without-plan before limit request answer is none texts read = at answer.solved refl none
  where
    at : (solved : Solved) → answer.solved ≡ solved → has_no_plan solved ≡ true → AreWithoutPlan (asking request texts) limit
    at (solved.Plan steps) same none = absurd (let e : true ≡ false = sym none in cc)
    at (solved.Refuted lines) same none =
        inl (refuted-request before limit request answer is (subst IsRefutation (sym same) tt) texts read)
    at (solved.Undecided why) same none = inr (record {
      universe = answer.requested.universe;
      start = start_of before;
      denoted = (is.asked texts read).denoted;
      why = why;
      holds = subst (IsSolved answer.requested.universe (start_of before) limit) same is.holds;
    })

-- Wishes that are left out

-- none are
pub none-fewer : (left : Left) → IsFewer left left
none-fewer left = record { wishes = refl; long = refl; out = λ place out. inl out }

-- further ones are, and then others
pub fewer-more : (old mid new : Left) → IsFewer old mid → IsFewer mid new → IsFewer old new
fewer-more old mid new first then = record {
  wishes = then.wishes ∙ first.wishes;
  long = then.long ∙ first.long;
  out = λ place out. at place (then.out place out);
}
  where
    at : (place : ℕ) → (stays_at mid.stays.items place ≡ false) ⊎ AsksAt mid.wishes.items place
        → (stays_at old.stays.items place ≡ false) ⊎ AsksAt old.wishes.items place
    at place (inl was) = first.out place was
    at place (inr asks) = inr (subst (λ (ws : List Wish). AsksAt ws place) first.wishes asks)

-- what is at true or at false is at true, once others are left out behind it
pub fewer-then : (fewer : Bool) (old mid new : Left) → IsFewerBy fewer old mid → IsFewer mid new → IsFewer old new
fewer-then true old mid new first then = fewer-more old mid new first then
fewer-then false old mid new first then = subst (λ (left : Left). IsFewer left new) first then

-- there are as many marks as there were
pub fewer-long : (fewer : Bool) (old new : Left) → IsFewerBy fewer old new → length old.stays.items ≡ length old.wishes.items
    → length new.stays.items ≡ length new.wishes.items
fewer-long true old new is long = is.long ∙ long ∙ sym (ap length is.wishes)
fewer-long false old new is long = subst (λ (left : Left). length left.stays.items ≡ length left.wishes.items) (sym is) long

-- the wish at this place is
pub one-fewer : (old new : Left) (place : ℕ) → new.wishes.items ≡ old.wishes.items → new.stays.items ≡ slice_set old.stays.items place false
    → AsksAt old.wishes.items place → IsFewer old new
one-fewer old new place wishes stays asks = record {
  wishes = wishes;
  long = ap length stays ∙ length-set old.stays.items place false;
  out = λ other out. at other (out-more old.stays.items place other (subst (λ (ss : List Bool). stays_at ss other ≡ false) stays out));
}
  where
    at : (other : ℕ) → (stays_at old.stays.items other ≡ false) ⊎ (other ≡ place)
        → (stays_at old.stays.items other ≡ false) ⊎ AsksAt old.wishes.items other
    at other (inl was) = inl was
    at other (inr same) = inr (rw same asks)

-- of a request that is refuted
pub further-fewer : (before : Before) (old new : Left) → IsFewer old new → IsRefutedRequest before (request_of old) → IsFurther before old new
further-fewer before old new is refuted = record {
  wishes = is.wishes;
  long = is.long;
  out = λ place out. at place (stays_at old.stays.items place) refl (is.out place out);
}
  where
    at : (place : ℕ) (stays : Bool) → stays_at old.stays.items place ≡ stays
        → (stays_at old.stays.items place ≡ false) ⊎ AsksAt old.wishes.items place
        → (stays_at old.stays.items place ≡ false) ⊎ WasOut before old.wishes.items place
    at place stays same (inl was) = inl was
    at place false same (inr asks) = inl same
    at place true same (inr asks) = inr (record { asks = asks; stays = old.stays.items; stood = same; refuted = refuted })

-- so far nothing is left out
pub none-further : (before : Before) (left : Left) → IsFurther before left left
none-further before left = record { wishes = refl; long = refl; out = λ place out. inl out }

-- further ones are, and then others
pub further-more : (before : Before) (old mid new : Left) → IsFurther before old mid → IsFurther before mid new → IsFurther before old new
further-more before old mid new first then = record {
  wishes = then.wishes ∙ first.wishes;
  long = then.long ∙ first.long;
  out = λ place out. at place (then.out place out);
}
  where
    at : (place : ℕ) → (stays_at mid.stays.items place ≡ false) ⊎ WasOut before mid.wishes.items place
        → (stays_at old.stays.items place ≡ false) ⊎ WasOut before old.wishes.items place
    at place (inl was) = first.out place was
    at place (inr out) = inr (subst (λ (ws : List Wish). WasOut before ws place) first.wishes out)

-- there are as many marks as there were
pub further-long : (before : Before) (old new : Left) → IsFurther before old new → length old.stays.items ≡ length old.wishes.items
    → length new.stays.items ≡ length new.wishes.items
further-long before old new is long = is.long ∙ long ∙ sym (ap length is.wishes)

-- one is put back
pub further-back : (before : Before) (place : ℕ) (old new : Left) → IsPutBack place old new → IsFurther before old new
further-back before place old new is = record {
  wishes = is.wishes;
  long = ap length is.stays ∙ length-set old.stays.items place true;
  out = λ other out. inl (out-less old.stays.items place other (subst (λ (ss : List Bool). stays_at ss other ≡ false) is.stays out));
}

-- nothing has changed
pub further-same : (before : Before) (old new : Left) → IsSame old new → IsFurther before old new
further-same before old new is = record {
  wishes = is.wishes;
  long = ap length is.stays;
  out = λ other out. inl (subst (λ (ss : List Bool). stays_at ss other ≡ false) is.stays out);
}

-- where nothing has changed the request is the same
pub same-request : (old new : Left) → IsSame old new → request_of new ≡ request_of old
same-request old new is = rw (is.wishes, is.stays) refl

-- with a wish that is put back the answer has no plan, and so it is left out again
pub tried-out : (before : Before) (limit place : ℕ) (old mid new : Left) (answer : SolvedRequest) → IsPutBack place old mid
    → IsSolvedRequest before limit (request_of mid) answer → has_no_plan answer.solved ≡ true → new.wishes.items ≡ mid.wishes.items
    → new.stays.items ≡ slice_set mid.stays.items place false → stays_at old.stays.items place ≡ false
    → IsTried before limit place old new None
tried-out before limit place old mid new answer back is none wishes stays out = (
  record {
    wishes = wishes ∙ back.wishes;
    stays = stays ∙ ap (λ (ss : List Bool). slice_set ss place false) back.stays ∙ out-again old.stays.items place out;
  },
  λ texts read. subst (λ (request : List ℕ). AreWithoutPlan (asking request texts) limit) same
      (without-plan before limit (request_of mid) answer is none texts read),
)
  where
    same : request_of mid ≡ request_left (lines_in old.wishes.items) (slice_set old.stays.items place true)
    same = ap (λ (ws : List Wish). request_left (lines_in ws) mid.stays.items) back.wishes
        ∙ ap (λ (ss : List Bool). request_left (lines_in old.wishes.items) ss) back.stays

-- Passes over the lines that are left out

-- what a pass left is further
pub pass-further : (before : Before) (limit below : ℕ) (more : Bool) (old new : Left) → IsPass before limit below old new more
    → IsFurther before old new
pass-further before limit below true old new is = is.0
pass-further before limit below false old new is = further-same before old new is.0

-- none are passed so far
pub none-passed : (before : Before) (limit : ℕ) (left : Left) → IsPass before limit 0 left left false
none-passed before limit left = (record { wishes = refl; stays = refl }, λ place within out. absurd (omega (arith, within)))

-- a line that is tried is put back
pub pass-back : (before : Before) (limit below : ℕ) (more : Bool) (old mid new : Left) → IsPass before limit below old mid more
    → stays_at mid.stays.items below ≡ false → IsPutBack below mid new → IsPass before limit (below + 1) old new true
pass-back before limit below more old mid new first out back = (
  further-more before old mid new (pass-further before limit below more old mid first) (further-back before below mid new back),
  at more first,
)
  where
    less : suc (count_out new.stays.items) ≡ count_out mid.stays.items
    less = ap (λ (ss : List Bool). suc (count_out ss)) back.stays ∙ count-less mid.stays.items below out

    at : (more : Bool) → IsPass before limit below old mid more → count_out new.stays.items < count_out old.stays.items
    at true first = let was : count_out mid.stays.items < count_out old.stays.items = first.1 in omega (arith, less, was)
    at false first = let same : count_out mid.stays.items ≡ count_out old.stays.items = ap count_out first.0.stays in omega (arith, less, same)

-- a line stays, or there is no plan with it
pub pass-more : (before : Before) (limit below : ℕ) (more : Bool) (old mid new : Left) → IsPass before limit below old mid more
    → IsSame mid new → (stays_at mid.stays.items below ≡ false → IsAlone before limit mid.wishes.items mid.stays.items below)
    → IsPass before limit (below + 1) old new more
pass-more before limit below true old mid new first same alone = (
  further-more before old mid new first.0 (further-same before mid new same),
  subst (λ (ss : List Bool). count_out ss < count_out old.stays.items) (sym same.stays) first.1,
)
pass-more before limit below false old mid new first same alone = (
  record { wishes = same.wishes ∙ first.0.wishes; stays = same.stays ∙ first.0.stays },
  λ place within out. at place out (first_or place within),
)
  where
    here : stays_at old.stays.items below ≡ false → IsAlone before limit old.wishes.items old.stays.items below
    here out = subst (λ (ws : List Wish). IsAlone before limit ws old.stays.items below) first.0.wishes
        (subst (λ (ss : List Bool). IsAlone before limit mid.wishes.items ss below) first.0.stays
        (alone (subst (λ (ss : List Bool). stays_at ss below ≡ false) (sym first.0.stays) out)))

    first_or : (place : ℕ) → place < below + 1 → (place < below) ⊎ (place ≡ below)
    first_or place within = of (cases_order place below)
      where
        of : (place ≡ below) ⊎ ((place < below) ⊎ (below < place)) → (place < below) ⊎ (place ≡ below)
        of (inl same) = inr same
        of (inr (inl before_it)) = inl before_it
        of (inr (inr behind)) = absurd (omega (arith, within, behind))

    at : (place : ℕ) → stays_at old.stays.items place ≡ false → (place < below) ⊎ (place ≡ below)
        → IsAlone before limit old.wishes.items old.stays.items place
    at place out (inl before_it) = first.1 place before_it out
    at place out (inr same) = rw same (here (rw (sym same) out))

-- no line that is left out has a plan alone
pub all-alone : (before : Before) (limit below : ℕ) (old new : Left) → IsPass before limit below old new false
    → below ≡ length old.wishes.items → length old.stays.items ≡ length old.wishes.items
    → AreAlone before limit new.wishes.items new.stays.items
all-alone before limit below old new is all long place out =
    rw (is.0.wishes, is.0.stays) (is.1 place within was)
  where
    was : stays_at old.stays.items place ≡ false
    was = rw (sym is.0.stays) out

    within : place < below
    within = let long_enough = out-within old.stays.items place was in omega (arith, long_enough, all, long)

-- What is left of the texts

-- a wish that was left out is a line of the texts that was
pub was-left-out : (before : Before) (texts : Texts) (wishes : List Wish) (place : ℕ) → AreReadAs texts before
    → AreReadBy before.settings.now.arch.now wishes → WasOut before wishes place → WasLeftOut texts (lines_in wishes) place
was-left-out before texts wishes place read by out = record {
  asks = rw (read.arch, sym by) out.asks;
  stays = out.stays;
  stood = out.stood;
  refuted = out.refuted texts read;
}

-- these wishes are those of the texts, which are refuted
pub record AreOfRefuted (before : Before) (texts : Texts) (wishes : List Wish) : Type 0 where
  pub by : AreReadBy before.settings.now.arch.now wishes
  pub lines_of : AreLinesOf texts (lines_in wishes)
  pub refuted : AreRefuted texts

-- where their lines are spelled out of the request
pub of-refuted : (before : Before) (texts : Texts) (request text : List ℕ) (requested : Requested) (wishes : List Wish) → AreReadAs texts before
    → texts.request ≡ Some request → IsRequestedBy before request requested → text ≡ request
    → lines_in wishes ≡ spelled_out before.settings.now.arch.now (names_to_upgrade requested.universe) text
    → AreReadBy before.settings.now.arch.now wishes → IsRefutedRequest before request → AreOfRefuted before texts wishes
of-refuted before texts request text requested wishes read there asked same spelled by refuted = record {
  by = by;
  lines_of = subst (λ (asks : Texts). AreLinesOf asks (lines_in wishes)) (asking-same texts request there) (record {
    request = request;
    universe = requested.universe;
    start = start_of before;
    there = refl;
    denoted = (asked texts read).denoted;
    lines_are = rw read.arch (subst (λ (asks : List ℕ).
        lines_in wishes ≡ spelled_out before.settings.now.arch.now (names_to_upgrade requested.universe) asks) same spelled);
  });
  refuted = subst AreRefuted (asking-same texts request there) (refuted texts read);
}

-- what is left of them
pub is-rest : (before : Before) (texts : Texts) (wishes : List Wish) (stays : List Bool) (request : List ℕ) → AreReadAs texts before
    → AreOfRefuted before texts wishes → AreOut before wishes stays → request ≡ request_left (lines_in wishes) stays
    → IsRest texts (lines_in wishes) stays request
is-rest before texts wishes stays request read of out is = record {
  lines_of = of.lines_of;
  refuted = of.refuted;
  marked = out.long ∙ sym (length-map wishes (λ (wish : Wish). wish.text));
  out = λ place out_of. was-left-out before texts wishes place read of.by (out.out place out_of);
  request_is = is;
}

-- and it is as much as can be
pub is-left : (before : Before) (texts : Texts) (limit : ℕ) (wishes : List Wish) (kept : Kept) → AreReadAs texts before
    → AreOfRefuted before texts wishes → IsRestKept before limit wishes kept → IsLeft texts limit kept.stays kept.request.items
is-left before texts limit wishes kept read of is = subst (λ (stays : Option (List Bool)). IsLeft texts limit stays kept.request.items) (sym is.marked) (
  lines_in wishes,
  is-rest before texts wishes is.stays kept.request.items read of is.out is.request,
  λ place out. is.alone place out texts read,
)

-- the answer is true of the texts with the request that is left
pub is-kept : (before : Before) (texts : Texts) (limit : ℕ) (tells_reasons has_document : Bool) (kept : Kept) (back : KeptBack)
    → AreReadAs texts before → IsLeft texts limit kept.stays kept.request.items
    → IsSolvedRequest before limit kept.request.items kept.solved → back.answered.solved ≡ kept.solved.solved
    → back.answered.asks_all_versions ≡ kept.solved.requested.asks_all_versions → back.answered.naming ≡ None
    → IsToldWhere tells_reasons (TellsSolved kept.solved.requested.universe (indices_of before.indices.now) (start_of before) back.answered.asks_all_versions back.answered.solved)
    back.answered.reasons
    → HasSolvedLines kept.solved.requested.universe has_document back.answered.solved back.answered.members
    → back.request ≡ kept.request.items → back.stays ≡ kept.stays → IsKeptBack texts limit tells_reasons has_document back
is-kept before texts limit tells_reasons has_document kept back read left is same asks naming reasons has request stays = record {
  left = rw (request, stays) left;
  holds = record {
    universe = kept.solved.requested.universe;
    start = start_of before;
    denoted = rw (request, asks) (is.asked texts read);
    holds = rw same is.holds;
    naming = naming;
    indices = indices_of before.indices.now;
    indexed = indexed-asking texts back.request (indices_of before.indices.now) read.read.listed.indexed;
    reasons = reasons;
    lines = has;
  };
}

-- What is left and is refused

-- where no further line is left out
pub refused-now : (before : Before) (texts : Texts) (left : Left) (refused : Refusal) → IsRefusedWith texts (request_of left) refused
    → IsFurtherRefusal before texts left refused
refused-now before texts left refused is = record { new = left; further = none-further before left; refused_so = is }

-- or memory is wanting
pub further-wanting : {B : Type 0} (before : Before) (texts : Texts) (left : Left) (result : Result B Refusal)
    → IsErrAnd result (λ refused. refused ≡ out_of_memory) → IfErr result (IsFurtherRefusal before texts left)
further-wanting before texts left (Ok answer) is = absurd is
further-wanting before texts left (Err refused) is = refused-now before texts left refused
    (subst (λ (r : Refusal). IsRefusedWith texts (request_of left) r) (sym is) (inl refl))

-- where others were before
pub refused-then : (before : Before) (texts : Texts) (old mid : Left) (refused : Refusal) → IsFurther before old mid
    → IsFurtherRefusal before texts mid refused → IsFurtherRefusal before texts old refused
refused-then before texts old mid refused first is = record {
  new = is.new;
  further = further-more before old mid is.new first is.further;
  refused_so = is.refused_so;
}

-- of wishes that all stayed at first, what was left out was left out of requests that are refuted
pub all-out : (before : Before) (wishes : List Wish) (old new : Left) → old.wishes.items ≡ wishes → length old.stays.items ≡ length wishes
    → AllStay old.stays.items → IsFurther before old new → AreOut before wishes new.stays.items
all-out before wishes old new same long stay is = record {
  long = is.long ∙ long;
  out = λ place out. at place (is.out place out);
}
  where
    at : (place : ℕ) → (stays_at old.stays.items place ≡ false) ⊎ WasOut before old.wishes.items place → WasOut before wishes place
    at place (inl out) = absurd (let e : true ≡ false = sym (stay place) ∙ out in cc)
    at place (inr out) = subst (λ (ws : List Wish). WasOut before ws place) same out

-- and what is left is refused
pub rest-refused : (before : Before) (texts : Texts) (wishes : List Wish) (old : Left) (refused : Refusal) → old.wishes.items ≡ wishes
    → length old.stays.items ≡ length wishes → AllStay old.stays.items → IsFurtherRefusal before texts old refused
    → IsRestRefusal before texts wishes refused
rest-refused before texts wishes old refused same long stay is = inr (record {
  stays = is.new.stays.items;
  out = all-out before wishes old is.new same long stay is.further;
  refused_so = subst (λ (ws : List Wish). IsRefusedWith texts (request_left (lines_in ws) is.new.stays.items) refused)
      (is.further.wishes ∙ same) is.refused_so;
})

-- of texts that are refuted
pub left-refused : (before : Before) (texts : Texts) (wishes : List Wish) (refused : Refusal) → AreReadAs texts before
    → AreOfRefuted before texts wishes → IsRestRefusal before texts wishes refused → IsKeptRefusal texts refused
left-refused before texts wishes refused read of (inl wanting) = inl (subst (IsRefusal texts) (sym wanting) (inl refl))
left-refused before texts wishes refused read of (inr is) = inr (record {
  lines = lines_in wishes;
  stays = is.stays;
  request = request_left (lines_in wishes) is.stays;
  rest = is-rest before texts wishes is.stays (request_left (lines_in wishes) is.stays) read of is.out refl;
  refused_so = is.refused_so;
})

-- what is left is kept
pub rest-kept : (before : Before) (limit : ℕ) (wishes : List Wish) (old new : Left) (kept : Kept) → old.wishes.items ≡ wishes
    → length old.stays.items ≡ length wishes → AllStay old.stays.items → IsFurther before old new
    → AreAlone before limit new.wishes.items new.stays.items → kept.stays ≡ Some new.stays.items → kept.request.items ≡ request_of new
    → IsRestKept before limit wishes kept
rest-kept before limit wishes old new kept same long stay is alone marked request = record {
  stays = new.stays.items;
  marked = marked;
  out = all-out before wishes old new same long stay is;
  alone = subst (λ (ws : List Wish). AreAlone before limit ws new.stays.items) now alone;
  request = request ∙ ap (λ (ws : List Wish). request_left (lines_in ws) new.stays.items) now;
}
  where
    now : new.wishes.items ≡ wishes
    now = is.wishes ∙ same

-- Results

-- what holds holds where a result is a value
pub on-ok : {A E : Type 0} (r : Result A E) (P : Type 0) → P → OnOk r P
on-ok (Ok a) P holds = holds
on-ok (Err e) P holds = tt
