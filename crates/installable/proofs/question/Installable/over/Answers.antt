-- What the texts are read as says which packages are asked about.
use Rattle.std.proofs.Common.{◌≡◌, ◌∙◌, ℕ, List, None, refl, subst}
use Rattle.std.specs.Prelude.{◌⊎◌}
use Rattle.std.specs.List.{AllZip, Any, filter}
use Rattle.std.proofs.lemmas.Result.{err_from_is_err_and}
use Rattle.candidates.specs.Inputs.{indices_of}
use Rattle.candidates.specs.Stanza.{IsOrdered}
use Rattle.inputs.specs.Before.{HasIndices, IsRefusalBefore}
use Rattle.inputs.specs.ReadAs.{asking}
use Rattle.inputs.specs.Refused.{IsRefusal}
use Rattle.inputs.specs.Texts.{Texts}
use Rattle.inputs.specs.declared.before.Before.{Before}
use Rattle.inputs.specs.declared.refusal.Refusal.{Refusal}
use Rattle.rules.specs.Available.{all_listed}
use Rattle.rules.specs.Step.{IndexPackage}
use Rattle.installable.specs.Answers.{IsAnsweredBy, IsNameRefusal, IsPackageAnswer, IsPackageRefusal, IsRefusedAmong, IsRefusedFor, beside_in, names_of}
use Rattle.installable.specs.Asked.{AreAsked, first_missing, is_asked}
use Rattle.installable.specs.Shard.{IsShardOf}
use Rattle.installable.specs.declared.question.Installable.{Installable}
use Rattle.installable.proofs.question.Installable.over.Goals as goal
use mathlib.Core.Logic.{inl, inr}

-- the stanzas that are asked about
asked_in : (before : Before) (question : Installable) (slice ordered asked : List IndexPackage)
    → first_missing (indices_of before.indices.now) (names_of question) ≡ None
    → IsOrdered (filter (is_asked (names_of question)) (all_listed (indices_of before.indices.now))) ordered → slice ≡ ordered
    → IsShardOf question.shard slice asked → AreAsked (indices_of before.indices.now) (names_of question) question.shard asked
asked_in before question slice ordered asked named is same part = record {
  named = named;
  ordered = ordered;
  is_ordered = is;
  is_shard = subst (λ (all : List IndexPackage). IsShardOf question.shard all asked) same part;
}

-- what is refused: the request of the lines beside each package by itself, or beside that of one of them
abbrev Refuses : Texts → Installable → Refusal → Type 0
Refuses texts question refused = IsRefusalBefore texts refused ⊎ (IsNameRefusal texts question refused ⊎ IsPackageRefusal texts question refused)

-- which request is refused
refused_in : (texts : Texts) (before : Before) (question : Installable) (text beside : List ℕ) (slice asked : List IndexPackage) (refused : Refusal)
    → HasIndices texts (indices_of before.indices.now) → AreAsked (indices_of before.indices.now) (names_of question) question.shard asked
    → slice ≡ asked → text ≡ beside → beside ≡ beside_in question (indices_of before.indices.now)
    → IsRefusedAmong texts text slice refused → Refuses texts question refused
refused_in texts before question text beside slice asked refused indexed are same read is (inl before_all) = inl before_all
refused_in texts before question text beside slice asked refused indexed are same read is (inr some) = inr (inr (record {
  indices = indices_of before.indices.now;
  asked = asked;
  indexed = indexed;
  asked_are = are;
  refused_so = inr (subst (λ (lines : List ℕ). Any (IsRefusedFor texts lines refused) asked) (read ∙ is)
      (subst (λ (all : List IndexPackage). Any (IsRefusedFor texts text refused) all) same some));
}))

-- the request by itself is refused
base_refused : (texts : Texts) (before : Before) (question : Installable) (text beside : List ℕ) (asked : List IndexPackage) (refused : Refusal)
    → HasIndices texts (indices_of before.indices.now) → AreAsked (indices_of before.indices.now) (names_of question) question.shard asked
    → text ≡ beside → beside ≡ beside_in question (indices_of before.indices.now)
    → IsRefusal (asking text texts) refused → Refuses texts question refused
base_refused texts before question text beside asked refused indexed are read is base = inr (inr (record {
  indices = indices_of before.indices.now;
  asked = asked;
  indexed = indexed;
  asked_are = are;
  refused_so = inl (subst (λ (lines : List ℕ). IsRefusal (asking lines texts) refused) (read ∙ is) base);
}))

pub returns-in_err-base-clause-said : goal.returns-in_err-base-clause-said
returns-in_err-base-clause-said g c = λ texts read.
    let before = c.args.before.now in
    let question = c.args.self.now in
    let p = err_from_is_err_and c.from_residual-in_err-base.result c.from_residual-in_err-base.ensures.1 in
    rw (p.1, p.2) (base_refused texts before question c.as_slice-2.result.now c.in_ok-beside.beside.items
    c.in_ok-asked.asked.items c.in_err-base.field-0.0 read.read.listed.indexed
    (asked_in before question c.as_slice.result.now c.in_ok-ordered.ordered.items c.in_ok-asked.asked.items c.in_ok-check_names.ensures.none
    c.in_ok-ordered.ensures c.as_slice.ensures.value c.in_ok-asked.ensures) c.as_slice-2.ensures.value c.in_ok-beside.ensures
    (c.in_err-base.ensures.refused texts read))

pub returns-in_err-answers-clause-read : goal.returns-in_err-answers-clause-read
returns-in_err-answers-clause-read g c =
    let p = err_from_is_err_and c.from_residual-in_err-answers.result c.from_residual-in_err-answers.ensures.1 in
    let read = c.in_err-answers.ensures.read in
    rw (p.1, p.2) (record { same = read.same; count = read.count; held = read.held })

pub returns-in_err-answers-clause-said : goal.returns-in_err-answers-clause-said
returns-in_err-answers-clause-said g c = λ texts read.
    let before = c.args.before.now in
    let question = c.args.self.now in
    let p = err_from_is_err_and c.from_residual-in_err-answers.result c.from_residual-in_err-answers.ensures.1 in
    rw (p.1, p.2) (refused_in texts before question c.as_slice-4.result.now c.in_ok-beside.beside.items c.as_slice-3.result.now
    c.in_ok-asked.asked.items c.in_err-answers.field-0.0 read.read.listed.indexed
    (asked_in before question c.as_slice.result.now c.in_ok-ordered.ordered.items c.in_ok-asked.asked.items c.in_ok-check_names.ensures.none
    c.in_ok-ordered.ensures c.as_slice.ensures.value c.in_ok-asked.ensures) c.as_slice-3.ensures.value c.as_slice-4.ensures.value
    c.in_ok-beside.ensures (c.in_err-answers.ensures.refused texts read))

pub returns-clause-said : goal.returns-clause-said
returns-clause-said g c = λ texts read.
    let before = c.args.before.now in
    let question = c.args.self.now in
    let answers = c.in_ok-answers.answers.items in
    let base = c.in_ok-base.base in
    record {
      indices = indices_of before.indices.now;
      asked = c.in_ok-asked.asked.items;
      indexed = read.read.listed.indexed;
      asked_are = asked_in before question c.as_slice.result.now c.in_ok-ordered.ordered.items c.in_ok-asked.asked.items
          c.in_ok-check_names.ensures.none c.in_ok-ordered.ensures c.as_slice.ensures.value c.in_ok-asked.ensures;
      base_is = subst (λ (beside : List ℕ). IsAnsweredBy texts beside question.limit base)
          (c.as_slice-2.ensures.value ∙ c.in_ok-beside.ensures) (c.in_ok-base.ensures.said texts read);
      answers_are = rw c.new.ensures (subst (λ (beside : List ℕ). AllZip (IsPackageAnswer texts question.limit beside) c.in_ok-asked.asked.items answers)
          (c.as_slice-4.ensures.value ∙ c.in_ok-beside.ensures)
          (subst (λ (asked : List IndexPackage). AllZip (IsPackageAnswer texts question.limit c.as_slice-4.result.now) asked answers)
          c.as_slice-3.ensures.value (c.in_ok-answers.ensures.said texts read)));
    }
