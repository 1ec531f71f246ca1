-- The texts of all wanted stanzas are those of the steps.
use Rattle.std.proofs.Common.{◌≡◌, ◌<◌, ◌∙◌, ℕ, Bor, List, Option, None, length, map, replicate, ap, sym, subst}
use Rattle.std.proofs.lemmas.List.{length-replicate}
use Rattle.std.proofs.lemmas.List.Sorted.{All-permutation, IsPermutation-sym}
use Rattle.std.proofs.lemmas.Result.{err_from_is_err_and}
use Rattle.unpack_texts.specs.Filled.{IsFilled}
use Rattle.unpack_texts.specs.Opened.{Belongs, IsGroupRefusal}
use Rattle.unpack_texts.specs.Wanted.{AreWithin, WantedStanza}
use Rattle.unpack_texts.proofs.FilledLemmas.{filled_permuted}
use Rattle.unpack_texts.proofs.RefusalLemmas.{refused_permuted, refused_step}
use Rattle.unpack_texts.proofs.TextLemmas.{all_texts}
use Rattle.unpack_texts.proofs.WantedLemmas.{within_plan}
use Rattle.unpack_texts.proofs.texts.fetch_texts.Goals as goal

pub fetch_all-requires : goal.fetch_all-requires
fetch_all-requires g c = record {
  within = rw c.as_slice.ensures.value (
      let size : length c.in_ok-texts.texts.items ≡ length c.args.steps.now = ap length c.in_ok-texts.ensures ∙ length-replicate (length c.args.steps.now) None in
      subst (λ (n : ℕ). AreWithin n c.in_ok-wanted.wanted.items) (sym size)
      (All-permutation (λ one. one.step < length c.args.steps.now) c.in_ok-wanted_by.field-0.items c.in_ok-wanted.wanted.items c.in_ok-wanted.ensures
      (within_plan c.args.universe.now c.args.steps.now c.in_ok-wanted_by.field-0.items c.in_ok-wanted_by.ensures.each)));
}

pub returns-in_err-fetch_all-clause-refused : goal.returns-in_err-fetch_all-clause-refused
returns-in_err-fetch_all-clause-refused g c at known =
    let files = map (λ (file : Bor (List ℕ)). file.now) c.args.files.now in
    let listed = c.in_ok-wanted_by.field-0.items in
    let ordered = c.in_ok-wanted.wanted.items in
    let p = err_from_is_err_and c.from_residual-in_err-fetch_all.result c.from_residual-in_err-fetch_all.ensures.1 in
    rw (p.1, p.2) (refused_step c.args.arch.now at.index files c.args.universe.now c.args.steps.now listed _ c.in_ok-wanted_by.ensures
    (refused_permuted c.args.arch.now at.index files ordered listed _ (IsPermutation-sym listed ordered c.in_ok-wanted.ensures)
    (subst (λ (l : List WantedStanza). IsGroupRefusal c.args.arch.now at.index files l c.in_err-fetch_all.field-0.0) c.as_slice.ensures.value
    (c.in_err-fetch_all.ensures.refused at known))))

pub returns-clause-texts : goal.returns-clause-texts
returns-clause-texts g c at known =
    let files = map (λ (file : Bor (List ℕ)). file.now) c.args.files.now in
    let B = Belongs c.args.arch.now at.index files in
    let listed = c.in_ok-wanted_by.field-0.items in
    let ordered = c.in_ok-wanted.wanted.items in
    let steps = c.args.steps.now in
    let places = c.fetch_all.new.texts.items in
    let empty = c.in_ok-texts.ensures in
    let put : IsFilled B listed (replicate (length steps) None) places =
    subst (λ (old : List (Option (List ℕ))). IsFilled B listed old places) empty
    (filled_permuted B ordered listed c.in_ok-texts.texts.items places (IsPermutation-sym listed ordered c.in_ok-wanted.ensures)
    (subst (λ (l : List WantedStanza). IsFilled B l c.in_ok-texts.texts.items places) c.as_slice.ensures.value (c.in_ok-fetch_all.ensures.filled at known))) in
    all_texts c.args.arch.now at.index files c.args.universe.now steps listed places c.in_ok-wanted_by.ensures put
    (put.size ∙ length-replicate (length steps) None)
