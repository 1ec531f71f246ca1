-- The texts of one more index are put at their places.
use Rattle.std.proofs.Common.{◌≡◌, inl, inr, ◌∙◌, ℕ, Bor, List, length, map, take, drop, ap, sym, subst, arith}
use Rattle.std.specs.List.{Any}
use Rattle.std.proofs.lemmas.List.{length-drop, take-append-drop}
use Rattle.std.proofs.lemmas.Result.{err_from_is_err_and}
use Rattle.inputs.specs.Texts.{Found}
use Rattle.inputs.specs.declared.refusal.Refusal.{Refusal}
use Rattle.inputs.proofs.ReadByLemmas.{answered, read_on}
use Rattle.rules.specs.ElementLaws.{Any-append_left, Any-append_right}
use Rattle.unpack_texts.specs.Filled.{IsFilled}
use Rattle.unpack_texts.specs.Opened.{Belongs, IsGroupRefusal}
use Rattle.unpack_texts.specs.Texts.{IsStanzaRefusal}
use Rattle.unpack_texts.specs.Wanted.{WantedStanza}
use Rattle.unpack_texts.proofs.FilledLemmas.{filled_then, take_both}
use Rattle.unpack_texts.proofs.texts.fetch_all.Goals as goal

-- what is refused of some of the stanzas is refused of all
of_all : (arch : List ℕ) (index_texts : ℕ → List ℕ → Found) (files : List (List ℕ)) (wanted : List WantedStanza) (at count : ℕ) (refused : Refusal)
    → IsGroupRefusal arch index_texts files (take count (drop at wanted)) refused → IsGroupRefusal arch index_texts files wanted refused
of_all arch index_texts files wanted at count refused (inl memory) = inl memory
of_all arch index_texts files wanted at count refused (inr some) =
    let P : WantedStanza → Type 0 = λ one. IsStanzaRefusal arch index_texts files one.listed refused in
    inr (subst (λ (l : List WantedStanza). Any P l) (take-append-drop at wanted) (Any-append_right P (take at wanted) (drop at wanted)
    (subst (λ (l : List WantedStanza). Any P l) (take-append-drop count (drop at wanted))
    (Any-append_left P (take count (drop at wanted)) (drop count (drop at wanted)) some))))

pub returns-in_err-fetch_group-clause-refused : goal.returns-in_err-fetch_group-clause-refused
returns-in_err-fetch_group-clause-refused g c at known =
    let files = map (λ (file : Bor (List ℕ)). file.now) c.args.files.now in
    let count = c.count_of_first-count.result in
    let group : c.split_at-in-loop-at.result.0.now ≡ take count (drop c.loop-at.at c.args.wanted.now) =
    c.split_at-in-loop-at.ensures.front ∙ ap (take count) c.split_at.ensures.back in
    let p = err_from_is_err_and c.from_residual.result c.from_residual.ensures.1 in
    rw (p.1, p.2) (of_all c.args.arch.now at.index files c.args.wanted.now c.loop-at.at count _
    (subst (λ (l : List WantedStanza). IsGroupRefusal c.args.arch.now at.index files l c.in_err-fetch_group.field-0.0) group
    (c.in_err-fetch_group.ensures.refused at (c.loop-at.invariant.read.same ∙ known))))

pub loop-at-preserved : goal.loop-at-preserved
loop-at-preserved g c =
    let count = c.count_of_first-count.result in
    let wanted = c.args.wanted.now in
    let group : c.split_at-in-loop-at.result.0.now ≡ take count (drop c.loop-at.at wanted) =
    c.split_at-in-loop-at.ensures.front ∙ ap (take count) c.split_at.ensures.back in
    let done = c.in_ok-fetch_group.ensures in
    record {
      within = omega (arith, c.count_of_first-count.ensures.within, ap length c.split_at.ensures.back, length-drop c.loop-at.at wanted, c.loop-at-test.true);
      size = done.size ∙ c.loop-at.invariant.size;
      filled = λ at known. (let B = Belongs c.args.arch.now at.index (map (λ (file : Bor (List ℕ)). file.now) c.args.files.now) in
          subst (λ (l : List WantedStanza). IsFilled B l c.args.texts.now.items c.fetch_group.new.texts.items) (sym (take_both c.loop-at.at count wanted))
          (filled_then B (take c.loop-at.at wanted) (take count (drop c.loop-at.at wanted)) c.args.texts.now.items c.loop-at.texts.items c.fetch_group.new.texts.items
          (c.loop-at.invariant.filled at known)
          (subst (λ (l : List WantedStanza). IsFilled B l c.loop-at.texts.items c.fetch_group.new.texts.items) group (done.filled at (c.loop-at.invariant.read.same ∙ known)))));
      read = answered (read_on g.met.S.Shelf.holds_on c.loop-at.invariant.read done.read);
    }
