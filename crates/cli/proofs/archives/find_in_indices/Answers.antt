-- Each turn reads one index more; where all archives are found, or an index isn't there, nothing more is found.
use Rattle.std.proofs.Common.{◌∙◌, ◌+◌, Bool, drop, refl, subst, sym, arith}
use Rattle.cli.proofs.AgainLemmas.{archives_found, index_missing, index_read, indices_read, next_file}
use Rattle.cli.proofs.archives.find_in_indices.Goals as goal
use Rattle.cli.specs.Again.{IsReadAgain, stanzas_from}
use Rattle.inputs.specs.ReadAs.{files_of}
use Rattle.json_answers.specs.Archives.{found_also}

pub loop-source-init : goal.loop-source-init
loop-source-init g c = record {
  number = refl;
  same = refl;
  held = g.met.S.Shelf.holds_still c.args.shelf.now;
  so_far = λ at known. refl;
}

pub returns-then-is_complete-clause-archives : goal.returns-then-is_complete-clause-archives
returns-then-is_complete-clause-archives g c at known =
    let w = c.loop-source in
    let files = files_of (drop w.source-index c.args.sources.now) in
    archives_found c.args.arch.now at.index (w.number + 1)
    (found_also c.args.arch.now (stanzas_from at.index 1 (files_of c.args.sources.now)) c.args.archives.now)
    (stanzas_from at.index (w.number + 1) files) w.archives (sym c.is_complete.ensures ∙ c.if-is_complete.true) (w.invariant.so_far at known)

pub returns-then-not-branch-clause-archives : goal.returns-then-not-branch-clause-archives
returns-then-not-branch-clause-archives g c at known =
    let w = c.loop-source in
    let files = files_of (drop w.source-index c.args.sources.now) in
    let missing = subst (λ (there : Bool). IsReadAgain c.args.arch.now (at.index (w.number + 1) c.file.result.now) there w.archives c.find_in_index.new.archives)
    c.if-not-branch.true (c.in_ok-find_in_index.ensures.archives at (w.invariant.same ∙ known)) in
    index_missing c.args.arch.now at.index (w.number + 1)
    (found_also c.args.arch.now (stanzas_from at.index 1 (files_of c.args.sources.now)) c.args.archives.now)
    files (files_of (drop (w.source-index + 1) c.args.sources.now)) c.file.result.now w.archives c.find_in_index.new.archives
    (next_file c.args.sources.now w.source-index c.source-item.result c.file.result.now c.loop-source-test.true c.source-item.is c.file.ensures)
    missing.0 missing.1 (w.invariant.so_far at known)

pub loop-source-preserved : goal.loop-source-preserved
loop-source-preserved g c =
    let w = c.loop-source in
    let files = files_of (drop w.source-index c.args.sources.now) in
    record {
      number = omega (arith, w.invariant.number);
      same = c.in_ok-find_in_index.ensures.same ∙ w.invariant.same;
      held = g.met.S.Shelf.holds_on c.args.shelf.now w.shelf c.find_in_index.new.shelf w.invariant.held c.in_ok-find_in_index.ensures.held;
      so_far = λ at known. (
          let there = subst (λ (there : Bool). IsReadAgain c.args.arch.now (at.index (w.number + 1) c.file.result.now) there w.archives c.find_in_index.new.archives)
          c.if-not-branch.false (c.in_ok-find_in_index.ensures.archives at (w.invariant.same ∙ known)) in
          index_read c.args.arch.now at.index (w.number + 1)
          (found_also c.args.arch.now (stanzas_from at.index 1 (files_of c.args.sources.now)) c.args.archives.now)
          files (files_of (drop (w.source-index + 1) c.args.sources.now)) c.file.result.now there.0 w.archives c.find_in_index.new.archives
          (next_file c.args.sources.now w.source-index c.source-item.result c.file.result.now c.loop-source-test.true c.source-item.is c.file.ensures)
          there.1 there.2 (w.invariant.so_far at known));
    }

pub returns-clause-archives : goal.returns-clause-archives
returns-clause-archives g c at known =
    let w = c.loop-source in
    indices_read c.args.arch.now at.index (w.number + 1)
    (found_also c.args.arch.now (stanzas_from at.index 1 (files_of c.args.sources.now)) c.args.archives.now)
    c.args.sources.now w.source-index w.archives c.loop-source-test.false (w.invariant.so_far at known)
