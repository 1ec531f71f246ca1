-- What is printed is written, and what is left is left by it; or memory was wanting, and then nothing stands on standard output.
use Rattle.std.proofs.Common.{Global, IsErr, Vec, codes, inl, inr, map, refl, rules, subst, ℕ}
use Rattle.cli.proofs.JournalLemmas.{journals_kept}
use Rattle.cli.proofs.ToldLemmas.{err_says, memory_written, outcome_left, outcome_told, status_left, status_told, untold_left}
use Rattle.cli.specs.Words.{IsLeftOfWords, IsOutcomeOfWords}
use Rattle.conversation.specs.Stream.{written_on}
use Rattle.outcomes.specs.Outcome.{IsWritten, Streams, streams_on}
use Rattle.outcomes.specs.declared.exit.Exit.TheVariants as exit
use Rattle.outcomes.specs.declared.outcome.Outcome.TheVariants as outcome
use Rattle.cli.proofs.program.run.Goals as goal

pub returns-in-Ok-Outcome-clause-printed : goal.returns-in-Ok-Outcome-clause-printed
returns-in-Ok-Outcome-clause-printed g c =
    let words = map (λ (word : Vec ℕ Global). word.items) c.args.words.now in
    let outcome = c.in-Ok-Outcome.outcome in
    let told = outcome_told c.told_of_words.result c.in-Ok-Outcome.field-0 outcome (IsOutcomeOfWords (g.H.Host.files c.args.host.now) words)
    (streams_on g.W.Write.contents g.E.Write.contents c.args.out.now c.args.err.now) (streams_on g.W.Write.contents g.E.Write.contents c.told_of_words.new.out c.told_of_words.new.err) c.in-Ok-Outcome.is c.in-Ok-Outcome.field-0-is
    c.told_of_words.ensures.printed in (
      outcome,
      inl told.0,
      subst (λ (old : Streams). IsWritten outcome old (streams_on g.W.Write.contents g.E.Write.contents c.print.new.out c.print.new.err) c.print.result) told.1 c.print.ensures,
    )

pub returns-in-Ok-Outcome-clause-left : goal.returns-in-Ok-Outcome-clause-left
returns-in-Ok-Outcome-clause-left g c at was f k =
    let words = map (λ (word : Vec ℕ Global). word.items) c.args.words.now in
    let old = streams_on g.W.Write.contents g.E.Write.contents c.args.out.now c.args.err.now in
    let then = streams_on g.W.Write.contents g.E.Write.contents c.told_of_words.new.out c.told_of_words.new.err in
    let outcome = c.in-Ok-Outcome.outcome in
    let told = outcome_told c.told_of_words.result c.in-Ok-Outcome.field-0 outcome (IsOutcomeOfWords (g.H.Host.files c.args.host.now) words)
    old then c.in-Ok-Outcome.is c.in-Ok-Outcome.field-0-is c.told_of_words.ensures.printed in (
      outcome,
      inl (outcome_left at was (g.H.Host.files c.told_of_words.new.host) (g.H.Host.kept c.told_of_words.new.host) old then
          (IsLeftOfWords g.H.Journal.Disk.honest g.H.Journal.Disk.facts words at was) c.told_of_words.result c.in-Ok-Outcome.field-0 outcome
          c.in-Ok-Outcome.is c.in-Ok-Outcome.field-0-is (c.told_of_words.ensures.left at was f k)),
      subst (λ (o : Streams). IsWritten outcome o (streams_on g.W.Write.contents g.E.Write.contents c.print.new.out c.print.new.err) c.print.result) told.1 c.print.ensures,
    )

pub returns-in-Ok-Status-clause-printed : goal.returns-in-Ok-Status-clause-printed
returns-in-Ok-Status-clause-printed g c =
    let words = map (λ (word : Vec ℕ Global). word.items) c.args.words.now in
    status_told c.told_of_words.result c.in-Ok-Status.field-0 c.in-Ok-Status.status (IsOutcomeOfWords (g.H.Host.files c.args.host.now) words)
    (streams_on g.W.Write.contents g.E.Write.contents c.args.out.now c.args.err.now) (streams_on g.W.Write.contents g.E.Write.contents c.told_of_words.new.out c.told_of_words.new.err) c.in-Ok-Status.is c.in-Ok-Status.field-0-is
    c.told_of_words.ensures.printed

pub returns-in-Ok-Status-clause-left : goal.returns-in-Ok-Status-clause-left
returns-in-Ok-Status-clause-left g c at was f k =
    let words = map (λ (word : Vec ℕ Global). word.items) c.args.words.now in
    status_left at was (g.H.Host.files c.told_of_words.new.host) (g.H.Host.kept c.told_of_words.new.host) (streams_on g.W.Write.contents g.E.Write.contents c.args.out.now c.args.err.now)
    (streams_on g.W.Write.contents g.E.Write.contents c.told_of_words.new.out c.told_of_words.new.err) (IsLeftOfWords g.H.Journal.Disk.honest g.H.Journal.Disk.facts words at was)
    c.told_of_words.result c.in-Ok-Status.field-0 c.in-Ok-Status.status c.in-Ok-Status.is c.in-Ok-Status.field-0-is
    (c.told_of_words.ensures.left at was f k)

pub returns-clause-printed : goal.returns-clause-printed
returns-clause-printed g c =
    let failed : IsErr c.told_of_words.result = search rules in (
      outcome.Complaint (codes "debplan: memory: E1 OutOfMemory\n") exit.Device,
      inr refl,
      memory_written (streams_on g.W.Write.contents g.E.Write.contents c.args.out.now c.args.err.now)
          (streams_on g.W.Write.contents g.E.Write.contents c.told_of_words.new.out c.told_of_words.new.err)
          (written_on g.E.Write.contents c.refuse_for_memory.new.err) c.refuse_for_memory.result c.refuse_for_memory.ensures.status
          (err_says c.told_of_words.result _ failed c.told_of_words.ensures.unwritten) c.refuse_for_memory.ensures.said,
    )

pub returns-clause-left : goal.returns-clause-left
returns-clause-left g c at was f k =
    let words = map (λ (word : Vec ℕ Global). word.items) c.args.words.now in
    let failed : IsErr c.told_of_words.result = search rules in (
      outcome.Complaint (codes "debplan: memory: E1 OutOfMemory\n") exit.Device,
      inr (
        refl,
        untold_left at was _ _ _ _ (IsLeftOfWords g.H.Journal.Disk.honest g.H.Journal.Disk.facts words at was) c.told_of_words.result failed
            (c.told_of_words.ensures.left at was f k),
      ),
      memory_written (streams_on g.W.Write.contents g.E.Write.contents c.args.out.now c.args.err.now)
          (streams_on g.W.Write.contents g.E.Write.contents c.told_of_words.new.out c.told_of_words.new.err)
          (written_on g.E.Write.contents c.refuse_for_memory.new.err) c.refuse_for_memory.result c.refuse_for_memory.ensures.status
          (err_says c.told_of_words.result _ failed c.told_of_words.ensures.unwritten) c.refuse_for_memory.ensures.said,
    )

pub returns-in-Ok-Outcome-clause-journals : goal.returns-in-Ok-Outcome-clause-journals
returns-in-Ok-Outcome-clause-journals g c at was f k =
    let left = returns-in-Ok-Outcome-clause-left g c at was f k in
    journals_kept g.H.Journal.Disk.honest g.H.Journal.Disk.facts (map (λ (word : Vec ℕ Global). word.items) c.args.words.now) at was left.0
    (g.H.Host.files c.told_of_words.new.host) (g.H.Host.kept c.told_of_words.new.host) left.1

pub returns-in-Ok-Status-clause-journals : goal.returns-in-Ok-Status-clause-journals
returns-in-Ok-Status-clause-journals g c at was f k =
    let left = returns-in-Ok-Status-clause-left g c at was f k in
    journals_kept g.H.Journal.Disk.honest g.H.Journal.Disk.facts (map (λ (word : Vec ℕ Global). word.items) c.args.words.now) at was left.0
    (g.H.Host.files c.told_of_words.new.host) (g.H.Host.kept c.told_of_words.new.host) left.1

pub returns-clause-journals : goal.returns-clause-journals
returns-clause-journals g c at was f k =
    let left = returns-clause-left g c at was f k in
    journals_kept g.H.Journal.Disk.honest g.H.Journal.Disk.facts (map (λ (word : Vec ℕ Global). word.items) c.args.words.now) at was left.0
    (g.H.Host.files c.told_of_words.new.host) (g.H.Host.kept c.told_of_words.new.host) left.1
