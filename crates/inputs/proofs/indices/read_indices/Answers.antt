-- The indices that were read are those of the sources, and the first refusal of them is that of all texts.
use Rattle.inputs.specs.Texts.{texts_of}
use Rattle.inputs.proofs.DenoteLemmas.{index_refused}
use Rattle.inputs.proofs.indices.read_indices.Goals as goal

pub returns-in-Ok-clause-ok : goal.returns-in-Ok-clause-ok
returns-in-Ok-clause-ok g c = λ at known named. record {
  sources = c.args.sources.items;
  sources_are = named;
  indices_are = c.in-Ok.ensures.ok at known;
}

pub returns-in-Err-clause-refused : goal.returns-in-Err-clause-refused
returns-in-Err-clause-refused g c = λ at known named status.
    index_refused (texts_of c.args.settings.now at) c.args.sources.items c.in-Err.refused status named (c.in-Err.ensures.refused at known)
