-- The reply of what is said.
use Rattle.std.proofs.Common.{◌≡◌, Err, Global, IfOk, List, None, Ok, Result, Some, Vec, refl, subst, ℕ}
use Rattle.candidates.specs.Inputs.{indices_of}
use Rattle.cli.proofs.AgainLemmas.{archives_none}
use Rattle.cli.proofs.ResultLemmas.{if_ok}
use Rattle.cli.specs.Again.{ArchiveOf, archives_by, no_archives}
use Rattle.refusal_lines.specs.Lines.{refusal_words}
use Rattle.cli.specs.Batch.{IsRefusedIn, IsReplyOf, IsReplyWhere, with_id}
use Rattle.json_answers.specs.Document.{IsLineOf, object_with}
use Rattle.inputs.proofs.ReadAsLemmas.{read-asking}
use Rattle.inputs.specs.ReadAs.{AreReadAs, asking, start_of}
use Rattle.inputs.specs.Inputs.{shelved}
use Rattle.inputs.specs.Texts.{Found, Shelved, Texts, texts_of}
use Rattle.inputs.specs.declared.inputs.Inputs.{Inputs}
use Rattle.inputs.specs.declared.settings.Settings.{Settings}
use Rattle.inputs.specs.declared.before.Before.{Before}
use Rattle.inputs.specs.declared.refusal.Refusal.{Refusal}
use Rattle.serde_json.specs.Data.{Data, Members}

-- what is read before a request is read so with another request
pub read_before : (texts : Texts) (before : Before) (request : List ℕ) → AreReadAs texts before → AreReadAs (asking request texts) before
read_before texts before request read = record {
  arch = read.arch;
  read = read-asking texts request (start_of before) (indices_of before.indices.now) before.prefs.now read.read;
  status_is = read.status_is;
  named = record {
    sources = read.named.sources;
    sources_are = read.named.sources_are;
    files_are = read.named.files_are;
  };
}

-- where no index is found, what holds of the archives holds of none
pub nothing_again : (P : ArchiveOf → Type 0) (settings : Settings) (inputs : Inputs) (judged : Found)
    → ((number : ℕ) (file : List ℕ) → (shelved inputs judged).index number file ≡ None)
    → ((at : Shelved) → Some (shelved inputs judged) ≡ Some at → P (archives_by (texts_of settings at))) → P no_archives
nothing_again P settings inputs judged none is =
    subst P (archives_none (texts_of settings (shelved inputs judged)) none) (is (shelved inputs judged) refl)

-- a document of such members and of the value is such a reply
pub reply_beside : {E : Type 0} (id : Data) (text : List ℕ) (Are : Members → Type 0) (all : Members) (r : Result (Vec ℕ Global) E)
    → Are all → IfOk r (λ reply. IsLineOf (object_with text (with_id id all)) reply.items)
    → IfOk r (λ reply. IsReplyOf id text Are reply.items)
reply_beside id text Are all r are made =
    if_ok r (λ reply. IsLineOf (object_with text (with_id id all)) reply.items) (λ reply. IsReplyOf id text Are reply.items)
    (λ reply is. (all, are, is)) made

module _ {A E : Type 0} (id : Data) (Says : Result A Refusal → Type 0) (text_of : A → List ℕ) (AreOf : A → Members → Type 0) where
  -- the reply of an answer that is said
  pub replied_ok : (said : Result A Refusal) (answer : A) (r : Result (Vec ℕ Global) E) → said ≡ Ok answer → Says said
      → IfOk r (λ reply. IsReplyOf id (text_of answer) (AreOf answer) reply.items)
      → IfOk r (λ reply. IsReplyWhere id Says text_of AreOf reply.items)
  replied_ok said answer r is says made =
      if_ok r (λ reply. IsReplyOf id (text_of answer) (AreOf answer) reply.items)
      (λ reply. IsReplyWhere id Says text_of AreOf reply.items)
      (λ reply replies. (Ok answer, subst Says is says, replies)) made

  -- the reply of a refusal that is said
  pub replied_err : (said : Result A Refusal) (refused : Refusal) (r : Result (Vec ℕ Global) E) → said ≡ Err refused → Says said
      → IfOk r (λ reply. IsRefusedIn id (refusal_words refused) reply.items) → IfOk r (λ reply. IsReplyWhere id Says text_of AreOf reply.items)
  replied_err said refused r is says made =
      if_ok r (λ reply. IsRefusedIn id (refusal_words refused) reply.items) (λ reply. IsReplyWhere id Says text_of AreOf reply.items)
      (λ reply replies. (Err refused, subst Says is says, replies)) made
