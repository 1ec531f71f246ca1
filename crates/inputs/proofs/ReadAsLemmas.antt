-- What is lent is what was read; what is read before a request is read alike whatever the request is.
use Rattle.std.proofs.Common.{◌≡◌, ◌∙◌, ℕ, List, Some, ap, refl, subst, sym}
use Rattle.candidates.specs.Inputs.{indices_of}
use Rattle.index.specs.Index.{ReadIndex, ReadStanzas}
use Rattle.pins.specs.Prefs.{Preferences}
use Rattle.rules.specs.Available.{Index}
use Rattle.rules.specs.Database.{Record}
use Rattle.rules.specs.declared.release.Release.{Release}
use Rattle.inputs.specs.Before.{AreListed, AreRead, HasIndices, HasStart}
use Rattle.inputs.specs.Indices.{released}
use Rattle.inputs.specs.Meaning.{IsRequestFault, request_in}
use Rattle.inputs.specs.ReadAs.{AreReadAs, asking, start_of}
use Rattle.inputs.specs.Reading.{IsPlaced, IsUnread, OrMemory}
use Rattle.inputs.specs.Refused.{IsRefusal}
use Rattle.inputs.specs.Texts.{Found, Texts}
use Rattle.inputs.specs.declared.before.Before.{Before}
use Rattle.inputs.specs.declared.refusal.Fault.{Fault}
use Rattle.inputs.specs.declared.refusal.Input.TheVariants as place
use Rattle.inputs.specs.declared.refusal.Refusal.{Refusal}
use mathlib.Core.Logic.{inl, inr}

-- What is lent

-- the indices are those that were kept, where they are lent
pub lent_indexed : (texts : Texts) (releases : List Release) (kept lent : List ReadStanzas) → HasIndices texts (released releases kept)
    → lent ≡ kept → HasIndices texts (released releases lent)
lent_indexed texts releases kept lent indexed lends = subst (λ (ks : List ReadStanzas). HasIndices texts (released releases ks)) (sym lends) indexed

-- the start and the indices that are made of what is lent
pub lent_listed : (texts : Texts) (start : List Record) (releases : List Release) (lent : List ReadStanzas) (made view : List ReadIndex)
    → HasStart texts start → HasIndices texts (released releases lent) → indices_of made ≡ released releases lent → view ≡ made
    → AreListed texts start (indices_of view)
lent_listed texts start releases lent made view started indexed makes views = record {
  started = started;
  indexed = subst (HasIndices texts) (sym (ap indices_of views ∙ makes)) indexed;
}

-- Requests in the place of another

-- the texts with their own request are the texts
pub asking-same : (texts : Texts) (request : List ℕ) → texts.request ≡ Some request → asking request texts ≡ texts
asking-same texts request there = ap (λ (text : Found). record {
  arch = texts.arch;
  target = texts.target;
  status = texts.status;
  sources = texts.sources;
  index = texts.index;
  preferences = texts.preferences;
  request = text;
}) (sym there)

-- the indices are read alike, whatever the request is
pub indexed-asking : (texts : Texts) (request : List ℕ) (indices : List Index) → HasIndices texts indices
    → HasIndices (asking request texts) indices
indexed-asking texts request indices is = record {
  sources = is.sources;
  sources_are = is.sources_are;
  indices_are = is.indices_are;
}

-- the texts before the request are read alike, whatever the request is
pub read-asking : (texts : Texts) (request : List ℕ) (start : List Record) (indices : List Index) (prefs : Preferences)
    → AreRead texts start indices prefs → AreRead (asking request texts) start indices prefs
read-asking texts request start indices prefs is = record {
  listed = record {
    started = record {
      slots = is.listed.started.slots;
      status = is.listed.started.status;
      start_is = is.listed.started.start_is;
    };
    indexed = indexed-asking texts request indices is.listed.indexed;
  };
  preferred = is.preferred;
}

-- a fault of the request is a refusal of the texts with it
pub request-refused : (texts : Texts) (before : Before) (request : List ℕ) (records : List Record) (reason : Fault) (refused : Refusal)
    → AreReadAs texts before → records ≡ start_of before
    → OrMemory (IsRequestFault before.settings.now.arch.now (Some request) records (indices_of before.indices.now) before.prefs.now) reason
    → IsPlaced place.Request reason refused → IsRefusal (asking request texts) refused
request-refused texts before request records reason refused read same is (inl wanting) =
    subst (IsRefusal (asking request texts)) (sym wanting.1) (inl refl)
request-refused texts before request records reason refused read same (inl memory) (inr placed) = absurd (placed.0 memory)
request-refused texts before request records reason refused read same (inr is) (inr placed) =
    subst (IsRefusal (asking request texts)) (sym placed.1) (inr (record {
      place = refl;
      asked = record {
        start = start_of before;
        indices = indices_of before.indices.now;
        prefs = before.prefs.now;
        read = read-asking texts request (start_of before) (indices_of before.indices.now) before.prefs.now read.read;
        refused = subst (λ (arch : List ℕ). IsRequestFault arch (Some request) (start_of before) (indices_of before.indices.now) before.prefs.now reason)
            (sym read.arch)
            (subst (λ (start : List Record). IsRequestFault before.settings.now.arch.now (Some request) start (indices_of before.indices.now) before.prefs.now reason)
            same is);
      };
    }))

-- a request that can't be read is the first refusal, where the texts before it are read
pub unread-request : (texts : Texts) (before : Before) (refused : Refusal) → AreReadAs texts before
    → IsUnread place.Request texts.request refused → IsRefusal texts refused
unread-request texts before refused read (inl is) = subst (IsRefusal texts) (sym is.1) (inr (record {
  place = refl;
  asked = record {
    start = start_of before;
    indices = indices_of before.indices.now;
    prefs = before.prefs.now;
    read = read.read;
    refused = inl (ap (request_in texts.arch) is.0);
  };
}))
unread-request texts before refused read (inr wanting) = subst (IsRefusal texts) (sym wanting) (inl refl)
