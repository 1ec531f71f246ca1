-- A text that can't be read is the first refusal, where those before it are read.
use Rattle.std.proofs.Common.{refl, sym, ap, subst}
use Rattle.inputs.specs.Before.{HasStatus, IsRefusalBefore}
use Rattle.inputs.specs.Reading.{IsUnread}
use Rattle.inputs.specs.Texts.{Shelved, read_found, sources_in, status_in, texts_of}
use Rattle.inputs.specs.declared.refusal.Input.TheVariants as place
use Rattle.inputs.specs.declared.refusal.Refusal.{Refusal}
use Rattle.inputs.specs.declared.settings.Settings.{Settings}
use mathlib.Core.Logic.{inl, inr}

-- the status file
pub unread_status : (settings : Settings) (at : Shelved) (refused : Refusal) → IsUnread place.Status at.status refused
    → IsRefusalBefore (texts_of settings at) refused
unread_status settings at refused (inl is) =
    subst (IsRefusalBefore (texts_of settings at)) (sym is.1) (ap (read_found (status_in settings.arch.now)) is.0)
unread_status settings at refused (inr wanting) = subst (IsRefusalBefore (texts_of settings at)) (sym wanting) refl

-- the sources
pub unread_sources : (settings : Settings) (at : Shelved) (refused : Refusal) → HasStatus (texts_of settings at)
    → IsUnread place.Sources at.sources refused → IsRefusalBefore (texts_of settings at) refused
unread_sources settings at refused status (inl is) =
    subst (IsRefusalBefore (texts_of settings at)) (sym is.1) (status, ap (read_found sources_in) is.0)
unread_sources settings at refused status (inr wanting) = subst (IsRefusalBefore (texts_of settings at)) (sym wanting) refl
