-- Members of documents: objects of names, one more behind those so far, and members that are put to others.
use Rattle.std.proofs.Common.{◌≡◌, ◌∙◌, ◌++◌, ℕ, List, [], ◌∷◌, Option, ap, append_assoc, arith, length, refl, sym}
use Rattle.candidates.specs.Offer.{Offer}
use Rattle.cli.specs.Again.{ArchiveOf}
use Rattle.cli.specs.Members.{AreAddedIn, AreMembersIn, AreOfAnswered, AreOfKept, name_data, names_data, with_left}
use Rattle.command_line.specs.declared.call.Format.{Format}
use Rattle.command_line.specs.declared.call.Format.TheVariants as format
use Rattle.keep_back.specs.declared.keep_back.KeptBack.{KeptBack}
use Rattle.serde_json.specs.Data.{Data, Members}

-- the object of one more name
pub one_name : (old after : List Data) (value : Data) (name : List ℕ) (candidate : Option Offer) (names more : List (List ℕ))
    (rest behind : List (Option Offer)) → after ≡ old ++ value ∷ [] → value ≡ name_data name candidate → names ≡ name ∷ more
    → rest ≡ candidate ∷ behind → after ++ names_data more behind ≡ old ++ names_data names rest
one_name old after value name candidate names more rest behind e is first next =
    ap (λ (ds : List Data). ds ++ names_data more behind) (e ∙ ap (λ (d : Data). old ++ d ∷ []) is)
    ∙ append_assoc old (name_data name candidate ∷ []) (names_data more behind)
    ∙ sym (ap (λ (ns : List (List ℕ)). old ++ names_data ns rest) first
    ∙ ap (λ (cs : List (Option Offer)). old ++ names_data (name ∷ more) cs) next)

-- without candidates there is no object
pub none_left : (names : List (List ℕ)) (rest : List (Option Offer)) → length rest ≡ 0 → names_data names rest ≡ []
none_left [] rest none = refl
none_left (name ∷ names) [] none = refl
none_left (name ∷ names) (candidate ∷ rest) none = absurd (omega (arith, none))

-- members to which what is left of a request is put
pub added : (archives : ArchiveOf) (written : Format) (kept : KeptBack) (old new : Members) → AreMembersIn written (AreOfAnswered archives kept.answered) old
    → AreAddedIn written (with_left kept.request kept.notes) old new → AreMembersIn written (AreOfKept archives kept) new
added archives format.Text kept old new are put = tt
added archives format.Json kept old new are put = (old, are, put)
