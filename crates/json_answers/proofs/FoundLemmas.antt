-- What is found of steps one stanza after another, and text by text.
use Rattle.std.proofs.Common.{◌≡◌, ◌∙◌, ◌++◌, ◌<◌, ◌≤◌, ◌+◌, ℕ, zero, suc, Bool, true, false, cond, ◌&&◌, ◌||◌, List, [], ◌∷◌, Option, None, Some, Result, Ok, ap, arith, drop, get_or, is_some, length, map, refl, replicate, set, subst, sym, take, take-append-drop}
use Rattle.std.proofs.lemmas.List.{drop_all}
use Rattle.std.specs.List.{find, list_any}
use Rattle.std.specs.Option.{option_map, option_or}
use Rattle.json_answers.specs.Archives.{StepArchives, archive_for, archive_in, are_settled, found_also, found_or, is_settled, is_stanza_of, none_found, stanzas_before}
use Rattle.json_answers.specs.declared.archives.Archive.{Archive}
use Rattle.rules.specs.declared.step.Step.{Step}
use Rattle.rules.specs.declared.step.Step.TheVariants as step
use Rattle.stanza.specs.Reading.{Reaches}
use Rattle.stanza.specs.Stanza.{StanzaText}
use Rattle.stanza.specs.declared.error.ReaderError.{ReaderError}

-- Options

or_then : {A : Type 0} (x y z : Option A) → option_or (option_or x y) z ≡ option_or x (option_or y z)
or_then None y z = refl
or_then (Some x) y z = refl

or_none : {A : Type 0} (x : Option A) → option_or x None ≡ x
or_none None = refl
or_none (Some x) = refl

or_there : {A : Type 0} (x y : Option A) → is_some x ≡ true → option_or x y ≡ x
or_there None y some = absurd (let e : false ≡ true = some in cc)
or_there (Some x) y some = refl

-- At each step

-- the next step: those before it are done, and those behind it are left
next_found : (give : Step → Option Archive) (steps : List Step) (old new : List (Option Archive)) (i : ℕ) (here : Step) → i < length steps
    → length old ≡ length steps → here ≡ get_or steps i here → new ≡ set old i (option_or (get_or old i None) (give here))
    → take (suc i) new ++ found_or give (drop (suc i) steps) (drop (suc i) new) ≡ take i old ++ found_or give (drop i steps) (drop i old)
next_found give [] old new i here less same is e = absurd (omega arith)
next_found give (s ∷ steps) [] new i here less same is e = absurd (omega (arith, same))
next_found give (s ∷ steps) (x ∷ old) new zero here less same is e =
    ap (λ (ys : List (Option Archive)). take 1 ys ++ found_or give steps (drop 1 ys)) e
    ∙ ap (λ (t : Step). option_or x (give t) ∷ found_or give steps old) is
next_found give (s ∷ steps) (x ∷ old) new (suc i) here less same is e =
    ap (λ (ys : List (Option Archive)). take (suc (suc i)) ys ++ found_or give (drop (suc i) steps) (drop (suc (suc i)) ys)) e
    ∙ ap (λ (ys : List (Option Archive)). x ∷ ys)
    (next_found give steps old (set old i (option_or (get_or old i None) (give here))) i here (omega arith) (omega (arith, same)) is refl)

-- the same with the number of the next step as a loop counts it
pub one_found : (give : Step → Option Archive) (steps : List Step) (old new : List (Option Archive)) (i : ℕ) (here : Step) → i < length steps
    → length old ≡ length steps → here ≡ get_or steps i here → new ≡ set old i (option_or (get_or old i None) (give here))
    → take (i + 1) new ++ found_or give (drop (i + 1) steps) (drop (i + 1) new) ≡ take i old ++ found_or give (drop i steps) (drop i old)
one_found give steps old new i here less same is e =
    let next : suc i ≡ i + 1 = omega arith in
    subst (λ n. take n new ++ found_or give (drop n steps) (drop n new) ≡ take i old ++ found_or give (drop i steps) (drop i old)) next
    (next_found give steps old new i here less same is e)

-- once all steps are gone through, what is found is what is there
pub all_found : (give : Step → Option Archive) (steps : List Step) (old now : List (Option Archive)) (i : ℕ) → length steps ≤ i
    → take i now ++ found_or give (drop i steps) (drop i now) ≡ found_or give steps old → now ≡ found_or give steps old
all_found give steps old now i past so_far = sym (take-append-drop i now)
    ∙ sym (ap (λ (rest : List Step). take i now ++ found_or give rest (drop i now)) (drop_all i steps past)) ∙ so_far

-- where nothing is given, what was found stays
pub found_nothing : (give : Step → Option Archive) (takes : Step → Bool) → ((s : Step) → takes s ≡ false → give s ≡ None)
    → (steps : List Step) (found : List (Option Archive)) → list_any takes steps ≡ false → found_or give steps found ≡ found
found_nothing give takes none [] found absent = refl
found_nothing give takes none (s ∷ steps) [] absent = refl
found_nothing give takes none (s ∷ steps) (x ∷ found) absent =
    let both = neither (takes s) (list_any takes steps) absent in
    ap (λ (y : Option Archive). y ∷ found_or give steps found) (ap (option_or x) (none s both.0) ∙ or_none x)
    ∙ ap (λ (ys : List (Option Archive)). x ∷ ys) (found_nothing give takes none steps found both.1)
  where
    neither : (b c : Bool) → (b || c) ≡ false → (b ≡ false) × (c ≡ false)
    neither true c is = absurd (let e : true ≡ false = is in cc)
    neither false c is = (refl, is)

-- what two give one after the other, a third gives at once
pub found_then : (first then both : Step → Option Archive) → ((s : Step) → both s ≡ option_or (first s) (then s))
    → (steps : List Step) (found : List (Option Archive)) → found_or then steps (found_or first steps found) ≡ found_or both steps found
found_then first then both is [] found = refl
found_then first then both is (s ∷ steps) [] = refl
found_then first then both is (s ∷ steps) (x ∷ found) =
    ap (λ (y : Option Archive). y ∷ found_or then steps (found_or first steps found))
    (or_then x (first s) (then s) ∙ ap (option_or x) (sym (is s)))
    ∙ ap (λ (ys : List (Option Archive)). option_or x (both s) ∷ ys) (found_then first then both is steps found)

-- two that give the same of each step
pub found_alike : (give other : Step → Option Archive) → ((s : Step) → give s ≡ other s) → (steps : List Step) (found : List (Option Archive))
    → found_or give steps found ≡ found_or other steps found
found_alike give other is [] found = refl
found_alike give other is (s ∷ steps) [] = refl
found_alike give other is (s ∷ steps) (x ∷ found) =
    ap (λ (y : Option Archive). option_or x y ∷ found_or give steps found) (is s)
    ∙ ap (λ (ys : List (Option Archive)). option_or x (other s) ∷ ys) (found_alike give other is steps found)

-- where nothing was found, what is given is found
pub found_first : (give : Step → Option Archive) (steps : List Step) → found_or give steps (replicate (length steps) None) ≡ map give steps
found_first give [] = refl
found_first give (s ∷ steps) = ap (λ (ys : List (Option Archive)). give s ∷ ys) (found_first give steps)

-- Among stanzas

-- the first of some stanzas, or of those behind them
first_among : (test : StanzaText → Bool) (before later : List StanzaText)
    → option_map archive_in (find test (before ++ later)) ≡ option_or (option_map archive_in (find test before)) (option_map archive_in (find test later))
first_among test [] later = refl
first_among test (s ∷ before) later = by (test s) (first_among test before later)
  where
    by : (b : Bool) → option_map archive_in (find test (before ++ later)) ≡ option_or (option_map archive_in (find test before)) (option_map archive_in (find test later))
        → option_map archive_in (cond b (Some s) (find test (before ++ later)))
        ≡ option_or (option_map archive_in (cond b (Some s) (find test before))) (option_map archive_in (find test later))
    by true e = refl
    by false e = e

-- the archive among stanzas, or else among those behind them
pub archive_then : (arch : List ℕ) (before later : List StanzaText) (s : Step)
    → archive_for arch (before ++ later) s ≡ option_or (archive_for arch before s) (archive_for arch later s)
archive_then arch before later (step.Unpack name version) = first_among (is_stanza_of arch name version) before later
archive_then arch before later (step.Deconfigure name) = refl
archive_then arch before later (step.Configure names) = refl
archive_then arch before later (step.Remove name) = refl
archive_then arch before later (step.Purge name) = refl

-- among no stanzas there is none
pub archive_none : (arch : List ℕ) (s : Step) → archive_for arch [] s ≡ None
archive_none arch (step.Unpack name version) = refl
archive_none arch (step.Deconfigure name) = refl
archive_none arch (step.Configure names) = refl
archive_none arch (step.Remove name) = refl
archive_none arch (step.Purge name) = refl

-- stanzas one after the other are stanzas together
pub also_then : (arch : List ℕ) (before later : List StanzaText) (found : StepArchives)
    → found_also arch later (found_also arch before found) ≡ found_also arch (before ++ later) found
also_then arch before later found = ap (λ (archives : List (Option Archive)). record { steps = found.steps; archives = archives })
    (found_then (archive_for arch before) (archive_for arch later) (archive_for arch (before ++ later)) (archive_then arch before later)
    found.steps found.archives)

pub takes_none : (steps : List Step) → list_any (λ (s : Step). false) steps ≡ false
takes_none [] = refl
takes_none (s ∷ steps) = takes_none steps

-- no stanzas add nothing
pub also_none : (arch : List ℕ) (found : StepArchives) → found_also arch [] found ≡ found
also_none arch found = ap (λ (archives : List (Option Archive)). record { steps = found.steps; archives = archives })
    (found_nothing (archive_for arch []) (λ s. false) (λ s _. archive_none arch s) found.steps found.archives (takes_none found.steps))

-- where nothing is left to be found, no stanzas add anything
settled_stays : (arch : List ℕ) (stanzas : List StanzaText) (s : Step) (x : Option Archive) → is_settled s x ≡ true → option_or x (archive_for arch stanzas s) ≡ x
settled_stays arch stanzas (step.Unpack name version) x settled = or_there x (archive_for arch stanzas (step.Unpack name version)) settled
settled_stays arch stanzas (step.Deconfigure name) x settled = or_none x
settled_stays arch stanzas (step.Configure names) x settled = or_none x
settled_stays arch stanzas (step.Remove name) x settled = or_none x
settled_stays arch stanzas (step.Purge name) x settled = or_none x

both_true : (b c : Bool) → (b && c) ≡ true → (b ≡ true) × (c ≡ true)
both_true true c is = (refl, is)
both_true false c is = absurd (let e : false ≡ true = is in cc)

settled_found : (arch : List ℕ) (stanzas : List StanzaText) (steps : List Step) (found : List (Option Archive))
    → are_settled steps found ≡ true → found_or (archive_for arch stanzas) steps found ≡ found
settled_found arch stanzas [] found settled = refl
settled_found arch stanzas (s ∷ steps) [] settled = refl
settled_found arch stanzas (s ∷ steps) (x ∷ found) settled =
    let both = both_true (is_settled s x) (are_settled steps found) settled in
    ap (λ (y : Option Archive). y ∷ found_or (archive_for arch stanzas) steps found) (settled_stays arch stanzas s x both.0)
    ∙ ap (λ (ys : List (Option Archive)). x ∷ ys) (settled_found arch stanzas steps found both.1)

pub also_settled : (arch : List ℕ) (stanzas : List StanzaText) (found : StepArchives)
    → are_settled found.steps found.archives ≡ true → found_also arch stanzas found ≡ found
also_settled arch stanzas found settled = ap (λ (archives : List (Option Archive)). record { steps = found.steps; archives = archives })
    (settled_found arch stanzas found.steps found.archives settled)

-- of steps of which nothing was found, the archives are those among the stanzas
pub also_first : (arch : List ℕ) (stanzas : List StanzaText) (steps : List Step)
    → found_also arch stanzas (none_found steps) ≡ record { steps = steps; archives = map (archive_for arch stanzas) steps }
also_first arch stanzas steps = ap (λ (archives : List (Option Archive)). record { steps = steps; archives = archives })
    (found_first (archive_for arch stanzas) steps)

-- where nothing is given for any step, what was found stays
pub also_nothing : (arch : List ℕ) (stanzas : List StanzaText) (takes : Step → Bool) (found : StepArchives)
    → ((s : Step) → takes s ≡ false → archive_for arch stanzas s ≡ None) → list_any takes found.steps ≡ false → found_also arch stanzas found ≡ found
also_nothing arch stanzas takes found none absent = ap (λ (archives : List (Option Archive)). record { steps = found.steps; archives = archives })
    (found_nothing (archive_for arch stanzas) takes none found.steps found.archives absent)

-- what another gives of the same
pub also_by : (arch : List ℕ) (stanzas : List StanzaText) (give : Step → Option Archive) (found : StepArchives) (now : List (Option Archive))
    → ((s : Step) → archive_for arch stanzas s ≡ give s) → now ≡ found_or give found.steps found.archives
    → ◌≡◌ {A = StepArchives} (record { steps = found.steps; archives = now }) (found_also arch stanzas found)
also_by arch stanzas give found now alike is = ap (λ (archives : List (Option Archive)). record { steps = found.steps; archives = archives })
    (is ∙ sym (found_alike (archive_for arch stanzas) give alike found.steps found.archives))

-- As a text is read

-- a stanza is read: the others are left
pub one_read : (arch : List ℕ) (items later : List (Result StanzaText ReaderError)) (stanza : StanzaText) (old new whole : StepArchives)
    → items ≡ Ok stanza ∷ later → new ≡ found_also arch (stanza ∷ []) old
    → found_also arch (stanzas_before items) old ≡ whole → found_also arch (stanzas_before later) new ≡ whole
one_read arch items later stanza old new whole first made so_far = ap (found_also arch (stanzas_before later)) made
    ∙ also_then arch (stanza ∷ []) (stanzas_before later) old
    ∙ ap (λ (its : List (Result StanzaText ReaderError)). found_also arch (stanzas_before its) old) (sym first) ∙ so_far

-- nothing is left to be read: all is found
pub all_read : (arch : List ℕ) (items rest : List (Result StanzaText ReaderError)) (old whole : StepArchives) → items ≡ rest
    → stanzas_before rest ≡ [] → found_also arch (stanzas_before items) old ≡ whole → old ≡ whole
all_read arch items rest old whole is none so_far = sym (also_none arch old)
    ∙ ap (λ (stanzas : List StanzaText). found_also arch stanzas old) (sym none)
    ∙ ap (λ (its : List (Result StanzaText ReaderError)). found_also arch (stanzas_before its) old) (sym is) ∙ so_far

-- Nothing left to be found

pub settled_end : (steps : List Step) (rest : List (Option Archive)) → length rest ≡ 0 → are_settled steps rest ≡ true
settled_end [] rest none = refl
settled_end (s ∷ steps) [] none = refl
settled_end (s ∷ steps) (x ∷ rest) none = absurd (omega (arith, none))

-- the first step, and those behind it
pub settled_first : (steps more : List Step) (rest behind : List (Option Archive)) (s : Step) (x : Option Archive) → steps ≡ s ∷ more
    → rest ≡ x ∷ behind → are_settled steps rest ≡ (is_settled s x && are_settled more behind)
settled_first steps more rest behind s x first next = ap (λ (ss : List Step). are_settled ss rest) first
    ∙ ap (λ (xs : List (Option Archive)). are_settled (s ∷ more) xs) next

-- where no stanza was reached none was left
pub none_reached : (at : Option StanzaText) (items later : List (Result StanzaText ReaderError)) → at ≡ None → Reaches at items later → items ≡ []
none_reached at items later none reaches =
    let none_left : Reaches None items later = subst (λ (there : Option StanzaText). Reaches there items later) none reaches in none_left.0
