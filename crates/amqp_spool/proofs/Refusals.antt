-- Why a batch is refused of which the folder was not asked.
use Rattle.std.proofs.Common.{◌≡◌, ◌⊎◌, inl, inr, ℕ, arith, true, Result, Ok, Err, ap, ◌∙◌, subst}
use Rattle.std.specs.Prelude.{IfErr, OnErr}
use Rattle.amqp_spool.specs.declared.folder.FolderFault.{FolderFault}
use Rattle.amqp_spool.specs.declared.folder.FolderFault.TheVariants as folder
use Rattle.amqp_spool.specs.declared.journal.Journal.{Journal}
use Rattle.amqp_spool.specs.declared.journal.JournalFault.{JournalFault}
use Rattle.amqp_spool.specs.declared.journal.JournalFault.TheVariants as fault
use Rattle.amqp_spool.specs.Folders.{State, History, Since, IsUnasked}
use Rattle.amqp_spool.specs.Journals.{as_told, IsRefused, HasNoRoom, HasNoRoomHere}
use Rattle.amqp_spool.proofs.Histories.{unasked_both}

-- as the folder's fault is told
pub refused_here : {F : Type 0} (len other : ℕ) (s : Journal F) (e : FolderFault) (f : JournalFault) → f ≡ as_told e → other ≡ len → (e ≡ folder.Full) × ((s.spent ≡ true) ⊎ HasNoRoom other s) → IsRefused (HasNoRoomHere len s) f
refused_here len other s e f told same is = inr (told ∙ ap as_told is.0, by is.1)
  where
    by : (s.spent ≡ true) ⊎ HasNoRoom other s → HasNoRoomHere len s
    by (inl spent) = inl spent
    by (inr none) = inr (inr (omega (arith, none, same)))

pub refused_anew : {F : Type 0} (len other : ℕ) (s : Journal F) (e : FolderFault) (f : JournalFault) → f ≡ as_told e → other ≡ len → (e ≡ folder.Full) × HasNoRoom other s → IsRefused (HasNoRoom len s) f
refused_anew len other s e f told same is = inr (told ∙ ap as_told is.0, omega (arith, is.1, same))

-- It was refused at the end of the newest segment, and then in a new one.
pub refused_then : {F : Type 0} (P Q : State → Type 0) (history : F → History) (a b c : Journal F) (len : ℕ) (f : JournalFault) → Since P (history a.folder) (history b.folder) → Since Q (history b.folder) (history c.folder)
    → (IsUnasked (history a.folder) (history b.folder) → b ≡ a) → (IsUnasked (history b.folder) (history c.folder) → IsRefused (HasNoRoom len b) f) → IsUnasked (history a.folder) (history c.folder) → IsRefused (HasNoRoom len a) f
refused_then {F} P Q history a b c len f first then same why un =
    let both = unasked_both P Q (history a.folder) (history b.folder) (history c.folder) first then un in
    subst (λ (s : Journal F). IsRefused (HasNoRoom len s) f) (same both.0) (why both.1)

pub refused_each : {F : Type 0} (P Q : State → Type 0) (history : F → History) (a b c : Journal F) (len : ℕ) (r : Result (Unit {0}) JournalFault) → Since P (history a.folder) (history b.folder) → Since Q (history b.folder) (history c.folder)
    → (IsUnasked (history a.folder) (history b.folder) → b ≡ a) → IfErr r (λ f. IsUnasked (history b.folder) (history c.folder) → IsRefused (HasNoRoom len b) f) → IfErr r (λ f. IsUnasked (history a.folder) (history c.folder) → IsRefused (HasNoRoom len a) f)
refused_each P Q history a b c len (Ok x) first then same why = tt
refused_each P Q history a b c len (Err f) first then same why = refused_then P Q history a b c len f first then same why

-- What was asked then was asked in all.
pub asked_then : (P Q : State → Type 0) (h k l : History) (X : Type 0) → Since P h k → Since Q k l → (IsUnasked k l → ⊥) → IsUnasked h l → X
asked_then P Q h k l X first then why un = absurd (why (unasked_both P Q h k l first then un).1)

pub asked_each : {A : Type 0} (P Q : State → Type 0) (h k l : History) (X : Type 0) (r : Result A JournalFault) → Since P h k → Since Q k l → OnErr r (IsUnasked k l → ⊥) → OnErr r (IsUnasked h l → X)
asked_each P Q h k l X (Ok x) first then why = tt
asked_each P Q h k l X (Err f) first then why = asked_then P Q h k l X first then why

pub fails_or : {A : Type 0} (r : Result A JournalFault) → IfErr r (λ f. f ≡ fault.Failed) → IfErr r (λ f. (f ≡ fault.Full) ⊎ (f ≡ fault.Failed))
fails_or (Ok x) is = tt
fails_or (Err f) is = inr is
