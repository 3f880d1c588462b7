-- Whether bytes are the introduction of a link.
use Rattle.std.proofs.Common.{◌≡◌, ℕ, arith, eqb, Bool, true, false, List, [], ◌∷◌, ◌++◌, length, append-nil, refl, sym, ap, ◌∙◌, subst}
use Rattle.amqp_spool.specs.declared.entry.Entry as entry
use Rattle.amqp_spool.specs.declared.entry.Entry.TheVariants as read
use Rattle.amqp_spool.specs.declared.entry.Introduction as told_introduction
use Rattle.amqp_spool.specs.declared.entry.Record as told_record
use Rattle.amqp_spool.specs.EntryReading.{entry_in, introduced_in, recorded_in}
use Rattle.amqp_spool.specs.Entries.{Recorded, Introduced, IsIntroduced, Entry, Introduction, Record, BeginsEntry, introduction}
use Rattle.amqp_spool.specs.Waitings.{IsKept}
use Rattle.amqp_spool.proofs.EntryTexts.{one_entry}

pub nothing_in : (l : List ℕ) → true ≡ eqb (length l) 0 → l ≡ []
nothing_in [] is = refl
nothing_in (x ∷ l) is = absurd (grind (arith, is))

pub is_kept : (link : ℕ) (bytes rest : List ℕ) (told i : Introduced) → BeginsEntry bytes (Introduction told) rest → rest ≡ [] → told ≡ i → i.link ≡ link → IsKept link bytes i
is_kept link bytes rest told i begins none same at = record {
  is = subst (λ (k : Introduced). IsIntroduced k) same begins.is;
  same = at;
  whole = begins.whole ∙ ap (λ (l : List ℕ). introduction told ++ l) none ∙ append-nil (introduction told) ∙ ap (λ (k : Introduced). introduction k) same;
}

-- the entry that they begin with
pub kept_is : (link : ℕ) (bytes rest : List ℕ) (e : Entry) (i : Introduced) → BeginsEntry bytes e rest → IsKept link bytes i → (e ≡ Introduction i) × (rest ≡ [])
kept_is link bytes rest e i begins kept = one_entry bytes rest [] e (Introduction i) begins (record { is = kept.is; whole = kept.whole ∙ sym (append-nil (introduction i)) })

pub kept_begins : (link : ℕ) (bytes : List ℕ) (i : Introduced) → IsKept link bytes i → BeginsEntry bytes (Introduction i) []
kept_begins link bytes i kept = record { is = kept.is; whole = kept.whole ∙ sym (append-nil (introduction i)) }

pub one_introduced : (i j : Introduced) → Introduction i ≡ Introduction j → i ≡ j
one_introduced i j is = cc is

pub as_introduced : (bytes rest : List ℕ) (e : entry.Entry) (told : told_introduction.Introduction) → e ≡ read.Introduction told → BeginsEntry bytes (entry_in e) rest → BeginsEntry bytes (Introduction (introduced_in told)) rest
as_introduced bytes rest e told is begins = subst (λ (k : entry.Entry). BeginsEntry bytes (entry_in k) rest) is begins

pub not_recorded : (link : ℕ) (bytes rest : List ℕ) (e : entry.Entry) (r : told_record.Record) (i : Introduced) → e ≡ read.Record r → BeginsEntry bytes (entry_in e) rest → IsKept link bytes i → ⊥
not_recorded link bytes rest e r i is begins kept =
    none (recorded_in r) i (kept_is link bytes rest (Record (recorded_in r)) i (subst (λ (k : entry.Entry). BeginsEntry bytes (entry_in k) rest) is begins) kept).0
  where
    none : (r : Recorded) (i : Introduced) → Record r ≡ Introduction i → ⊥
    none r i is = cc is
