-- A ledger takes the first of the records that wait.
use Rattle.std.proofs.Common.{◌≡◌, ℕ, zero, suc, ◌+◌, min, arith, inl, inr, Bool, true, false, List, [], ◌∷◌, ◌++◌, length, map, take, drop, Option, Some, refl, sym, ap, subst, ◌∙◌}
use Rattle.std.proofs.Math.Seq.{take-add}
use Rattle.std.proofs.lemmas.Bool.{eqb-true, cases_lt}
use Rattle.std.proofs.lemmas.List.{take_all, drop_all, drop-drop}
use Rattle.std.proofs.lemmas.List.Sums.{sum_by-cons}
use Rattle.std.specs.Prelude.{◌==◌, sum_by}
use Rattle.amqp_hub.specs.declared.keeper.Progress.TheVariants as progress
use Rattle.amqp_hub.specs.Keepers.{Entry}
use Rattle.amqp_hub.specs.declared.ledger.Record.{Record}
use Rattle.amqp_hub.specs.Ledgers.{LedgerState, record_entry, settled_on, progress_of}

-- the first `most` of them, or all if they are fewer
take_min : (most n : ℕ) (l : List Entry) → n ≡ min most (length l) → take n l ≡ take most l
take_min most n l is = elim (cases_lt (length l) most) [
  | inl fewer ↦ take_all n l (omega (arith, is, fewer)) ∙ sym (take_all most l (omega (arith, fewer)))
  | inr more ↦ ap (λ (k : ℕ). take k l) (omega (arith, is, more))
]

drop_min : (most n : ℕ) (l : List Entry) → n ≡ min most (length l) → drop n l ≡ drop most l
drop_min most n l is = elim (cases_lt (length l) most) [
  | inl fewer ↦ drop_all n l (omega (arith, is, fewer)) ∙ sym (drop_all most l (omega (arith, fewer)))
  | inr more ↦ ap (λ (k : ℕ). drop k l) (omega (arith, is, more))
]

abbrev pub ledger : List Entry → ℕ → ℕ → Option ℕ → Bool → LedgerState
ledger all taken room takes failed = record { taken = take taken all; waiting = drop taken all; room = room; takes = takes; has_failed = failed }

pub settles_so : (all : List Entry) (taken most n w room : ℕ) (takes : Option ℕ) (failed : Bool) (old : LedgerState) → ledger all taken room takes failed ≡ old → takes ≡ Some most → failed ≡ false → w ≡ length old.waiting →
    n ≡ min most w → ledger all (taken + n) room takes failed ≡ settled_on old
settles_so all taken most n w room takes failed old is some well long least =
    subst (λ (o : LedgerState). ledger all (taken + n) room takes failed ≡ settled_on o) is
    (subst (λ (b : Bool). ledger all (taken + n) room takes b ≡ settled_on (ledger all taken room takes b)) (sym well)
    (subst (λ (t : Option ℕ). ledger all (taken + n) room t false ≡ settled_on (ledger all taken room t false)) (sym some) same))
  where
    few : n ≡ min most (length (drop taken all))
    few = least ∙ ap (λ (k : ℕ). min most k) (long ∙ sym (ap (λ (o : LedgerState). length o.waiting) is))

    first : take (taken + n) all ≡ take taken all ++ take most (drop taken all)
    first = take-add taken n all ∙ ap (λ (l : List Entry). take taken all ++ l) (take_min most n (drop taken all) few)

    rest : drop (taken + n) all ≡ drop most (drop taken all)
    rest = sym (drop-drop n taken all) ∙ drop_min most n (drop taken all) few

    same : ledger all (taken + n) room (Some most) false ≡ settled_on (ledger all taken room (Some most) false)
    same = ap (λ (l : List Entry). record (ledger all (taken + n) room (Some most) false) { taken = l }) first
        ∙ ap (λ (l : List Entry). record (ledger all (taken + n) room (Some most) false) { taken = take taken all ++ take most (drop taken all); waiting = l }) rest

pub still_stuck : (s : LedgerState) (n : ℕ) → s.has_failed ≡ false → n ≡ length s.waiting → (n ≡ 0 → ⊥) → progress.Stuck ≡ progress_of s
still_stuck s n well is some = by (length s.waiting == 0) refl
  where
    by : (b : Bool) → (length s.waiting == 0) ≡ b → progress.Stuck ≡ progress_of s
    by true e = absurd (some (is ∙ eqb-true (length s.waiting) 0 e))
    by false e = grind (arith, well, e)

-- The bytes of records are those of their entries.
entry_bytes : {A : Type 0} (records : List (Record A)) → sum_by (λ e. length e.bytes) (map record_entry records) ≡ sum_by (λ r. length r.bytes.items) records
entry_bytes [] = refl
entry_bytes (r ∷ records) =
    let rest = entry_bytes records in
    omega (arith, rest, sum_by-cons (λ (e : Entry). length e.bytes) (record_entry r) (map record_entry records), sum_by-cons (λ (x : Record _). length x.bytes.items) r records)

pub waiting_is : {A : Type 0} (taken : ℕ) (records : List (Record A)) → sum_by (λ e. length e.bytes) (drop taken (map record_entry records)) ≡ sum_by (λ r. length r.bytes.items) (drop taken records)
waiting_is zero records = entry_bytes records
waiting_is (suc n) [] = refl
waiting_is (suc n) (r ∷ records) = waiting_is n records
