-- A ledger that is settled has taken all, and settling goes on in order.
use Rattle.std.proofs.Common.{◌≡◌, ℕ, arith, Bool, true, false, List, [], ◌∷◌, ◌++◌, length, take, drop, Option, Some, None, refl, sym, ap, subst, ◌∙◌, append-nil, append_assoc}
use Rattle.std.proofs.lemmas.List.{take-append-drop}
use Rattle.std.specs.Prelude.{◌==◌, ◌↔◌, nat_lt, if◌then◌else◌}
use Rattle.amqp_endpoint.specs.Steps.{EndpointState}
use Rattle.amqp_hub.specs.declared.keeper.Origin.{Origin}
use Rattle.amqp_hub.specs.declared.keeper.Progress.{Progress}
use Rattle.amqp_hub.specs.declared.keeper.Progress.TheVariants as progress
use Rattle.amqp_hub.specs.Keepers.{Entry, one_entry, Grows, IsMore, HasCome}
use Rattle.amqp_hub.specs.Ledgers.{LedgerState, records_of, is_settled, is_roomy, room_in, with_record, settled_by, settled_on, progress_of}

no_more : (w : List Entry) → (length w == 0) ≡ true → w ≡ []
no_more [] is = refl
no_more (e ∷ w) is = absurd (grind (arith, is))

pub settled_is_all : (l : LedgerState) → is_settled l ≡ true → Some l.taken ≡ Some (records_of l)
settled_is_all l is = by l.has_failed (length l.waiting == 0) refl refl
  where
    by : (a b : Bool) → l.has_failed ≡ a → (length l.waiting == 0) ≡ b → Some l.taken ≡ Some (records_of l)
    by true b e1 e2 = absurd (grind (arith, is, e1))
    by false false e1 e2 = absurd (grind (arith, is, e1, e2))
    by false true e1 e2 = ap (λ (r : List Entry). Some r) (sym (ap (λ (w : List Entry). l.taken ++ w) (no_more l.waiting e2) ∙ append-nil l.taken))

pub accepted_is_last : (k l : LedgerState) (origin : Origin) (endpoint : EndpointState) (bytes : List ℕ) → l ≡ with_record origin bytes k →
    IsMore (one_entry origin bytes) (Some (records_of k)) (Some (records_of l)) (Some k.taken) (Some l.taken) × (l.has_failed ≡ k.has_failed)
accepted_is_last k l origin endpoint bytes is = (
  record {
    grown = ap (λ (s : LedgerState). Some (records_of s)) is ∙ ap (λ (r : List Entry). Some r) (sym (append_assoc k.taken k.waiting (one_entry origin bytes)));
    still = ap (λ (s : LedgerState). Some s.taken) is;
  },
  ap (λ (s : LedgerState). s.has_failed) is,
)

module _ (k : LedgerState) where
  -- after a settling
  after : (takes : Option ℕ) → HasCome (progress_of (settled_by takes k)) (Some (records_of k)) (Some (records_of (settled_by takes k))) (Some k.taken) (Some (settled_by takes k).taken)
      (is_settled (settled_by takes k)) (settled_by takes k).has_failed
  after takes = record { same = same takes; grows = more takes; out = out (settled_by takes k); failed = failed (settled_by takes k) }
    where
      same : (takes : Option ℕ) → Some (records_of (settled_by takes k)) ≡ Some (records_of k)
      same None = refl
      same (Some most) = by k.has_failed refl
        where
          by : (b : Bool) → k.has_failed ≡ b → Some (records_of (if b then k else record k { taken = k.taken ++ take most k.waiting; waiting = drop most k.waiting })) ≡ Some (records_of k)
          by true e = refl
          by false e = ap (λ (r : List Entry). Some r) (append_assoc k.taken (take most k.waiting) (drop most k.waiting) ∙ ap (λ (w : List Entry). k.taken ++ w) (take-append-drop most k.waiting))

      more : (takes : Option ℕ) → Grows (Some k.taken) (Some (settled_by takes k).taken)
      more None = ([], ap (λ (r : List Entry). Some r) (sym (append-nil k.taken)))
      more (Some most) = by k.has_failed refl
        where
          by : (b : Bool) → k.has_failed ≡ b → Grows (Some k.taken) (Some (if b then k else record k { taken = k.taken ++ take most k.waiting; waiting = drop most k.waiting }).taken)
          by true e = ([], ap (λ (r : List Entry). Some r) (sym (append-nil k.taken)))
          by false e = (take most k.waiting, refl)

      out : (l : LedgerState) → progress_of l ≡ progress.Out → is_settled l ≡ true
      out l is = by l.has_failed (length l.waiting == 0) refl refl
        where
          by : (a b : Bool) → l.has_failed ≡ a → (length l.waiting == 0) ≡ b → is_settled l ≡ true
          by true b e1 e2 = absurd (grind (arith, is, e1))
          by false false e1 e2 = absurd (grind (arith, is, e1, e2))
          by false true e1 e2 = grind (arith, e1, e2)

      failed : (l : LedgerState) → (progress_of l ≡ progress.Failed) ↔ (l.has_failed ≡ true)
      failed l = by l.has_failed (length l.waiting == 0) refl refl
        where
          by : (a b : Bool) → l.has_failed ≡ a → (length l.waiting == 0) ≡ b → (progress_of l ≡ progress.Failed) ↔ (l.has_failed ≡ true)
          by true b e1 e2 = (λ _. e1, λ _. grind (arith, e1))
          by false b e1 e2 = (λ is. absurd (grind (arith, is, e1, e2)), λ is. absurd (grind (arith, is, e1)))

pub settling_goes_on : (k l : LedgerState) (p : Progress) → (l ≡ settled_on k) × (p ≡ progress_of l) →
    HasCome p (Some (records_of k)) (Some (records_of l)) (Some k.taken) (Some l.taken) (is_settled l) l.has_failed
settling_goes_on k l p x =
    subst (λ (q : Progress). HasCome q (Some (records_of k)) (Some (records_of l)) (Some k.taken) (Some l.taken) (is_settled l) l.has_failed) (sym x.1)
    (subst (λ (s : LedgerState). HasCome (progress_of s) (Some (records_of k)) (Some (records_of s)) (Some k.taken) (Some s.taken) (is_settled s) s.has_failed) (sym x.0) (after k k.takes))

pub room_is_there : (k l : LedgerState) (p : Progress) → (l ≡ k) × (p ≡ room_in k) → HasCome p (Some (records_of k)) (Some (records_of l)) (Some k.taken) (Some l.taken) (is_roomy l) l.has_failed
room_is_there k l p x =
    subst (λ (q : Progress). HasCome q (Some (records_of k)) (Some (records_of l)) (Some k.taken) (Some l.taken) (is_roomy l) l.has_failed) (sym x.1)
    (subst (λ (s : LedgerState). HasCome (room_in k) (Some (records_of k)) (Some (records_of s)) (Some k.taken) (Some s.taken) (is_roomy s) s.has_failed) (sym x.0)
    (record { same = refl; grows = ([], ap (λ (r : List Entry). Some r) (sym (append-nil k.taken))); out = out; failed = failed }))
  where
    out : room_in k ≡ progress.Out → is_roomy k ≡ true
    out is = by k.has_failed (nat_lt (length k.waiting) k.room) refl refl
      where
        by : (a b : Bool) → k.has_failed ≡ a → nat_lt (length k.waiting) k.room ≡ b → is_roomy k ≡ true
        by true b e1 e2 = absurd (grind (arith, is, e1))
        by false false e1 e2 = absurd (grind (arith, is, e1, e2))
        by false true e1 e2 = grind (arith, e1, e2)

    failed : (room_in k ≡ progress.Failed) ↔ (k.has_failed ≡ true)
    failed = by k.has_failed (nat_lt (length k.waiting) k.room) refl refl
      where
        by : (a b : Bool) → k.has_failed ≡ a → nat_lt (length k.waiting) k.room ≡ b → (room_in k ≡ progress.Failed) ↔ (k.has_failed ≡ true)
        by true b e1 e2 = (λ _. e1, λ _. grind (arith, e1))
        by false b e1 e2 = (λ is. absurd (grind (arith, is, e1, e2)), λ is. absurd (grind (arith, is, e1)))
