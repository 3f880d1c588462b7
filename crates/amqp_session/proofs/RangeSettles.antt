-- A settle of the receiver over a range of ids is one over two others, or over none.
use Rattle.std.proofs.Common.{arith, ◌≡◌, ℕ, suc, ◌≤◌, inl, inr, Bool, true, false, not, ◌&&◌, ◌||◌, List, [], ◌∷◌, map, filter, refl, sym, ap, ◌∙◌}
use Rattle.std.specs.List.{count_by}
use Rattle.std.proofs.lemmas.Bool.{cases_Bool}
use Rattle.std.proofs.lemmas.List.Sums.{sum_by-cons}
use Rattle.amqp_link.specs.Histories.{one_if}
use Rattle.amqp_link.specs.Links.{Delivery, LinkState, ReceiverSettled, open_set, untaken, has_id, covers, is_first}
use Rattle.amqp_link.proofs.Ranges.{either}
use Rattle.amqp_session.specs.declared.slot.Slot.{Slot}
use Rattle.amqp_session.specs.declared.slot.Slot.TheVariants.{Free, Live, Waits}
use Rattle.amqp_session.specs.Sessions.{LiveLink, slot_count}
use Rattle.amqp_session.specs.Slots.{slot_called}
use Rattle.amqp_session.proofs.Standings.{parts_count}
use Rattle.amqp_session.proofs.Disposed.{IsBoth, IsNone}
use Rattle.amqp_session.proofs.RangeCounts.{passes, slot_number, number, counts, counts_itself, later_counts}

-- Those that were handed up. --------------------------------------------------------------------------------------------------

-- the delivery is settled, where a test holds of its id
abbrev ends : (ℕ → Bool) → Delivery → Bool
ends p d = is_first d.rcv_settle_mode && p d.delivery_id

abbrev told_if : (ℕ → Bool) → Delivery → Delivery
told_if p d = record d { told = d.told || (not (is_first d.rcv_settle_mode) && p d.delivery_id) }

abbrev left : (ℕ → Bool) → List Delivery → List Delivery
left p ds = map (told_if p) (filter (λ d. not (ends p d)) ds)

module _ (p : ℕ → Bool) (d : Delivery) (ds : List Delivery) where
  gone : ends p d ≡ true → left p (d ∷ ds) ≡ left p ds
  gone e = rw e refl

  kept : ends p d ≡ false → left p (d ∷ ds) ≡ told_if p d ∷ left p ds
  kept e = rw e refl

-- one test after the other
module _ (p q : ℕ → Bool) where
  told_twice : (d : Delivery) → told_if q (told_if p d) ≡ told_if (either p q) d
  told_twice d = ap (λ (b : Bool). record d { told = b }) (by d.told (not (is_first d.rcv_settle_mode)) (p d.delivery_id) (q d.delivery_id))
    where
      by : (t m a b : Bool) → ((t || (m && a)) || (m && b)) ≡ (t || (m && (a || b)))
      by true m a b = refl
      by false true a b = refl
      by false false a b = refl

  left_twice : (ds : List Delivery) → left q (left p ds) ≡ left (either p q) ds
  left_twice [] = refl
  left_twice (d ∷ ds) = elim (cases_Bool (ends p d)) [
    | inl e ↦ ap (left q) (gone p d ds e) ∙ left_twice ds ∙ sym (gone (either p q) d ds (first (is_first d.rcv_settle_mode) (p d.delivery_id) (q d.delivery_id) e))
    | inr e ↦ elim (cases_Bool (ends q d)) [
      | inl f ↦ (
          ap (left q) (kept p d ds e) ∙ gone q (told_if p d) (left p ds) f ∙ left_twice ds
          ∙ sym (gone (either p q) d ds (second (is_first d.rcv_settle_mode) (p d.delivery_id) (q d.delivery_id) f))
          )
      | inr f ↦ (
          ap (left q) (kept p d ds e) ∙ kept q (told_if p d) (left p ds) f ∙ ap (λ (x : Delivery). x ∷ left q (left p ds)) (told_twice d)
          ∙ ap (λ (xs : List Delivery). told_if (either p q) d ∷ xs) (left_twice ds)
          ∙ sym (kept (either p q) d ds (neither (is_first d.rcv_settle_mode) (p d.delivery_id) (q d.delivery_id) e f))
          )
    ]
  ]
    where
      first : (m a b : Bool) → (m && a) ≡ true → (m && (a || b)) ≡ true
      first true true b e = refl
      first true false b e = absurd (grind (arith, e))
      first false a b e = absurd (grind (arith, e))

      second : (m a b : Bool) → (m && b) ≡ true → (m && (a || b)) ≡ true
      second true true b e = refl
      second true false b e = e
      second false a b e = absurd (grind (arith, e))

      neither : (m a b : Bool) → (m && a) ≡ false → (m && b) ≡ false → (m && (a || b)) ≡ false
      neither true true b e f = e
      neither true false b e f = f
      neither false a b e f = refl

  -- two tests that say the same of each
  left_agree : (ds : List Delivery) → ((n : ℕ) → 1 ≤ count_by (has_id n) ds → p n ≡ q n) → left p ds ≡ left q ds
  left_agree [] so = refl
  left_agree (d ∷ ds) so = by (left_agree ds (λ n m. so n (later_counts n d ds m)))
    where
      here : p d.delivery_id ≡ q d.delivery_id
      here = so d.delivery_id (counts_itself d ds)

      same : ends p d ≡ ends q d
      same = ap (λ (b : Bool). is_first d.rcv_settle_mode && b) here

      by : left p ds ≡ left q ds → left p (d ∷ ds) ≡ left q (d ∷ ds)
      by rest = elim (cases_Bool (ends p d)) [
        | inl e ↦ gone p d ds e ∙ rest ∙ sym (gone q d ds (sym same ∙ e))
        | inr e ↦ (
            kept p d ds e ∙ ap (λ (b : Bool). record d { told = d.told || (not (is_first d.rcv_settle_mode) && b) } ∷ left p ds) here ∙ ap (λ (xs : List Delivery). told_if q d ∷ xs) rest
            ∙ sym (kept q d ds (sym same ∙ e))
            )
      ]

module _ (p : ℕ → Bool) where
  -- or that holds of none
  left_all : (ds : List Delivery) → ((n : ℕ) → 1 ≤ count_by (has_id n) ds → p n ≡ false) → left p ds ≡ ds
  left_all [] so = refl
  left_all (d ∷ ds) so =
      kept p d ds (ap (λ (b : Bool). is_first d.rcv_settle_mode && b) here ∙ never (is_first d.rcv_settle_mode))
      ∙ ap (λ (b : Bool). record d { told = d.told || (not (is_first d.rcv_settle_mode) && b) } ∷ left p ds) here
      ∙ ap (λ (b : Bool). record d { told = b } ∷ left p ds) (as_was d.told (not (is_first d.rcv_settle_mode)))
      ∙ ap (λ (xs : List Delivery). d ∷ xs) (left_all ds (λ n m. so n (later_counts n d ds m)))
    where
      here : p d.delivery_id ≡ false
      here = so d.delivery_id (counts_itself d ds)

      never : (m : Bool) → (m && false) ≡ false
      never true = refl
      never false = refl

      as_was : (t m : Bool) → (t || (m && false)) ≡ t
      as_was true m = refl
      as_was false true = refl
      as_was false false = refl

  -- no more are told of than were, of those of which it does not hold
  told_fewer : (q : ℕ → Bool) → ((n : ℕ) → q n ≡ true → p n ≡ false) → (ds : List Delivery) →
      count_by (passes (λ c d. c && d.told) q) (left p ds) ≤ count_by (passes (λ c d. c && d.told) q) ds
  told_fewer q off [] = omega arith
  told_fewer q off (d ∷ ds) = elim (cases_Bool (ends p d)) [
    | inl e ↦ (
        let is = ap (count_by (passes (λ c d. c && d.told) q)) (gone p d ds e) in omega (arith, is, told_fewer q off ds, counts (passes (λ c d. c && d.told) q) d ds)
        )
    | inr e ↦ (
        let is = ap (count_by (passes (λ c d. c && d.told) q)) (kept p d ds e) in
        let here : one_if (q d.delivery_id && (d.told || (not (is_first d.rcv_settle_mode) && p d.delivery_id))) ≡ one_if (q d.delivery_id && d.told) =
        by (q d.delivery_id) d.told (not (is_first d.rcv_settle_mode)) (p d.delivery_id) (off d.delivery_id) in
        omega (
          arith,
          is,
          here,
          told_fewer q off ds,
          counts (passes (λ c d. c && d.told) q) d ds,
          counts (passes (λ c d. c && d.told) q) (told_if p d) (left p ds),
        )
        )
  ]
    where
      by : (c t m a : Bool) → (c ≡ true → a ≡ false) → one_if (c && (t || (m && a))) ≡ one_if (c && t)
      by true true m a so = refl
      by true false true a so = ap one_if (so refl)
      by true false false a so = refl
      by false t m a so = refl

-- The table. ------------------------------------------------------------------------------------------------------------------

abbrev pub settled : ℕ → ℕ → Slot LiveLink → Slot LiveLink
settled a b x = slot_called (ReceiverSettled a b) x

handed_up : (n : ℕ) (l : LinkState) → 1 ≤ count_by (has_id n) l.awaiting → 1 ≤ slot_count n (Live (record { name = []; source = []; target = []; link = l }))
handed_up n l m = omega (arith, m, parts_count n l)

module _ (a b : ℕ) where
  module _ (c d e f : ℕ) where
    slot_in_two : (x : Slot LiveLink) → ((n : ℕ) → 1 ≤ slot_count n x → covers a b n ≡ either (covers c d) (covers e f) n) → settled a b x ≡ settled e f (settled c d x)
    slot_in_two Free so = refl
    slot_in_two (Live l) so =
        ap (λ (ds : List Delivery). Live (record l { link = record l.link { awaiting = ds } }))
        (left_agree (covers a b) (either (covers c d) (covers e f)) l.link.awaiting (λ n m. so n (handed_up n l.link m)) ∙ sym (left_twice (covers c d) (covers e f) l.link.awaiting))
    slot_in_two Waits so = refl

    pub settled_in_two : (slots : List (Slot LiveLink)) → IsBoth a b c d e f slots → map (settled a b) slots ≡ map (settled e f) (map (settled c d) slots)
    settled_in_two [] so = refl
    settled_in_two (x ∷ slots) so =
        ap (λ (y : Slot LiveLink). y ∷ map (settled a b) slots) (slot_in_two x (λ n m. so n 0 m))
        ∙ ap (λ (ys : List (Slot LiveLink)). settled e f (settled c d x) ∷ ys) (settled_in_two slots (λ n i m. so n (suc i) m))

  slot_nothing : (x : Slot LiveLink) → ((n : ℕ) → 1 ≤ slot_count n x → covers a b n ≡ false) → settled a b x ≡ x
  slot_nothing Free so = refl
  slot_nothing (Live l) so =
      ap (λ (ds : List Delivery). Live (record l { link = record l.link { awaiting = ds } })) (left_all (covers a b) l.link.awaiting (λ n m. so n (handed_up n l.link m)))
  slot_nothing Waits so = refl

  pub settled_nothing : (slots : List (Slot LiveLink)) → IsNone a b slots → map (settled a b) slots ≡ slots
  settled_nothing [] so = refl
  settled_nothing (x ∷ slots) so =
      ap (λ (y : Slot LiveLink). y ∷ map (settled a b) slots) (slot_nothing x (λ n m. so n 0 m))
      ∙ ap (λ (ys : List (Slot LiveLink)). x ∷ ys) (settled_nothing slots (λ n i m. so n (suc i) m))

  -- what was not handed up stays
  pub untaken_stay : (c d : ℕ) (slots : List (Slot LiveLink)) →
      number (λ c d. c) (λ l. untaken (open_set l)) (covers c d) (map (settled a b) slots) ≡ number (λ c d. c) (λ l. untaken (open_set l)) (covers c d) slots
  untaken_stay c d [] = refl
  untaken_stay c d (x ∷ slots) = omega (
    arith,
    sum_by-cons (slot_number (λ c d. c) (λ l. untaken (open_set l)) (covers c d)) (settled a b x) (map (settled a b) slots),
    sum_by-cons (slot_number (λ c d. c) (λ l. untaken (open_set l)) (covers c d)) x slots,
    here x,
    untaken_stay c d slots,
  )
    where
      here : (x : Slot LiveLink) → slot_number (λ c d. c) (λ l. untaken (open_set l)) (covers c d) (settled a b x) ≡ slot_number (λ c d. c) (λ l. untaken (open_set l)) (covers c d) x
      here Free = refl
      here (Live l) = refl
      here Waits = refl

  -- and of no more of others the sender is told
  pub told_stay : (c d : ℕ) → ((n : ℕ) → covers c d n ≡ true → covers a b n ≡ false) → (slots : List (Slot LiveLink)) →
      number (λ c d. c && d.told) (λ l. l.awaiting) (covers c d) (map (settled a b) slots) ≤ number (λ c d. c && d.told) (λ l. l.awaiting) (covers c d) slots
  told_stay c d off [] = omega arith
  told_stay c d off (x ∷ slots) = omega (
    arith,
    sum_by-cons (slot_number (λ c d. c && d.told) (λ l. l.awaiting) (covers c d)) (settled a b x) (map (settled a b) slots),
    sum_by-cons (slot_number (λ c d. c && d.told) (λ l. l.awaiting) (covers c d)) x slots,
    here x,
    told_stay c d off slots,
  )
    where
      here : (x : Slot LiveLink) → slot_number (λ c d. c && d.told) (λ l. l.awaiting) (covers c d) (settled a b x) ≤ slot_number (λ c d. c && d.told) (λ l. l.awaiting) (covers c d) x
      here Free = omega arith
      here (Live l) = told_fewer (covers a b) (covers c d) off l.link.awaiting
      here Waits = omega arith
