-- Which segments may go.
use Rattle.std.proofs.Common.{◌≡◌, ◌⊎◌, inl, inr, ℕ, ◌+◌, ◌≤◌, ◌<◌, max, arith, Bool, false, List, [], ◌∷◌, ◌++◌, length, length-append, append_assoc, append-nil, refl, sym, ap, ◌∙◌, subst, Option, Some, None, Result, Ok, Err, OnOk}
use Rattle.std.specs.List.{All}
use Rattle.std.specs.Option.{unwrap_or}
use Rattle.std.proofs.lemmas.List.Elements.{All-push, All-weaker, All-head, All-tail}
use Rattle.amqp_spool.specs.declared.journal.Journal.{Journal}
use Rattle.amqp_spool.specs.declared.journal.JournalFault.{JournalFault}
use Rattle.amqp_spool.specs.declared.journal.JournalFault.TheVariants as fault
use Rattle.amqp_spool.specs.declared.segments.Named.{Named}
use Rattle.amqp_spool.specs.declared.segments.Segments.{Segments}
use Rattle.amqp_spool.specs.Counting.{HasFirst, IsNewestAt, HasRaised, OldestIsNeeded, AllAreNeeded, AreAllPassed, OneIsLeft, IsExactly, AreInOrder, AreFrontOf, IsFreed}
use Rattle.amqp_spool.specs.Journals.{IsCounted}
use Rattle.amqp_spool.specs.Folders.{History}
use Rattle.amqp_spool.proofs.Counted.{last_two, total_one}

-- One is found after another, from the newest on.
has_more : (first : ℕ) (ns : List Named) (n : Named) → HasFirst first ns → HasFirst first (ns ++ n ∷ [])
has_more first ns n has = (has.0, has.1, has.2 ++ n ∷ [], ap (λ (l : List Named). l ++ n ∷ []) has.3 ∙ append_assoc has.0 (has.1 ∷ has.2) (n ∷ []), has.4)

pub newest_same : (passed : ℕ) (ns : List Named) (best : Option ℕ) (n : Named) → IsNewestAt passed ns best → passed + 1 < n.first → IsNewestAt passed (ns ++ n ∷ []) best
newest_same passed ns None n is later = All-push (λ (n : Named). passed + 1 < n.first) ns n is later
newest_same passed ns (Some first) n is later = (is.0, has_more first ns n is.1, All-push (λ (n : Named). n.first ≤ passed + 1 → n.first ≤ first) ns n is.2 (λ low. absurd (omega (arith, later, low))))

pub newest_more : (passed : ℕ) (ns : List Named) (best : Option ℕ) (n : Named) → IsNewestAt passed ns best → n.first ≤ passed + 1 → (first : ℕ) → first ≡ max (unwrap_or best 0) n.first → IsNewestAt passed (ns ++ n ∷ []) (Some first)
newest_more passed ns None n is low first at = (
  omega (arith, low, at),
  (ns, n, [], refl, omega (arith, at)),
  All-push (λ (n : Named). n.first ≤ passed + 1 → n.first ≤ first) ns n (All-weaker (λ (n : Named). passed + 1 < n.first) (λ (n : Named). n.first ≤ passed + 1 → n.first ≤ first) (λ x later low. absurd (omega (arith, later, low))) ns is) (λ _. omega (arith, at)),
)
newest_more passed ns (Some best) n is low first at = (
  omega (arith, low, is.0, at),
  by (greater best n.first),
  All-push (λ (n : Named). n.first ≤ passed + 1 → n.first ≤ first) ns n (All-weaker (λ (n : Named). n.first ≤ passed + 1 → n.first ≤ best) (λ (n : Named). n.first ≤ passed + 1 → n.first ≤ first) (λ x to low. omega (arith, to low, at)) ns is.2) (λ _. omega (arith, at)),
)
  where
    greater : (a b : ℕ) → (a ≤ b) ⊎ (b < a)
    greater a b = grind arith

    by : (best ≤ n.first) ⊎ (n.first < best) → HasFirst first (ns ++ n ∷ [])
    by (inl le) = (ns, n, [], refl, omega (arith, at, le))
    by (inr lt) = subst (λ (k : ℕ). HasFirst k (ns ++ n ∷ [])) (omega (arith, at, lt)) (has_more best ns n is.1)

-- The floor is raised as far as that lets segments go.
pub raised_to : (passed floor : ℕ) (ns : List Named) (first : ℕ) → IsNewestAt passed ns (Some first) → first ≤ floor + 1 → HasRaised passed floor ns
raised_to passed floor ns first is low = All-weaker (λ (n : Named). n.first ≤ passed + 1 → n.first ≤ first) (λ (n : Named). n.first ≤ passed + 1 → n.first ≤ floor + 1) (λ x to le. omega (arith, to le, low)) ns is.2

pub raised_none : (passed floor : ℕ) (ns : List Named) → IsNewestAt passed ns None → HasRaised passed floor ns
raised_none passed floor ns is = All-weaker (λ (n : Named). passed + 1 < n.first) (λ (n : Named). n.first ≤ passed + 1 → n.first ≤ floor + 1) (λ x later le. absurd (omega (arith, later, le))) ns is

-- What holds of all holds of each.
of_each : (P : Named → Type 0) (front : List Named) (n : Named) (back : List Named) → All P (front ++ n ∷ back) → P n
of_each P [] n back all = All-head P n back all
of_each P (f ∷ front) n back all = of_each P front n back (All-tail P f (front ++ n ∷ back) all)

-- Then the oldest that is left is needed.
pub needed_then : (passed floor : ℕ) (old new : List Named) → HasRaised passed floor old → AreFrontOf new old → OldestIsNeeded floor new → OldestIsNeeded passed new
needed_then passed floor old new raised left needed = λ front newer older is.
    let whole : old ≡ front ++ newer ∷ (older ∷ left.0) = left.1 ∙ ap (λ (l : List Named). l ++ left.0) is ∙ append_assoc front (newer ∷ older ∷ []) left.0 in
    let low : newer.first ≤ passed + 1 → newer.first ≤ floor + 1 = of_each (λ (n : Named). n.first ≤ passed + 1 → n.first ≤ floor + 1) front newer (older ∷ left.0) (subst (λ (l : List Named). HasRaised passed floor l) whole raised) in
    by newer.first low (needed front newer older is)
  where
    by : (n : ℕ) → (n ≤ passed + 1 → n ≤ floor + 1) → floor + 1 < n → passed + 1 < n
    by n low after = either (greater n (passed + 1))
      where
        greater : (a b : ℕ) → (a ≤ b) ⊎ (b < a)
        greater a b = grind arith

        either : (n ≤ passed + 1) ⊎ (passed + 1 < n) → passed + 1 < n
        either (inl le) = absurd (omega (arith, low le, after))
        either (inr lt) = lt

pub needed_none : (passed : ℕ) → OldestIsNeeded passed []
needed_none passed = by
  where
    by : OldestIsNeeded passed []
    by [] newer older is = absurd (omega (arith, ap (λ (l : List Named). length l) is))
    by (f ∷ front) newer older is = absurd (omega (arith, ap (λ (l : List Named). length l) is))

-- In order all that are left are needed: each begins no earlier than the last but one.
pub order_left : (old new : List Named) → AreFrontOf new old → AreInOrder old → AreInOrder new
order_left old new left order = λ front back newer older is.
    order front (back ++ left.0) newer older (left.1 ∙ ap (λ (l : List Named). l ++ left.0) is ∙ append_assoc front (newer ∷ older ∷ back) left.0)

pub all_needed : (passed : ℕ) (ns : List Named) → AreInOrder ns → OldestIsNeeded passed ns → AllAreNeeded passed ns
all_needed passed ns order needed = λ front back newer older is. by back front newer older is
  where
    by : (back front : List Named) (newer older : Named) → ns ≡ front ++ newer ∷ older ∷ back → passed + 1 < newer.first
    by [] front newer older is = needed front newer older is
    by (b ∷ back) front newer older is =
        omega (arith, order front (b ∷ back) newer older is, by back (front ++ newer ∷ []) older b (is ∙ sym (append_assoc front (newer ∷ []) (older ∷ b ∷ back))))

-- The last but one of a list is one.
abbrev tail_of : List Named → List Named
tail_of [] = []
tail_of (n ∷ ns) = ns

abbrev first_of : Named → List Named → Named
first_of d [] = d
first_of d (n ∷ ns) = n

pub same_last : (front other : List Named) (a b x y : Named) → front ++ a ∷ b ∷ [] ≡ other ++ x ∷ y ∷ [] → a ≡ x
same_last [] [] a b x y is = ap (first_of a) is
same_last [] (o ∷ other) a b x y is = absurd (omega (arith, ap (λ (l : List Named). length l) is, length-append other (x ∷ y ∷ [])))
same_last (f ∷ front) [] a b x y is = absurd (omega (arith, ap (λ (l : List Named). length l) is, length-append front (a ∷ b ∷ [])))
same_last (f ∷ front) (o ∷ other) a b x y is = same_last front other a b x y (ap tail_of is)

-- If all are passed the newest alone is left.
pub one_left : (passed used : ℕ) (old new : List Named) → AreAllPassed passed old → AreFrontOf new old → OldestIsNeeded passed new → IsExactly used new → OneIsLeft used new
one_left passed used old [] all left needed e = absurd (omega (arith, e.some))
one_left passed used old (n ∷ []) all left needed e = record { newest = n; alone = refl; counted = omega (arith, e.is, total_one n []) }
one_left passed used old (n ∷ m ∷ rest) all left needed e =
    let two = last_two (n ∷ m ∷ rest) (omega arith) in
    let whole : old ≡ two.0 ++ two.1 ∷ (two.2 ∷ left.0) = left.1 ∙ ap (λ (l : List Named). l ++ left.0) two.3 ∙ append_assoc two.0 (two.1 ∷ two.2 ∷ []) left.0 in
    absurd (omega (arith, needed two.0 two.1 two.2 two.3, of_each (λ (k : Named). k.first ≤ passed + 1) two.0 two.1 (two.2 ∷ left.0) (subst (λ (l : List Named). AreAllPassed passed l) whole all)))

-- One more is gone.
whole_of : (floor : ℕ) (middle new : List Named) (f : IsFreed floor middle new) → middle ≡ new ++ f.oldest ∷ []
whole_of floor middle new f = f.was ∙ sym (append_assoc f.front (f.newer ∷ []) (f.oldest ∷ [])) ∙ ap (λ (l : List Named). l ++ f.oldest ∷ []) (sym f.is)

pub front_less : (floor : ℕ) (old middle new : List Named) → AreFrontOf middle old → IsFreed floor middle new → AreFrontOf new old
front_less floor old middle new left f = (f.oldest ∷ left.0, left.1 ∙ ap (λ (l : List Named). l ++ left.0) (whole_of floor middle new f) ∙ append_assoc new (f.oldest ∷ []) left.0)

pub one_less : (floor : ℕ) (middle new : List Named) → IsFreed floor middle new → length middle ≡ length new + 1
one_less floor middle new f = ap (λ (l : List Named). length l) (whole_of floor middle new f) ∙ length-append new (f.oldest ∷ [])

pub front_same : (ns : List Named) → AreFrontOf ns ns
front_same ns = ([], sym (append-nil ns))

-- A journal was tended. -----------------------------------------------------------------------------------------------

module _ {F : Type 0} (passed : ℕ) (b c : Journal F) where
  pub tended_frees : (r : Result (Unit {0}) JournalFault) → HasRaised passed b.floor b.segments.list.items → OnOk r (c.floor ≡ b.floor) → OnOk r (AreFrontOf c.segments.list.items b.segments.list.items) → OnOk r (OldestIsNeeded c.floor c.segments.list.items)
      → OnOk r (OldestIsNeeded passed c.segments.list.items)
  tended_frees (Ok x) raised same left needed =
      needed_then passed b.floor b.segments.list.items c.segments.list.items raised left (subst (λ (n : ℕ). OldestIsNeeded n c.segments.list.items) same needed)
  tended_frees (Err f) raised same left needed = tt

module _ {F : Type 0} (a b c : Journal F) where
  pub tended_left : (r : Result (Unit {0}) JournalFault) → b.segments ≡ a.segments → OnOk r (AreFrontOf c.segments.list.items b.segments.list.items) → OnOk r (AreFrontOf c.segments.list.items a.segments.list.items)
  tended_left (Ok x) same left = subst (λ (s : Segments). AreFrontOf c.segments.list.items s.list.items) same left
  tended_left (Err f) same left = tt

module _ {F : Type 0} (passed : ℕ) (a c : Journal F) where
  pub tended_all : (r : Result (Unit {0}) JournalFault) → OnOk r (AreFrontOf c.segments.list.items a.segments.list.items) → OnOk r (OldestIsNeeded passed c.segments.list.items)
      → OnOk r (AreInOrder a.segments.list.items → AllAreNeeded passed c.segments.list.items)
  tended_all (Ok x) left needed = λ order. all_needed passed c.segments.list.items (order_left a.segments.list.items c.segments.list.items left order) needed
  tended_all (Err f) left needed = tt

module _ {F : Type 0} (history : F → History) (passed : ℕ) (a c : Journal F) where
  pub tended_one : (r : Result (Unit {0}) JournalFault) → OnOk r (AreFrontOf c.segments.list.items a.segments.list.items) → OnOk r (OldestIsNeeded passed c.segments.list.items) → IsCounted history c → OnOk r (c.failed ≡ false)
      → OnOk r (AreAllPassed passed a.segments.list.items → OneIsLeft c.used c.segments.list.items)
  tended_one (Ok x) left needed counted alive = λ all. one_left passed c.used a.segments.list.items c.segments.list.items all left needed (counted.exact alive)
  tended_one (Err f) left needed counted alive = tt

pub alive_ok : (r : Result (Unit {0}) JournalFault) (failed : Bool) → ((r ≡ Err fault.Failed → ⊥) → failed ≡ false) → OnOk r (failed ≡ false)
alive_ok (Ok x) failed alive = alive (λ is. absurd (grind (arith, is)))
alive_ok (Err f) failed alive = tt
