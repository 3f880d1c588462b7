-- How many open deliveries there are of a kind, and how many bytes a link may keep.
use Rattle.std.proofs.Common.{arith, ◌≡◌, ℕ, ◌+◌, ◌*◌, ◌≤◌, inl, inr, Bool, true, false, not, ◌&&◌, cond, List, [], ◌∷◌, ◌++◌, length, map, filter, drop, refl, sym, ap, ◌∙◌, Option, Some, None}
use Rattle.std.specs.Prelude.{is_none, option_map, option_to_list, slice_get, sum_by, unwrap_or}
use Rattle.std.specs.List.{AllByRecursion, count_by}
use Rattle.std.proofs.Math.Nat.{mul-le-mul_right, suc-mul}
use Rattle.std.proofs.lemmas.Bool.{cases_Bool}
use Rattle.std.proofs.lemmas.List.Sums.{sum_by-cons, sum_by-append, length-filter}
use Rattle.std.proofs.lemmas.List.Filters.{sum_by-filter_both}
use Rattle.amqp_link.specs.declared.terms.Terms.{Terms}
use Rattle.amqp_link.specs.Links.{Sent, goes_on, completes, begun, Delivery, delivery_after, has_id, is_covered, covers, named_count, open_set, LinkState, link_bytes, LinkEvent}
use Rattle.amqp_link.specs.Links.{Transferred, HandedUp, ReceiverSettled, SenderSettled, link_after, LinkMay, left_open, receiver_settles, marked_told, sender_settled_by}
use Rattle.amqp_link.specs.Histories.{Group, groups, message_of, one_if, takes, handed_up_groups, is_handed_up, id_of, is_settled, is_open, shown_awaiting, kept_bytes, state_of, Sound}
use Rattle.amqp_link.specs.Laws.{id_count, begun_with, is_named_by}
use Rattle.amqp_link.proofs.Selections.{taken_picked, opens_picked, count_selected, bytes_selected}

-- Lists. ---------------------------------------------------------------------------------------------------------

-- a count over one more element
pub count_cons : {X : Type 0} (p : X → Bool) (x : X) (xs : List X) → count_by p (x ∷ xs) ≡ one_if (p x) + count_by p xs
count_cons p x xs = sum_by-cons (λ x. cond (p x) 1 0) x xs

-- a count over three lists joined
pub count_parts : {X : Type 0} (p : X → Bool) (xs ys zs : List X) → count_by p (xs ++ ys ++ zs) ≡ count_by p xs + count_by p ys + count_by p zs
count_parts p xs ys zs = omega (arith, sum_by-append (λ x. cond (p x) 1 0) (xs ++ ys) zs, sum_by-append (λ x. cond (p x) 1 0) xs ys)

-- a count over images by a test that does not tell them apart
pub count_map : {X Y : Type 0} (p : Y → Bool) (q : X → Bool) (f : X → Y) → ((x : X) → p (f x) ≡ q x) → (xs : List X) → count_by p (map f xs) ≡ count_by q xs
count_map p q f same [] = refl
count_map p q f same (x ∷ xs) = count_cons p (f x) (map f xs) ∙ ap (λ (b : Bool). one_if b + count_by p (map f xs)) (same x)
    ∙ ap (λ (n : ℕ). one_if (q x) + n) (count_map p q f same xs) ∙ sym (count_cons q x xs)

-- the image of an option as a list
pub option_list : {X Y : Type 0} (f : X → Y) (o : Option X) → option_to_list (option_map f o) ≡ map f (option_to_list o)
option_list f None = refl
option_list f (Some x) = refl

count_filter : {X : Type 0} (p q : X → Bool) (xs : List X) → count_by p (filter q xs) ≤ count_by p xs
count_filter p q xs = omega (arith, sum_by-filter_both q (λ x. not (q x)) (λ x. refl) (λ x. cond (p x) 1 0) xs)

filter_both : {X : Type 0} (p q : X → Bool) (xs : List X) → filter q (filter p xs) ≡ filter (λ x. p x && q x) xs
filter_both p q [] = refl
filter_both p q (x ∷ xs) = elim (cases_Bool (p x)) [ inl e ↦ rw (e, filter_both p q xs) refl | inr e ↦ rw (e, filter_both p q xs) refl ]

-- Deliveries with one id. ----------------------------------------------------------------------------------------

count_one : (p : Delivery → Bool) (b : Bool) (d : Delivery) → count_by p (cond b (d ∷ []) []) ≡ one_if (b && p d)
count_one p true d = count_cons p d [] ∙ omega arith
count_one p false d = refl

count_unfinished : (p : Delivery → Bool) (b : Bool) (d : Delivery) → count_by p (option_to_list (cond b (Some d) None)) ≡ one_if (b && p d)
count_unfinished p true d = count_cons p d [] ∙ omega arith
count_unfinished p false d = refl

-- the delivery of a transfer stands in one place
one_place : (t : Sent) (b : Bool) → one_if (completes t && b) + one_if (goes_on t && b) ≤ one_if b
one_place t b = two t.more t.aborted b
  where
    two : (m a b : Bool) → one_if (not m && not a && b) + one_if (m && not a && b) ≤ one_if b
    two true true b = omega arith
    two true false b = omega arith
    two false true b = omega arith
    two false false b = omega arith

-- it was open before, or begins
no_more : (id : ℕ) (terms : Terms) (p : Option Delivery) (t : Sent) →
    one_if (has_id id (delivery_after terms p t)) ≤ count_by (has_id id) (option_to_list p) + one_if (is_none p && has_id id (begun terms t))
no_more id terms None t = omega arith
no_more id terms (Some d) t = omega (arith, count_cons (has_id id) d [])

transfer_ids : (id : ℕ) (s : LinkState) (t : Sent) → id_count id (link_after s (Transferred t)) ≤ id_count id s + begun_with id s (Transferred t)
transfer_ids id s t =
    let d = delivery_after s.terms s.unfinished t in
    let has = has_id id in
    omega (
      arith,
      count_parts has s.awaiting (s.ready ++ cond (completes t) (d ∷ []) []) (option_to_list (cond (goes_on t) (Some d) None)),
      sum_by-append (λ x. cond (has x) 1 0) s.ready (cond (completes t) (d ∷ []) []),
      count_parts has s.awaiting s.ready (option_to_list s.unfinished),
      count_one has (completes t) d,
      count_unfinished has (goes_on t) d,
      one_place t (has d),
      no_more id s.terms s.unfinished t,
    )

left_ids : (id : ℕ) (d : Delivery) → count_by (has_id id) (left_open d) ≤ one_if (has_id id d)
left_ids id d = elim (cases_Bool d.settled) [ inl e ↦ rw e (omega arith) | inr e ↦ rw e (omega (arith, count_cons (has_id id) (record d { message = [] }) [])) ]

handed_up_ids : (id : ℕ) (ds rs : List Delivery) (p : Option Delivery) (d : Delivery) → slice_get rs 0 ≡ Some d →
    count_by (has_id id) ((ds ++ left_open d) ++ drop 1 rs ++ option_to_list p) ≤ count_by (has_id id) (ds ++ rs ++ option_to_list p)
handed_up_ids id ds [] p d e = absurd (grind (arith, e))
handed_up_ids id ds (r ∷ rs) p d e =
    let same = ap (λ (x : Option Delivery). one_if (has_id id (unwrap_or x r))) e in
    omega (
      arith,
      count_parts (has_id id) (ds ++ left_open d) rs (option_to_list p),
      sum_by-append (λ x. cond (has_id id x) 1 0) ds (left_open d),
      count_parts (has_id id) ds (r ∷ rs) (option_to_list p),
      count_cons (has_id id) r rs,
      left_ids id d,
      same,
    )

receiver_ids : (id first last : ℕ) (s : LinkState) → id_count id (link_after s (ReceiverSettled first last)) ≤ id_count id s
receiver_ids id first last s =
    let has = has_id id in
    let left = filter (λ d. not (receiver_settles first last d)) s.awaiting in
    omega (
      arith,
      count_parts has (map (marked_told first last) left) s.ready (option_to_list s.unfinished),
      count_parts has s.awaiting s.ready (option_to_list s.unfinished),
      count_map has has (marked_told first last) (λ d. refl) left,
      count_filter has (λ d. not (receiver_settles first last d)) s.awaiting,
    )

sender_ids : (id first last : ℕ) (s : LinkState) → id_count id (link_after s (SenderSettled first last)) ≤ id_count id s
sender_ids id first last s =
    let has = has_id id in
    let turn = sender_settled_by first last in
    omega (
      arith,
      count_parts has (filter (λ d. not (is_covered first last d)) s.awaiting) (map turn s.ready) (option_to_list (option_map turn s.unfinished)),
      count_parts has s.awaiting s.ready (option_to_list s.unfinished),
      count_filter has (λ d. not (is_covered first last d)) s.awaiting,
      count_map has has turn (λ d. refl) s.ready,
      ap (count_by has) (option_list turn s.unfinished),
      count_map has has turn (λ d. refl) (option_to_list s.unfinished),
    )

-- an open id comes by the event that begins with it
pub ids_grow : (id : ℕ) (s : LinkState) (e : LinkEvent) → LinkMay s e → id_count id (link_after s e) ≤ id_count id s + begun_with id s e
ids_grow id s (Transferred t) may = transfer_ids id s t
ids_grow id s (HandedUp d) may = omega (arith, handed_up_ids id s.awaiting s.ready s.unfinished d may)
ids_grow id s (ReceiverSettled first last) may = omega (arith, receiver_ids id first last s)
ids_grow id s (SenderSettled first last) may = omega (arith, sender_ids id first last s)
ids_grow id s e may = omega arith

-- What a settle of the receiver names. -----------------------------------------------------------------------------

-- as many open deliveries are named as the history has that a range names
pub named_is : (terms : Terms) (h : List LinkEvent) (first last : ℕ) → named_count first last (open_set (state_of terms h)) ≡ length (filter (is_named_by terms h first last) (groups h))
named_is terms h first last =
    let is_unsettled = λ (g : Group). not (is_settled terms h g) in
    let has = λ (g : Group). covers first last (id_of g) in
    count_map (is_covered first last) has (shown_awaiting terms h) (λ g. refl) (filter is_unsettled (handed_up_groups h))
    ∙ sym (length-filter has (filter is_unsettled (handed_up_groups h)))
    ∙ ap (λ (gs : List Group). length (filter has gs)) (opens_picked (is_settled terms h) (is_handed_up h) (takes h) (groups h) (taken_picked h))
    ∙ ap length (filter_both (λ g. is_open terms h g && is_handed_up h g) has (groups h))

-- Bytes. -------------------------------------------------------------------------------------------------------------

kept_few : (h : List LinkEvent) (g : Group) (most : ℕ) → length (message_of g) ≤ most → length (unwrap_or g.head.delivery_tag []) ≤ 32 → kept_bytes h g ≤ most + 96
kept_few h g most short tagged = elim (cases_Bool (is_handed_up h g)) [ inl e ↦ rw e (omega (arith, tagged)) | inr e ↦ rw e (omega (arith, short, tagged)) ]

module _ (bytes : Group → ℕ) (test : Group → Bool) (most : ℕ) where
  sum_few : (gs : List Group) → AllByRecursion (λ g. bytes g ≤ most) gs → sum_by bytes (filter test gs) ≤ length (filter test gs) * most
  sum_few [] all = omega arith
  sum_few (g ∷ gs) all = elim (cases_Bool (test g)) [
    | inl e ↦ rw e (omega (arith, sum_by-cons bytes g (filter test gs), suc-mul (length (filter test gs)) most, all.0, sum_few gs all.1))
    | inr e ↦ rw e (sum_few gs all.1)
  ]

all_few : (h : List LinkEvent) (most : ℕ) (gs : List Group) → AllByRecursion (λ g. length (message_of g) ≤ most) gs →
    AllByRecursion (λ g. length (unwrap_or g.head.delivery_tag []) ≤ 32) gs → AllByRecursion (λ g. kept_bytes h g ≤ most + 96) gs
all_few h most [] short tagged = tt
all_few h most (g ∷ gs) short tagged = (kept_few h g most short.0 tagged.0, all_few h most gs short.1 tagged.1)

-- the bytes held stay within the bound
pub held_bounded : (terms : Terms) (h : List LinkEvent) → Sound terms h → link_bytes (state_of terms h) ≤ terms.bounds.allowed * (terms.bounds.max_message_size + 96)
held_bounded terms h sound =
    let most = terms.bounds.max_message_size in
    let few = length (filter (is_open terms h) (groups h)) in
    let within : length (filter (is_open terms h) (groups h)) ≤ terms.bounds.allowed = omega (arith, sound.within, count_selected terms h) in
    omega (
      arith,
      bytes_selected terms h,
      sum_few (kept_bytes h) (is_open terms h) (most + 96) (groups h) (all_few h most (groups h) sound.small sound.tagged),
      mul-le-mul_right (most + 96) within,
    )
