-- What a link keeps can be counted, and stays so.
use Rattle.std.proofs.Common.{arith, ◌≡◌, ℕ, ◌+◌, ◌*◌, ◌-◌, ◌^◌, ◌≤◌, Bool, true, false, not, cond, map, filter, drop, List, [], ◌∷◌, ◌++◌, length, refl, sym, ap, subst, inl, inr, Option, Some, None}
use Rattle.std.specs.Prelude.{sum_by, option_to_list}
use Rattle.std.specs.List.{AllByRecursion}
use Rattle.std.proofs.lemmas.Bool.{and_right}
use Rattle.std.proofs.lemmas.List.{length-append}
use Rattle.std.proofs.lemmas.List.Sums.{sum_by-cons}
use Rattle.std.proofs.Math.Nat.{suc-mul, add-mul, mul-le-mul_right, mul-le-mul}
use Rattle.std.specs.Prelude.{option_map, is_none, slice_get}
use Rattle.std.proofs.lemmas.Option.{same_Some}
use Rattle.amqp_link.specs.declared.terms.Terms.{Terms}
use Rattle.amqp_link.specs.Links.{Sent, goes_on, completes, Delivery, OpenSet, LinkState, set_bytes, how_many, delivery_bytes, with_delivery, delivery_after, cost, fault_of, is_formed, is_covered}
use Rattle.amqp_link.specs.Links.{Transferred, ReceiverSettled, SenderSettled, receiver_settles, marked_told, receiver_settled_in, sender_settled_by, sender_settled_in}
use Rattle.amqp_link.specs.Links.{settle_fault, left_open, HandedUp}
use Rattle.amqp_link.specs.Keeping.{link_of, IsLink, IsShort}
use Rattle.amqp_link.proofs.Keys.{total_is}
use Rattle.amqp_link.proofs.Steps.{fits, head_tag, within_after}

-- the most that one delivery counts
abbrev most_of : Terms → ℕ
most_of terms = terms.bounds.max_message_size + 96

sum_short : (terms : Terms) (ds : List Delivery) → AllByRecursion (IsShort terms) ds → sum_by delivery_bytes ds ≤ length ds * most_of terms
sum_short terms [] all = omega arith
sum_short terms (d ∷ ds) all = omega (arith, sum_by-cons delivery_bytes d ds, suc-mul (length ds) (most_of terms), sum_short terms ds all.1, all.0.delivery_tag, all.0.message)

-- all deliveries that are open count no more than those that are allowed may
pub bytes_bound : (terms : Terms) (credit : ℕ) (o : OpenSet) → IsLink terms credit o → set_bytes o ≤ terms.bounds.allowed * most_of terms
bytes_bound terms credit o link =
    let few : how_many o ≤ terms.bounds.allowed = omega (arith, link.within) in
    let all : set_bytes o ≤ how_many o * most_of terms = omega (
      arith,
      total_is o,
      add-mul (length o.awaiting) (length o.ready) (most_of terms),
      add-mul (length o.awaiting + length o.ready) (length (option_to_list o.unfinished)) (most_of terms),
      sum_short terms o.awaiting link.awaiting,
      sum_short terms o.ready link.ready,
      sum_short terms (option_to_list o.unfinished) link.unfinished,
    ) in
    omega (arith, all, mul-le-mul_right (most_of terms) few)

-- and so can be counted in 64 bits
pub bytes_fit : (terms : Terms) (credit : ℕ) (o : OpenSet) → IsLink terms credit o → set_bytes o ≤ 1024 * (2 ^ 30 + 96)
bytes_fit terms credit o link =
    let most : most_of terms ≤ 2 ^ 30 + 96 = omega (arith, link.bounded.most_bytes) in
    omega (arith, bytes_bound terms credit o link, mul-le-mul link.bounded.most_allowed most)

made_short : (terms : Terms) (unfinished : Option Delivery) (t : Sent) → AllByRecursion (IsShort terms) (option_to_list unfinished) → is_formed terms unfinished t ≡ true →
    length (delivery_after terms unfinished t).message ≤ terms.bounds.max_message_size → IsShort terms (delivery_after terms unfinished t)
made_short terms None t all formed l = record { delivery_tag = head_tag terms t formed; message = l }
made_short terms (Some d) t all formed l = record { delivery_tag = all.0.delivery_tag; message = l }

some_short : (P : Delivery → Type 0) (b : Bool) (d : Delivery) (ds : List Delivery) → AllByRecursion P ds → P d → AllByRecursion P (ds ++ cond b (d ∷ []) [])
some_short P true d [] all p = (p, tt)
some_short P false d [] all p = tt
some_short P b d (e ∷ ds) all p = (all.0, some_short P b d ds all.1 p)

none_more : (P : Delivery → Type 0) (ds : List Delivery) → AllByRecursion P ds → AllByRecursion P (ds ++ [])
none_more P [] all = tt
none_more P (d ∷ ds) all = (all.0, none_more P ds all.1)

part_short : (P : Delivery → Type 0) (b : Bool) (d : Delivery) → P d → AllByRecursion P (option_to_list (cond b (Some d) None))
part_short P true d p = (p, tt)
part_short P false d p = tt

-- a payload that fits is short
pub payload_short : (s : LinkState) (t : Sent) → fault_of s t ≡ None → t.aborted ≡ false → length t.payload ≤ s.terms.bounds.max_message_size
payload_short s t may whole = elim ((fits s t may).short) [ inl e ↦ absurd (grind (arith, e, whole)) | inr l ↦ in_message s.terms s.unfinished t whole l ]
  where
    in_message : (terms : Terms) (unfinished : Option Delivery) (t : Sent) → t.aborted ≡ false → length (delivery_after terms unfinished t).message ≤ terms.bounds.max_message_size →
        length t.payload ≤ terms.bounds.max_message_size
    in_message terms None t whole l = rw whole at l
    in_message terms (Some d) t whole l = let m = rw whole at l in omega (arith, m, length-append d.message t.payload)

-- a link after an accepted transfer
pub stays : (terms : Terms) (credit count left : ℕ) (draining : Bool) (o : OpenSet) (t : Sent) → IsLink terms credit o → fault_of (link_of terms credit count draining o) t ≡ None →
    left ≡ credit - cost o.unfinished → IsLink terms left (with_delivery o t (delivery_after terms o.unfinished t))
stays terms credit count left draining o t link may less =
    let f = fits (link_of terms credit count draining o) t may in
    let d = delivery_after terms o.unfinished t in
    record {
      within = subst (λ (n : ℕ). n + how_many (with_delivery o t (delivery_after terms o.unfinished t)) ≤ terms.bounds.allowed) (sym less)
          (within_after (link_of terms credit count draining o) (Transferred t) may link.within);
      bounded = link.bounded;
      awaiting = link.awaiting;
      ready = elim (f.short) [
        | inl e ↦ rw (ended e) (none_more (IsShort terms) o.ready link.ready)
        | inr l ↦ some_short (IsShort terms) (completes t) (delivery_after terms o.unfinished t) o.ready link.ready (made_short terms o.unfinished t link.unfinished f.formed l)
      ];
      unfinished = elim (f.short) [
        | inl e ↦ rw (gone e) tt
        | inr l ↦ part_short (IsShort terms) (goes_on t) (delivery_after terms o.unfinished t) (made_short terms o.unfinished t link.unfinished f.formed l)
      ];
    }
  where
    ended : t.aborted ≡ true → completes t ≡ false
    ended e = and_right (not t.more) (not t.aborted) (ap not e)

    gone : t.aborted ≡ true → goes_on t ≡ false
    gone e = and_right t.more (not t.aborted) (ap not e)

-- a first transfer takes one credit
pub cost_of_head : (p : Option Delivery) → is_none p ≡ true → cost p ≡ 1
cost_of_head None e = refl
cost_of_head (Some d) e = absurd (grind (arith, e))

-- a later one takes none
pub cost_of_rest : (p : Option Delivery) → is_none p ≡ false → cost p ≡ 0
cost_of_rest None e = absurd (grind (arith, e))
cost_of_rest (Some d) e = refl

-- A link after a settle. -----------------------------------------------------------------------------------------

some_left : (P : Delivery → Type 0) (gone : Bool) (d : Delivery) (ds : List Delivery) → P d → AllByRecursion P ds → AllByRecursion P (cond (not gone) (d ∷ ds) ds)
some_left P true d ds p all = all
some_left P false d ds p all = (p, all)

all_left : (P : Delivery → Type 0) (goes : Delivery → Bool) (ds : List Delivery) → AllByRecursion P ds → AllByRecursion P (filter (λ d. not (goes d)) ds)
all_left P goes [] all = tt
all_left P goes (d ∷ ds) all = some_left P (goes d) d (filter (λ d. not (goes d)) ds) all.0 (all_left P goes ds all.1)

all_turned : (terms : Terms) (turn : Delivery → Delivery) → ((d : Delivery) → IsShort terms d → IsShort terms (turn d)) → (ds : List Delivery) → AllByRecursion (IsShort terms) ds →
    AllByRecursion (IsShort terms) (map turn ds)
all_turned terms turn same [] all = tt
all_turned terms turn same (d ∷ ds) all = (same d all.0, all_turned terms turn same ds all.1)

one_turned : (terms : Terms) (turn : Delivery → Delivery) → ((d : Delivery) → IsShort terms d → IsShort terms (turn d)) → (o : Option Delivery) → AllByRecursion (IsShort terms) (option_to_list o) →
    AllByRecursion (IsShort terms) (option_to_list (option_map turn o))
one_turned terms turn same None all = tt
one_turned terms turn same (Some d) all = (same d all.0, tt)

-- a settle that is not refused keeps what holds of every link
pub stays_for_receiver : (terms : Terms) (credit count : ℕ) (draining : Bool) (o : OpenSet) (first last : ℕ) → IsLink terms credit o → settle_fault first last o ≡ None →
    IsLink terms credit (receiver_settled_in first last o)
stays_for_receiver terms credit count draining o first last link may = record {
  within = within_after (link_of terms credit count draining o) (ReceiverSettled first last) may link.within;
  bounded = link.bounded;
  awaiting = all_turned terms (marked_told first last) (λ d s. record { delivery_tag = s.delivery_tag; message = s.message }) _ (all_left (IsShort terms)
      (receiver_settles first last) o.awaiting link.awaiting);
  ready = link.ready;
  unfinished = link.unfinished;
}

-- so does a disposition of the sender
pub stays_for_sender : (terms : Terms) (credit count : ℕ) (draining : Bool) (o : OpenSet) (first last : ℕ) → IsLink terms credit o → IsLink terms credit (sender_settled_in first last o)
stays_for_sender terms credit count draining o first last link =
    let same : (d : Delivery) → IsShort terms d → IsShort terms (sender_settled_by first last d) = λ d s. record { delivery_tag = s.delivery_tag; message = s.message } in
    record {
      within = within_after (link_of terms credit count draining o) (SenderSettled first last) tt link.within;
      bounded = link.bounded;
      awaiting = all_left (IsShort terms) (is_covered first last) o.awaiting link.awaiting;
      ready = all_turned terms (sender_settled_by first last) same o.ready link.ready;
      unfinished = one_turned terms (sender_settled_by first last) same o.unfinished link.unfinished;
    }

first_short : (P : Delivery → Type 0) (d : Delivery) (ds : List Delivery) → AllByRecursion P ds → slice_get ds 0 ≡ Some d → P d
first_short P d [] all is = absurd (grind (arith, is))
first_short P d (e ∷ ds) all is = subst P (same_Some e d is) all.0

rest_short : (P : Delivery → Type 0) (ds : List Delivery) → AllByRecursion P ds → AllByRecursion P (drop 1 ds)
rest_short P [] all = tt
rest_short P (d ∷ ds) all = all.1

left_short : (P : Delivery → Type 0) (gone : Bool) (d : Delivery) (ds : List Delivery) → AllByRecursion P ds → P d → AllByRecursion P (ds ++ cond gone [] (d ∷ []))
left_short P true d [] all p = tt
left_short P false d [] all p = (p, tt)
left_short P gone d (e ∷ ds) all p = (all.0, left_short P gone d ds all.1 p)

-- and so does a take
pub stays_for_taker : (terms : Terms) (credit count : ℕ) (draining : Bool) (o : OpenSet) (d : Delivery) → IsLink terms credit o → slice_get o.ready 0 ≡ Some d →
    IsLink terms credit (record o { awaiting = o.awaiting ++ left_open d; ready = drop 1 o.ready })
stays_for_taker terms credit count draining o d link may =
    let short : IsShort terms d = first_short (IsShort terms) d o.ready link.ready may in
    record {
      within = within_after (link_of terms credit count draining o) (HandedUp d) may link.within;
      bounded = link.bounded;
      awaiting = left_short (IsShort terms) d.settled (record d { message = [] }) o.awaiting link.awaiting (record { delivery_tag = short.delivery_tag; message = omega arith });
      ready = rest_short (IsShort terms) o.ready link.ready;
      unfinished = link.unfinished;
    }
