-- One event more: what the link shows stays what its history gives.
use Rattle.std.proofs.Common.{arith, ◌≡◌, ℕ, ◌+◌, ◌-◌, ◌%◌, ◌^◌, ◌<◌, ◌≤◌, ◌⊎◌, inl, inr, subst, Bool, true, false, not, ◌&&◌, cond, if◌then◌else◌, List, [], ◌∷◌, ◌++◌, length}
use Rattle.std.proofs.Common.{map, filter, take, refl, sym, ap, ◌∙◌, ltb-false, Option, Some, None}
use Rattle.std.specs.Prelude.{is_none, find, option_map, option_to_list, nat_eq, nat_lt, nat_le, unwrap_or}
use Rattle.std.specs.List.{AllByRecursion}
use Rattle.std.proofs.lemmas.Bool.{cases_Bool, le-ltb, not-false, eqb-false, leb-true, and_left, and_parts}
use Rattle.std.proofs.lemmas.Option.{slice_get_within}
use Rattle.std.proofs.lemmas.List.{append-nil, take-append-le, map-append, length-append, length-drop, length-map}
use Rattle.std.proofs.lemmas.List.Sums.{sum_by-cons, length-filter, count_by-le-length}
use Rattle.amqp_serial.specs.Numbers.{distance_of}
use Rattle.amqp_link.specs.declared.transfer.LinkFault.{LinkFault}
use Rattle.amqp_link.specs.declared.terms.Terms.{Terms}
use Rattle.amqp_link.specs.Links.{Sent, goes_on, completes, Delivery, delivery_after, LinkState, open_count, LinkEvent, Granted, DrainAsked, Transferred, FlowStated, HandedUp}
use Rattle.amqp_link.specs.Links.{ReceiverSettled, SenderSettled, link_after, LinkMay, link_begins, cost, left_open, fault_of, lacks_credit, is_too_long, is_tag, is_formed_head}
use Rattle.amqp_link.specs.Links.{is_formed, advance_by, advanced, is_beyond_credit, is_drained, receiver_settles, marked_told, is_covered, sender_settled_by}
use Rattle.amqp_link.specs.declared.transfer.LinkFault.TheVariants.{TransferLimit, MessageSize, InvalidField, NotImplemented}
use Rattle.amqp_link.specs.Histories.{Group, groups, message_of, is_whole, is_unfinished, wholes, takes, handed_up_groups, heads, one_if, grants, advances, credit, delivery_count}
use Rattle.amqp_link.specs.Histories.{draining, shown, state_of, Content, content, content_of, transfer_of, handed_up_by, handed_up, Sound, after_all, Accepted, granted_by}
use Rattle.amqp_link.proofs.Groups.{runs, target, all_more, all_found, IfAny, message_more, same_either}
use Rattle.amqp_link.proofs.Settlements.{named_state, covered_state}
use Rattle.amqp_link.proofs.Transfers.{groups_came, begun_more, target_of, wholes_came, cost_is, heads_came, stated, stated_same, shown_one, came_state}
use Rattle.amqp_link.proofs.Takes.{first_ready, one_on, took_one, took_given, take_state}

-- Credit and count. ----------------------------------------------------------------------------------------------

-- a grant adds to credit
pub credit_granted : (terms : Terms) (h : List LinkEvent) (n : ℕ) → heads h + advances terms h ≤ grants h → credit terms (Granted n ∷ h) ≡ credit terms h + n
credit_granted terms h n spent = rw (sum_by-cons granted_by (Granted n) h) (omega (arith, spent))

-- and leaves the state of the longer history
pub grant_state : (terms : Terms) (h : List LinkEvent) (n : ℕ) → heads h + advances terms h ≤ grants h → link_after (state_of terms h) (Granted n) ≡ state_of terms (Granted n ∷ h)
unfolding stated
grant_state terms h n spent = stated_same terms _ _ _ _ _ _ _ _ _ _ _ _ refl (sym (credit_granted terms h n spent)) refl refl refl refl

-- a flow takes from credit what it moves the delivery-count
pub credit_flowed : (terms : Terms) (h : List LinkEvent) (n : Option ℕ) → credit terms h - advance_by (delivery_count terms h) (credit terms h) n ≡ credit terms (FlowStated n ∷ h)
credit_flowed terms h n = drawn (grants h) (heads h) (advances terms h) (advance_by (delivery_count terms h) (credit terms h) n)
  where
    drawn : (g n v a : ℕ) → (g - (n + v)) - a ≡ g - (n + (v + a))
    drawn g n v a = omega arith

-- and leaves the state of the longer history
pub count_state : (terms : Terms) (h : List LinkEvent) (n : Option ℕ) → link_after (state_of terms h) (FlowStated n) ≡ state_of terms (FlowStated n ∷ h)
unfolding stated
count_state terms h n =
    let less = credit_flowed terms h n in
    stated_same terms _ _ _ _ _ _ _ _ _ _ _ _
    (ap (λ (c : ℕ). if nat_eq c 0 then false else draining terms h) less)
    less (moved terms.initial_delivery_count (heads h) (advances terms h) _) refl refl refl
  where
    moved : (f n v a : ℕ) → ((f + n + v) % 2 ^ 32 + a) % 2 ^ 32 ≡ (f + n + (v + a)) % 2 ^ 32
    moved f n v a = omega arith

-- a flow moves the delivery-count no further than credit
pub advance_within : (known here : ℕ) (stated : Option ℕ) → advance_by known here stated ≤ here
advance_within known here None = omega arith
advance_within known here (Some stated) = grind (arith, leb-true)

-- the known count moves nothing
no_distance : (n : ℕ) → n < 2 ^ 32 → distance_of n n ≡ 0
no_distance n l = omega (arith, l)

zero_moves : (known here told : ℕ) → distance_of known told ≡ 0 → advance_by known here (Some told) ≡ 0
zero_moves known here told e = rw e (same_either {X = ℕ} (nat_le 0 here) 0)

zero_within : (known here told : ℕ) → distance_of known told ≡ 0 → is_beyond_credit known here (Some told) ≡ false
zero_within known here told e = rw e (and_left (nat_lt here 0) (nat_lt 0 (2 ^ 31)) (le-ltb here 0 (omega arith)))

-- a flow that states the known count does what one without a count does
pub known_after : (s : LinkState) → s.delivery_count < 2 ^ 32 → link_after s (FlowStated (Some s.delivery_count)) ≡ link_after s (FlowStated None)
known_after s l = ap (λ (d : ℕ). advanced s d) (zero_moves s.delivery_count s.credit s.delivery_count (no_distance s.delivery_count l))

-- it may always come
pub known_may : (s : LinkState) → s.delivery_count < 2 ^ 32 → LinkMay s (FlowStated (Some s.delivery_count))
known_may s l = zero_within s.delivery_count s.credit s.delivery_count (no_distance s.delivery_count l)

-- and it tells the same of a drain
pub known_drained : (s : LinkState) → s.delivery_count < 2 ^ 32 → is_drained s (Some s.delivery_count) ≡ is_drained s None
known_drained s l = ap (λ (d : ℕ). s.draining && nat_eq (s.credit - d) 0) (zero_moves s.delivery_count s.credit s.delivery_count (no_distance s.delivery_count l))

-- A history stays sound. ---------------------------------------------------------------------------------------------

-- the test of a first fault does not hold where there is none, nor is there a later one
pub skip_some : (b : Bool) (x : LinkFault) (o : Option LinkFault) → cond b (Some x) o ≡ None → (b ≡ false) × (o ≡ None)
skip_some true x o e = absurd (grind (arith, e))
skip_some false x o e = (refl, e)

-- what holds of a transfer without a fault
pub record Fits (s : LinkState) (t : Sent) : Type 0 where
  pub formed : is_formed s.terms s.unfinished t ≡ true
  pub paid : cost s.unfinished ≤ s.credit
  pub short : (t.aborted ≡ true) ⊎ (length (delivery_after s.terms s.unfinished t).message ≤ s.terms.bounds.max_message_size)

paid_for : (p : Option Delivery) (credit : ℕ) → is_none p && nat_eq credit 0 ≡ false → cost p ≤ credit
paid_for None credit e = let n = eqb-false credit 0 e in omega (arith, n)
paid_for (Some d) credit e = omega arith

short_enough : (a : Bool) (n m : ℕ) → not a && nat_lt n m ≡ false → (a ≡ true) ⊎ (m ≤ n)
short_enough true n m e = inl refl
short_enough false n m e = inr (ltb-false n m e)

-- it does
pub fits : (s : LinkState) (t : Sent) → fault_of s t ≡ None → Fits s t
fits s t e =
    let a = skip_some t.resume NotImplemented (cond (not (is_formed s.terms s.unfinished t)) (Some InvalidField)
    (cond (lacks_credit s) (Some TransferLimit) (cond (is_too_long s t) (Some MessageSize) None))) e in
    let b = skip_some (not (is_formed s.terms s.unfinished t)) InvalidField (cond (lacks_credit s) (Some TransferLimit) (cond (is_too_long s t) (Some MessageSize) None)) a.1 in
    let c = skip_some (lacks_credit s) TransferLimit (cond (is_too_long s t) (Some MessageSize) None) b.1 in
    let d = skip_some (is_too_long s t) MessageSize None c.1 in
    record { formed = not-false _ b.0; paid = paid_for s.unfinished s.credit c.0; short = short_enough t.aborted _ _ d.0 }

one_way : (t : Sent) → one_if (completes t) + one_if (goes_on t) ≤ 1
one_way t = two t.more t.aborted
  where
    two : (m a : Bool) → one_if (not m && not a) + one_if (m && not a) ≤ 1
    two true true = omega arith
    two true false = omega arith
    two false true = omega arith
    two false false = omega arith

one_part : (p : Option Delivery) → length (option_to_list p) + cost p ≡ 1
one_part None = refl
one_part (Some d) = refl

one_long : (b : Bool) (d : Delivery) → length (cond b (d ∷ []) []) ≡ one_if b
one_long true d = refl
one_long false d = refl

one_unfinished : (b : Bool) (d : Delivery) → length (option_to_list (cond b (Some d) None)) ≡ one_if b
one_unfinished true d = refl
one_unfinished false d = refl

left_open_one : (d : Delivery) → length (left_open d) ≤ 1
left_open_one d = elim (cases_Bool d.settled) [ inl e ↦ rw e (omega arith) | inr e ↦ rw e (omega arith) ]

left_few : (test : Delivery → Bool) (ds : List Delivery) → length (filter test ds) ≤ length ds
left_few test ds = omega (arith, length-filter test ds, count_by-le-length test ds)

part_long : (f : Delivery → Delivery) (p : Option Delivery) → length (option_to_list (option_map f p)) ≡ length (option_to_list p)
part_long f None = refl
part_long f (Some d) = refl

-- what is allowed is kept by each accepted event
pub within_after : (s : LinkState) (e : LinkEvent) → LinkMay s e → s.credit + open_count s ≤ s.terms.bounds.allowed → (link_after s e).credit + open_count (link_after s e) ≤ s.terms.bounds.allowed
within_after s (Granted n) may l = omega (arith, may)
within_after s DrainAsked may l = l
within_after s (Transferred t) may l =
    let d = delivery_after s.terms s.unfinished t in
    let f = fits s t may in
    omega (arith, f.paid, l, one_way t, one_part s.unfinished, one_long (completes t) d, one_unfinished (goes_on t) d, length-append s.ready (cond (completes t) (d ∷ []) []))
within_after s (FlowStated n) may l = omega (arith, l)
within_after s (HandedUp d) may l = omega (arith, l, left_open_one d, length-append s.awaiting (left_open d), slice_get_within s.ready 0 d may, length-drop 1 s.ready)
within_after s (ReceiverSettled first last) may l =
    let stays = λ (d : Delivery). not (receiver_settles first last d) in
    omega (arith, l, length-map (filter stays s.awaiting) (marked_told first last), left_few stays s.awaiting)
within_after s (SenderSettled first last) may l =
    let stays = λ (d : Delivery). not (is_covered first last d) in
    let turn = sender_settled_by first last in
    omega (arith, l, left_few stays s.awaiting, length-map s.ready turn, part_long turn s.unfinished)

target_short : (terms : Terms) (k : ℕ) (t : Sent) (p : Option Group) → IfAny (λ g. length (message_of g) ≤ terms.bounds.max_message_size) p → t.aborted ≡ true →
    length (message_of (target k t p)) ≤ terms.bounds.max_message_size
target_short terms k t None all e = rw e (omega arith)
target_short terms k t (Some g) all e = rw (message_more g t, e, append-nil (message_of g)) all

small_came : (terms : Terms) (h : List LinkEvent) (t : Sent) → Sound terms h → fault_of (state_of terms h) t ≡ None →
    AllByRecursion (λ g. length (message_of g) ≤ terms.bounds.max_message_size) (groups (Transferred t ∷ h))
small_came terms h t sound may =
    let short = λ (g : Group). length (message_of g) ≤ terms.bounds.max_message_size in
    let z : 0 + length (groups h) ≡ length (groups h) = omega arith in
    let one : length (message_of (target_of h t)) ≤ terms.bounds.max_message_size =
    elim ((fits (state_of terms h) t may).short) [
      | inl e ↦ target_short terms (length (groups h)) t (find is_unfinished (groups h)) (all_found (λ g. length (message_of g) ≤ terms.bounds.max_message_size) is_unfinished (groups h) sound.small) e
      | inr l ↦ subst (λ (d : Delivery). length d.message ≤ terms.bounds.max_message_size) (sym (shown_one terms h t)) l
    ] in
    rw (groups_came h t) (all_more (λ g. length (message_of g) ≤ terms.bounds.max_message_size) 0 t (groups h) (runs h) sound.small
    (subst (λ (n : ℕ). length (message_of (target n t (find is_unfinished (groups h)))) ≤ terms.bounds.max_message_size) (sym z) one))

tag_short : (tag : Option (List ℕ)) → is_tag tag ≡ true → length (unwrap_or tag []) ≤ 32
tag_short None e = omega arith
tag_short (Some tag) e = leb-true (length tag) 32 e

-- the tag of a well formed first transfer has at most 32 bytes
pub head_tag : (terms : Terms) (t : Sent) → is_formed_head terms t ≡ true → length (unwrap_or t.delivery_tag []) ≤ 32
head_tag terms t e = tag_short t.delivery_tag (and_parts _ _ (and_parts _ _ e).0).1

target_tagged : (terms : Terms) (h : List LinkEvent) (k : ℕ) (t : Sent) (p : Option Group) → IfAny (λ g. length (unwrap_or g.head.delivery_tag []) ≤ 32) p →
    is_formed terms (option_map (shown terms h) p) t ≡ true → length (unwrap_or (target k t p).head.delivery_tag []) ≤ 32
target_tagged terms h k t None all formed = head_tag terms t formed
target_tagged terms h k t (Some g) all formed = all

tagged_came : (terms : Terms) (h : List LinkEvent) (t : Sent) → Sound terms h → fault_of (state_of terms h) t ≡ None →
    AllByRecursion (λ g. length (unwrap_or g.head.delivery_tag []) ≤ 32) (groups (Transferred t ∷ h))
tagged_came terms h t sound may =
    let short = all_found (λ g. length (unwrap_or g.head.delivery_tag []) ≤ 32) is_unfinished (groups h) sound.tagged in
    let one = target_tagged terms h (0 + length (groups h)) t (find is_unfinished (groups h)) short (fits (state_of terms h) t may).formed in
    rw (groups_came h t) (all_more (λ g. length (unwrap_or g.head.delivery_tag []) ≤ 32) 0 t (groups h) (runs h) sound.tagged one)

-- what one step owes
abbrev pub Goes : Terms → List LinkEvent → LinkEvent → Type 0
Goes terms h e = (link_after (state_of terms h) e ≡ state_of terms (e ∷ h)) × Sound terms (e ∷ h)

within_state : (terms : Terms) (h : List LinkEvent) (e : LinkEvent) → Sound terms h → LinkMay (state_of terms h) e → link_after (state_of terms h) e ≡ state_of terms (e ∷ h) →
    credit terms (e ∷ h) + open_count (state_of terms (e ∷ h)) ≤ terms.bounds.allowed
within_state terms h e sound may same = subst (λ (s : LinkState). s.credit + open_count s ≤ terms.bounds.allowed) same (within_after (state_of terms h) e may sound.within)

-- an event that is no transfer and hands nothing up leaves the deliveries as they were
still : (terms : Terms) (h : List LinkEvent) (e : LinkEvent) → Sound terms h → transfer_of e ≡ None → handed_up_by e ≡ None → heads (e ∷ h) + advances terms (e ∷ h) ≤ grants (e ∷ h) →
    credit terms (e ∷ h) + open_count (state_of terms (e ∷ h)) ≤ terms.bounds.allowed → Sound terms (e ∷ h)
still terms h (Transferred t) sound none given spent within = absurd (grind (arith, none))
still terms h (HandedUp d) sound none given spent within = absurd (grind (arith, given))
still terms h e sound none given spent within = record {
  spent = spent;
  begun = sound.begun;
  front = sound.front;
  stood = sound.stood;
  came = sound.came;
  within = within;
  small = sound.small;
  tagged = sound.tagged;
}

granted : (terms : Terms) (h : List LinkEvent) (n : ℕ) → Sound terms h → LinkMay (state_of terms h) (Granted n) → Goes terms h (Granted n)
granted terms h n sound may =
    let same = grant_state terms h n sound.spent in
    let spent : heads h + advances terms h ≤ grants (Granted n ∷ h) = rw (sum_by-cons granted_by (Granted n) h) (omega (arith, sound.spent)) in
    (same, still terms h (Granted n) sound refl refl spent (within_state terms h (Granted n) sound may same))

drains : (terms : Terms) (h : List LinkEvent) → Sound terms h → Goes terms h DrainAsked
drains terms h sound = (refl, still terms h DrainAsked sound refl refl sound.spent sound.within)

came : (terms : Terms) (h : List LinkEvent) (t : Sent) → Sound terms h → fault_of (state_of terms h) t ≡ None → Goes terms h (Transferred t)
came terms h t sound may =
    let same = came_state terms h t sound.came in
    let paid = (fits (state_of terms h) t may).paid in
    let price = cost_is terms h (find is_unfinished (groups h)) in
    let more_wholes = ap length (wholes_came h t) ∙ length-append (wholes h) (filter is_whole (target_of h t ∷ [])) in (
      same,
      record {
        spent = omega (arith, sound.spent, paid, price, heads_came h t);
        begun = omega (arith, sound.begun, begun_more h t, heads_came h t);
        front = sound.front ∙ ap (map content) (sym (ap (take (takes h)) (wholes_came h t) ∙ take-append-le (takes h) (wholes h) _ sound.came));
        stood = sound.stood;
        came = omega (arith, sound.came, more_wholes);
        within = within_state terms h (Transferred t) sound may same;
        small = small_came terms h t sound may;
        tagged = tagged_came terms h t sound may;
      },
    )

counts : (terms : Terms) (h : List LinkEvent) (n : Option ℕ) → Sound terms h → LinkMay (state_of terms h) (FlowStated n) → Goes terms h (FlowStated n)
counts terms h n sound may =
    let same = count_state terms h n in
    let l = advance_within (delivery_count terms h) (credit terms h) n in
    let spent : heads h + advances terms (FlowStated n ∷ h) ≤ grants h = omega (arith, sound.spent, l) in
    (same, still terms h (FlowStated n) sound refl refl spent (within_state terms h (FlowStated n) sound may same))

took : (terms : Terms) (h : List LinkEvent) (d : Delivery) → Sound terms h → LinkMay (state_of terms h) (HandedUp d) → Goes terms h (HandedUp d)
took terms h d sound may =
    let same = take_state terms h d may in
    let f = first_ready terms h d may in
    let on = one_on (takes h) (wholes h) f.group f.later f.rest in (
      same,
      record {
        spent = sound.spent;
        begun = sound.begun;
        front = map-append content_of (handed_up h) (d ∷ []) ∙ ap (λ (cs : List Content). cs ++ content_of d ∷ []) sound.front
            ∙ sym (ap (λ (n : ℕ). map content (take n (wholes h))) (took_one h d) ∙ ap (map content) on.0 ∙ map-append content (handed_up_groups h) (f.group ∷ [])
            ∙ ap (λ (d : Delivery). map content (handed_up_groups h) ++ content_of d ∷ []) (sym f.is));
        stood = took_given terms h d f sound.stood;
        came = omega (arith, took_one h d, ap length f.rest, length-drop (takes h) (wholes h));
        within = within_state terms h (HandedUp d) sound may same;
        small = sound.small;
        tagged = sound.tagged;
      },
    )

named : (terms : Terms) (h : List LinkEvent) (first last : ℕ) → Sound terms h → LinkMay (state_of terms h) (ReceiverSettled first last) → Goes terms h (ReceiverSettled first last)
named terms h first last sound may =
    let same = named_state terms h first last in
    (same, still terms h (ReceiverSettled first last) sound refl refl sound.spent (within_state terms h (ReceiverSettled first last) sound may same))

covered : (terms : Terms) (h : List LinkEvent) (first last : ℕ) → Sound terms h → LinkMay (state_of terms h) (SenderSettled first last) → Goes terms h (SenderSettled first last)
covered terms h first last sound may =
    let same = covered_state terms h first last in
    (same, still terms h (SenderSettled first last) sound refl refl sound.spent (within_state terms h (SenderSettled first last) sound may same))

-- one more event of a link leaves the state of the longer history
pub goes_on_sound : (terms : Terms) (h : List LinkEvent) (e : LinkEvent) → Sound terms h → LinkMay (state_of terms h) e → Goes terms h e
goes_on_sound terms h (Granted n) sound may = granted terms h n sound may
goes_on_sound terms h DrainAsked sound may = drains terms h sound
goes_on_sound terms h (Transferred t) sound may = came terms h t sound may
goes_on_sound terms h (FlowStated n) sound may = counts terms h n sound may
goes_on_sound terms h (HandedUp d) sound may = took terms h d sound may
goes_on_sound terms h (ReceiverSettled first last) sound may = named terms h first last sound may
goes_on_sound terms h (SenderSettled first last) sound may = covered terms h first last sound may

-- a new link has the state of the empty history
pub begins_sound : (terms : Terms) → terms.initial_delivery_count < 2 ^ 32 → (link_begins terms ≡ state_of terms []) × Sound terms []
unfolding stated
begins_sound terms l = (
  stated_same terms _ _ _ _ _ _ _ _ _ _ _ _ refl refl (omega (arith, l)) refl refl refl,
  record { spent = omega arith; begun = refl; front = refl; stood = refl; came = omega arith; within = omega arith; small = tt; tagged = tt },
)

-- after any list of accepted events a link has the state of the history
pub all_sound : (terms : Terms) (h : List LinkEvent) → terms.initial_delivery_count < 2 ^ 32 → Accepted terms h → (after_all terms h ≡ state_of terms h) × Sound terms h
all_sound terms [] l all = begins_sound terms l
all_sound terms (e ∷ h) l all =
    let before = all_sound terms h l all.0 in
    let step = goes_on_sound terms h e before.1 (subst (λ (s : LinkState). LinkMay s e) before.0 all.1) in
    (ap (λ (s : LinkState). link_after s e) before.0 ∙ step.0, step.1)

-- credit rises by what is granted at most
pub credit_more : (terms : Terms) (h : List LinkEvent) (e : LinkEvent) → credit terms (e ∷ h) ≤ credit terms h + granted_by e
credit_more terms h (Granted n) = rw (sum_by-cons granted_by (Granted n) h) (omega arith)
credit_more terms h (Transferred t) = omega (arith, heads_came h t)
credit_more terms h e = omega arith
