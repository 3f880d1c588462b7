-- A transfer more: what its delivery becomes.
use Rattle.std.proofs.Common.{arith, ◌≡◌, ℕ, suc, ◌+◌, ◌-◌, ◌%◌, ◌^◌, ◌≤◌, Bool, true, false, not, ◌&&◌, ◌||◌, cond, List, [], ◌∷◌, ◌++◌, length, map, filter, take, drop, refl}
use Rattle.std.proofs.Common.{sym, ap, ◌∙◌, ne_eqb, Option, Some, None}
use Rattle.std.specs.Prelude.{is_none, find, option_map, nat_eq, unwrap_or}
use Rattle.std.specs.List.{list_any}
use Rattle.std.proofs.Math.Bool.{or-false}
use Rattle.std.proofs.lemmas.Bool.{or_from, and_left}
use Rattle.std.proofs.lemmas.List.{append-nil, drop-append-le, take-append-le, map-append}
use Rattle.amqp_link.specs.declared.terms.Terms.{Terms}
use Rattle.amqp_link.specs.Links.{Sent, goes_on, completes, adds, Delivery, delivery_after, mode_at, LinkState, LinkEvent, Transferred, ReceiverSettled, SenderSettled, link_after, cost}
use Rattle.amqp_link.specs.Histories.{Group, groups, transfers, all_of, latest, is_whole, is_unfinished, wholes, takes, ready_groups, heads, one_if, grants, advances}
use Rattle.amqp_link.specs.Histories.{settled_later, told_later, is_settled, id_of, shown, shown_awaiting, state_of}
use Rattle.amqp_link.proofs.Groups.{runs, alone, target, more, groups_more, Runs, wholes_more, find_more, length_more, latest_of_target, message_more, heads_more, starts_is}

-- Numbers that no delivery has yet. ----------------------------------------------------------------------

none_passes : (test : Group → Bool) (k number : ℕ) (gs : List Group) → Runs k gs → k + length gs ≤ number → list_any (λ g. nat_eq g.number number && test g) gs ≡ false
none_passes test k number [] r l = refl
none_passes test k number (g ∷ []) r l =
    let e : g.number ≡ number → ⊥ = λ e. omega (arith, r, l, e) in
    or_from _ _ (and_left _ _ (ne_eqb g.number number e)) refl
none_passes test k number (g ∷ h ∷ gs) r l =
    let e : g.number ≡ number → ⊥ = λ e. omega (arith, r.0, l, e) in
    or_from _ _ (and_left _ _ (ne_eqb g.number number e)) (none_passes test (suc k) number (h ∷ gs) r.2 (omega (arith, l)))

-- the groups behind one more transfer
pub groups_came : (h : List LinkEvent) (t : Sent) → groups (Transferred t ∷ h) ≡ more 0 t (groups h)
groups_came h t = groups_more 0 (transfers h) t

-- how many they are
pub begun_more : (h : List LinkEvent) (t : Sent) → length (groups (Transferred t ∷ h)) ≡ length (groups h) + one_if (is_none (find is_unfinished (groups h)))
begun_more h t = ap length (groups_came h t) ∙ length_more 0 t (groups h) (runs h)

settled_fresh : (terms : Terms) (h : List LinkEvent) (number : ℕ) → length (groups h) ≤ number → settled_later terms h number ≡ false
settled_fresh terms [] number l = refl
settled_fresh terms (Transferred t ∷ h) number l = settled_fresh terms h number (omega (arith, begun_more h t, l))
settled_fresh terms (ReceiverSettled first last ∷ h) number l = or_from _ _ (none_passes _ 0 number (groups h) (runs h) (omega (arith, l))) (settled_fresh terms h number l)
settled_fresh terms (SenderSettled first last ∷ h) number l = or_from _ _ (none_passes _ 0 number (groups h) (runs h) (omega (arith, l))) (settled_fresh terms h number l)
settled_fresh terms (e ∷ h) number l = settled_fresh terms h number l

told_fresh : (terms : Terms) (h : List LinkEvent) (number : ℕ) → length (groups h) ≤ number → told_later terms h number ≡ false
told_fresh terms [] number l = refl
told_fresh terms (Transferred t ∷ h) number l = told_fresh terms h number (omega (arith, begun_more h t, l))
told_fresh terms (ReceiverSettled first last ∷ h) number l = or_from _ _ (none_passes _ 0 number (groups h) (runs h) (omega (arith, l))) (told_fresh terms h number l)
told_fresh terms (e ∷ h) number l = told_fresh terms h number l

-- The delivery of a transfer. --------------------------------------------------------------------------------

made : Terms → Group → Bool → Bool → List ℕ → Delivery
made terms g settled told message = record {
  delivery_id = id_of g;
  delivery_tag = unwrap_or g.head.delivery_tag [];
  message_format = unwrap_or g.head.message_format 0;
  rcv_settle_mode = mode_at terms g.head;
  settled = settled;
  told = told;
  message = message;
}

made_same : (terms : Terms) (g : Group) (a b c d : Bool) (v w : List ℕ) → a ≡ b → c ≡ d → v ≡ w → made terms g a c v ≡ made terms g b d w
made_same terms g a b c d v w e f m = rw (e, f, m) refl

or_turn : (a b c : Bool) → ((a || b) || c) ≡ ((a || c) || b)
or_turn true b c = refl
or_turn false true true = refl
or_turn false true false = refl
or_turn false false true = refl
or_turn false false false = refl

or_assoc : (a b c : Bool) → (a || (b || c)) ≡ ((a || b) || c)
or_assoc true b c = refl
or_assoc false b c = refl

any_more : (f : Sent → Bool) (ts : List Sent) (t : Sent) → list_any f (ts ++ t ∷ []) ≡ (list_any f ts || f t)
any_more f [] t = or-false (f t)
any_more f (u ∷ ts) t = ap (λ (b : Bool). f u || b) (any_more f ts t) ∙ or_assoc (f u) (list_any f ts) (f t)

-- the delivery that it belongs to, as the state shows it
pub delivery_shown : (terms : Terms) (h : List LinkEvent) (t : Sent) (p : Option Group) →
    shown terms (Transferred t ∷ h) (target (length (groups h)) t p) ≡ delivery_after terms (option_map (shown terms h) p) t
unfolding made
delivery_shown terms h t None =
    let n = length (groups h) in
    let low : length (groups h) ≤ length (groups h) = omega arith in
    made_same terms (alone (length (groups h)) t) _ _ _ _ _ _
    (ap (λ (b : Bool). (t.settled || false) || b) (settled_fresh terms h (length (groups h)) low) ∙ or-false (t.settled || false) ∙ or-false t.settled)
    (told_fresh terms h (length (groups h)) low)
    (append-nil (adds t))
delivery_shown terms h t (Some g) =
    made_same terms g _ _ _ _ _ _
    (ap (λ (b : Bool). b || settled_later terms h g.number) (any_more (λ t. t.settled) (all_of g) t) ∙ or_turn (list_any (λ t. t.settled) (all_of g)) t.settled (settled_later terms h g.number))
    refl
    (message_more g t)

-- A transfer. ---------------------------------------------------------------------------------------------------

-- the delivery that a transfer belongs to
abbrev pub target_of : List LinkEvent → Sent → Group
target_of h t = target (length (groups h)) t (find is_unfinished (groups h))

-- the whole deliveries behind it
pub wholes_came : (h : List LinkEvent) (t : Sent) → wholes (Transferred t ∷ h) ≡ wholes h ++ filter is_whole (target_of h t ∷ [])
wholes_came h t =
    let z : 0 + length (groups h) ≡ length (groups h) = omega arith in
    ap (filter is_whole) (groups_came h t) ∙ wholes_more 0 t (groups h) (runs h) ∙ ap (λ (n : ℕ). wholes h ++ filter is_whole (target n t (find is_unfinished (groups h)) ∷ [])) z

part_came : (h : List LinkEvent) (t : Sent) → find is_unfinished (groups (Transferred t ∷ h)) ≡ find is_unfinished (target_of h t ∷ [])
part_came h t =
    let z : 0 + length (groups h) ≡ length (groups h) = omega arith in
    ap (find is_unfinished) (groups_came h t) ∙ find_more 0 t (groups h) (runs h) ∙ ap (λ (n : ℕ). find is_unfinished (target n t (find is_unfinished (groups h)) ∷ [])) z

-- what it costs is what its delivery's beginning does
pub cost_is : (terms : Terms) (h : List LinkEvent) (p : Option Group) → cost (option_map (shown terms h) p) ≡ one_if (is_none p)
cost_is terms h None = refl
cost_is terms h (Some g) = refl

-- the heads behind it
pub heads_came : (h : List LinkEvent) (t : Sent) → heads (Transferred t ∷ h) ≡ heads h + one_if (is_none (find is_unfinished (groups h)))
heads_came h t = heads_more true (transfers h) t ∙ ap (λ (b : Bool). heads h + one_if b) (starts_is h)

used : (g n a c : ℕ) → (g - (n + a)) - c ≡ g - ((n + c) + a)
used g n a c = omega arith

counted : (f n a c : ℕ) → ((f + n + a) % 2 ^ 32 + c) % 2 ^ 32 ≡ (f + (n + c) + a) % 2 ^ 32
counted f n a c = omega arith

map_one : {X Y : Type 0} (f : X → Y) (b : Bool) (x : X) → map f (cond b (x ∷ []) []) ≡ cond b (f x ∷ []) []
map_one f true x = refl
map_one f false x = refl

option_one : {X Y : Type 0} (f : X → Y) (b : Bool) (x : X) → option_map f (cond b (Some x) None) ≡ cond b (Some (f x)) None
option_one f true x = refl
option_one f false x = refl

-- a state of these fields
unfoldable pub stated : Terms → Bool → ℕ → ℕ → List Delivery → List Delivery → Option Delivery → LinkState
stated terms m c n taken ready unfinished = record { terms = terms; credit = c; delivery_count = n; draining = m; awaiting = taken; ready = ready; unfinished = unfinished }

-- two states are the same where their fields are
pub stated_same : (terms : Terms) (a b : Bool) (c d n k : ℕ) (ts us rs ss : List Delivery) (p q : Option Delivery) → a ≡ b → c ≡ d → n ≡ k → ts ≡ us → rs ≡ ss → p ≡ q →
    stated terms a c n ts rs p ≡ stated terms b d k us ss q
stated_same terms a b c d n k ts us rs ss p q e e0 e1 e2 e3 e4 = rw (e, e0, e1, e2, e3, e4) refl

-- the delivery that it belongs to is the one that the state has unfinished, with it
pub shown_one : (terms : Terms) (h : List LinkEvent) (t : Sent) → shown terms (Transferred t ∷ h) (target_of h t) ≡ delivery_after terms (state_of terms h).unfinished t
shown_one terms h t = delivery_shown terms h t (find is_unfinished (groups h))

latest_one : (h : List LinkEvent) (t : Sent) → latest (target_of h t) ≡ t
latest_one h t = latest_of_target (length (groups h)) t (find is_unfinished (groups h))

-- a transfer leaves the state of the longer history
pub came_state : (terms : Terms) (h : List LinkEvent) (t : Sent) → takes h ≤ length (wholes h) → link_after (state_of terms h) (Transferred t) ≡ state_of terms (Transferred t ∷ h)
unfolding stated
came_state terms h t came =
    let new = delivery_after terms (state_of terms h).unfinished t in
    let price : cost (state_of terms h).unfinished ≡ one_if (is_none (find is_unfinished (groups h))) = cost_is terms h (find is_unfinished (groups h)) in
    stated_same terms _ _ _ _ _ _ _ _ _ _ _ _
    refl
    (rw price (used (grants h) (heads h) (advances terms h) _ ∙ ap (λ (n : ℕ). grants h - (n + advances terms h)) (sym (heads_came h t))))
    (rw price (counted terms.initial_delivery_count (heads h) (advances terms h) _ ∙ ap (λ (n : ℕ). (terms.initial_delivery_count + n + advances terms h) % 2 ^ 32) (sym (heads_came h t))))
    (ap (λ (gs : List Group). map (shown_awaiting terms h) (filter (λ g. not (is_settled terms h g)) gs)) (sym (ap (take (takes h)) (wholes_came h t) ∙ take-append-le (takes h) (wholes h) _ came)))
    (sym (ap (λ (gs : List Group). map (shown terms (Transferred t ∷ h)) (drop (takes h) gs)) (wholes_came h t)
    ∙ ap (map (shown terms (Transferred t ∷ h))) (drop-append-le (takes h) (wholes h) _ came)
    ∙ map-append (shown terms (Transferred t ∷ h)) (ready_groups h) _
    ∙ ap (λ (ds : List Delivery). map (shown terms h) (ready_groups h) ++ ds)
    (map_one (shown terms (Transferred t ∷ h)) (completes (latest (target_of h t))) (target_of h t)
    ∙ ap (λ (u : Sent). cond (completes u) (shown terms (Transferred t ∷ h) (target_of h t) ∷ []) []) (latest_one h t)
    ∙ ap (λ (d : Delivery). cond (completes t) (d ∷ []) []) (shown_one terms h t))))
    (sym (ap (option_map (shown terms (Transferred t ∷ h))) (part_came h t)
    ∙ option_one (shown terms (Transferred t ∷ h)) (goes_on (latest (target_of h t))) (target_of h t)
    ∙ ap (λ (u : Sent). cond (goes_on u) (Some (shown terms (Transferred t ∷ h) (target_of h t))) None) (latest_one h t)
    ∙ ap (λ (d : Delivery). cond (goes_on t) (Some d) None) (shown_one terms h t)))
