-- Every turn keeps the two inequalities.
use Rattle.std.proofs.Common.{◌≡◌, ℕ, ◌+◌, ◌-◌, ◌%◌, ◌^◌, ◌<◌, ◌≤◌, ◌&&◌, ◌||◌, Bool, true, false, not, cond, ltb, leb, eqb, List, [], ◌∷◌, ◌++◌, length, map, take, drop, Option, Some, None, refl, sym, ◌∙◌, ap, subst, arith, append_assoc, append-nil, length-append, ne_eqb}
use Rattle.std.specs.Prelude.{is_none, option_map, option_to_list, filter}
use Rattle.std.specs.List.{AllByRecursion, list_any}
use Rattle.std.proofs.lemmas.Bool.{ltb-true, leb-true, le-leb}
use Rattle.std.proofs.lemmas.List.{take-append-drop, map-append}
use Rattle.amqp_perform.specs.declared.modes.ReceiverSettleMode.{ReceiverSettleMode}
use Rattle.amqp_perform.specs.declared.modes.ReceiverSettleMode.TheVariants as mode
use Rattle.amqp_link.specs.Links.{Delivery, LinkState, deliveries, open_count, has_id, fault_of, advance_by, link_after, delivery_after, Granted, DrainAsked, Transferred, ReceiverSettled, receiver_settles, marked_told, is_first}
use Rattle.amqp_serial.specs.Numbers.{sum_of}
use Rattle.amqp_pair.specs.World.{Flow, Frame, First, Later, Told, Sender, ahead, credit_of, window_of, World, frame_of, charge, sent, puts, cuts, writes, answers, drained, answered, told, comes, offers, first_sent, later_sent, fails, judged, takes_in, id_open, counts, acts, flow_of, flows, takes, Turn, Offer, Write, To_end, To_sender, Grant, Widen, Drain, Take, Settle, happens, text, grown, done, wholes, tail, IsDeliveryBegun, BegunAs, Walk, Tells, Climb, part_text, messages, waits_first, Plain, Inv, IsWithin, IsFair, start, StepLaw, BeginLaw, run, AreFair, heads_of, transfers_of, IsServed, WorldLaw}
use Rattle.amqp_pair.proofs.Climbs.{walk_le, walk_first, walk_later, walk_told, climb_le, climb_up, climb_link, climb_session, ahead_is}
use Rattle.amqp_pair.proofs.Wholes.{wholes_first, wholes_later, wholes_told, Small, small_back, small_more, next_fits}

abbrev Kept : World → Type 0
Kept w = (y : Plain) × Inv w y

-- ---- plain numbers

module _ (w : World) (x : Plain) (i : Inv w x) where
  ends : (x.ce ≤ x.cs) × (x.ue ≤ x.ns) × (x.ke ≤ x.ks)
  ends = walk_le w.to_end (part_text w.link) x.ce x.ue x.ke x.last x.cs x.ns x.ks i.walk

  tops : (x.ls ≤ x.ce + w.link.credit) × (x.ws ≤ x.ue + w.places)
  tops = climb_le w.to_sender x.ls x.ws (x.ce + w.link.credit) (x.ue + w.places) i.climb

  credit_is : credit_of w.sender ≡ x.ls - x.cs
  credit_is = ahead_is w.sender.credit_limit w.sender.count x.ls x.cs i.told_credit i.count i.spent (omega (arith, ends, tops, i.within, i.few))

  window_is : window_of w.sender ≡ x.ws - x.ns
  window_is = ahead_is w.sender.window_limit w.sender.next x.ws x.ns i.told_window i.next i.used (omega (arith, ends, tops, i.narrow))

  -- the two inequalities
  pub credit_within : credit_of w.sender + (x.cs - x.ce) ≤ w.link.credit
  credit_within = omega (arith, credit_is, ends, tops, i.spent)

  pub window_within : window_of w.sender + (x.ns - x.ue) ≤ w.places
  window_within = omega (arith, window_is, ends, tops, i.used)

pub within : (w : World) (x : Plain) → Inv w x → IsWithin w x
within w x i = record { credit = credit_within w x i; window = window_within w x i }

-- ---- the sender

-- a flow is on its way to the endpoint
tell_kept : (w : World) (x : Plain) (count next d : ℕ) → x.cs ≤ d → d ≤ x.ls → count ≡ d % 2 ^ 32 → next ≡ x.ns % 2 ^ 32 → Inv w x → Inv (record w { sender = record w.sender { count = count }; to_end = w.to_end ++ Told count next ∷ [] }) (record x { cs = d })
tell_kept w x count next d le most e f i = record {
  fine = i.fine;
  id = i.id;
  count = e;
  next = i.next;
  begun = i.begun;
  goes_on = i.goes_on;
  told_credit = i.told_credit;
  told_window = i.told_window;
  spent = most;
  used = i.used;
  climb = i.climb;
  walk = walk_told w.to_end (part_text w.link) x.ce x.ue x.ke x.last x.cs x.ns x.ks d count next le e f i.walk;
  end_count = i.end_count;
  end_next = i.end_next;
  narrow = i.narrow;
  within = i.within;
  few = i.few;
  stream = ap (λ z. w.given ++ (messages w.link.ready ++ (z ++ tail x.last w.sender.waiting))) (wholes_told w.to_end (part_text w.link) count next) ∙ i.stream;
  small = i.small;
  ids_taken = i.ids_taken;
  ids_ready = i.ids_ready;
  ids_part = i.ids_part;
  numbered = i.numbered;
  messages = i.messages;
}

answer_kept : (w : World) (x : Plain) (drain echo : Bool) → Inv w x → Kept (answered w drain echo)
answer_kept w x true echo i =
    let all : (w.sender.count + credit_of w.sender) % 2 ^ 32 ≡ x.ls % 2 ^ 32 = rw (credit_is w x i) (omega (arith, i.count, i.spent)) in
    (record x { cs = x.ls }, tell_kept w x ((w.sender.count + credit_of w.sender) % 2 ^ 32) w.sender.next x.ls i.spent (omega arith) all i.next i)
answer_kept w x false true i = (record x { cs = x.cs }, tell_kept w x w.sender.count w.sender.next x.cs (omega arith) i.spent i.count i.next i)
answer_kept w x false false i = (x, i)

link_limit : (b : Bool) (a old : ℕ) (f : Flow) (l m : ℕ) → old % 2 ^ 32 ≡ l % 2 ^ 32 → Rattle.amqp_pair.specs.World.TellsCredit b f l m → cond b (sum_of f.count f.credit) old % 2 ^ 32 ≡ m % 2 ^ 32
link_limit true a old f l m e t = omega (arith, t)
link_limit false a old f l m e t = rw t e

come_kept : (w : World) (x : Plain) (fs : List Flow) → w.to_sender ≡ fs → Inv w x → Kept (comes w fs)
come_kept w x [] e i = (x, i)
come_kept w x (f ∷ fs) e i =
    let c : Climb (f ∷ fs) x.ls x.ws (x.ce + w.link.credit) (x.ue + w.places) = subst (λ (z : List Flow). Climb z x.ls x.ws (x.ce + w.link.credit) (x.ue + w.places)) e i.climb in
    answer_kept (record w { sender = told w.sender f; to_sender = fs }) (record x { ls = c.0; ws = c.1 }) _ f.echo (record {
      fine = i.fine;
      id = i.id;
      count = i.count;
      next = i.next;
      begun = i.begun;
      goes_on = i.goes_on;
      told_credit = link_limit f.of_link 0 w.sender.credit_limit f x.ls c.0 i.told_credit c.4.0;
      told_window = omega (arith, c.4.1);
      spent = omega (arith, i.spent, c.2);
      used = omega (arith, i.used, c.3);
      climb = c.5;
      walk = i.walk;
      end_count = i.end_count;
      end_next = i.end_next;
      narrow = i.narrow;
      within = i.within;
      few = i.few;
      stream = i.stream;
      small = i.small;
      ids_taken = i.ids_taken;
      ids_ready = i.ids_ready;
      ids_part = i.ids_part;
      numbered = i.numbered;
      messages = i.messages;
    })

begun_grown : (part : Option (List ℕ)) (p : List ℕ) (m : Bool) → BegunAs m (grown part p m)
begun_grown part p true = tt
begun_grown part p false = refl

not_begun : (b : Bool) (last : Option (List ℕ)) → b ≡ false → BegunAs b last → last ≡ None
not_begun true last e h = absurd cc
not_begun false last e h = h

is_begun : (b : Bool) (last : Option (List ℕ)) → b ≡ true → BegunAs b last → IsDeliveryBegun last
is_begun true last e h = h
is_begun false last e h = absurd cc

stream_more : (g r s t u v : List (List ℕ)) (o : List (List ℕ)) (wh : List (List ℕ)) → wh ≡ s ++ t → t ++ u ≡ v → g ++ (r ++ (s ++ v)) ≡ o → g ++ (r ++ (wh ++ u)) ≡ o
stream_more g r s t u v o wh e f h = ap (λ z. g ++ (r ++ z)) (ap (λ z. z ++ u) e ∙ append_assoc s t u ∙ ap (λ z. s ++ z) f) ∙ h

-- the first frame of a message is written, or a later one
put_first : (w : World) (x : Plain) (p : List ℕ) (m : Bool) (rest : Option (List ℕ)) → w.sender.begun ≡ false → 0 < window_of w.sender → 0 < credit_of w.sender
    → (rest ≡ None → m ≡ false) → done None p m ++ tail (grown None p m) rest ≡ tail x.last w.sender.waiting → x.ks + 1 + waits_first (record w.sender { waiting = rest; begun = m }) ≡ length w.offered → Inv w x
    → Inv (record w { sender = record w.sender { waiting = rest; begun = m; id = (w.sender.id + 1) % 2 ^ 32; count = (w.sender.count + 1) % 2 ^ 32; next = (w.sender.next + 1) % 2 ^ 32 }; to_end = w.to_end ++ First w.sender.id p m ∷ [] })
    (record x { cs = x.cs + 1; ns = x.ns + 1; ks = x.ks + 1; last = grown None p m })
put_first w x p m rest b room paid over stream number i = record {
  fine = i.fine;
  id = omega (arith, i.id);
  count = omega (arith, i.count);
  next = omega (arith, i.next);
  begun = begun_grown None p m;
  goes_on = over;
  told_credit = i.told_credit;
  told_window = i.told_window;
  spent = omega (arith, paid, credit_is w x i, i.spent);
  used = omega (arith, room, window_is w x i, i.used);
  climb = i.climb;
  walk = walk_first w.to_end (part_text w.link) x.ce x.ue x.ke x.last x.cs x.ns x.ks w.sender.id p m (not_begun w.sender.begun x.last b i.begun) i.id i.walk;
  end_count = i.end_count;
  end_next = i.end_next;
  narrow = i.narrow;
  within = i.within;
  few = i.few;
  stream = stream_more w.given (messages w.link.ready) (wholes (part_text w.link) w.to_end) (done None p m) (tail (grown None p m) rest) (tail x.last w.sender.waiting) w.offered _ (wholes_first w.to_end (part_text w.link) w.sender.id p m) stream i.stream;
  small = i.small;
  ids_taken = i.ids_taken;
  ids_ready = i.ids_ready;
  ids_part = i.ids_part;
  numbered = number;
  messages = i.messages;
}

put_later : (w : World) (x : Plain) (p : List ℕ) (m : Bool) (rest : Option (List ℕ)) → w.sender.begun ≡ true → 0 < window_of w.sender
    → (rest ≡ None → m ≡ false) → done x.last p m ++ tail (grown x.last p m) rest ≡ tail x.last w.sender.waiting → x.ks + waits_first (record w.sender { waiting = rest; begun = m }) ≡ length w.offered → Inv w x
    → Inv (record w { sender = record w.sender { waiting = rest; begun = m; id = (w.sender.id + 0) % 2 ^ 32; count = (w.sender.count + 0) % 2 ^ 32; next = (w.sender.next + 1) % 2 ^ 32 }; to_end = w.to_end ++ Later p m ∷ [] })
    (record x { ns = x.ns + 1; last = grown x.last p m })
put_later w x p m rest b room over stream number i = record {
  fine = i.fine;
  id = omega (arith, i.id);
  count = omega (arith, i.count);
  next = omega (arith, i.next);
  begun = begun_grown x.last p m;
  goes_on = over;
  told_credit = i.told_credit;
  told_window = i.told_window;
  spent = i.spent;
  used = omega (arith, room, window_is w x i, i.used);
  climb = i.climb;
  walk = walk_later w.to_end (part_text w.link) x.ce x.ue x.ke x.last x.cs x.ns x.ks p m (is_begun w.sender.begun x.last b i.begun) i.walk;
  end_count = i.end_count;
  end_next = i.end_next;
  narrow = i.narrow;
  within = i.within;
  few = i.few;
  stream = stream_more w.given (messages w.link.ready) (wholes (part_text w.link) w.to_end) (done x.last p m) (tail (grown x.last p m) rest) (tail x.last w.sender.waiting) w.offered _ (wholes_later w.to_end (part_text w.link) x.ce x.ue x.ke x.last x.cs x.ns x.ks p m i.walk) stream i.stream;
  small = i.small;
  ids_taken = i.ids_taken;
  ids_ready = i.ids_ready;
  ids_part = i.ids_part;
  numbered = number;
  messages = i.messages;
}

cut_kept : (w : World) (x : Plain) (rest : List ℕ) (n : ℕ) (more b : Bool) → w.sender.begun ≡ b → w.sender.waiting ≡ Some rest → 0 < window_of w.sender → charge w.sender ≤ credit_of w.sender → Inv w x → Kept (cuts w rest n more)
cut_kept w x rest n true false e f room paid i =
    let none = not_begun w.sender.begun x.last e i.begun in
    let ahead : 0 < credit_of w.sender = let c = rw e at paid in omega (arith, c) in
    let joined : tail (Some (take n rest)) (Some (drop n rest)) ≡ tail x.last w.sender.waiting = rw (none, f) (ap (λ z. z ∷ []) (take-append-drop n rest)) in
    let number : x.ks + 1 + 0 ≡ length w.offered = let c = rw (f, e) at i.numbered in omega (arith, c) in
    (record x { cs = x.cs + 1; ns = x.ns + 1; ks = x.ks + 1; last = Some (take n rest) }, rw e (put_first w x (take n rest) true (Some (drop n rest)) e room ahead (λ h. absurd cc) joined number i))
cut_kept w x rest n false false e f room paid i =
    let none = not_begun w.sender.begun x.last e i.begun in
    let ahead : 0 < credit_of w.sender = let c = rw e at paid in omega (arith, c) in
    let joined : rest ∷ [] ≡ tail x.last w.sender.waiting = rw (none, f) refl in
    let number : x.ks + 1 + 0 ≡ length w.offered = let c = rw (f, e) at i.numbered in omega (arith, c) in
    (record x { cs = x.cs + 1; ns = x.ns + 1; ks = x.ks + 1; last = None }, rw e (put_first w x rest false None e room ahead (λ h. refl) joined number i))
cut_kept w x rest n true true e f room paid i =
    let joined : tail (Some (text x.last ++ take n rest)) (Some (drop n rest)) ≡ tail x.last w.sender.waiting = rw f (ap (λ z. z ∷ []) (append_assoc (text x.last) (take n rest) (drop n rest) ∙ ap (λ z. text x.last ++ z) (take-append-drop n rest))) in
    let number : x.ks + 0 ≡ length w.offered = let c = rw (f, e) at i.numbered in omega (arith, c) in
    (record x { ns = x.ns + 1; last = Some (text x.last ++ take n rest) }, rw e (put_later w x (take n rest) true (Some (drop n rest)) e room (λ h. absurd cc) joined number i))
cut_kept w x rest n false true e f room paid i =
    let joined : (text x.last ++ rest) ∷ [] ≡ tail x.last w.sender.waiting = rw f refl in
    let number : x.ks + 0 ≡ length w.offered = let c = rw (f, e) at i.numbered in omega (arith, c) in
    (record x { ns = x.ns + 1; last = None }, rw e (put_later w x rest false None e room (λ h. refl) joined number i))

write_cases : (w : World) (x : Plain) (rest : List ℕ) (n : ℕ) (more a b : Bool) → ltb 0 (window_of w.sender) ≡ a → leb (charge w.sender) (credit_of w.sender) ≡ b → w.sender.waiting ≡ Some rest → Inv w x → Kept (cond a (cond b (cuts w rest n more) w) w)
write_cases w x rest n more false b e f g i = (x, i)
write_cases w x rest n more true false e f g i = (x, i)
write_cases w x rest n more true true e f g i = cut_kept w x rest n more w.sender.begun refl g (ltb-true 0 (window_of w.sender) e) (leb-true (charge w.sender) (credit_of w.sender) f) i

write_kept : (w : World) (x : Plain) (waiting : Option (List ℕ)) (n : ℕ) (more : Bool) → w.sender.waiting ≡ waiting → Inv w x → Kept (writes w waiting n more)
write_kept w x None n more e i = (x, i)
write_kept w x (Some rest) n more e i = write_cases w x rest n more _ _ refl refl e i

offer_kept : (w : World) (x : Plain) (waiting : Option (List ℕ)) (m : List ℕ) → w.sender.waiting ≡ waiting → length m ≤ w.link.terms.bounds.max_message_size → length w.offered < 2 ^ 32 → Inv w x → Kept (offers w waiting m)
offer_kept w x (Some rest) m e s l i = (x, i)
offer_kept w x None m e s l i =
    let fresh = i.goes_on e in
    let none : x.last ≡ None = not_begun w.sender.begun x.last fresh i.begun in
    let long : length (w.offered ++ m ∷ []) ≡ length w.offered + 1 = length-append w.offered (m ∷ []) in
    let number : x.ks ≡ length w.offered = let c = rw e at i.numbered in omega (arith, c) in
    let wh = wholes (part_text w.link) w.to_end in
    let before : w.given ++ (messages w.link.ready ++ wh) ≡ w.offered = ap (λ z. w.given ++ (messages w.link.ready ++ z)) (sym (append-nil wh)) ∙ (rw e at i.stream) in
    let more : w.given ++ (messages w.link.ready ++ (wh ++ m ∷ [])) ≡ w.offered ++ m ∷ [] =
    ap (λ z. w.given ++ z) (sym (append_assoc (messages w.link.ready) wh (m ∷ []))) ∙ sym (append_assoc w.given (messages w.link.ready ++ wh) (m ∷ [])) ∙ ap (λ z. z ++ m ∷ []) before in (
      x,
      record {
        fine = i.fine;
        id = i.id;
        count = i.count;
        next = i.next;
        begun = none;
        goes_on = λ h. refl;
        told_credit = i.told_credit;
        told_window = i.told_window;
        spent = i.spent;
        used = i.used;
        climb = i.climb;
        walk = i.walk;
        end_count = i.end_count;
        end_next = i.end_next;
        narrow = i.narrow;
        within = i.within;
        few = i.few;
        stream = rw none more;
        small = small_more w.link.terms.bounds.max_message_size w.offered m i.small s;
        ids_taken = i.ids_taken;
        ids_ready = i.ids_ready;
        ids_part = i.ids_part;
        numbered = omega (arith, long, number);
        messages = omega (arith, long, l);
      },
    )

-- ---- the endpoint

-- one flow of the endpoint more
flow_link_kept : (w : World) (x : Plain) → Inv w x → Inv (flows w true) x
flow_link_kept w x i =
    let l : (w.link.delivery_count + w.link.credit) % 2 ^ 32 ≡ (x.ce + w.link.credit) % 2 ^ 32 = omega (arith, i.end_count) in
    let p : (w.next + w.places) % 2 ^ 32 ≡ (x.ue + w.places) % 2 ^ 32 = omega (arith, i.end_next) in
    record {
      fine = i.fine;
      id = i.id;
      count = i.count;
      next = i.next;
      begun = i.begun;
      goes_on = i.goes_on;
      told_credit = i.told_credit;
      told_window = i.told_window;
      spent = i.spent;
      used = i.used;
      climb = climb_link w.to_sender x.ls x.ws (x.ce + w.link.credit) (x.ue + w.places) (flow_of w true) refl l p i.climb;
      walk = i.walk;
      end_count = i.end_count;
      end_next = i.end_next;
      narrow = i.narrow;
      within = i.within;
      few = i.few;
      stream = i.stream;
      small = i.small;
      ids_taken = i.ids_taken;
      ids_ready = i.ids_ready;
      ids_part = i.ids_part;
      numbered = i.numbered;
      messages = i.messages;
    }

flow_session_kept : (w : World) (x : Plain) → Inv w x → Inv (flows w false) x
flow_session_kept w x i =
    let p : (w.next + w.places) % 2 ^ 32 ≡ (x.ue + w.places) % 2 ^ 32 = omega (arith, i.end_next) in
    record {
      fine = i.fine;
      id = i.id;
      count = i.count;
      next = i.next;
      begun = i.begun;
      goes_on = i.goes_on;
      told_credit = i.told_credit;
      told_window = i.told_window;
      spent = i.spent;
      used = i.used;
      climb = climb_session w.to_sender x.ls x.ws (x.ce + w.link.credit) (x.ue + w.places) (flow_of w false) refl p i.climb;
      walk = i.walk;
      end_count = i.end_count;
      end_next = i.end_next;
      narrow = i.narrow;
      within = i.within;
      few = i.few;
      stream = i.stream;
      small = i.small;
      ids_taken = i.ids_taken;
      ids_ready = i.ids_ready;
      ids_part = i.ids_part;
      numbered = i.numbered;
      messages = i.messages;
    }

grant_kept : (w : World) (x : Plain) (n : ℕ) (b : Bool) → leb (w.link.credit + open_count w.link + n) w.link.terms.bounds.allowed ≡ b → Inv w x → Kept (cond b (flows (record w { link = link_after w.link (Granted n) }) true) w)
grant_kept w x n false e i = (x, i)
grant_kept w x n true e i =
    let fits = leb-true _ _ e in (
      x,
      flow_link_kept (record w { link = link_after w.link (Granted n) }) x (record {
        fine = i.fine;
        id = i.id;
        count = i.count;
        next = i.next;
        begun = i.begun;
        goes_on = i.goes_on;
        told_credit = i.told_credit;
        told_window = i.told_window;
        spent = i.spent;
        used = i.used;
        climb = climb_up w.to_sender x.ls x.ws (x.ce + w.link.credit) (x.ue + w.places) (x.ce + (w.link.credit + n)) (x.ue + w.places) (omega arith) (omega arith) i.climb;
        walk = i.walk;
        end_count = i.end_count;
        end_next = i.end_next;
        narrow = i.narrow;
        within = omega (arith, fits);
        few = i.few;
        stream = i.stream;
        small = i.small;
        ids_taken = i.ids_taken;
        ids_ready = i.ids_ready;
        ids_part = i.ids_part;
        numbered = i.numbered;
        messages = i.messages;
      }),
    )

widen_kept : (w : World) (x : Plain) (n : ℕ) (b : Bool) → ltb (w.places + n) (2 ^ 31) ≡ b → Inv w x → Kept (cond b (flows (record w { places = w.places + n }) false) w)
widen_kept w x n false e i = (x, i)
widen_kept w x n true e i =
    let fits = ltb-true _ _ e in (
      x,
      flow_session_kept (record w { places = w.places + n }) x (record {
        fine = i.fine;
        id = i.id;
        count = i.count;
        next = i.next;
        begun = i.begun;
        goes_on = i.goes_on;
        told_credit = i.told_credit;
        told_window = i.told_window;
        spent = i.spent;
        used = i.used;
        climb = climb_up w.to_sender x.ls x.ws (x.ce + w.link.credit) (x.ue + w.places) (x.ce + w.link.credit) (x.ue + (w.places + n)) (omega arith) (omega arith) i.climb;
        walk = i.walk;
        end_count = i.end_count;
        end_next = i.end_next;
        narrow = fits;
        within = i.within;
        few = i.few;
        stream = i.stream;
        small = i.small;
        ids_taken = i.ids_taken;
        ids_ready = i.ids_ready;
        ids_part = i.ids_part;
        numbered = i.numbered;
        messages = i.messages;
      }),
    )

drain_kept : (w : World) (x : Plain) → Inv w x → Inv (flows (record w { link = link_after w.link DrainAsked }) true) x
drain_kept w x i = flow_link_kept (record w { link = link_after w.link DrainAsked }) x (record {
  fine = i.fine;
  id = i.id;
  count = i.count;
  next = i.next;
  begun = i.begun;
  goes_on = i.goes_on;
  told_credit = i.told_credit;
  told_window = i.told_window;
  spent = i.spent;
  used = i.used;
  climb = i.climb;
  walk = i.walk;
  end_count = i.end_count;
  end_next = i.end_next;
  narrow = i.narrow;
  within = i.within;
  few = i.few;
  stream = i.stream;
  small = i.small;
  ids_taken = i.ids_taken;
  ids_ready = i.ids_ready;
  ids_part = i.ids_part;
  numbered = i.numbered;
  messages = i.messages;
})

-- ids
abbrev Below : ℕ → List Delivery → Type 0
Below k ds = AllByRecursion (λ (d : Delivery). d.delivery_id < k) ds

below_more : (k n : ℕ) (ds : List Delivery) → k ≤ n → Below k ds → Below n ds
below_more k n [] l a = tt
below_more k n (d ∷ ds) l a = (omega (arith, a.0), below_more k n ds l a.1)

below_join : (k : ℕ) (ds es : List Delivery) → Below k ds → Below k es → Below k (ds ++ es)
below_join k [] es a b = b
below_join k (d ∷ ds) es a b = (a.0, below_join k ds es a.1 b)

below_left : (k : ℕ) (d : Delivery) (b : Bool) → d.delivery_id < k → Below k (cond b [] (record d { message = [] } ∷ []))
below_left k d true l = tt
below_left k d false l = (l, tt)

below_named : (k id : ℕ) (ds : List Delivery) → Below k ds → Below k (map (marked_told id id) (filter (λ d. not (receiver_settles id id d)) ds))
below_named k id [] a = tt
below_named k id (d ∷ ds) a = pick _ (below_named k id ds a.1)
  where
    pick : (b : Bool) → Below k (map (marked_told id id) (filter (λ d. not (receiver_settles id id d)) ds)) → Below k (map (marked_told id id) (cond b (d ∷ filter (λ d. not (receiver_settles id id d)) ds) (filter (λ d. not (receiver_settles id id d)) ds)))
    pick true r = (a.0, r)
    pick false r = r

none_has : (id : ℕ) (ds : List Delivery) → Below id ds → list_any (has_id id) ds ≡ false
none_has id [] a = refl
none_has id (d ∷ ds) a = rw (ne_eqb d.delivery_id id (omega (arith, a.0)), none_has id ds a.1) refl

take_kept : (w : World) (x : Plain) (ds : List Delivery) → w.link.ready ≡ ds → Inv w x → Kept (takes w ds)
take_kept w x [] e i = (x, i)
take_kept w x (d ∷ ds) e i =
    let ready : Below x.ke (d ∷ ds) = rw e at i.ids_ready in
    let whole = wholes (part_text w.link) w.to_end ++ tail x.last w.sender.waiting in
    let stream : w.given ++ ((d.message ∷ messages ds) ++ whole) ≡ w.offered = rw e at i.stream in (
      x,
      record {
        fine = i.fine;
        id = i.id;
        count = i.count;
        next = i.next;
        begun = i.begun;
        goes_on = i.goes_on;
        told_credit = i.told_credit;
        told_window = i.told_window;
        spent = i.spent;
        used = i.used;
        climb = i.climb;
        walk = i.walk;
        end_count = i.end_count;
        end_next = i.end_next;
        narrow = i.narrow;
        within = i.within;
        few = i.few;
        stream = rw e (append_assoc w.given (d.message ∷ []) (messages ds ++ whole) ∙ stream);
        small = i.small;
        ids_taken = below_join x.ke w.link.awaiting _ i.ids_taken (below_left x.ke d d.settled ready.0);
        ids_ready = rw e ready.1;
        ids_part = i.ids_part;
        numbered = i.numbered;
        messages = i.messages;
      },
    )

settle_kept : (w : World) (x : Plain) (id : ℕ) → Inv w x → Inv (record w { link = link_after w.link (ReceiverSettled id id) }) x
settle_kept w x id i = record {
  fine = i.fine;
  id = i.id;
  count = i.count;
  next = i.next;
  begun = i.begun;
  goes_on = i.goes_on;
  told_credit = i.told_credit;
  told_window = i.told_window;
  spent = i.spent;
  used = i.used;
  climb = i.climb;
  walk = i.walk;
  end_count = i.end_count;
  end_next = i.end_next;
  narrow = i.narrow;
  within = i.within;
  few = i.few;
  stream = i.stream;
  small = i.small;
  ids_taken = below_named x.ke id w.link.awaiting i.ids_taken;
  ids_ready = i.ids_ready;
  ids_part = i.ids_part;
  numbered = i.numbered;
  messages = i.messages;
}

-- a count comes to the endpoint
plain_distance : (told count c d : ℕ) → told ≡ d % 2 ^ 32 → count ≡ c % 2 ^ 32 → c ≤ d → d < c + 2 ^ 32 → (told + (2 ^ 32 - count)) % 2 ^ 32 ≡ d - c
plain_distance told count c d e f le lt = omega arith

not_beyond : (credit dist : ℕ) → dist ≤ credit → (ltb credit dist && ltb dist (2 ^ 31)) ≡ false
not_beyond credit dist le = let e : ltb credit dist ≡ false = grind (arith, le) in rw e refl

moves_by : (credit dist : ℕ) → dist ≤ credit → cond (leb dist credit) dist 0 ≡ dist
moves_by credit dist le = rw (le-leb _ _ le) refl

count_kept : (w : World) (x : Plain) (told next : ℕ) (q : List Frame) → w.to_end ≡ Told told next ∷ q → Inv w x → Kept (counts w q told next)
count_kept w x told next q e i =
    let way : Walk (Told told next ∷ q) (part_text w.link) x.ce x.ue x.ke x.last x.cs x.ns x.ks = rw e at i.walk in
    let d = way.0 in
    let r = walk_le q (part_text w.link) d x.ue x.ke x.last x.cs x.ns x.ks way.4 in
    let l = tops w x i in
    let within : d ≤ x.ce + w.link.credit = omega (arith, r.0, i.spent, l.0) in
    let is : (told + (2 ^ 32 - w.link.delivery_count)) % 2 ^ 32 ≡ d - x.ce = plain_distance told w.link.delivery_count x.ce d way.1 i.end_count way.3 (omega (arith, within, i.within, i.few)) in
    let fits : (told + (2 ^ 32 - w.link.delivery_count)) % 2 ^ 32 ≤ w.link.credit = omega (arith, is, within) in
    let moved : advance_by w.link.delivery_count w.link.credit (Some told) ≡ d - x.ce = moves_by w.link.credit ((told + (2 ^ 32 - w.link.delivery_count)) % 2 ^ 32) fits ∙ is in
    rw (not_beyond w.link.credit ((told + (2 ^ 32 - w.link.delivery_count)) % 2 ^ 32) fits) (
      record x { ce = d },
      record {
        fine = i.fine;
        id = i.id;
        count = i.count;
        next = i.next;
        begun = i.begun;
        goes_on = i.goes_on;
        told_credit = i.told_credit;
        told_window = i.told_window;
        spent = i.spent;
        used = i.used;
        climb = climb_up w.to_sender x.ls x.ws (x.ce + w.link.credit) (x.ue + w.places) (d + (w.link.credit - advance_by w.link.delivery_count w.link.credit (Some told))) (x.ue + w.places) (omega (arith, moved, within, way.3)) (omega arith) i.climb;
        walk = way.4;
        end_count = omega (arith, moved, i.end_count, way.3);
        end_next = way.2;
        narrow = i.narrow;
        within = omega (arith, i.within);
        few = i.few;
        stream = rw e at i.stream;
        small = i.small;
        ids_taken = i.ids_taken;
        ids_ready = i.ids_ready;
        ids_part = i.ids_part;
        numbered = i.numbered;
        messages = i.messages;
      },
    )

-- a transfer comes to the endpoint
no_part : (part : Option Delivery) → option_map (λ d. d.message) part ≡ None → part ≡ None
no_part None e = refl
no_part (Some d) e = absurd (cc e)

some_part : (part : Option Delivery) → IsDeliveryBegun (option_map (λ d. d.message) part) → (d : Delivery) × (part ≡ Some d)
some_part None b = absurd b
some_part (Some d) b = (d, refl)

head_formed : (m : ReceiverSettleMode) → not (false || not (is_first m && false)) ≡ false
head_formed mode.First = refl
head_formed mode.Second = refl

not_zero : (n : ℕ) → 0 < n → eqb n 0 ≡ false
not_zero n l = ne_eqb n 0 (omega (arith, l))

not_less : (a b : ℕ) → b ≤ a → ltb a b ≡ false
not_less a b le = grind (arith, le)

first_free : (s : LinkState) (id : ℕ) (p : List ℕ) (m : Bool) → s.unfinished ≡ None → 0 < s.credit → length p ≤ s.terms.bounds.max_message_size → fault_of s (first_sent id p m) ≡ None
first_free s id p m e c l = rw (e, head_formed s.terms.rcv_settle_mode, not_zero s.credit c, not_less s.terms.bounds.max_message_size (length p) l) refl

later_free : (s : LinkState) (d : Delivery) (p : List ℕ) (m : Bool) → s.unfinished ≡ Some d → length (d.message ++ p) ≤ s.terms.bounds.max_message_size → fault_of s (later_sent p m) ≡ None
later_free s d p m e l = rw (e, not_less s.terms.bounds.max_message_size (length (d.message ++ p)) l) refl

first_part : (s : LinkState) (id : ℕ) (p : List ℕ) (m : Bool) → s.unfinished ≡ None → part_text (link_after s (Transferred (first_sent id p m))) ≡ grown None p m
first_part s id p true e = rw e refl
first_part s id p false e = refl

first_ready : (s : LinkState) (id : ℕ) (p : List ℕ) (m : Bool) → s.unfinished ≡ None → messages (link_after s (Transferred (first_sent id p m))).ready ≡ messages s.ready ++ done None p m
first_ready s id p true e = ap messages (append-nil s.ready) ∙ sym (append-nil (messages s.ready))
first_ready s id p false e = rw e (map-append (λ d. d.message) s.ready _)

later_part : (s : LinkState) (d : Delivery) (p : List ℕ) (m : Bool) → s.unfinished ≡ Some d → part_text (link_after s (Transferred (later_sent p m))) ≡ grown (part_text s) p m
later_part s d p true e = rw e refl
later_part s d p false e = refl

later_ready : (s : LinkState) (d : Delivery) (p : List ℕ) (m : Bool) → s.unfinished ≡ Some d → messages (link_after s (Transferred (later_sent p m))).ready ≡ messages s.ready ++ done (part_text s) p m
later_ready s d p true e = ap messages (append-nil s.ready) ∙ sym (append-nil (messages s.ready))
later_ready s d p false e = rw e (map-append (λ d. d.message) s.ready _)

below_ready : (k : ℕ) (ds : List Delivery) (d : Delivery) (b : Bool) → Below k ds → d.delivery_id < k → Below k (ds ++ cond b (d ∷ []) [])
below_ready k ds d true a l = below_join k ds (d ∷ []) a (l, tt)
below_ready k ds d false a l = below_join k ds [] a tt

below_part : (k : ℕ) (d : Delivery) (b : Bool) → d.delivery_id < k → Below k (option_to_list (cond b (Some d) None))
below_part k d true l = (l, tt)
below_part k d false l = tt

stream_came : (g r r' wh wh' t o d : List (List ℕ)) → r' ≡ r ++ d → wh ≡ d ++ wh' → g ++ (r ++ (wh ++ t)) ≡ o → g ++ (r' ++ (wh' ++ t)) ≡ o
stream_came g r r' wh wh' t o d e f h =
    ap (λ z. g ++ (z ++ (wh' ++ t))) e
    ∙ ap (λ z. g ++ z) (append_assoc r d (wh' ++ t))
    ∙ ap (λ z. g ++ (r ++ z)) (sym (append_assoc d wh' t) ∙ ap (λ z. z ++ t) (sym f))
    ∙ h

and_none : (a b : Bool) → b ≡ false → (a && b) ≡ false
and_none true b e = e
and_none false b e = refl

never_waits : (w : World) (x : Plain) → Inv w x → w.sender.waiting ≡ None → x.last ≡ None
never_waits w x i e = not_begun w.sender.begun x.last (i.goes_on e) i.begun

module _ (w : World) (x : Plain) (i : Inv w x) where
  -- the messages on the way are within the limit
  way_small : Small w.link.terms.bounds.max_message_size (wholes (part_text w.link) w.to_end ++ tail x.last w.sender.waiting)
  way_small = small_back w.link.terms.bounds.max_message_size (messages w.link.ready) _ (small_back w.link.terms.bounds.max_message_size w.given _ (subst (λ (z : List (List ℕ)). Small w.link.terms.bounds.max_message_size z) (sym i.stream) i.small))

  module _ (id : ℕ) (p : List ℕ) (m : Bool) (q : List Frame) (e : w.to_end ≡ First id p m ∷ q) where
    way_first : Walk (First id p m ∷ q) (part_text w.link) x.ce x.ue x.ke x.last x.cs x.ns x.ks
    way_first = subst (λ (z : List Frame). Walk z (part_text w.link) x.ce x.ue x.ke x.last x.cs x.ns x.ks) e i.walk

    behind : (x.ce + 1 ≤ x.cs) × (x.ue + 1 ≤ x.ns) × (x.ke + 1 ≤ x.ks)
    behind = walk_le q (grown None p m) (x.ce + 1) (x.ue + 1) (x.ke + 1) x.last x.cs x.ns x.ks way_first.2

    fresh : w.link.unfinished ≡ None
    fresh = no_part w.link.unfinished way_first.0

    first_id : id ≡ x.ke
    first_id = omega (arith, way_first.1, behind, i.numbered, i.messages)

    paid : 0 < w.link.credit
    paid = omega (arith, behind, i.spent, (tops w x i).0)

    place : 0 < w.places
    place = omega (arith, behind, i.used, (tops w x i).1)

    first_fits : length p ≤ w.link.terms.bounds.max_message_size
    first_fits = next_fits w.link.terms.bounds.max_message_size q None p m (x.ce + 1) (x.ue + 1) (x.ke + 1) x.last x.cs x.ns x.ks w.sender.waiting (never_waits w x i) way_first.2
        (subst (λ (z : List Frame). Small w.link.terms.bounds.max_message_size (wholes (part_text w.link) z ++ tail x.last w.sender.waiting)) e way_small)

    not_used : id_open w.link id ≡ false
    not_used =
        let part : Below x.ke (option_to_list w.link.unfinished) = i.ids_part in
        let all : Below x.ke (deliveries w.link) = below_join x.ke (w.link.awaiting ++ w.link.ready) _ (below_join x.ke w.link.awaiting w.link.ready i.ids_taken i.ids_ready) part in
        and_none (is_none w.link.unfinished) _ (none_has id (deliveries w.link) (subst (λ (z : ℕ). Below z (deliveries w.link)) (sym first_id) all))

    first_after : Inv (record w { to_end = q; link = link_after w.link (Transferred (first_sent id p m)); places = w.places - 1; next = (w.next + 1) % 2 ^ 32 }) (record x { ce = x.ce + 1; ue = x.ue + 1; ke = x.ke + 1 })
    first_after =
        let cost : (link_after w.link (Transferred (first_sent id p m))).credit ≡ w.link.credit - 1 = rw fresh refl in
        let count : (link_after w.link (Transferred (first_sent id p m))).delivery_count ≡ (w.link.delivery_count + 1) % 2 ^ 32 = rw fresh refl in
        let up = below_more x.ke (x.ke + 1) in
        record {
          fine = i.fine;
          id = i.id;
          count = i.count;
          next = i.next;
          begun = i.begun;
          goes_on = i.goes_on;
          told_credit = i.told_credit;
          told_window = i.told_window;
          spent = i.spent;
          used = i.used;
          climb = climb_up w.to_sender x.ls x.ws (x.ce + w.link.credit) (x.ue + w.places) _ _ (omega (arith, cost, paid)) (omega (arith, place)) i.climb;
          walk = subst (λ (z : Option (List ℕ)). Walk q z (x.ce + 1) (x.ue + 1) (x.ke + 1) x.last x.cs x.ns x.ks) (sym (first_part w.link id p m fresh)) way_first.2;
          end_count = omega (arith, count, i.end_count);
          end_next = omega (arith, i.end_next);
          narrow = omega (arith, i.narrow);
          within = omega (arith, cost, i.within);
          few = i.few;
          stream = subst (λ (z : Option (List ℕ)). w.given ++ (messages (link_after w.link (Transferred (first_sent id p m))).ready ++ (wholes z q ++ tail x.last w.sender.waiting)) ≡ w.offered) (sym (first_part w.link id p m fresh))
              (stream_came w.given (messages w.link.ready) _ (wholes (part_text w.link) w.to_end) (wholes (grown None p m) q) (tail x.last w.sender.waiting) w.offered (done None p m) (first_ready w.link id p m fresh) (ap (wholes (part_text w.link)) e) i.stream);
          small = i.small;
          ids_taken = up w.link.awaiting (omega arith) i.ids_taken;
          ids_ready = below_ready (x.ke + 1) w.link.ready (delivery_after w.link.terms w.link.unfinished (first_sent id p m)) _ (up w.link.ready (omega arith) i.ids_ready) (rw fresh (omega (arith, first_id)));
          ids_part = below_part (x.ke + 1) (delivery_after w.link.terms w.link.unfinished (first_sent id p m)) _ (rw fresh (omega (arith, first_id)));
          numbered = i.numbered;
          messages = i.messages;
        }

    first_kept : Kept (takes_in w q (first_sent id p m) (id_open w.link id))
    first_kept = rw (not_zero w.places place, not_used, first_free w.link id p m fresh paid first_fits) (record x { ce = x.ce + 1; ue = x.ue + 1; ke = x.ke + 1 }, first_after)

  module _ (p : List ℕ) (m : Bool) (q : List Frame) (e : w.to_end ≡ Later p m ∷ q) where
    way_later : Walk (Later p m ∷ q) (part_text w.link) x.ce x.ue x.ke x.last x.cs x.ns x.ks
    way_later = subst (λ (z : List Frame). Walk z (part_text w.link) x.ce x.ue x.ke x.last x.cs x.ns x.ks) e i.walk

    behind_later : (x.ce ≤ x.cs) × (x.ue + 1 ≤ x.ns) × (x.ke ≤ x.ks)
    behind_later = walk_le q (grown (part_text w.link) p m) x.ce (x.ue + 1) x.ke x.last x.cs x.ns x.ks way_later.1

    held : (d : Delivery) × (w.link.unfinished ≡ Some d)
    held = some_part w.link.unfinished way_later.0

    place_later : 0 < w.places
    place_later = omega (arith, behind_later, i.used, (tops w x i).1)

    later_fits : length (held.0.message ++ p) ≤ w.link.terms.bounds.max_message_size
    later_fits =
        let l = next_fits w.link.terms.bounds.max_message_size q (part_text w.link) p m x.ce (x.ue + 1) x.ke x.last x.cs x.ns x.ks w.sender.waiting (never_waits w x i) way_later.1
        (subst (λ (z : List Frame). Small w.link.terms.bounds.max_message_size (wholes (part_text w.link) z ++ tail x.last w.sender.waiting)) e way_small) in
        rw held.1 at l

    later_after : Inv (record w { to_end = q; link = link_after w.link (Transferred (later_sent p m)); places = w.places - 1; next = (w.next + 1) % 2 ^ 32 }) (record x { ue = x.ue + 1 })
    later_after =
        let cost : (link_after w.link (Transferred (later_sent p m))).credit ≡ w.link.credit - 0 = rw held.1 refl in
        let count : (link_after w.link (Transferred (later_sent p m))).delivery_count ≡ (w.link.delivery_count + 0) % 2 ^ 32 = rw held.1 refl in
        let below : held.0.delivery_id < x.ke = (subst (λ (z : Option Delivery). Below x.ke (option_to_list z)) held.1 i.ids_part).0 in
        record {
          fine = i.fine;
          id = i.id;
          count = i.count;
          next = i.next;
          begun = i.begun;
          goes_on = i.goes_on;
          told_credit = i.told_credit;
          told_window = i.told_window;
          spent = i.spent;
          used = i.used;
          climb = climb_up w.to_sender x.ls x.ws (x.ce + w.link.credit) (x.ue + w.places) _ _ (omega (arith, cost)) (omega (arith, place_later)) i.climb;
          walk = subst (λ (z : Option (List ℕ)). Walk q z x.ce (x.ue + 1) x.ke x.last x.cs x.ns x.ks) (sym (later_part w.link held.0 p m held.1)) way_later.1;
          end_count = omega (arith, count, i.end_count);
          end_next = omega (arith, i.end_next);
          narrow = omega (arith, i.narrow);
          within = omega (arith, cost, i.within);
          few = i.few;
          stream = subst (λ (z : Option (List ℕ)). w.given ++ (messages (link_after w.link (Transferred (later_sent p m))).ready ++ (wholes z q ++ tail x.last w.sender.waiting)) ≡ w.offered) (sym (later_part w.link held.0 p m held.1))
              (stream_came w.given (messages w.link.ready) _ (wholes (part_text w.link) w.to_end) (wholes (grown (part_text w.link) p m) q) (tail x.last w.sender.waiting) w.offered (done (part_text w.link) p m) (later_ready w.link held.0 p m held.1) (ap (wholes (part_text w.link)) e) i.stream);
          small = i.small;
          ids_taken = i.ids_taken;
          ids_ready = below_ready x.ke w.link.ready (delivery_after w.link.terms w.link.unfinished (later_sent p m)) _ i.ids_ready (rw held.1 below);
          ids_part = below_part x.ke (delivery_after w.link.terms w.link.unfinished (later_sent p m)) _ (rw held.1 below);
          numbered = i.numbered;
          messages = i.messages;
        }

    later_kept : Kept (takes_in w q (later_sent p m) false)
    later_kept = rw (not_zero w.places place_later, later_free w.link held.0 p m held.1 later_fits) (record x { ue = x.ue + 1 }, later_after)

act_kept : (w : World) (x : Plain) (q : List Frame) → w.to_end ≡ q → Inv w x → Kept (acts w q)
act_kept w x [] e i = (x, i)
act_kept w x (First id p m ∷ q) e i = first_kept w x i id p m q e
act_kept w x (Later p m ∷ q) e i = later_kept w x i p m q e
act_kept w x (Told told next ∷ q) e i = count_kept w x told next q e i

pub turn_kept : StepLaw
turn_kept w x (Offer m) f i = offer_kept w x w.sender.waiting m refl f.0 f.1 i
turn_kept w x (Write n more) f i = write_kept w x w.sender.waiting n more refl i
turn_kept w x To_end f i = act_kept w x w.to_end refl i
turn_kept w x To_sender f i = come_kept w x w.to_sender refl i
turn_kept w x (Grant n) f i = grant_kept w x n _ refl i
turn_kept w x (Widen n) f i = widen_kept w x n _ refl i
turn_kept w x Drain f i = (x, drain_kept w x i)
turn_kept w x Take f i = take_kept w x w.link.ready refl i
turn_kept w x (Settle id) f i = (x, settle_kept w x id i)

pub begins : BeginLaw
begins terms window first few lt = (
  record { ce = 0; ue = 0; ke = 0; cs = 0; ns = 0; ks = 0; ls = 0; ws = 0; last = None },
  record {
    fine = refl;
    id = refl;
    count = refl;
    next = refl;
    begun = refl;
    goes_on = λ h. refl;
    told_credit = refl;
    told_window = refl;
    spent = omega arith;
    used = omega arith;
    climb = (omega arith, omega arith);
    walk = (refl, refl, refl, refl);
    end_count = omega (arith, first);
    end_next = refl;
    narrow = lt;
    within = omega arith;
    few = few;
    stream = refl;
    small = tt;
    ids_taken = tt;
    ids_ready = tt;
    ids_part = tt;
    numbered = refl;
    messages = omega arith;
  },
)

count_way : (q : List Frame) (part : Option (List ℕ)) (c n k : ℕ) (last : Option (List ℕ)) (cs ns ks : ℕ) → Walk q part c n k last cs ns ks → (c + heads_of q ≤ cs) × (n + transfers_of q ≡ ns)
count_way [] part c n k last cs ns ks w = (omega (arith, w.1), omega (arith, w.2))
count_way (First id p m ∷ q) part c n k last cs ns ks w = let r = count_way q (grown None p m) (c + 1) (n + 1) (k + 1) last cs ns ks w.2 in (omega (arith, r.0), omega (arith, r.1))
count_way (Later p m ∷ q) part c n k last cs ns ks w = let r = count_way q (grown part p m) c (n + 1) k last cs ns ks w.1 in (omega (arith, r.0), omega (arith, r.1))
count_way (Told count next ∷ q) part c n k last cs ns ks w = let r = count_way q part w.0 n k last cs ns ks w.4 in (omega (arith, r.0, w.3), r.1)

served : (w : World) (x : Plain) → Inv w x → IsServed w
served w x i =
    let r = count_way w.to_end (part_text w.link) x.ce x.ue x.ke x.last x.cs x.ns x.ks i.walk in
    record {
      never_failed = i.fine;
      in_order = (messages w.link.ready ++ (wholes (part_text w.link) w.to_end ++ tail x.last w.sender.waiting), i.stream);
      credit = omega (arith, r.0, credit_within w x i, ends w x i);
      window = omega (arith, r.1, window_within w x i);
    }

runs : (turns : List Turn) (w : World) (x : Plain) → AreFair turns w → Inv w x → Kept (run turns w)
runs [] w x f i = (x, i)
runs (turn ∷ turns) w x f i = let k = turn_kept w x turn f.0 i in runs turns (happens w turn) k.0 f.1 k.1

pub world_law : WorldLaw
world_law terms window turns first few lt fair =
    let b = begins terms window first few lt in
    let k = runs turns (start terms window) b.0 fair b.1 in
    served (run turns (start terms window)) k.0 k.1
