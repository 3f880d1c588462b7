-- Turns of a hub keep what is known of each connection, and so do lists of them.
use Rattle.std.proofs.Common.{◌≡◌, ℕ, zero, suc, ◌+◌, ◌-◌, ◌*◌, ◌^◌, ◌<◌, ◌≤◌, arith, Bool, true, false, List, [], ◌∷◌, ◌++◌, length, length-append, take, map, get_or, set, Option, Some, None, is_some, inl, inr, refl, sym, ap, subst, ◌∙◌, count_by, cond, Result, Ok, Err, IfOk, IfErr, OnOk}
use Rattle.std.proofs.lemmas.Bool.{eqb-true, eqb-false, ltb-true, ltb-false, cases_lt}
use Rattle.std.proofs.lemmas.List.{set-get_or, get_or-set_same, get_or-set_other, get_or_past, take_all, take-append-le, map_more, map-append, length-map, length-take-le}
use Rattle.std.proofs.lemmas.List.Sums.{sum_by-cons}
use Rattle.std.specs.Prelude.{nat_eq, nat_lt, ◌==◌, if◌then◌else◌, min, slice_index_or, slice_set, sum_by, option_map, IsSome, IsSomeAnd}
use Rattle.slab.specs.Slab.{Slab, get, slab_len, entries, entries_from, Updates}
use Rattle.amqp_endpoint.specs.declared.event.End.{End}
use Rattle.amqp_endpoint.specs.declared.fault.CallFault.{CallFault}
use Rattle.amqp_endpoint.specs.Calls.{open_call_fault, heartbeat}
use Rattle.amqp_endpoint.specs.Configs.{Configured}
use Rattle.amqp_endpoint.specs.Connections.{is_dead}
use Rattle.amqp_serve.specs.declared.rules.Rule.{Rule}
use Rattle.amqp_serve.specs.declared.server.Status.{Status}
use Rattle.amqp_serve.specs.declared.server.Status.TheVariants as status
use Rattle.amqp_serve.specs.declared.serving.ServeFault.{ServeFault}
use Rattle.amqp_serve.specs.declared.serving.ServeFault.TheVariants as lost
use Rattle.amqp_serve.specs.declared.steps.Done.{Done}
use Rattle.amqp_serve.specs.declared.steps.Stepped.{Stepped}
use Rattle.amqp_serve.specs.Kept as kept
use Rattle.amqp_serve.specs.Lives.{Life, ByPeer, BySelf, IsAlone, IsNotOpen, starved_on, told_on, ended_on}
use Rattle.amqp_serve.specs.Servers.{hears, is_over, status_after, waiting_by, waiting}
use Rattle.amqp_hub.specs.declared.turn.Turn as asked
use Rattle.amqp_hub.specs.declared.fault.HubFault.{HubFault}
use Rattle.amqp_hub.specs.declared.fault.HubFault.TheVariants as fault
use Rattle.amqp_hub.specs.Ledgers.{LedgerState, waiting_bytes, new_ledger, is_settled, is_roomy, progress_of}
use Rattle.amqp_hub.specs.Members.{MemberState, unsent_of, answers_most, member_held, fault_of, hear_fault, beat_fault, end_fault, close_fault, IsHeard, IsSame, IsSent, IsFinishedSo, IsClosed}
use Rattle.amqp_hub.specs.Turns.{Turn, Open, Hear, Hand, Heartbeat, Finish, Close, Remove, Ruled, Settle, Held, Count, Answer, Opened, Heard, Handed, Beat, Ended, Closed, Removed, Changed, Settled, Holds, Counts, Refused}
use Rattle.amqp_hub.specs.Turns.{Seat, new_seat, went_on, ruled_by, if_seated, heard_on, stepped_on, seated, seat_after, put_by, ledger_behind, ledger_after, open_stepped, open_behind, most_of, SpeaksOf, IsHearing, MayClose, HandsBy}
use Rattle.amqp_hub.specs.Turns.{HearRefused, HearRefusedIf, HandRefused, BeatRefused, FinishRefused, CloseRefused, RemoveRefused, Fits, Suits, life_of, AllFit, IsChanged, AreSame, IsHeardAt, IsLostAt, HearsBy, HearRefusedBy, is_lost, IsRuledAt, IsFrontAt, IsLentBy}
use Rattle.amqp_hub.specs.Turns.{IsDueAt, IsSentAt, SendsAt, IsHandedAt, IsBeatAt, IsEndedAt, IsClosedAt, SameSlot, AreAlike, HeardSo, HandRefusedAt, refusal_at, all_held, HubState, turn_of, TurnDone, LedgerDone}
use Rattle.amqp_hub.proofs.Asked.{rests}
use Rattle.amqp_hub.specs.Kept.{IsSeat, IsSeated, AreSeated, SeatGoesOn, SeatIsAlone}

-- Slabs. --------------------------------------------------------------------------------------------------------------

count_cons : (x : Option MemberState) (xs : List (Option MemberState)) → count_by is_some (x ∷ xs) ≡ cond (is_some x) 1 0 + count_by is_some xs
count_cons x xs = sum_by-cons (λ (y : Option MemberState). cond (is_some y) 1 0) x xs

count_behind : (x : Option MemberState) (xs ys : List (Option MemberState)) → count_by is_some ys ≡ count_by is_some xs → count_by is_some (x ∷ ys) ≡ count_by is_some (x ∷ xs)
count_behind x xs ys e = count_cons x ys ∙ ap (λ (n : ℕ). cond (is_some x) 1 0 + n) e ∙ sym (count_cons x xs)

-- a value is put in the place of another
count_put : (xs : List (Option MemberState)) (i : ℕ) (a b : MemberState) → get_or xs i None ≡ Some a → count_by is_some (set xs i (Some b)) ≡ count_by is_some xs
count_put [] i a b is = absurd (grind (arith, is, get_or_past {X = Option MemberState} [] i None (omega arith)))
count_put (x ∷ xs) zero a b is = count_cons (Some b) xs ∙ ap (λ (y : Option MemberState). cond (is_some y) 1 0 + count_by is_some xs) (sym is) ∙ sym (count_cons x xs)
count_put (x ∷ xs) (suc i) a b is = count_behind x xs (set xs i (Some b)) (count_put xs i a b is)

module _ (s : Slab MemberState) (key : ℕ) where
  -- what stood there is put back
  put_back_slots : (m : MemberState) → Some m ≡ get s key → slice_set s.slots key (Some m) ≡ s.slots
  put_back_slots m is = ap (λ (x : Option MemberState). slice_set s.slots key x) is ∙ set-get_or s.slots key None

  pub put_back : (m : MemberState) → Some m ≡ get s key → (new : Slab MemberState) → new.slots ≡ slice_set s.slots key (Some m) → AreSame s new
  put_back m is new slots = record {
    values = λ k. ap (λ (l : List (Option MemberState)). slice_index_or l k None) (slots ∙ put_back_slots m is);
    count = ap (λ (l : List (Option MemberState)). count_by is_some l) (slots ∙ put_back_slots m is);
  }

  -- a key with a value is among the slots
  within : (m : MemberState) → Some m ≡ get s key → key < length s.slots
  within m is = elim (cases_lt key (length s.slots)) [
    | inl in_range ↦ in_range
    | inr past ↦ absurd (grind (arith, is ∙ get_or_past s.slots key None past))
  ]

  -- something else is put there
  pub put_there : (m n : MemberState) → Some m ≡ get s key → (new : Slab MemberState) → new.slots ≡ slice_set s.slots key (Some n) → IsChanged s new key m n
  put_there m n is new slots = record {
    was = sym is;
    updates = record {
      changed = ap (λ (l : List (Option MemberState)). slice_index_or l key None) slots ∙ get_or-set_same s.slots key (Some n) None (within m is);
      others = λ k other. ap (λ (l : List (Option MemberState)). slice_index_or l k None) slots ∙ get_or-set_other s.slots key k (Some n) None other;
    };
    count = ap (λ (l : List (Option MemberState)). count_by is_some l) slots ∙ count_put s.slots key m n (sym is);
  }

-- nothing has changed in one
slot_same : (o : Option MemberState) → SameSlot o o
slot_same None = tt
slot_same (Some m) =
    record { server = record { endpoint = record { input = record { limit = refl; stage = refl; filled = refl }; unsent = refl; connection = refl }; status = refl }; waiting = refl; rule = refl; number = refl }

pub alike_same : (s t : Slab MemberState) → AreSame s t → AreAlike s t
alike_same s t x = record { values = λ k. subst (λ (o : Option MemberState). SameSlot (get s k) o) (sym (x.values k)) (slot_same (get s k)); count = x.count }

pub alike_put : (s t : Slab MemberState) (key : ℕ) (a b : MemberState) → IsChanged s t key a b → IsSame a b → AreAlike s t
alike_put s t key a b x same = record { values = λ k. by k (nat_eq key k) refl; count = x.count }
  where
    by : (k : ℕ) (q : Bool) → nat_eq key k ≡ q → SameSlot (get s k) (get t k)
    by k true e =
        let here : key ≡ k = eqb-true key k e in
        subst (λ (j : ℕ). SameSlot (get s j) (get t j)) here
        (subst (λ (o : Option MemberState). SameSlot o (get t key)) (sym x.was) (subst (λ (o : Option MemberState). SameSlot (Some a) o) (sym x.updates.changed) same))
    by k false e = subst (λ (o : Option MemberState). SameSlot (get s k) o) (sym (x.updates.others k (λ i. eqb-false key k e (sym i)))) (slot_same (get s k))

-- What a call for one connection does to all. -------------------------------------------------------------------------

module _ (s q t : Slab MemberState) (same : q ≡ s) (key : ℕ) (m n : MemberState) (stood : Some m ≡ get q key) (put : t.slots ≡ slice_set q.slots key (Some n)) where
  stands : Some m ≡ get s key
  stands = stood ∙ ap (λ (x : Slab MemberState). get x key) same

  slots : t.slots ≡ slice_set s.slots key (Some n)
  slots = put ∙ ap (λ (x : Slab MemberState). slice_set x.slots key (Some n)) same

  there : IsChanged s t key m n
  there = put_there s key m n stands t slots

  refused : (why : MemberState → Option HubFault) (f : HubFault) → why m ≡ Some f → refusal_at (get s key) why ≡ Some f
  refused why f e = subst (λ (o : Option MemberState). refusal_at o why ≡ Some f) stands e

  pub beats : (r : Result (List ℕ) HubFault) → IfOk r (λ frame. (frame ≡ heartbeat) × (beat_fault m ≡ None)) → IsSame m n → IfOk r (λ frame. IsBeatAt s t key × (frame ≡ heartbeat))
  beats (Ok frame) x same = (record { before = m; after = n; changed = there; may = x.1; same = same }, x.0)
  beats (Err f) x same = tt

  pub beats_not : (r : Result (List ℕ) HubFault) → IfErr r (λ f. beat_fault m ≡ Some f) → IsSame m n → IfErr r (λ f. AreAlike s t × (refusal_at (get s key) beat_fault ≡ Some f))
  beats_not (Ok frame) x same = tt
  beats_not (Err f) x same = (alike_put s t key m n there same, refused beat_fault f x)

  pub ends_so : (r : Result End HubFault) → IfOk r (λ how. IsFinishedSo m n how) → IfOk r (λ how. IsEndedAt s t key how)
  ends_so (Ok how) x = record { before = m; after = n; changed = there; ended = x }
  ends_so (Err f) x = tt

  pub ends_not : (r : Result End HubFault) → IfErr r (λ f. (end_fault m ≡ Some f) × (n ≡ m)) → IfErr r (λ f. AreSame s t × (refusal_at (get s key) end_fault ≡ Some f))
  ends_not (Ok how) x = tt
  ends_not (Err f) x = (put_back s key m stands t (slots ∙ ap (λ (k : MemberState). slice_set s.slots key (Some k)) x.1), refused end_fault f x.0)

  pub closed_so : (r : Result (Unit {0}) HubFault) → OnOk r (IsClosed m n) → OnOk r (IsClosedAt s t key)
  closed_so (Ok u) x = record { before = m; after = n; changed = there; closed = x }
  closed_so (Err f) x = tt

  pub closed_not : (r : Result (Unit {0}) HubFault) → IfErr r (λ f. (close_fault m ≡ Some f) × IsSame m n) → IfErr r (λ f. AreAlike s t × (refusal_at (get s key) close_fault ≡ Some f))
  closed_not (Ok u) x = tt
  closed_not (Err f) x = (alike_put s t key m n there x.1, refused close_fault f x.0)

  pub hears_at : (piece : List ℕ) (step : Stepped) (kept keeps : Option (List ℕ)) → hear_fault m ≡ None → IsHeard m n piece step kept keeps → IsHeardAt s t key piece step kept keeps
  hears_at piece step kept keeps may x = record { before = m; after = n; changed = there; hears = may; heard = x }

  pub rules_at : (rule : Rule) → n ≡ record m { rule = rule } → IsRuledAt s t key rule
  rules_at rule is = record { before = m; changed = subst (λ (k : MemberState). IsChanged s t key m k) is there }

  pub sends_at : (count : ℕ) → IsSent m n count → SendsAt (get s key) s t key count
  sends_at count x = subst (λ (o : Option MemberState). SendsAt o s t key count) stands (record { before = m; after = n; changed = there; sent = x })

-- A step by how it came out: if serving broke off the connection is removed.
pub hears_by : (s t : Slab MemberState) (key : ℕ) (piece : List ℕ) (x : Stepped) (kept keeps : Option (List ℕ)) (q : Result Done ServeFault) → hears (status_after q) ≡ true →
    IsHeardAt s t key piece x kept keeps → HearsBy (status_after q) s t key piece x kept keeps
hears_by s t key piece x kept keeps (Ok d) whole h = h
hears_by s t key piece x kept keeps (Err lost.NoMemory) whole h = h
hears_by s t key piece x kept keeps (Err lost.Read) whole h = absurd (grind (arith, whole))
hears_by s t key piece x kept keeps (Err lost.Write) whole h = absurd (grind (arith, whole))
hears_by s t key piece x kept keeps (Err lost.Sink) whole h = absurd (grind (arith, whole))

-- A step that broke off ends the connection.
pub lost_ends : (q : Result Done ServeFault) → is_lost q ≡ true → hears (status_after q) ≡ false
lost_ends (Ok d) is = absurd (grind (arith, is))
lost_ends (Err lost.NoMemory) is = absurd (grind (arith, is))
lost_ends (Err lost.Read) is = refl
lost_ends (Err lost.Write) is = refl
lost_ends (Err lost.Sink) is = refl

pub lost_by : (s m q t : Slab MemberState) (same : q ≡ m) (key : ℕ) (piece : List ℕ) (x : Stepped) (kept keeps : Option (List ℕ)) → IsHeardAt s m key piece x kept keeps →
    Updates q t key None → slab_len t + 1 ≡ slab_len q → IsLostAt s t key piece x
lost_by s m q t same key piece x kept keeps h u count =
    let others = λ (k : ℕ) (other : k ≡ key → ⊥). u.others k other ∙ ap (λ (y : Slab MemberState). get y k) same ∙ h.changed.updates.others k other in
    record {
      gone = record {
        before = h.before;
        was = h.changed.was;
        updates = record { changed = u.changed; others = others };
        count = count ∙ ap (λ (y : Slab MemberState). slab_len y) same ∙ h.changed.count;
      };
      hears = h.hears;
      bound = h.heard.bound;
    }

-- any other goes on
pub goes_on : (q : Result Done ServeFault) → is_lost q ≡ false → hears (status_after q) ≡ true
goes_on (Ok d) is = refl
goes_on (Err lost.NoMemory) is = refl
goes_on (Err lost.Read) is = absurd (grind (arith, is))
goes_on (Err lost.Write) is = absurd (grind (arith, is))
goes_on (Err lost.Sink) is = absurd (grind (arith, is))

pub loses_by : (s m q t : Slab MemberState) (same : q ≡ m) (key : ℕ) (piece : List ℕ) (x : Stepped) (kept keeps : Option (List ℕ)) (y : Result Done ServeFault) → hears (status_after y) ≡ false →
    IsHeardAt s m key piece x kept keeps → Updates q t key None → slab_len t + 1 ≡ slab_len q → HearsBy (status_after y) s t key piece x kept keeps
loses_by s m q t same key piece x kept keeps (Ok d) off h u count = absurd (grind (arith, off))
loses_by s m q t same key piece x kept keeps (Err lost.NoMemory) off h u count = absurd (grind (arith, off))
loses_by s m q t same key piece x kept keeps (Err lost.Read) off h u count = lost_by s m q t same key piece x kept keeps h u count
loses_by s m q t same key piece x kept keeps (Err lost.Write) off h u count = lost_by s m q t same key piece x kept keeps h u count
loses_by s m q t same key piece x kept keeps (Err lost.Sink) off h u count = lost_by s m q t same key piece x kept keeps h u count

none_left : (t : Status) (unsent : List ℕ) → unsent ≡ [] → waiting_by t unsent ≡ []
none_left status.Serving unsent none = none
none_left status.Starved unsent none = none
none_left status.Ended unsent none = none
none_left (status.Lost f) unsent none = refl

-- all that waits after a step lies in one piece
front_due : (t : Slab MemberState) (key : ℕ) (m : MemberState) (front : List ℕ) → get t key ≡ Some m → waiting m.server ≡ [] → IsFrontAt (get t key) front → length front ≡ length (unsent_of m)
front_due t key m front is none x =
    let f = subst (λ (o : Option MemberState). IsFrontAt o front) is x in
    let whole = ap (λ (l : List ℕ). length l) (f.3 none) in
    let silent = ap (λ (l : List ℕ). length l) none in
    omega (arith, whole, silent, length-append m.waiting (waiting m.server))

pub heard_due : (s t : Slab MemberState) (key : ℕ) (piece : List ℕ) (x : Stepped) (kept keeps : Option (List ℕ)) (front : List ℕ) → hears (status_after x.done) ≡ true → (h : IsHeardAt s t key piece x kept keeps) →
    IsFrontAt (get t key) front → length front ≡ length (unsent_of h.after)
heard_due s t key piece x kept keeps front alive h f =
    front_due t key h.after front h.changed.updates.changed
    (none_left h.after.server.status h.after.server.endpoint.unsent (rests h.before.rule (take x.used piece) x.told x.done h.before.server.endpoint h.after.server.endpoint h.heard.before h.heard.after h.heard.stepped alive)) f

-- a step with records in memory
pub heard_so : (s t : Slab MemberState) (key : ℕ) (piece : List ℕ) (x : Stepped) (kept keeps : Option (List ℕ)) (front noted : List ℕ) (due : ℕ) → kept ≡ Some [] → keeps ≡ Some noted → due ≡ length front →
    IsFrontAt (get t key) front → HearsBy (status_after x.done) s t key piece x kept keeps → HeardSo (status_after x.done) s t key piece x due noted
heard_so s t key piece x kept keeps front noted due is was count f h = by (status_after x.done) refl h
  where
    whole : (h : IsHeardAt s t key piece x kept keeps) → hears (status_after x.done) ≡ true → (y : IsHeardAt s t key piece x (Some []) (Some noted)) × (due ≡ length (unsent_of y.after))
    whole h alive =
        let same : due ≡ length (unsent_of h.after) = count ∙ heard_due s t key piece x kept keeps front alive h f in
        subst (λ (o : Option (List ℕ)). (y : IsHeardAt s t key piece x o (Some noted)) × (due ≡ length (unsent_of y.after))) is
        (subst (λ (o : Option (List ℕ)). (y : IsHeardAt s t key piece x kept o) × (due ≡ length (unsent_of y.after))) was (h, same))

    by : (st : Status) → status_after x.done ≡ st → HearsBy st s t key piece x kept keeps → HeardSo st s t key piece x due noted
    by status.Serving e h = whole h (ap (λ (q : Status). hears q) e)
    by status.Starved e h = whole h (ap (λ (q : Status). hears q) e)
    by status.Ended e h = absurd h
    by (status.Lost f) e h = h

-- What lies in the first piece may be sent, and is handed out.
pub due_at : (o : Option MemberState) (front : List ℕ) (count : ℕ) → IsFrontAt o front → count ≤ length front → IsDueAt o count
due_at None front count f le = let none = ap (λ (l : List ℕ). length l) f in omega (arith, none, le)
due_at (Some m) front count f le = let all = ap (λ (l : List ℕ). length l) f.1 in omega (arith, all, le, length-append front f.0)

pub handed_at : (settled : Bool) (s t : Slab MemberState) (key room count : ℕ) (front bytes : List ℕ) → IsSome (get s key) → IsLentBy settled (get s key) front → count ≡ min (length front) room →
    bytes ≡ take count front → SendsAt (get s key) s t key count → IsHandedAt settled s t key room bytes
handed_at settled s t key room count front bytes some f least is sent = by (get s key) refl
  where
    long : length bytes ≡ count
    long = ap (λ (l : List ℕ). length l) is ∙ length-take-le count front (omega (arith, least))

    -- lent
    given : (q : Bool) → settled ≡ q → (y : IsSentAt s t key count) → IsLentBy q (Some y.before) front → IsHandedAt settled s t key room bytes
    given true q y g =
        let part : take count (unsent_of y.before) ≡ take count front = ap (λ (l : List ℕ). take count l) g.1 ∙ take-append-le count front g.0 (omega (arith, least)) in
        record {
          count = count;
          sent = y;
          long = long;
          is = is ∙ sym part;
          bound = omega (arith, long, least);
          some = λ e wanted waits. let given = g.2 waits in omega (arith, long, least, wanted, given);
          none = λ e. absurd (grind (arith, e, q));
        }
    given false q y g =
        let few = ap (λ (l : List ℕ). length l) g in
        let none : count ≡ 0 = omega (arith, few, least) in
        let no : bytes ≡ [] = is ∙ ap (λ (n : ℕ). take n front) none in
        record {
          count = count;
          sent = y;
          long = long;
          is = no ∙ ap (λ (n : ℕ). take n (unsent_of y.before)) (sym none);
          bound = omega (arith, long, none);
          some = λ e wanted waits. absurd (grind (arith, e, q));
          none = λ e. no;
        }

    by : (o : Option MemberState) → get s key ≡ o → IsHandedAt settled s t key room bytes
    by None e = absurd (let there = subst (λ (o : Option MemberState). IsSome o) e some in grind (arith, there))
    by (Some m) e =
        let y : IsSentAt s t key count = subst (λ (o : Option MemberState). SendsAt o s t key count) e sent in
        let same : Some m ≡ Some y.before = sym e ∙ y.changed.was in
        given settled refl y (subst (λ (o : Option MemberState). IsLentBy settled o front) (e ∙ same) f)

-- there is none to be sent to
pub sends_none : (s : Slab MemberState) (key count : ℕ) → get s key ≡ None → SendsAt (get s key) s s key count
sends_none s key count is = subst (λ (o : Option MemberState). SendsAt o s s key count) (sym is) (record { values = λ k. refl; count = refl })

both : (most a b n : ℕ) → a ≤ most → b ≤ n * most → a + b ≤ (1 + n) * most
both most a b n x y = omega (arith, x, y)

-- What all hold is at most so much for each.
held_most : (most key : ℕ) (xs : List (Option MemberState)) → ((i : ℕ) (m : MemberState) → get_or xs i None ≡ Some m → member_held m ≤ most) →
    sum_by (λ e. member_held e.1) (entries_from key xs) ≤ count_by is_some xs * most
held_most most key [] each = omega arith
held_most most key (None ∷ xs) each = let rest = held_most most (key + 1) xs (λ i. each (suc i)) in omega (arith, rest, count_cons None xs)
held_most most key (Some m ∷ xs) each =
    let rest = held_most most (key + 1) xs (λ i. each (suc i)) in
    let first : sum_by (λ e. member_held e.1) (entries_from key (Some m ∷ xs)) ≡ member_held m + sum_by (λ e. member_held e.1) (entries_from (key + 1) xs) =
    sum_by-cons (λ (e : ℕ × MemberState). member_held e.1) (key, m) (entries_from (key + 1) xs) in
    let count : count_by is_some (Some m ∷ xs) ≡ 1 + count_by is_some xs = count_cons (Some m) xs in
    subst (λ (n : ℕ). n ≤ count_by is_some (Some m ∷ xs) * most) (sym first)
    (subst (λ (n : ℕ). member_held m + sum_by (λ e. member_held e.1) (entries_from (key + 1) xs) ≤ n * most) (sym count) (both most (member_held m) _ _ (each 0 m refl) rest))

abbrev total : List (ℕ × MemberState) → ℕ
total es = sum_by (λ e. member_held e.1) es

pub sum_first : (s : Slab MemberState) (es : List (ℕ × MemberState)) (most : ℕ) → es ≡ entries s → min (0 + total es) most ≡ min (all_held s) most
sum_first s es most is = ap (λ (n : ℕ). min n most) (let e = ap (λ (l : List (ℕ × MemberState)). total l) is in omega (arith, e))

pub sum_next : (es rest : List (ℕ × MemberState)) (k : ℕ) (m : MemberState) → es ≡ (k, m) ∷ rest → total es ≡ member_held m + total rest
sum_next es rest k m is = ap (λ (l : List (ℕ × MemberState)). total l) is ∙ sum_by-cons (λ (e : ℕ × MemberState). member_held e.1) (k, m) rest

-- a sum that stops at its greatest value
pub sum_on : (most sum v h r left behind all : ℕ) → r ≡ min (sum + v) most → v ≡ min h most → left ≡ h + behind → min (sum + left) most ≡ all → min (r + behind) most ≡ all
sum_on most sum v h r left behind all a b c d = omega (arith, a, b, c, d)

-- Refusals. -----------------------------------------------------------------------------------------------------------

module _ (config : Configured) (law : SeatIsAlone config) where
  module _ (x : Seat) (m : MemberState) (s : IsSeat config x m) where
    -- What its status says of a life.
    ended_life : hears m.server.status ≡ false → x.life.ended ≡ None → ⊥
    ended_life is lives =
        elim s.lives.goes [
          | inl g ↦ absurd (let e = sym is ∙ ap (λ (t : Status). hears t) g.status ∙ hearing x.life.starved in grind (arith, e))
          | inr o ↦ o.ended lives
        ]
      where
        hearing : (b : Bool) → hears (kept.status_of b) ≡ true
        hearing true = refl
        hearing false = refl

    lives_on : hears m.server.status ≡ true → x.life.ended ≡ None
    lives_on is =
        elim s.lives.goes [
          | inl g ↦ g.goes_on
          | inr o ↦ absurd (let e = sym is ∙ ap (λ (t : Status). hears t) o.status in grind (arith, e))
        ]

    starved_life : m.server.status ≡ status.Starved → x.life.starved ≡ true
    starved_life is =
        elim s.lives.goes [
          | inl g ↦ by x.life.starved (sym g.status ∙ is)
          | inr o ↦ absurd (grind (arith, is, o.status))
        ]
      where
        by : (b : Bool) → kept.status_of b ≡ status.Starved → b ≡ true
        by true e = refl
        by false e = absurd (grind (arith, e))

    rests_life : m.server.status ≡ status.Serving → x.life.starved ≡ false
    rests_life is =
        elim s.lives.goes [
          | inl g ↦ by x.life.starved (sym g.status ∙ is)
          | inr o ↦ absurd (grind (arith, is, o.status))
        ]
      where
        by : (b : Bool) → kept.status_of b ≡ status.Serving → b ≡ false
        by false e = refl
        by true e = absurd (grind (arith, e))

    silent : hears m.server.status ≡ true → waiting m.server ≡ []
    silent alive =
        elim s.lives.goes [
          | inl g ↦ none_left m.server.status m.server.endpoint.unsent g.serving.sent
          | inr o ↦ absurd (let e = sym alive ∙ ap (λ (t : Status). hears t) o.status in grind (arith, e))
        ]

    some_due : (length m.waiting == 0) ≡ false → 0 < x.life.due
    some_due is = by m.waiting refl
      where
        by : (w : List ℕ) → m.waiting ≡ w → 0 < x.life.due
        by [] e = absurd (let no = sym is ∙ ap (λ (v : List ℕ). length v == 0) e in grind (arith, no))
        by (b ∷ w) e = let long = ap (λ (v : List ℕ). length v) e in omega (arith, long, s.due)

    many_due : nat_lt (length m.waiting) answers_most ≡ false → answers_most ≤ x.life.due
    many_due is = let many = ltb-false (length m.waiting) answers_most is in omega (arith, many, s.due)

    few_due : hears m.server.status ≡ true → nat_lt (length m.waiting) answers_most ≡ true → x.life.due < answers_most
    few_due alive is =
        let few = ltb-true (length m.waiting) answers_most is in
        let none = ap (λ (u : List ℕ). length u) (silent alive) in
        omega (arith, few, none, length-append m.waiting (waiting m.server), law.due x m s)

    none_due : hears m.server.status ≡ true → (length m.waiting == 0) ≡ true → x.life.due ≡ 0
    none_due alive is =
        let no = eqb-true (length m.waiting) 0 is in
        let none = ap (λ (u : List ℕ). length u) (silent alive) in
        omega (arith, no, none, length-append m.waiting (waiting m.server), law.due x m s)

    -- Why it is not open.
    unopened : (f : CallFault) → open_call_fault m.server.endpoint.connection [] ≡ Some f → x.life.ended ≡ None → IsNotOpen config x.life
    unopened f is lives = law.unopened x m s lives (λ none. absurd (grind (arith, none, is)))

    hear_why : (f : HubFault) → hear_fault m ≡ Some f → HearRefused config f (Some x.life)
    hear_why f is = by (is_over m.server) (nat_lt (length m.waiting) answers_most) refl refl
      where
        by : (a c : Bool) → is_over m.server ≡ a → nat_lt (length m.waiting) answers_most ≡ c → HearRefused config f (Some x.life)
        by true c e1 e2 = let same : fault.Over ≡ f = grind (arith, is, e1) in subst (λ (g : HubFault). HearRefused config g (Some x.life)) same (λ lives. law.over x m s lives e1)
        by false true e1 e2 = absurd (grind (arith, is, e1, e2))
        by false false e1 e2 = let same : fault.Unsent ≡ f = grind (arith, is, e1, e2) in subst (λ (g : HubFault). HearRefused config g (Some x.life)) same (many_due e2)

    beat_why : (f : HubFault) → beat_fault m ≡ Some f → BeatRefused config f (Some x.life)
    beat_why f is = by (hears m.server.status) (length m.waiting == 0) (open_call_fault m.server.endpoint.connection []) refl refl refl
      where
        by : (a b : Bool) (o : Option CallFault) → hears m.server.status ≡ a → (length m.waiting == 0) ≡ b → open_call_fault m.server.endpoint.connection [] ≡ o → BeatRefused config f (Some x.life)
        by false b o e1 e2 e3 = let same : fault.NotOpen ≡ f = grind (arith, is, e1) in subst (λ (g : HubFault). BeatRefused config g (Some x.life)) same (λ lives. absurd (ended_life e1 lives))
        by true false o e1 e2 e3 = let same : fault.Unsent ≡ f = grind (arith, is, e1, e2) in subst (λ (g : HubFault). BeatRefused config g (Some x.life)) same (some_due e2)
        by true true None e1 e2 e3 = absurd (grind (arith, is, e1, e2, e3))
        by true true (Some g) e1 e2 e3 =
            let same : fault.NotOpen ≡ f = grind (arith, is, e1, e2, e3) in subst (λ (h : HubFault). BeatRefused config h (Some x.life)) same (λ lives. unopened g e3 lives)

    close_why : (f : HubFault) → close_fault m ≡ Some f → CloseRefused config f (Some x.life)
    close_why f is = by (hears m.server.status) (open_call_fault m.server.endpoint.connection []) refl refl
      where
        by : (a : Bool) (o : Option CallFault) → hears m.server.status ≡ a → open_call_fault m.server.endpoint.connection [] ≡ o → CloseRefused config f (Some x.life)
        by false o e1 e2 = let same : fault.NotOpen ≡ f = grind (arith, is, e1) in subst (λ (g : HubFault). CloseRefused config g (Some x.life)) same (λ lives. absurd (ended_life e1 lives))
        by true None e1 e2 = absurd (grind (arith, is, e1, e2))
        by true (Some g) e1 e2 =
            let same : fault.NotOpen ≡ f = grind (arith, is, e1, e2) in subst (λ (h : HubFault). CloseRefused config h (Some x.life)) same (λ lives. unopened g e2 lives)

    finish_why : (f : HubFault) → end_fault m ≡ Some f → FinishRefused f (Some x.life)
    finish_why f is = by m.server.status refl
      where
        by : (t : Status) → m.server.status ≡ t → FinishRefused f (Some x.life)
        by status.Serving e = absurd (grind (arith, is, e))
        by status.Starved e = let same : fault.Starved ≡ f = grind (arith, is, e) in subst (λ (g : HubFault). FinishRefused g (Some x.life)) same (starved_life e)
        by status.Ended e =
            let same : fault.Over ≡ f = grind (arith, is, e) in subst (λ (g : HubFault). FinishRefused g (Some x.life)) same (λ lives. absurd (ended_life (ap (λ (t : Status). hears t) e) lives))
        by (status.Lost g) e =
            let same : fault.Over ≡ f = grind (arith, is, e) in subst (λ (g : HubFault). FinishRefused g (Some x.life)) same (λ lives. absurd (ended_life (ap (λ (t : Status). hears t) e) lives))

    -- What it may be asked then.
    hears_so : hear_fault m ≡ None → IsHearing x.life
    hears_so is = by (hears m.server.status) (is_dead m.server.endpoint.connection.phase) (nat_lt (length m.waiting) answers_most) refl refl refl
      where
        by : (a b c : Bool) → hears m.server.status ≡ a → is_dead m.server.endpoint.connection.phase ≡ b → nat_lt (length m.waiting) answers_most ≡ c → IsHearing x.life
        by false b c e1 e2 e3 = absurd (grind (arith, is, e1))
        by true true c e1 e2 e3 = absurd (grind (arith, is, e1, e2))
        by true false false e1 e2 e3 = absurd (grind (arith, is, e1, e2, e3))
        by true false true e1 e2 e3 = record { goes_on = lives_on e1; few = few_due e1 e3 }

    closes_so : close_fault m ≡ None → MayClose config x.life
    closes_so is = by (hears m.server.status) (open_call_fault m.server.endpoint.connection []) refl refl
      where
        by : (a : Bool) (o : Option CallFault) → hears m.server.status ≡ a → open_call_fault m.server.endpoint.connection [] ≡ o → MayClose config x.life
        by false o e1 e2 = absurd (grind (arith, is, e1))
        by true (Some f) e1 e2 = absurd (grind (arith, is, e1, e2))
        by true None e1 e2 = let lives = lives_on e1 in record { goes_on = lives; is = law.opened x m s lives e2 }

    beats_so : beat_fault m ≡ None → MayClose config x.life × (x.life.due ≡ 0)
    beats_so is = by (hears m.server.status) (length m.waiting == 0) (open_call_fault m.server.endpoint.connection []) refl refl refl
      where
        by : (a b : Bool) (o : Option CallFault) → hears m.server.status ≡ a → (length m.waiting == 0) ≡ b → open_call_fault m.server.endpoint.connection [] ≡ o → MayClose config x.life × (x.life.due ≡ 0)
        by false b o e1 e2 e3 = absurd (grind (arith, is, e1))
        by true false o e1 e2 e3 = absurd (grind (arith, is, e1, e2, e3))
        by true true (Some f) e1 e2 e3 = absurd (grind (arith, is, e1, e2, e3))
        by true true None e1 e2 e3 = let lives = lives_on e1 in (record { goes_on = lives; is = law.opened x m s lives e3 }, none_due e1 e2)

    -- It ends as long as it hears, and no unit waits.
    finishes_so : end_fault m ≡ None → (x.life.ended ≡ None) × (x.life.starved ≡ false)
    finishes_so is = by m.server.status refl
      where
        by : (t : Status) → m.server.status ≡ t → (x.life.ended ≡ None) × (x.life.starved ≡ false)
        by status.Serving e = (lives_on (ap (λ (t : Status). hears t) e), rests_life e)
        by status.Starved e = absurd (grind (arith, is, e))
        by status.Ended e = absurd (grind (arith, is, e))
        by (status.Lost f) e = absurd (grind (arith, is, e))

  -- no connection and no life
  none_seated : (o : Option Seat) → IsSeated config None o → o ≡ None
  none_seated None x = refl
  none_seated (Some l) x = absurd x

  -- Why a call for the connection under a key is refused.
  refused_why : (why : MemberState → Option HubFault) (F : HubFault → Option Life → Type 0) → F fault.NoKey None → ((x : Seat) (m : MemberState) → IsSeat config x m → (f : HubFault) → why m ≡ Some f → F f (Some x.life)) →
      (o : Option MemberState) (x : Option Seat) (f : HubFault) → refusal_at o why ≡ Some f → IsSeated config o x → F f (life_of x)
  refused_why why F none some None None f is x = let same : fault.NoKey ≡ f = grind (arith, is) in subst (λ (g : HubFault). F g None) same none
  refused_why why F none some (Some m) (Some l) f is x = some l m x f is
  refused_why why F none some None (Some l) f is x = absurd x
  refused_why why F none some (Some m) None f is x = absurd x

  -- of the life under a key with a connection
  life_there : (P : Life → Type 0) (o : Option MemberState) (x : Option Seat) (m : MemberState) → o ≡ Some m → IsSeated config o x → ((y : Seat) → IsSeat config y m → P y.life) → IsSomeAnd (life_of x) P
  life_there P o x m is s f = by x (subst (λ (t : Option MemberState). IsSeated config t x) is s)
    where
      by : (x : Option Seat) → IsSeated config (Some m) x → IsSomeAnd (life_of x) P
      by None y = absurd y
      by (Some k) y = f k y

-- Turns. --------------------------------------------------------------------------------------------------------------

module _ (r : Rule) (config : Configured) (limit : ℕ) (go : SeatGoesOn config) where
  -- One key has this now, and came by f of it.
  one_key : (old new : Slab MemberState) (k : ℕ) (slot : Option MemberState) (seats f : ℕ → Option Seat) → Updates old new k slot → IsSeated config slot (f k) → AreSeated config old seats →
      AreSeated config new (λ key. if nat_eq k key then f key else seats key)
  one_key old new k slot seats f u is all key = by (nat_eq k key) refl
    where
      by : (b : Bool) → nat_eq k key ≡ b → IsSeated config (get new key) (if b then f key else seats key)
      by true same =
          let e : k ≡ key = eqb-true k key same in
          subst (λ (j : ℕ). IsSeated config (get new j) (f j)) e (subst (λ (m : Option MemberState). IsSeated config m (f k)) (sym u.changed) is)
      by false other = subst (λ (m : Option MemberState). IsSeated config m (seats key)) (sym (u.others key (λ e. eqb-false k key other (sym e)))) (all key)

  -- One key has this now, and is what it was.
  same_key : (old new : Slab MemberState) (k : ℕ) (slot : Option MemberState) (seats : ℕ → Option Seat) → Updates old new k slot → IsSeated config slot (seats k) → AreSeated config old seats → AreSeated config new seats
  same_key old new k slot seats u is all key = by (nat_eq k key) refl
    where
      by : (b : Bool) → nat_eq k key ≡ b → IsSeated config (get new key) (seats key)
      by true same =
          let e : k ≡ key = eqb-true k key same in
          subst (λ (j : ℕ). IsSeated config (get new j) (seats j)) e (subst (λ (m : Option MemberState). IsSeated config m (seats k)) (sym u.changed) is)
      by false other = subst (λ (m : Option MemberState). IsSeated config m (seats key)) (sym (u.others key (λ e. eqb-false k key other (sym e)))) (all key)

  -- The one that stands there goes on.
  went : (a b : MemberState) (f : Seat → Seat) (x : Option Seat) → ((y : Seat) → IsSeat config y a → IsSeat config (f y) b) → IsSeated config (Some a) x → IsSeated config (Some b) (if_seated f x)
  went a b f None on x = absurd x
  went a b f (Some l) on x = on l x

  changed : (old new : Slab MemberState) (k : ℕ) (a b : MemberState) (seats : ℕ → Option Seat) (f : Seat → Seat) → IsChanged old new k a b → ((y : Seat) → IsSeat config y a → IsSeat config (f y) b) →
      AreSeated config old seats → AreSeated config new (λ key. if nat_eq k key then if_seated f (seats key) else seats key)
  changed old new k a b seats f x on all =
      one_key old new k (Some b) seats (λ key. if_seated f (seats key)) x.updates (went a b f (seats k) on (subst (λ (m : Option MemberState). IsSeated config m (seats k)) x.was (all k))) all

  unchanged : (old new : Slab MemberState) (seats : ℕ → Option Seat) → AreSame old new → AreSeated config old seats → AreSeated config new seats
  unchanged old new seats same all key = subst (λ (m : Option MemberState). IsSeated config m (seats key)) (sym (same.values key)) (all key)

  alike_one : (a b : Option MemberState) (x : Option Seat) → SameSlot a b → IsSeated config a x → IsSeated config b x
  alike_one None None l same x = x
  alike_one (Some a) (Some b) None same x = absurd x
  alike_one (Some a) (Some b) (Some l) same x = go.stays l a b same x
  alike_one None (Some b) l same x = absurd same
  alike_one (Some a) None l same x = absurd same

  alike : (old new : Slab MemberState) (seats : ℕ → Option Seat) → AreAlike old new → AreSeated config old seats → AreSeated config new seats
  alike old new seats same all key = alike_one (get old key) (get new key) (seats key) (same.values key) (all key)

  -- a step, by how it came out
  heard : (old new : Slab MemberState) (k : ℕ) (piece : List ℕ) (s : Stepped) (due : ℕ) (noted : List ℕ) (seats : ℕ → Option Seat) (q : Result Done ServeFault) → s.done ≡ q →
      HeardSo (status_after q) old new k piece s due noted → AreSeated config old seats →
      AreSeated config new (λ key. if nat_eq k key then stepped_on q (take s.used piece) due noted (seats key) else seats key)
  heard old new k piece s due noted seats (Ok d) is x all =
      let y = x.0 in
      let bytes = take s.used piece in
      let on : (l : Seat) → IsSeat config l y.before → IsSeat config (heard_on l bytes due noted) y.after =
      λ l has. subst (λ (n : ℕ). IsSeat config (heard_on l bytes n noted) y.after) (sym x.1) (go.hears l y.before y.after piece s d noted y.hears y.heard is has).0 in
      changed old new k y.before y.after seats (λ l. heard_on l bytes due noted) y.changed on all
  heard old new k piece s due noted seats (Err lost.NoMemory) is x all =
      let y = x.0 in
      changed old new k y.before y.after seats (went_on (λ l. starved_on l (take s.used piece))) y.changed (λ l has. (go.starves l y.before y.after piece s noted y.hears y.heard is has).0) all
  heard old new k piece s due noted seats (Err lost.Read) is x all = one_key old new k None seats (λ _. None) x.gone.updates tt all
  heard old new k piece s due noted seats (Err lost.Write) is x all = one_key old new k None seats (λ _. None) x.gone.updates tt all
  heard old new k piece s due noted seats (Err lost.Sink) is x all = one_key old new k None seats (λ _. None) x.gone.updates tt all

  -- another rule
  ruled : (rule : Rule) (m : MemberState) (x : Seat) → IsSeat config x m → IsSeat config (ruled_by rule x) (record m { rule = rule })
  ruled rule m x s = record { rule = refl; number = s.number; room = s.room; due = s.due; lives = s.lives }

  -- A turn.
  pub keeps : (place : ℕ) (ledger : LedgerState) (old new : Slab MemberState) (t : Turn) (a : Answer) (seats : ℕ → Option Seat) → TurnDone r config limit place ledger old new t a → AreSeated config old seats →
      AreSeated config new (λ key. seated r place key t a (seats key))
  keeps place ledger old new Open (Opened k) seats x all = one_key old new k (Some x.0.member) seats (λ _. Some (new_seat r place)) x.0.updates (go.starts r place x.0.member x.0.is) all
  keeps place ledger old new Open (Refused f) seats x all = unchanged old new seats x.0 all
  keeps place ledger old new (Hear k piece) (Heard s due noted) seats x all = heard old new k piece s due noted seats s.done refl x all
  keeps place ledger old new (Hear k piece) (Refused f) seats x all = unchanged old new seats x.0 all
  keeps place ledger old new (Hand k room) (Handed bytes) seats x all =
      let y = x.sent in
      let sent = subst (λ (n : ℕ). IsSent y.before y.after n) (sym x.long) y.sent in
      let is = x.is ∙ ap (λ (n : ℕ). take n (unsent_of y.before)) (sym x.long) in
      changed old new k y.before y.after seats (went_on (λ l. told_on l bytes)) y.changed (λ l has. go.hands l y.before y.after bytes sent is has) all
  keeps place ledger old new (Hand k room) (Refused f) seats x all = unchanged old new seats x.0 all
  keeps place ledger old new (Heartbeat k) (Beat bytes) seats x all =
      let y = x.0 in
      let stays : (l : Option Seat) → IsSeated config (Some y.before) l → IsSeated config (Some y.after) l = λ l has. alike_one (Some y.before) (Some y.after) l y.same has in
      same_key old new k (Some y.after) seats y.changed.updates (stays (seats k) (subst (λ (m : Option MemberState). IsSeated config m (seats k)) y.changed.was (all k))) all
  keeps place ledger old new (Heartbeat k) (Refused f) seats x all = alike old new seats x.0 all
  keeps place ledger old new (Finish k) (Ended how) seats x all = changed old new k x.before x.after seats (went_on (λ l. ended_on l (ByPeer how))) x.changed (λ l has. go.finishes l x.before x.after how x.ended has) all
  keeps place ledger old new (Finish k) (Refused f) seats x all = unchanged old new seats x.0 all
  keeps place ledger old new (Close k) Closed seats x all = changed old new k x.before x.after seats (went_on (λ l. ended_on l BySelf)) x.changed (λ l has. go.closes l x.before x.after x.closed has) all
  keeps place ledger old new (Close k) (Refused f) seats x all = alike old new seats x.0 all
  keeps place ledger old new (Remove k) Removed seats x all = one_key old new k None seats (λ _. None) x.updates tt all
  keeps place ledger old new (Remove k) (Refused f) seats x all = unchanged old new seats x.0 all
  keeps place ledger old new (Ruled k rule) Changed seats x all = changed old new k x.before (record x.before { rule = rule }) seats (ruled_by rule) x.changed (λ l has. ruled rule x.before l has) all
  keeps place ledger old new (Ruled k rule) (Refused f) seats x all = unchanged old new seats x.0 all
  keeps place ledger old new (Settle most) (Settled p) seats x all = unchanged old new seats x all
  keeps place ledger old new Held (Holds n) seats x all = unchanged old new seats x.0 all
  keeps place ledger old new Count (Counts n) seats x all = unchanged old new seats x.0 all
  keeps place ledger old new t a seats x all = absurd (grind (arith, x))

  -- how many are open
  counts_heard : (old new : Slab MemberState) (k : ℕ) (piece : List ℕ) (s : Stepped) (due : ℕ) (noted : List ℕ) (q : Result Done ServeFault) → HeardSo (status_after q) old new k piece s due noted →
      slab_len new ≡ open_stepped q (slab_len old)
  counts_heard old new k piece s due noted (Ok d) x = x.0.changed.count
  counts_heard old new k piece s due noted (Err lost.NoMemory) x = x.0.changed.count
  counts_heard old new k piece s due noted (Err lost.Read) x = omega (arith, x.gone.count)
  counts_heard old new k piece s due noted (Err lost.Write) x = omega (arith, x.gone.count)
  counts_heard old new k piece s due noted (Err lost.Sink) x = omega (arith, x.gone.count)

  pub counts : (place : ℕ) (ledger : LedgerState) (old new : Slab MemberState) (t : Turn) (a : Answer) → TurnDone r config limit place ledger old new t a → slab_len new ≡ open_behind a (slab_len old)
  counts place ledger old new Open (Opened k) x = x.0.count
  counts place ledger old new Open (Refused f) x = x.0.count
  counts place ledger old new (Hear k piece) (Heard s due noted) x = counts_heard old new k piece s due noted s.done x
  counts place ledger old new (Hear k piece) (Refused f) x = x.0.count
  counts place ledger old new (Hand k room) (Handed bytes) x = x.sent.changed.count
  counts place ledger old new (Hand k room) (Refused f) x = x.0.count
  counts place ledger old new (Heartbeat k) (Beat bytes) x = x.0.changed.count
  counts place ledger old new (Heartbeat k) (Refused f) x = x.0.count
  counts place ledger old new (Finish k) (Ended how) x = x.changed.count
  counts place ledger old new (Finish k) (Refused f) x = x.0.count
  counts place ledger old new (Close k) Closed x = x.changed.count
  counts place ledger old new (Close k) (Refused f) x = x.0.count
  counts place ledger old new (Remove k) Removed x = omega (arith, x.count)
  counts place ledger old new (Remove k) (Refused f) x = x.0.count
  counts place ledger old new (Ruled k rule) Changed x = x.changed.count
  counts place ledger old new (Ruled k rule) (Refused f) x = x.0.count
  counts place ledger old new (Settle most) (Settled p) x = x.count
  counts place ledger old new Held (Holds n) x = x.0.count
  counts place ledger old new Count (Counts n) x = x.0.count
  counts place ledger old new t a x = absurd (grind (arith, x))

  -- What the turns say of the ledger.
  number_is : (o : Option MemberState) (x : Option Seat) → IsSeated config o x → option_map (λ m. m.number) o ≡ option_map (λ y. y.number) x
  number_is None None y = refl
  number_is (Some m) (Some l) y = ap (λ (n : ℕ). Some n) y.number
  number_is None (Some l) y = absurd y
  number_is (Some m) None y = absurd y

  pub keeps_ledger : (place : ℕ) (p q : LedgerState) (old new : Slab MemberState) (t : Turn) (a : Answer) (seats : ℕ → Option Seat) → TurnDone r config limit place p old new t a →
      LedgerDone (λ key. get old key) t a p q → AreSeated config old seats → q ≡ ledger_behind seats t a p
  keeps_ledger place p q old new (Hear k piece) (Heard s due noted) seats x y all = y.1 ∙ ap (λ (o : Option ℕ). put_by o s noted p) (number_is (get old k) (seats k) (all k))
  keeps_ledger place p q old new (Settle most) (Settled z) seats x y all = y.0
  keeps_ledger place p q old new t a seats x y all = grind (arith, y)

  pub suits : (p q : LedgerState) (old : Slab MemberState) (t : Turn) (a : Answer) → LedgerDone (λ key. get old key) t a p q → Suits p t a
  suits p q old (Hear k piece) (Heard s due noted) y = y.0
  suits p q old (Settle most) (Settled z) y = y.1 ∙ ap (λ (l : LedgerState). progress_of l) y.0
  suits p q old t a y = grind (arith, y)

  module _ (law : SeatIsAlone config) where
    seated_most : (o : Option MemberState) (x : Option Seat) (m : MemberState) → o ≡ Some m → IsSeated config o x → member_held m ≤ most_of config
    seated_most None l m is x = absurd (grind (arith, is))
    seated_most (Some n) None m is x = absurd x
    seated_most (Some n) (Some l) m is x =
        let same : n ≡ m = grind (arith, is) in
        subst (λ (k : MemberState). member_held k ≤ most_of config) same (omega (arith, law.held l n x, x.room))

    -- What all hold.
    all_most : (s : Slab MemberState) (seats : ℕ → Option Seat) → AreSeated config s seats → all_held s ≤ slab_len s * most_of config
    all_most s seats all = held_most (most_of config) 0 s.slots (λ i m is. seated_most (get s i) (seats i) m is (all i))

    of_life : (P : Life → Type 0) (s : Slab MemberState) (k : ℕ) (m : MemberState) (seats : ℕ → Option Seat) → get s k ≡ Some m → AreSeated config s seats → ((y : Seat) → IsSeat config y m → P y.life) → IsSomeAnd (life_of (seats k)) P
    of_life P s k m seats was all f = life_there config law P (get s k) (seats k) m was (all k) f

    why : (faults : MemberState → Option HubFault) (F : HubFault → Option Life → Type 0) → F fault.NoKey None → ((x : Seat) (m : MemberState) → IsSeat config x m → (f : HubFault) → faults m ≡ Some f → F f (Some x.life)) →
        (s : Slab MemberState) (k : ℕ) (f : HubFault) (seats : ℕ → Option Seat) → refusal_at (get s k) faults ≡ Some f → AreSeated config s seats → F f (life_of (seats k))
    why faults F none some s k f seats is all = refused_why config law faults F none some (get s k) (seats k) f is (all k)

    none_at : (s : Slab MemberState) (k : ℕ) (seats : ℕ → Option Seat) → get s k ≡ None → AreSeated config s seats → life_of (seats k) ≡ None
    none_at s k seats is all = ap (λ (x : Option Seat). life_of x) (none_seated config law (seats k) (subst (λ (t : Option MemberState). IsSeated config t (seats k)) is (all k)))

    -- serving broke off
    lost_heard : (old : Slab MemberState) (k : ℕ) (piece : List ℕ) (s : Stepped) (due : ℕ) (noted : List ℕ) (seats : ℕ → Option Seat) (f : ServeFault) (m : MemberState) → get old k ≡ Some m → hear_fault m ≡ None →
        s.used ≤ length piece → (f ≡ lost.NoMemory → ⊥) → AreSeated config old seats → IsSomeAnd (life_of (seats k)) (λ l. IsHearing l × SpeaksOf config s.told (Err f) l due noted) × (s.used ≤ length piece)
    lost_heard old k piece s due noted seats f m was hears bound other all =
        (of_life (λ l. IsHearing l × (f ≡ lost.NoMemory → (due ≡ l.due) × (noted ≡ []))) old k m seats was all (λ x has. (hears_so config law x m has hears, λ e. absurd (other e))), bound)

    fits_heard : (old new : Slab MemberState) (k : ℕ) (piece : List ℕ) (s : Stepped) (due : ℕ) (noted : List ℕ) (seats : ℕ → Option Seat) (q : Result Done ServeFault) → s.done ≡ q →
        HeardSo (status_after q) old new k piece s due noted → AreSeated config old seats → IsSomeAnd (life_of (seats k)) (λ l. IsHearing l × SpeaksOf config s.told q l due noted) × (s.used ≤ length piece)
    fits_heard old new k piece s due noted seats (Ok d) is x all =
        let y = x.0 in (
          of_life (λ l. IsHearing l × SpeaksOf config s.told (Ok d) l due noted) old k y.before seats y.changed.was all
              (λ l has. let z = go.hears l y.before y.after piece s d noted y.hears y.heard is has in (hears_so config law l y.before has y.hears, (z.1, z.2))),
          y.heard.bound,
        )
    fits_heard old new k piece s due noted seats (Err lost.NoMemory) is x all =
        let y = x.0 in (
          of_life (λ l. IsHearing l × (lost.NoMemory ≡ lost.NoMemory → (due ≡ l.due) × (noted ≡ []))) old k y.before seats y.changed.was all
              (λ l has. let z = go.starves l y.before y.after piece s noted y.hears y.heard is has in (hears_so config law l y.before has y.hears, λ _. (x.1 ∙ z.1, z.2))),
          y.heard.bound,
        )
    fits_heard old new k piece s due noted seats (Err lost.Read) is x all = lost_heard old k piece s due noted seats lost.Read x.gone.before x.gone.was x.hears x.bound (λ e. absurd (grind (arith, e))) all
    fits_heard old new k piece s due noted seats (Err lost.Write) is x all = lost_heard old k piece s due noted seats lost.Write x.gone.before x.gone.was x.hears x.bound (λ e. absurd (grind (arith, e))) all
    fits_heard old new k piece s due noted seats (Err lost.Sink) is x all = lost_heard old k piece s due noted seats lost.Sink x.gone.before x.gone.was x.hears x.bound (λ e. absurd (grind (arith, e))) all

    hand_refused : (f : HubFault) (s : Slab MemberState) (k : ℕ) (seats : ℕ → Option Seat) → HandRefusedAt f (get s k) → AreSeated config s seats → HandRefused f (life_of (seats k))
    hand_refused fault.NoKey s k seats is all = none_at s k seats is all
    hand_refused fault.NoMemory s k seats is all = tt
    hand_refused f s k seats is all = absurd (grind (arith, is))

    removed_not : (f : HubFault) (s : Slab MemberState) (k : ℕ) (seats : ℕ → Option Seat) → get s k ≡ None → f ≡ fault.NoKey → AreSeated config s seats → RemoveRefused f (life_of (seats k))
    removed_not f s k seats is e all = subst (λ (g : HubFault). RemoveRefused g (life_of (seats k))) (sym e) (none_at s k seats is all)

    -- An answer fits.
    fits : (place : ℕ) (ledger : LedgerState) (old new : Slab MemberState) (t : Turn) (a : Answer) (seats : ℕ → Option Seat) → TurnDone r config limit place ledger old new t a → AreSeated config old seats →
        Fits config limit (slab_len old) ledger (λ key. life_of (seats key)) t a
    fits place ledger old new Open (Opened k) seats x all = (x.1, none_at old k seats x.0.free all)
    fits place ledger old new Open (Refused f) seats x all = x.1
    fits place ledger old new (Hear k piece) (Heard s due noted) seats x all = fits_heard old new k piece s due noted seats s.done refl x all
    fits place ledger old new (Hear k piece) (Refused f) seats x all = by (is_roomy ledger) x.1
      where
        by : (b : Bool) → HearRefusedBy b (refusal_at (get old k) hear_fault) f → HearRefusedIf b config f (life_of (seats k))
        by true is = why hear_fault (HearRefused config) refl (λ l m has g is. hear_why config law l m has g is) old k f seats is all
        by false is = is
    fits place ledger old new (Hand k room) (Handed bytes) seats x all = of_life (HandsBy (is_settled ledger) room bytes) old k x.sent.before seats x.sent.changed.was all (λ l has. by l has (is_settled ledger) refl)
      where
        by : (l : Seat) → IsSeat config l x.sent.before → (b : Bool) → is_settled ledger ≡ b → HandsBy b room bytes l.life
        by l has true e = (x.bound, λ some wait. x.some e some (subst (λ (n : ℕ). 0 < n) (sym (law.due l x.sent.before has)) wait))
        by l has false e = x.none e
    fits place ledger old new (Hand k room) (Refused f) seats x all = hand_refused f old k seats x.1 all
    fits place ledger old new (Heartbeat k) (Beat bytes) seats x all =
        let y = x.0 in (of_life (λ l. MayClose config l × (l.due ≡ 0)) old k y.before seats y.changed.was all (λ l has. beats_so config law l y.before has y.may), x.1)
    fits place ledger old new (Heartbeat k) (Refused f) seats x all = why beat_fault (BeatRefused config) refl (λ l m has g is. beat_why config law l m has g is) old k f seats x.1 all
    fits place ledger old new (Finish k) (Ended how) seats x all =
        of_life (λ l. (l.ended ≡ None) × (l.starved ≡ false)) old k x.before seats x.changed.was all
        (λ l has. finishes_so config law l x.before has (ap (λ o. option_map fault_of o) x.ended.server.was))
    fits place ledger old new (Finish k) (Refused f) seats x all = why end_fault FinishRefused refl (λ l m has g is. finish_why config law l m has g is) old k f seats x.1 all
    fits place ledger old new (Close k) Closed seats x all =
        of_life (MayClose config) old k x.before seats x.changed.was all (λ l has. closes_so config law l x.before has (ap (λ o. option_map fault_of o) x.closed.server.was))
    fits place ledger old new (Close k) (Refused f) seats x all = why close_fault (CloseRefused config) refl (λ l m has g is. close_why config law l m has g is) old k f seats x.1 all
    fits place ledger old new (Remove k) Removed seats x all = of_life (λ l. Unit {0}) old k x.before seats x.was all (λ l has. tt)
    fits place ledger old new (Remove k) (Refused f) seats x all = removed_not f old k seats x.1 x.2 all
    fits place ledger old new (Ruled k rule) Changed seats x all = of_life (λ l. Unit {0}) old k x.before seats x.changed.was all (λ l has. tt)
    fits place ledger old new (Ruled k rule) (Refused f) seats x all = removed_not f old k seats x.1 x.2 all
    fits place ledger old new (Settle most) (Settled p) seats x all = tt
    fits place ledger old new Held (Holds n) seats x all = let held = all_most old seats all in subst (λ (k : ℕ). k ≤ slab_len old * most_of config + waiting_bytes ledger) (sym x.1) (min_most (all_held old) (waiting_bytes ledger) held)
      where
        min_most : (h w : ℕ) → h ≤ slab_len old * most_of config → min (h + w) (2 ^ 64 - 1) ≤ slab_len old * most_of config + w
        min_most h w le = omega (arith, le)
    fits place ledger old new Count (Counts n) seats x all = x.1
    fits place ledger old new t a seats x all = absurd (grind (arith, x))

-- Lists of turns. -----------------------------------------------------------------------------------------------------

-- how many are open after some answers
abbrev open_after : List Answer → ℕ → ℕ
open_after [] n = n
open_after (a ∷ answers) n = open_after answers (open_behind a n)

open_more : (answers : List Answer) (a : Answer) (n : ℕ) → open_after (answers ++ a ∷ []) n ≡ open_behind a (open_after answers n)
open_more [] a n = refl
open_more (x ∷ answers) a n = open_more answers a (open_behind x n)

module _ (r : Rule) where
  -- one turn more
  seat_more : (place key : ℕ) (turns : List Turn) (answers : List Answer) (t : Turn) (a : Answer) (seat : Option Seat) → length turns ≡ length answers →
      seat_after r place key (turns ++ t ∷ []) (answers ++ a ∷ []) seat ≡ seated r (place + length turns) key t a (seat_after r place key turns answers seat)
  seat_more place key [] [] t a seat e = ap (λ (p : ℕ). seated r p key t a seat) (omega arith)
  seat_more place key [] (y ∷ answers) t a seat e = absurd (grind (arith, e))
  seat_more place key (x ∷ turns) [] t a seat e = absurd (grind (arith, e))
  seat_more place key (x ∷ turns) (y ∷ answers) t a seat e =
      seat_more (place + 1) key turns answers t a (seated r place key x y seat) (omega (arith, e))
      ∙ ap (λ (p : ℕ). seated r p key t a (seat_after r (place + 1) key turns answers (seated r place key x y seat))) (omega arith)

  ledger_more : (ledger : LedgerState) (seats : ℕ → Option Seat) (place : ℕ) (turns : List Turn) (answers : List Answer) (t : Turn) (a : Answer) → length turns ≡ length answers →
      ledger_after r ledger seats place (turns ++ t ∷ []) (answers ++ a ∷ []) ≡ ledger_behind (λ key. seat_after r place key turns answers (seats key)) t a (ledger_after r ledger seats place turns answers)
  ledger_more ledger seats place [] [] t a e = refl
  ledger_more ledger seats place [] (y ∷ answers) t a e = absurd (grind (arith, e))
  ledger_more ledger seats place (x ∷ turns) [] t a e = absurd (grind (arith, e))
  ledger_more ledger seats place (x ∷ turns) (y ∷ answers) t a e =
      ledger_more (ledger_behind seats x y ledger) (λ key. seated r place key x y (seats key)) (place + 1) turns answers t a (omega (arith, e))

  fit_more : (config : Configured) (limit n : ℕ) (ledger : LedgerState) (seats : ℕ → Option Seat) (place : ℕ) (turns : List Turn) (answers : List Answer) (t : Turn) (a : Answer) →
      AllFit r config limit n ledger seats place turns answers →
      Fits config limit (open_after answers n) (ledger_after r ledger seats place turns answers) (λ key. life_of (seat_after r place key turns answers (seats key))) t a →
      Suits (ledger_after r ledger seats place turns answers) t a → AllFit r config limit n ledger seats place (turns ++ t ∷ []) (answers ++ a ∷ [])
  fit_more config limit n ledger seats place [] [] t a all one suits = (one, suits, tt)
  fit_more config limit n ledger seats place [] (y ∷ answers) t a all one suits = absurd all
  fit_more config limit n ledger seats place (x ∷ turns) [] t a all one suits = absurd all
  fit_more config limit n ledger seats place (x ∷ turns) (y ∷ answers) t a all one suits = (
    all.0,
    all.1,
    fit_more config limit (open_behind y n) (ledger_behind seats x y ledger) (λ key. seated r place key x y (seats key)) (place + 1) turns answers t a all.2 one suits,
  )

module _ (r : Rule) (config : Configured) (limit room : ℕ) where
  -- after each of them each connection is what its own calls alone give
  abbrev AllAlone : List Turn → List Answer → Type 0
  AllAlone turns answers = (n key : ℕ) (x : Seat) → seat_after r 0 key (take n turns) (take n answers) None ≡ Some x → IsAlone config x.life

  -- After so many turns this is known of the hub and of what was answered so far.
  pub record IsSoFar (turns : List Turn) (answers : List Answer) (s : Slab MemberState) (ledger : LedgerState) : Type 0 where
    pub seats : AreSeated config s (λ key. seat_after r 0 key turns answers None)
    pub count : slab_len s ≡ open_after answers 0
    pub kept : ledger ≡ ledger_after r (new_ledger room) (λ key. None) 0 turns answers
    pub alone : AllAlone turns answers
    pub fits : AllFit r config limit 0 (new_ledger room) (λ key. None) 0 turns answers

  pub none_yet : (s : Slab MemberState) (ledger : LedgerState) → s.slots ≡ [] → ledger ≡ new_ledger room → IsSoFar [] [] s ledger
  none_yet s ledger none new = record {
    seats = λ key. subst (λ (m : Option MemberState). IsSeated config m None) (sym (ap (λ (l : List (Option MemberState)). slice_index_or l key None) none)) tt;
    count = ap (λ (l : List (Option MemberState)). count_by is_some l) none;
    kept = new;
    alone = nothing;
    fits = tt;
  }
    where
      nothing : AllAlone [] []
      nothing zero key x is = absurd (grind (arith, is))
      nothing (suc n) key x is = absurd (grind (arith, is))

module _ (r : Rule) (config : Configured) (limit room : ℕ) (go : SeatGoesOn config) (law : SeatIsAlone config) where
  seated_alone : (m : Option MemberState) (x : Seat) → IsSeated config m (Some x) → IsAlone config x.life
  seated_alone None x s = absurd s
  seated_alone (Some m) x s = law.alone x m s

  -- One turn more: after it each connection is what its own calls alone give, and so it was after each before it.
  alone_more : (turns : List Turn) (answers : List Answer) (t : Turn) (a : Answer) (s : Slab MemberState) → length turns ≡ length answers → AllAlone r config limit room turns answers →
      AreSeated config s (λ key. seat_after r 0 key (turns ++ t ∷ []) (answers ++ a ∷ []) None) → AllAlone r config limit room (turns ++ t ∷ []) (answers ++ a ∷ [])
  alone_more turns answers t a s long past seats n key x is = elim (cases_lt (length turns) n) [
    | inl behind ↦
        let all_turns = take_all n (turns ++ t ∷ []) (omega (arith, length-append turns (t ∷ []), behind)) in
        let all_answers = take_all n (answers ++ a ∷ []) (omega (arith, length-append answers (a ∷ []), behind, long)) in
        let whole : seat_after r 0 key (turns ++ t ∷ []) (answers ++ a ∷ []) None ≡ Some x =
        sym (ap (λ (ts : List Turn). seat_after r 0 key ts (take n (answers ++ a ∷ [])) None) all_turns ∙ ap (λ (told : List Answer). seat_after r 0 key (turns ++ t ∷ []) told None) all_answers) ∙ is in
        seated_alone (get s key) x (subst (λ (o : Option Seat). IsSeated config (get s key) o) whole (seats key))
    | inr before ↦
        let few_turns = take-append-le n turns (t ∷ []) before in
        let few_answers = take-append-le n answers (a ∷ []) (omega (arith, before, long)) in
        past n key x
        (sym (ap (λ (ts : List Turn). seat_after r 0 key ts (take n (answers ++ a ∷ [])) None) few_turns ∙ ap (λ (told : List Answer). seat_after r 0 key (take n turns) told None) few_answers) ∙ is)
  ]

  one_more : (turns : List Turn) (answers : List Answer) (t : Turn) (a : Answer) (old new : Slab MemberState) (p q : LedgerState) → length turns ≡ length answers → IsSoFar r config limit room turns answers old p →
      TurnDone r config limit (length turns) p old new t a → LedgerDone (λ key. get old key) t a p q → IsSoFar r config limit room (turns ++ t ∷ []) (answers ++ a ∷ []) new q
  one_more turns answers t a old new p q long x done kept =
      let seats : ℕ → Option Seat = λ key. seat_after r 0 key turns answers None in
      let after = keeps r config limit go (length turns) p old new t a seats done x.seats in
      let seated_so : AreSeated config new (λ key. seat_after r 0 key (turns ++ t ∷ []) (answers ++ a ∷ []) None) =
      λ key. subst (λ (o : Option Seat). IsSeated config (get new key) o)
      (sym (seat_more r 0 key turns answers t a None long ∙ ap (λ (p : ℕ). seated r p key t a (seat_after r 0 key turns answers None)) (omega arith))) (after key) in
      let fit = fits r config limit go law (length turns) p old new t a seats done x.seats in
      record {
        seats = seated_so;
        count = counts r config limit go (length turns) p old new t a done ∙ ap (λ (n : ℕ). open_behind a n) x.count ∙ sym (open_more answers a 0);
        kept = keeps_ledger r config limit go (length turns) p q old new t a seats done kept x.seats ∙ ap (λ (l : LedgerState). ledger_behind seats t a l) x.kept
            ∙ sym (ledger_more r (new_ledger room) (λ key. None) 0 turns answers t a long);
        alone = alone_more turns answers t a new long x.alone seated_so;
        fits = fit_more r config limit 0 (new_ledger room) (λ key. None) 0 turns answers t a x.fits
            (subst (λ (l : LedgerState). Fits config limit (open_after answers 0) l (λ key. life_of (seats key)) t a) x.kept (subst (λ (n : ℕ). Fits config limit n p (λ key. life_of (seats key)) t a) x.count fit))
            (subst (λ (l : LedgerState). Suits l t a) x.kept (suits r config limit go p q old t a kept));
      }

  -- the same of turns and answers in hand
  pub so_far_on : {X A : Type 0} (f : X → Turn) (v : A → Answer) (xs : List X) (i : ℕ) (d : X) (before after : List A) (a : A) (old new : Slab MemberState) (p q : LedgerState) → i < length xs → length before ≡ i →
      after ≡ before ++ a ∷ [] → IsSoFar r config limit room (map f (take i xs)) (map v before) old p → (n number : ℕ) → n ≡ limit → number ≡ i →
      TurnDone r config n number p old new (f (get_or xs i d)) (v a) → LedgerDone (λ key. get old key) (f (get_or xs i d)) (v a) p q → IsSoFar r config limit room (map f (take (i + 1) xs)) (map v after) new q
  so_far_on f v xs i d before after a old new p q l long e x n number same place done kept =
      let turns : length (map f (take i xs)) ≡ i = length-map (take i xs) f ∙ length-take-le i xs (omega (arith, l)) in
      let answers : length (map v before) ≡ i = length-map before v ∙ long in
      let here : TurnDone r config limit (length (map f (take i xs))) p old new (f (get_or xs i d)) (v a) =
      subst (λ (k : ℕ). TurnDone r config limit k p old new (f (get_or xs i d)) (v a)) (place ∙ sym turns) (subst (λ (k : ℕ). TurnDone r config k number p old new (f (get_or xs i d)) (v a)) same done) in
      let more = one_more (map f (take i xs)) (map v before) (f (get_or xs i d)) (v a) old new p q (turns ∙ sym answers) x here kept in
      subst (λ (ts : List Turn). IsSoFar r config limit room ts (map v after) new q) (sym (map_more f xs i d l))
      (subst (λ (told : List Answer). IsSoFar r config limit room (map f (take i xs) ++ f (get_or xs i d) ∷ []) told new q) (sym (ap (λ w. map v w) e ∙ map-append v before (a ∷ []))) more)

-- What a turn of any settings does is what the turn that was matched does.
pub of_turn : (r : Rule) (config : Configured) (number : ℕ) (old new : HubState LedgerState) (t u : asked.Turn) (a : Answer) → t ≡ u →
    ((r : Rule) (config : Configured) (n : ℕ) → TurnDone r config old.limit n old.keeper old.members new.members (turn_of u) a) → TurnDone r config old.limit number old.keeper old.members new.members (turn_of t) a
of_turn r config number old new t u a is done = subst (λ (x : asked.Turn). TurnDone r config old.limit number old.keeper old.members new.members (turn_of x) a) (sym is) (done r config number)
