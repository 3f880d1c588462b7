-- What an application gets of a link is within the credit that it granted, and what its endpoint holds is bounded.
use Rattle.std.proofs.Common.{arith, ◌≡◌, ℕ, suc, ◌+◌, ◌*◌, ◌^◌, ◌<◌, ◌≤◌, Bool, true, false, List, [], ◌∷◌, ◌++◌, length, map, refl, sym, ap, ◌∙◌, subst, Option, Some, None}
use Rattle.std.specs.Prelude.{if◌then◌else◌, ◌&&◌, nat_eq, filter, option_map, sum_by}
use Rattle.std.specs.List.{flat_map}
use Rattle.std.proofs.Math.Nat.{mul-le-mul_right}
use Rattle.std.proofs.lemmas.Bool.{eq-eqb}
use Rattle.std.proofs.lemmas.Grind.{flat_map-append}
use Rattle.std.proofs.lemmas.List.{append-nil, append_assoc, length-append, length-map}
use Rattle.std.proofs.lemmas.List.Elements.{filter-append}
use Rattle.std.proofs.lemmas.List.Sums.{sum_by-cons, sum_by-append, length-filter, count_by-le-length}
use Rattle.amqp_link.specs.declared.terms.Terms.{Terms}
use Rattle.amqp_link.specs.Links.{LinkEvent, Delivery}
use Rattle.amqp_link.specs.Histories as link
use Rattle.amqp_link.specs.Histories.{followed_by, grants, handed_up, is_whole, groups}
use Rattle.amqp_session.specs.declared.slot.Slot.{Slot}
use Rattle.amqp_session.specs.declared.slot.Slot.TheVariants.{Free, Live, Waits}
use Rattle.amqp_session.specs.Places.{Life}
use Rattle.amqp_session.specs.Sessions.{Attached}
use Rattle.amqp_endpoint.specs.declared.event.Event.{Event}
use Rattle.amqp_endpoint.specs.Configs.{Configured, IsConfigured}
use Rattle.amqp_endpoint.specs.Connections as event
use Rattle.amqp_endpoint.specs.Connections.{ConnectionState, ConnectionEvent, ConnectionMay, channels, slot_at}
use Rattle.amqp_endpoint.specs.Calls.{call_event}
use Rattle.amqp_endpoint.specs.Credits.{granted_to, granted_on, granted_since}
use Rattle.amqp_endpoint.specs.Held.{held, any_link_most, counted_most, session_count, link_count}
use Rattle.amqp_endpoint.specs.Histories.{state_of, Accepted}
use Rattle.amqp_endpoint.specs.Lines.{line_of, event_on, told_on}
use Rattle.amqp_endpoint.specs.Runs.{Call, Answer, Does, Run, IsStart, Handed, handed_of, Happened, Acted, Called, Closed, ClosedWith, Beat, Over, events}
use Rattle.amqp_endpoint.specs.Steps.{EndpointState}
use Rattle.amqp_endpoint.specs.Takings.{Taking, lives, attaches_on, handed_up_in, taking_on, takings, taken_in, link_part, last_part, lived_or, past_in}
use Rattle.amqp_endpoint.specs.Traces.{IsInRange, AreInRange, told_by, heard, event_told, told_of, tellings, message_in, placed, IsWholeRun}
use Rattle.amqp_endpoint.specs.Uses.{granted_told, is_from, granted_over, messages_over, held_by_any, IsUsed}
use Rattle.amqp_endpoint.proofs.Credits.{unit_none, slot_most}
use Rattle.amqp_endpoint.proofs.EachLife.{of_each_life}
use Rattle.amqp_endpoint.proofs.Grants.{grants_of_life}
use Rattle.amqp_endpoint.proofs.Runs.{replay_more, ranges_more}
use Rattle.amqp_endpoint.proofs.Steps.{ConnectionBegins, ConnectionGoesOn, all_sound}
use Rattle.amqp_endpoint.proofs.Takings.{messages, at_handle, given_at, of_these, taken_more, below_not, life_more, gives_there}

-- One life. -------------------------------------------------------------------------------------------------------------

-- a link hands up no more than it was granted
taken_within : (terms : Terms) (h : List LinkEvent) → link.Sound terms h → length (handed_up h) ≤ grants h
taken_within terms h sound = omega (arith, sound.came, length-filter is_whole (groups h), count_by-le-length is_whole (groups h), sound.begun, sound.spent)

-- so many messages at most as were granted in that life
abbrev pub IsWithinGrants : Slot (Life Attached LinkEvent) → List Handed → Type 0
IsWithinGrants part taken = length taken ≤ grants (past_in part)

-- All lives. ------------------------------------------------------------------------------------------------------------

one_or_none : (a b : Bool) (t : Taking) (d : Delivery) → length (if a && b then t ∷ [] else []) ≡ length (messages (if a then (if b then Some d else None) else None))
one_or_none true true t d = refl
one_or_none true false t d = refl
one_or_none false b t d = refl

no_one : (a : Bool) → length (messages (if a then None else None)) ≡ 0
no_one true = refl
no_one false = refl

lived_on_as : (b : Bool) (x before : Slot (Life Attached LinkEvent)) → b ≡ true → ((y : Life Attached LinkEvent) → x ≡ Live y → ⊥) → lived_or b x before ≡ before
lived_on_as true Free before e none = refl
lived_on_as true (Live y) before e none = absurd (none y refl)
lived_on_as true Waits before e none = refl
lived_on_as false x before e none = refl

not_so : {A : Type 0} (b : Bool) → b ≡ true → b ≡ false → A
not_so true a b = absurd (grind (arith, b))
not_so false a b = absurd (grind (arith, a))

module _ (channel handle : ℕ) where
  abbrev is_at : Taking → Bool
  is_at t = nat_eq t.channel channel && nat_eq t.handle handle

  -- how many messages were handed up there, in all lives
  abbrev messages_at : List ConnectionEvent → ℕ
  messages_at h = length (filter is_at (takings h))

  -- and how much was granted
  abbrev granted_at_all : List ConnectionEvent → ℕ
  granted_at_all h = sum_by (granted_on channel handle) h

  given_more : (place : ℕ) (h : List ConnectionEvent) (ts : List Taking) (o : Option (ℕ × Delivery)) → length (filter is_at (followed_by ts (option_map (taking_on place h) o))) ≡
      length (filter is_at ts) + length (messages (if nat_eq place channel then at_handle handle o else None))
  given_more place h ts None = omega (arith, no_one (nat_eq place channel))
  given_more place h ts (Some x) =
      let t = taking_on place h x in
      let one = one_or_none (nat_eq place channel) (nat_eq x.0 handle) t x.1 in
      ap length (filter-append is_at ts (t ∷ [])) ∙ length-append (filter is_at ts) (filter is_at (t ∷ [])) ∙ ap (λ (n : ℕ). length (filter is_at ts) + n) one

  at_more : (e : ConnectionEvent) (h : List ConnectionEvent) → messages_at (e ∷ h) ≡ messages_at h + length (messages (given_at channel handle e))
  at_more (event.InSession place e) h = given_more place h (takings h) (handed_up_in e)
  at_more event.HeaderCame h = omega arith
  at_more e h = omega arith

  -- the same of the life that goes on
  now_more : (e : ConnectionEvent) (h : List ConnectionEvent) →
      length (taken_in channel handle (lives channel handle h) (e ∷ h)) ≡ length (taken_in channel handle (lives channel handle h) h) + length (messages (given_at channel handle e))
  unfolding of_these
  now_more e h =
      let n = lives channel handle h in
      let more = taken_more channel handle n e h ∙ ap (λ (b : Bool). of_these channel handle n (takings h) ++ (if b then messages (given_at channel handle e) else [])) (eq-eqb n n refl) in
      ap length more ∙ length-append (of_these channel handle n (takings h)) (messages (given_at channel handle e))

  -- no life that is to come has a part
  none_to_come : (h : List ConnectionEvent) (n : ℕ) → lives channel handle h < n → last_part channel handle n h ≡ Free
  none_to_come [] n l = refl
  none_to_come (e ∷ h) n l =
      ap (λ (b : Bool). lived_or b (link_part channel handle (e ∷ h)) (last_part channel handle n h)) (below_not (lives channel handle (e ∷ h)) n l)
      ∙ none_to_come h n (life_more channel handle (attaches_on channel handle e) n (lives channel handle h) l)

  -- what was granted in the life that began last
  last_granted : (h : List ConnectionEvent) → grants (past_in (last_part channel handle (lives channel handle h) h)) ≤ granted_since channel handle h
  last_granted [] = omega arith
  last_granted (e ∷ h) = by (last_granted h) (link_part channel handle (e ∷ h)) refl
    where
      before : grants (past_in (last_part channel handle (lives channel handle h) h)) ≤ granted_since channel handle h → (starts : Bool) → grants (past_in (last_part channel handle (if starts then suc (lives channel handle h) else lives channel handle h) h)) ≤
          (if starts then 0 else granted_since channel handle h + granted_on channel handle e)
      before so_far true =
          omega (arith, ap (λ (p : Slot (Life Attached LinkEvent)). grants (past_in p)) (none_to_come h (suc (lives channel handle h)) (omega arith)))
      before so_far false = omega (arith, so_far)

      ended : grants (past_in (last_part channel handle (lives channel handle h) h)) ≤ granted_since channel handle h → (x : Slot (Life Attached LinkEvent)) → ((y : Life Attached LinkEvent) → x ≡ Live y → ⊥) →
          grants (past_in (lived_or (nat_eq (lives channel handle (e ∷ h)) (lives channel handle (e ∷ h))) x (last_part channel handle (lives channel handle (e ∷ h)) h))) ≤ granted_since channel handle (e ∷ h)
      ended so_far x none = subst (λ (p : Slot (Life Attached LinkEvent)). grants (past_in p) ≤ granted_since channel handle (e ∷ h))
          (sym (lived_on_as (nat_eq (lives channel handle (e ∷ h)) (lives channel handle (e ∷ h))) x (last_part channel handle (lives channel handle (e ∷ h)) h) (eq-eqb (lives channel handle (e ∷ h)) (lives channel handle (e ∷ h)) refl) none)) (before so_far (attaches_on channel handle e))

      by : grants (past_in (last_part channel handle (lives channel handle h) h)) ≤ granted_since channel handle h → (x : Slot (Life Attached LinkEvent)) → link_part channel handle (e ∷ h) ≡ x →
          grants (past_in (lived_or (nat_eq (lives channel handle (e ∷ h)) (lives channel handle (e ∷ h))) x (last_part channel handle (lives channel handle (e ∷ h)) h))) ≤ granted_since channel handle (e ∷ h)
      by so_far Free is = ended so_far Free (λ y e. grind (arith, e))
      by so_far (Live y) is =
          omega (
            arith,
            ap (λ (b : Bool). grants (past_in (lived_or b (Live y) (last_part channel handle (lives channel handle (e ∷ h)) h)))) (eq-eqb (lives channel handle (e ∷ h)) (lives channel handle (e ∷ h)) refl),
            grants_of_life channel handle (e ∷ h) y.0 y.1 is,
          )
      by so_far Waits is = ended so_far Waits (λ y e. grind (arith, e))

  -- Of the lives that ended no more was taken than granted, nor of the one that began last.
  record AreWithin (h : List ConnectionEvent) : Type 0 where
    pub earlier : messages_at h + granted_since channel handle h ≤ granted_at_all h + length (taken_in channel handle (lives channel handle h) h)
    pub now : length (taken_in channel handle (lives channel handle h) h) ≤ granted_since channel handle h

  module _ (begins : ConnectionBegins) (goes_on : ConnectionGoesOn) (config : Configured) (narrow : config.window < 2 ^ 31) where
    pub each_within : (h : List ConnectionEvent) → Accepted config h → (life : ℕ) → IsWithinGrants (last_part channel handle life h) (taken_in channel handle life h)
    each_within h all life =
        of_each_life begins goes_on config narrow IsWithinGrants (omega arith)
        (λ y sound. omega (arith, length-map (handed_up y.1) handed_of, taken_within y.0.terms y.1 sound)) h all channel handle life

    within_all : (h : List ConnectionEvent) → Accepted config h → AreWithin h
    within_all [] all = record { earlier = omega arith; now = omega arith }
    within_all (e ∷ h) all =
        let before = within_all h all.0 in
        record {
          earlier = step before (attaches_on channel handle e) refl;
          now = omega (arith, each_within (e ∷ h) all (lives channel handle (e ∷ h)), last_granted (e ∷ h));
        }
      where
        may : ConnectionMay (state_of config h) e
        may = subst (λ (s : ConnectionState). ConnectionMay s e) (all_sound begins goes_on config h narrow all.0).0 all.1

        none_given : attaches_on channel handle e ≡ true → (o : Option Delivery) → given_at channel handle e ≡ o → length (messages o) ≡ 0
        none_given attaches None is = refl
        none_given attaches (Some d) is = not_so (attaches_on channel handle e) attaches (gives_there config h channel handle e d may is).1

        step : AreWithin h → (starts : Bool) → attaches_on channel handle e ≡ starts → messages_at (e ∷ h) + (if starts then 0 else granted_since channel handle h + granted_on channel handle e) ≤
            granted_at_all (e ∷ h) + length (taken_in channel handle (if starts then suc (lives channel handle h) else lives channel handle h) (e ∷ h))
        step before true attaches =
            omega (
              arith,
              at_more e h,
              none_given attaches (given_at channel handle e) refl,
              before.earlier,
              before.now,
              sum_by-cons (granted_on channel handle) e h,
            )
        step before false other = omega (arith, at_more e h, now_more e h, before.earlier, sum_by-cons (granted_on channel handle) e h)

    all_within : (h : List ConnectionEvent) → Accepted config h → messages_at h ≤ granted_at_all h
    all_within h all = let x = within_all h all in omega (arith, x.earlier, x.now)

  -- What was told. --------------------------------------------------------------------------------------------------------

  granted_events : (config : Configured) (h : List Happened) → granted_at_all (events config h) ≤ sum_by (granted_to channel handle) h
  granted_events config [] = omega arith
  granted_events config (Acted u ∷ h) =
      let past = events config h in
      let s = state_of config past in
      omega (
        arith,
        sum_by-cons (granted_on channel handle) (event_on s (line_of s u)) past,
        unit_none channel handle s (line_of s u),
        sum_by-cons (granted_to channel handle) (Acted u) h,
        granted_events config h,
      )
  granted_events config (Called place c ∷ h) =
      let past = events config h in
      let s = state_of config past in
      omega (
        arith,
        sum_by-cons (granted_on channel handle) (call_event s place c) past,
        slot_most channel handle place (slot_at s place) c,
        sum_by-cons (granted_to channel handle) (Called place c) h,
        granted_events config h,
      )
  granted_events config (Closed ∷ h) = omega (
    arith,
    sum_by-cons (granted_on channel handle) event.CloseAsked (events config h),
    sum_by-cons (granted_to channel handle) Closed h,
    granted_events config h,
  )
  granted_events config (ClosedWith r ∷ h) = omega (
    arith,
    sum_by-cons (granted_on channel handle) event.CloseAsked (events config h),
    sum_by-cons (granted_to channel handle) (ClosedWith r) h,
    granted_events config h,
  )
  granted_events config (Beat ∷ h) = omega (arith, sum_by-cons (granted_to channel handle) Beat h, granted_events config h)
  granted_events config (Over ∷ h) = omega (
    arith,
    sum_by-cons (granted_on channel handle) event.Finished (events config h),
    sum_by-cons (granted_to channel handle) Over h,
    granted_events config h,
  )

  event_grants : (o : Option Event) → sum_by (granted_told channel handle) (event_told o) ≡ 0
  event_grants None = refl
  event_grants (Some e) = refl

  one_told : (s : ConnectionState) (x : Happened) → sum_by (granted_told channel handle) (told_of s x) ≡ granted_to channel handle x
  one_told s (Acted u) = event_grants (told_on s (line_of s u))
  one_told s (Called place c) = omega arith
  one_told s x = refl

  granted_is_told : (config : Configured) (h : List Happened) → sum_by (granted_to channel handle) h ≡ granted_over channel handle (tellings config h)
  granted_is_told config [] = refl
  granted_is_told config (x ∷ h) =
      let s = state_of config (events config h) in
      omega (
        arith,
        sum_by-cons (granted_to channel handle) x h,
        sum_by-append (granted_told channel handle) (tellings config h) (told_of s x),
        one_told s x,
        granted_is_told config h,
      )

  counted_as : (b : Bool) (x : ℕ × ℕ × Handed) (t : Taking) (xs : List (ℕ × ℕ × Handed)) (ts : List Taking) → length xs ≡ length ts →
      length (if b then x ∷ xs else xs) ≡ length (if b then t ∷ ts else ts)
  counted_as true x t xs ts e = ap suc e
  counted_as false x t xs ts e = e

  messages_placed : (ts : List Taking) → length (filter (is_from channel handle) (map placed ts)) ≡ length (filter is_at ts)
  messages_placed [] = refl
  messages_placed (t ∷ ts) =
      counted_as (nat_eq t.channel channel && nat_eq t.handle handle) (placed t) t (filter (is_from channel handle) (map placed ts)) (filter is_at ts) (messages_placed ts)

  -- the messages of a whole run are within the credit that its calls granted
  pub run_within : ConnectionBegins → ConnectionGoesOn → (config : Configured) → config.window < 2 ^ 31 → (calls : List Call) (answers : List Answer) (last : EndpointState) →
      IsWholeRun config calls answers last → messages_over channel handle (heard calls answers) ≤ granted_over channel handle (heard calls answers)
  run_within begins goes_on config narrow calls answers last r =
      let h = r.past.history in
      let past = events config h in
      let count = ap (λ (xs : List (ℕ × ℕ × Handed)). length (filter (is_from channel handle) xs)) r.past.messages ∙ messages_placed (takings past) in
      let told = granted_is_told config h ∙ ap (granted_over channel handle) (sym r.past.traced.telling) in
      omega (arith, count, all_within begins goes_on config narrow past r.past.traced.accepted, granted_events config h, told)

-- What is held. ---------------------------------------------------------------------------------------------------------

-- more sessions and links hold no less
most_more : (config : Configured) (a b m n : ℕ) → a ≤ b → m ≤ n → counted_most config a m ≤ counted_most config b n
most_more config a b m n l k = omega (arith, mul-le-mul_right (any_link_most config) k, l)

-- a whole run's endpoint holds no more than any of its configuration
pub held_within : (config : Configured) (calls : List Call) (answers : List Answer) (last : EndpointState) → IsWholeRun config calls answers last → held last ≤ held_by_any config
held_within config calls answers last r =
    let w = r.past.within in
    let sessions = session_count last.connection in
    let links : link_count last.connection ≤ channels config * suc config.handle_max = omega (arith, w.links, mul-le-mul_right (suc config.handle_max) w.sessions) in
    omega (arith, w.most, w.by_count, most_more config sessions (channels config) (link_count last.connection) (channels config * suc config.handle_max) w.sessions links)

-- One call more. --------------------------------------------------------------------------------------------------------

heard_more : (s : EndpointState) (calls : List Call) (answers : List Answer) (mid : EndpointState) (c : Call) (a : Answer) → Run s calls answers mid →
    heard (calls ++ c ∷ []) (answers ++ a ∷ []) ≡ heard calls answers ++ told_by c a
heard_more s [] [] mid c a r = append-nil (told_by c a)
heard_more s [] (y ∷ answers) mid c a r = absurd r
heard_more s (x ∷ calls) [] mid c a r = absurd r
heard_more s (x ∷ calls) (y ∷ answers) mid c a r =
    ap (λ v. told_by x y ++ v) (heard_more r.0 calls answers mid c a r.2) ∙ sym (append_assoc (told_by x y) (heard calls answers) (told_by c a))

-- a new endpoint was not used
pub use_begins : (config : Configured) (s : EndpointState) (channel handle : ℕ) → IsConfigured config.container_id config.max_frame config.window → IsStart config s →
    IsUsed config channel handle 0 0 s
use_begins config s channel handle within new = record {
  within = within;
  calls = [];
  answers = [];
  range = tt;
  replay = record { start = s; new = new; run = refl };
  credit = refl;
  taken = refl;
}

-- one call more is one use more
pub use_goes_on : (config : Configured) (channel handle granted taken : ℕ) (old new : EndpointState) (c : Call) (a : Answer) → IsUsed config channel handle granted taken old → IsInRange c →
    Does old new c a → IsUsed config channel handle (granted + granted_over channel handle (told_by c a)) (taken + messages_over channel handle (told_by c a)) new
use_goes_on config channel handle granted taken old new c a u range does =
    let told = heard u.calls u.answers in
    let more = heard_more u.replay.start u.calls u.answers old c a u.replay.run in
    let both = ap (filter (is_from channel handle)) (flat_map-append message_in told (told_by c a)) ∙ filter-append (is_from channel handle) (flat_map message_in told) (flat_map message_in (told_by c a)) in
    let count = ap length both ∙ length-append (filter (is_from channel handle) (flat_map message_in told)) (filter (is_from channel handle) (flat_map message_in (told_by c a))) in
    record {
      within = u.within;
      calls = u.calls ++ c ∷ [];
      answers = u.answers ++ a ∷ [];
      range = ranges_more u.calls c u.range range;
      replay = replay_more config u.calls u.answers old new c a u.replay does;
      credit = ap (λ (n : ℕ). n + granted_over channel handle (told_by c a)) u.credit ∙ sym (ap (granted_over channel handle) more ∙ sum_by-append (granted_told channel handle) told (told_by c a));
      taken = ap (λ (n : ℕ). n + messages_over channel handle (told_by c a)) u.taken ∙ sym (ap (messages_over channel handle) more ∙ count);
    }

-- What holds of each use. -----------------------------------------------------------------------------------------------

-- the law that runs have a history
abbrev pub RunsAreWhole : Type 0
RunsAreWhole = (config : Configured) (calls : List Call) (answers : List Answer) (start last : EndpointState) → IsConfigured config.container_id config.max_frame config.window → AreInRange calls →
    IsStart config start → Run start calls answers last → IsWholeRun config calls answers last

module _ (law : RunsAreWhole) (config : Configured) (channel handle granted taken : ℕ) (s : EndpointState) (u : IsUsed config channel handle granted taken s) where
  pub whole_run : IsWholeRun config u.calls u.answers s
  whole_run = law config u.calls u.answers u.replay.start s u.within u.range u.replay.new u.replay.run

  -- it is of the configuration that it began with
  pub use_config : s.connection.config ≡ config
  use_config = ap (λ (c : ConnectionState). c.config) whole_run.past.traced.state

  -- it holds no more than any of that
  pub use_held : held s ≤ held_by_any config
  use_held = held_within config u.calls u.answers s whole_run

  -- no more messages were taken than were granted
  pub use_within : ConnectionBegins → ConnectionGoesOn → taken ≤ granted
  use_within begins goes_on = omega (arith, u.credit, u.taken, run_within channel handle begins goes_on config u.within.most_window u.calls u.answers s whole_run)
