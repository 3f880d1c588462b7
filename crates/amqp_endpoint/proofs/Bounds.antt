-- What a connection keeps, counted over its history, and how much that is at most.
use Rattle.std.proofs.Common.{arith, ◌≡◌, ℕ, zero, suc, ◌+◌, ◌*◌, ◌<◌, ◌≤◌, Bool, true, false, List, [], ◌∷◌, length, subst, refl, sym, ap, ◌∙◌, Option, Some, None}
use Rattle.std.specs.Prelude.{sum_by, map, not, nat_le, nat_lt, if◌then◌else◌}
use Rattle.std.proofs.lemmas.Bool.{leb-true, leb-false}
use Rattle.amqp_link.specs.Bounds.{Bounds}
use Rattle.amqp_link.specs.Histories.{one_if}
use Rattle.amqp_link.specs.Links.{LinkEvent}
use Rattle.std.proofs.lemmas.List.Sums.{sum_by-cons, count_by-le-length}
use Rattle.amqp_session.specs.declared.slot.Slot.{Slot}
use Rattle.amqp_session.specs.declared.slot.Slot.TheVariants.{Free, Live, Waits}
use Rattle.amqp_session.specs.declared.terms.SessionTerms.{SessionTerms}
use Rattle.amqp_session.specs.Faults.{is_free}
use Rattle.amqp_session.specs.Histories as session
use Rattle.amqp_session.specs.Laws as laws
use Rattle.amqp_session.specs.Places.{Life, IfLive, tabulate, life_state}
use Rattle.amqp_session.specs.Sessions.{Attached, SessionState, SessionEvent, handles, session_bytes}
use Rattle.amqp_endpoint.specs.Configs.{Configured, bounds_for}
use Rattle.amqp_endpoint.specs.Limits.{Limit, begins_with, longer, matching, longest, bounds_in}
use Rattle.amqp_endpoint.specs.Connections.{ConnectionState, ConnectionEvent, HasBounds, channels, channel_bytes, connection_bytes}
use Rattle.amqp_endpoint.specs.Held.{channel_used, session_count, channel_links, link_count, channel_links_most, held_most, greatest, any_link_most, counted_most, session_parts, session_part_bytes, HoldsWithin}
use Rattle.amqp_endpoint.specs.Histories.{part, state_of, IsSoundPart, Sound}
use Rattle.amqp_endpoint.specs.Steps.{EndpointState}
use Rattle.amqp_session.proofs.Places.{tabulate_long, sums_same, sums_within}

-- what the sessions owe
abbrev pub SessionCounted : Type 0
SessionCounted = (terms : SessionTerms) (h : List SessionEvent) → session_bytes (session.state_of terms h) ≡ 64 + sum_by laws.part_bytes (laws.parts terms h)

-- the law of a session's bytes, which stands in its crate
abbrev pub SessionBound : Type 0
SessionBound = (terms : SessionTerms) (h : List SessionEvent) → session.Sound terms h →
    session_bytes (session.state_of terms h) ≤ 64 + sum_by laws.slot_most (session.state_of terms h).links

-- Sums over a table. ----------------------------------------------------------------------------------------------------

-- a sum is at most 64 times another and a third, where each place is
sum_within : (f : ℕ → Slot SessionState) (k n : ℕ) → ((j : ℕ) → j < k + n → channel_bytes (f j) ≤ 64 * channel_used (f j) + channel_links_most (f j)) →
    sum_by channel_bytes (tabulate k n f) ≤ 64 * sum_by channel_used (tabulate k n f) + sum_by channel_links_most (tabulate k n f)
sum_within f k zero each = omega arith
sum_within f k (suc n) each =
    let rest = tabulate (suc k) n f in
    let here = each k (omega arith) in
    let later = sum_within f (suc k) n (λ j l. each j (omega (arith, l))) in
    omega (arith, here, later, sum_by-cons channel_bytes (f k) rest, sum_by-cons channel_used (f k) rest, sum_by-cons channel_links_most (f k) rest)

-- The connection. -------------------------------------------------------------------------------------------------------

one_counted : SessionCounted → (l : Slot (Life SessionTerms SessionEvent)) → channel_bytes (life_state session.state_of l) ≡ session_part_bytes l
one_counted law Free = refl
one_counted law (Live l) = law l.0 l.1
one_counted law Waits = refl

-- bytes kept are counted over the parts of the history
pub connection_counted : SessionCounted → (config : Configured) (h : List ConnectionEvent) → connection_bytes (state_of config h) ≡ sum_by session_part_bytes (session_parts config h)
connection_counted law config h =
    sums_same channel_bytes session_part_bytes (λ k. life_state session.state_of (part k h)) (λ k. part k h) (λ k. one_counted law (part k h)) 0 (channels config)

one_within : SessionBound → (config : Configured) (l : Slot (Life SessionTerms SessionEvent)) → IfLive (λ life. IsSoundPart config life.0 life.1) l →
    channel_bytes (life_state session.state_of l) ≤ 64 * channel_used (life_state session.state_of l) + channel_links_most (life_state session.state_of l)
one_within law config Free sound = omega arith
one_within law config (Live l) sound =
    let bound = law l.0 l.1 sound.session in omega (arith, bound)
one_within law config Waits sound = omega arith

-- and stay within the bounds of the links, and 64 for each session
pub connection_within : SessionBound → (config : Configured) (h : List ConnectionEvent) → Sound config h →
    connection_bytes (state_of config h) ≤ 64 * session_count (state_of config h) + sum_by channel_links_most (state_of config h).sessions
connection_within law config h sound =
    sum_within (λ k. life_state session.state_of (part k h)) 0 (channels config) (λ k l. one_within law config (part k h) (sound.sessions k (omega (arith, l))))

-- What a link of any name keeps. ------------------------------------------------------------------------------------------

greatest_more : (a b n : ℕ) → a ≤ b → a ≤ (if nat_le n b then b else n)
greatest_more a b n l = by_test (nat_le n b) refl
  where
    by_test : (t : Bool) → nat_le n b ≡ t → a ≤ (if t then b else n)
    by_test true e = l
    by_test false e = let over = leb-false n b e in omega (arith, l, over)

greatest_first : (n b : ℕ) → n ≤ (if nat_le n b then b else n)
greatest_first n b = by_test (nat_le n b) refl
  where
    by_test : (t : Bool) → nat_le n b ≡ t → n ≤ (if t then b else n)
    by_test true e = leb-true n b e
    by_test false e = omega arith

-- of two limits each of which keeps no more than that, the one that is found does not either
longer_within : (otherwise : Bounds) (most : ℕ) (o p : Option Limit) → laws.link_most (bounds_in otherwise o) ≤ most → laws.link_most (bounds_in otherwise p) ≤ most →
    laws.link_most (bounds_in otherwise (longer o p)) ≤ most
longer_within otherwise most None p a b = b
longer_within otherwise most (Some r) None a b = a
longer_within otherwise most (Some r) (Some q) a b = by_test (nat_lt (length r.prefix) (length q.prefix))
  where
    by_test : (t : Bool) → laws.link_most (bounds_in otherwise (if t then Some q else Some r)) ≤ most
    by_test true = b
    by_test false = a

limits_within : (name : List ℕ) (otherwise : Bounds) (rows : List Limit) →
    (laws.link_most otherwise ≤ greatest (laws.link_most otherwise) (map (λ r. laws.link_most r.bounds) rows))
    × (laws.link_most (bounds_in otherwise (longest name rows)) ≤ greatest (laws.link_most otherwise) (map (λ r. laws.link_most r.bounds) rows))
limits_within name otherwise [] = (omega arith, omega arith)
limits_within name otherwise (r ∷ rows) =
    let rest = greatest (laws.link_most otherwise) (map (λ q. laws.link_most q.bounds) rows) in
    let later = limits_within name otherwise rows in
    let first = greatest_more (laws.link_most otherwise) rest (laws.link_most r.bounds) later.0 in (
      first,
      longer_within otherwise (greatest (laws.link_most otherwise) (map (λ q. laws.link_most q.bounds) (r ∷ rows))) (matching name r) (longest name rows)
          (by_match first (begins_with r.prefix name)) (greatest_more (laws.link_most (bounds_in otherwise (longest name rows))) rest (laws.link_most r.bounds) later.1),
    )
  where
    by_match : laws.link_most otherwise ≤ greatest (laws.link_most otherwise) (map (λ q. laws.link_most q.bounds) (r ∷ rows)) → (t : Bool) →
        laws.link_most (bounds_in otherwise (if t then Some r else None)) ≤ greatest (laws.link_most otherwise) (map (λ q. laws.link_most q.bounds) (r ∷ rows))
    by_match first true = greatest_first (laws.link_most r.bounds) (greatest (laws.link_most otherwise) (map (λ q. laws.link_most q.bounds) rows))
    by_match first false = first

one_most : (config : Configured) (l : Slot (Life Attached LinkEvent)) → IfLive (λ (life : Life Attached LinkEvent). HasBounds config life.0) l →
    laws.slot_most (life_state session.live_state l) ≤ one_if (not (is_free (life_state session.live_state l))) * any_link_most config
one_most config Free so = omega arith
one_most config (Live l) so =
    let kept = (limits_within l.0.name config.bounds config.limits).1 in
    let same : laws.link_most l.0.terms.bounds ≡ laws.link_most (bounds_for config l.0.name) = ap (λ (b : Bounds). laws.link_most b) so in
    omega (arith, kept, same)
one_most config Waits so =
    let some = (limits_within [] config.bounds config.limits).0 in omega (arith, some)

links_most : (config : Configured) (l : Slot (Life SessionTerms SessionEvent)) → IfLive (λ life. IsSoundPart config life.0 life.1) l →
    channel_links_most (life_state session.state_of l) ≤ channel_links (life_state session.state_of l) * any_link_most config
links_most config Free sound = omega arith
links_most config (Live l) sound =
    sums_within laws.slot_most (λ x. one_if (not (is_free x))) (any_link_most config) (λ k. life_state session.live_state (session.part k l.1)) 0 (handles l.0)
    (λ k below. one_most config (session.part k l.1) (sound.limited k))
links_most config Waits sound = omega arith

-- what the links of a connection keep is at most what so many links of any names keep
pub links_within : (config : Configured) (h : List ConnectionEvent) → Sound config h → sum_by channel_links_most (state_of config h).sessions ≤ link_count (state_of config h) * any_link_most config
links_within config h sound =
    sums_within channel_links_most channel_links (any_link_most config) (λ k. life_state session.state_of (part k h)) 0 (channels config)
    (λ k l. links_most config (part k h) (sound.sessions k (omega (arith, l))))

-- How many sessions and links there are. --------------------------------------------------------------------------------

one_session : (x : Slot SessionState) → channel_used x ≤ 1
one_session Free = omega arith
one_session (Live s) = omega arith
one_session Waits = omega arith

sessions_few : (f : ℕ → Slot SessionState) (k n : ℕ) → sum_by channel_used (tabulate k n f) ≤ n
sessions_few f k zero = omega arith
sessions_few f k (suc n) = omega (arith, one_session (f k), sessions_few f (suc k) n, sum_by-cons channel_used (f k) (tabulate (suc k) n f))

-- a session has at most a link for each handle
one_links : (config : Configured) (l : Slot (Life SessionTerms SessionEvent)) → IfLive (λ life. IsSoundPart config life.0 life.1) l →
    channel_links (life_state session.state_of l) ≤ channel_used (life_state session.state_of l) * suc config.handle_max
one_links config Free sound = omega arith
one_links config (Live l) sound =
    let s = session.state_of l.0 l.1 in
    let few = count_by-le-length (λ x. not (is_free x)) s.links in
    let long = tabulate_long 0 (suc l.0.handle_max) (λ k. life_state session.live_state (session.part k l.1)) in
    omega (arith, few, long, sound.begun.handles)
one_links config Waits sound = omega arith

-- what is owed of the bytes of a connection
abbrev pub IsHeldCount : Type 0
IsHeldCount = (config : Configured) (h : List ConnectionEvent) → connection_bytes (state_of config h) ≡ sum_by session_part_bytes (session_parts config h)

-- that they do, of any history
abbrev pub IsHeldBound : Type 0
IsHeldBound = (config : Configured) (h : List ConnectionEvent) → Sound config h →
    connection_bytes (state_of config h) ≤ 64 * session_count (state_of config h) + sum_by channel_links_most (state_of config h).sessions

added : (filled unsent kept max sessions links : ℕ) → filled ≤ max → unsent ≤ 8192 → kept ≤ 64 * sessions + links → filled + unsent + kept ≤ max + 8192 + 64 * sessions + links
added filled unsent kept max sessions links a b c = omega (arith, a, b, c)

-- what an endpoint holds is counted and bounded
pub within : IsHeldCount → IsHeldBound → (config : Configured) (h : List ConnectionEvent) (s : EndpointState) → s.connection ≡ state_of config h → Sound config h →
    length s.input.filled ≤ config.max_frame → length s.unsent ≤ 8192 → HoldsWithin config h s
within count bound config h s e sound buffer output =
    let slots = λ (k : ℕ). life_state session.state_of (part k h) in record {
      counted = ap (λ (c : ConnectionState). length s.input.filled + length s.unsent + connection_bytes c) e ∙ ap (λ (n : ℕ). length s.input.filled + length s.unsent + n) (count config h);
      buffer = buffer;
      output = output;
      most = added (length s.input.filled) (length s.unsent) (connection_bytes s.connection) s.connection.config.max_frame (session_count s.connection)
          (sum_by channel_links_most s.connection.sessions) (subst (λ (c : ConnectionState). length s.input.filled ≤ c.config.max_frame) (sym e) buffer) output
          (subst (λ (c : ConnectionState). connection_bytes c ≤ 64 * session_count c + sum_by channel_links_most c.sessions) (sym e) (bound config h sound));
      by_count = subst (λ (c : ConnectionState). held_most c ≤ counted_most config (session_count c) (link_count c)) (sym e) (let links = links_within config h sound in omega (arith, links));
      sessions = subst (λ (c : ConnectionState). session_count c ≤ channels config) (sym e) (sessions_few slots 0 (channels config));
      links = subst (λ (c : ConnectionState). link_count c ≤ session_count c * suc config.handle_max) (sym e)
          (sums_within channel_links channel_used (suc config.handle_max) slots 0 (channels config) (λ k l. one_links config (part k h) (sound.sessions k (omega (arith, l)))));
    }
