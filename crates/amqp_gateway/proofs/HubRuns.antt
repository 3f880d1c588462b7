-- Lists of calls of a hub, one after the other.
use Rattle.std.proofs.Common.{arith, ap, refl, sym, subst, ◌≡◌, ◌≢◌, ◌<◌, ◌≤◌, length, length-append, ℕ, Bool, true, false, List, [], ◌∷◌, ◌++◌, Option, Some, None, Result, Ok, Err}
use Rattle.std.specs.Prelude.{IfOk, IfErr, OnOk}
use Rattle.std.proofs.lemmas.List.Elements.{All-nil, All-cons, All-append}
use Rattle.slab.specs.Slab.{Slab, get, slab_len}
use Rattle.amqp_endpoint.specs.Configs.{Configured}
use Rattle.amqp_endpoint.specs.declared.event.End.{End}
use Rattle.amqp_serve.specs.declared.rules.Rule.{Rule}
use Rattle.amqp_serve.specs.declared.steps.Stepped.{Stepped}
use Rattle.amqp_serve.specs.Servers.{status_after}
use Rattle.amqp_hub.specs.declared.keeper.Keeper.{Ghosts}
use Rattle.amqp_hub.specs.declared.fault.AskFault.{AskFault}
use Rattle.amqp_hub.specs.declared.fault.AskFault.TheVariants as asking
use Rattle.amqp_hub.specs.Links.{AskRefused, IsAskedAt, IsToppedUpAt}
use Rattle.amqp_reason.specs.Reasons.{Reason}
use Rattle.amqp_session.specs.Calls as session
use Rattle.amqp_session.specs.Calls.{Grant, Refuse}
use Rattle.amqp_hub.specs.declared.fault.HubFault.{HubFault}
use Rattle.amqp_hub.specs.declared.keeper.Progress.{Progress}
use Rattle.amqp_endpoint.specs.Calls.{heartbeat}
use Rattle.amqp_hub.specs.declared.fault.HubFault.TheVariants as fault
use Rattle.amqp_hub.specs.Members.{MemberState, hear_fault, beat_fault, end_fault, close_fault}
use Rattle.amqp_hub.specs.Turns.{HubState, SameSlot, AreSame, AreAlike, IsOpened, HearsTo, IsRuledAt, IsDueAt, SendsAt, IsBeatAt, IsEndedAt, IsClosedAt, IsGone, IsLentBy, OpenRefused, HearRefusedBy, refusal_at}
use Rattle.amqp_gateway.specs.HubCalls.{HubCall, Opened, Heard, Ruled, MadeRoom, Settled, Sent, Beaten, Ended, Closed, Removed, Refused, LinkRefused, ToppedUp, Silenced, IsStill, Does, Ran, Went, parts, takes, tells}

-- Lists. --------------------------------------------------------------------------------------------------------------

module _ {K : Type 0} (k : Ghosts K) where
  pub went_none : (may : HubCall → Bool) (h : HubState K) → Went k may h h
  went_none may h = record { calls = []; ran = refl; each = All-nil (λ x. may x ≡ true) }

  pub went_one : (may : HubCall → Bool) (x : HubCall) (a b : HubState K) → may x ≡ true → Does k x a b → Went k may a b
  went_one may x a b is d = record { calls = x ∷ []; ran = (b, d, refl); each = All-cons (λ y. may y ≡ true) x [] is (All-nil (λ y. may y ≡ true)) }

  ran_on : (xs ys : List HubCall) (a b c : HubState K) → Ran k xs a b → Ran k ys b c → Ran k (xs ++ ys) a c
  ran_on [] ys a b c is more = subst (λ (h : HubState K). Ran k ys h c) is more
  ran_on (x ∷ xs) ys a b c (next, does, rest) more = (next, does, ran_on xs ys next b c rest more)

  pub went_on : (may : HubCall → Bool) (a b c : HubState K) → Went k may a b → Went k may b c → Went k may a c
  went_on may a b c x y = record { calls = x.calls ++ y.calls; ran = ran_on x.calls y.calls a b c x.ran y.ran; each = All-append (λ k. may k ≡ true) x.calls y.calls x.each y.each }

-- Wider and narrower. -------------------------------------------------------------------------------------------------

wider : {K : Type 0} (k : Ghosts K) (may more : HubCall → Bool) → ((x : HubCall) → may x ≡ true → more x ≡ true) → (a b : HubState K) → Went k may a b → Went k more a b
wider k may more is a b x = record { calls = x.calls; ran = x.ran; each = λ j d lt. is _ (x.each j d lt) }

takes_parts : (x : HubCall) → parts x ≡ true → takes x ≡ true
takes_parts (Opened key number) e = refl
takes_parts (Heard key piece) e = refl
takes_parts (Ruled key) e = refl
takes_parts MadeRoom e = refl
takes_parts Settled e = e
takes_parts (Sent key n) e = e
takes_parts (Beaten key) e = e
takes_parts (Ended key) e = refl
takes_parts (Closed key) e = e
takes_parts (Removed key) e = refl
takes_parts Refused e = refl
takes_parts (LinkRefused key channel handle) e = refl
takes_parts (ToppedUp key channel handle) e = refl
takes_parts (Silenced key) e = refl

tells_parts : (x : HubCall) → parts x ≡ true → tells x ≡ true
tells_parts (Opened key number) e = e
tells_parts (Heard key piece) e = e
tells_parts (Ruled key) e = e
tells_parts MadeRoom e = e
tells_parts Settled e = e
tells_parts (Sent key n) e = refl
tells_parts (Beaten key) e = refl
tells_parts (Ended key) e = e
tells_parts (Closed key) e = refl
tells_parts (Removed key) e = refl
tells_parts Refused e = refl
tells_parts (LinkRefused key channel handle) e = e
tells_parts (ToppedUp key channel handle) e = e
tells_parts (Silenced key) e = e

pub as_takes : {K : Type 0} (k : Ghosts K) (a b : HubState K) → Went k parts a b → Went k takes a b
as_takes k = wider k parts takes takes_parts

pub as_tells : {K : Type 0} (k : Ghosts K) (a b : HubState K) → Went k parts a b → Went k tells a b
as_tells k = wider k parts tells tells_parts

-- What each call of a hub says of it. ---------------------------------------------------------------------------------

slot_same : (o : Option MemberState) → SameSlot o o
slot_same None = tt
slot_same (Some m) =
    record { server = record { endpoint = record { input = record { limit = refl; stage = refl; filled = refl }; unsent = refl; connection = refl }; status = refl }; waiting = refl; rule = refl; number = refl }

alike : (s t : Slab MemberState) → AreSame s t → AreAlike s t
alike s t x = record { values = λ k. subst (λ (o : Option MemberState). SameSlot (get s k) o) (sym (x.values k)) (slot_same (get s k)); count = x.count }

module _ {K : Type 0} (k : Ghosts K) (may : HubCall → Bool) (a b : HubState K) (limit : b.limit ≡ a.limit) (keeper : b.keeper ≡ a.keeper) where
  still : IsStill a b
  still = record { limit = limit; keeper = keeper }

  pub was_refused : may Refused ≡ true → AreAlike a.members b.members → Went k may a b
  was_refused made same = went_one k may Refused a b made (still, same)

  pub removes : (key : ℕ) (r : Result (Unit {0}) HubFault) → may (Removed key) ≡ true → may Refused ≡ true
      → OnOk r (IsGone a.members b.members key) → IfErr r (λ f. AreSame a.members b.members × (get a.members key ≡ None) × (f ≡ fault.NoKey)) → Went k may a b
  removes key (Ok u) made refusable gone none = went_one k may (Removed key) a b made (still, gone)
  removes key (Err f) made refusable gone none = was_refused refusable (alike a.members b.members none.0)

  pub closes : (key : ℕ) (r : Result (Unit {0}) HubFault) → may (Closed key) ≡ true → may Refused ≡ true
      → OnOk r (IsClosedAt a.members b.members key) → IfErr r (λ f. AreAlike a.members b.members × (refusal_at (get a.members key) close_fault ≡ Some f)) → Went k may a b
  closes key (Ok u) made refusable closed none = went_one k may (Closed key) a b made (still, closed)
  closes key (Err f) made refusable closed none = was_refused refusable none.0

  pub ends : (key : ℕ) (r : Result End HubFault) → may (Ended key) ≡ true → may Refused ≡ true
      → IfOk r (λ how. IsEndedAt a.members b.members key how) → IfErr r (λ f. AreSame a.members b.members × (refusal_at (get a.members key) end_fault ≡ Some f)) → Went k may a b
  ends key (Ok how) made refusable ended none = went_one k may (Ended key) a b made (still, (how, ended))
  ends key (Err f) made refusable ended none = was_refused refusable (alike a.members b.members none.0)

  pub beats : (key : ℕ) (r : Result (List ℕ) HubFault) → may (Beaten key) ≡ true → may Refused ≡ true
      → IfOk r (λ frame. IsBeatAt a.members b.members key × (frame ≡ heartbeat)) → IfErr r (λ f. AreAlike a.members b.members × (refusal_at (get a.members key) beat_fault ≡ Some f)) → Went k may a b
  beats key (Ok frame) made refusable beat none = went_one k may (Beaten key) a b made (still, beat.0)
  beats key (Err f) made refusable beat none = was_refused refusable none.0

  pub opens : (rule : Rule) (config : Configured) (number : ℕ) (r : Result ℕ HubFault) → ((key : ℕ) → may (Opened key number) ≡ true) → may Refused ≡ true
      → IfOk r (λ key. IsOpened rule config number a.members b.members key × (slab_len a.members < a.limit)) → IfErr r (λ f. AreSame a.members b.members × OpenRefused a.limit (slab_len a.members) f) → Went k may a b
  opens rule config number (Ok key) made refusable opened none = went_one k may (Opened key number) a b (made key) (still, (rule, config, opened.0), opened.1)
  opens rule config number (Err f) made refusable opened none = was_refused refusable (alike a.members b.members none.0)

  pub sends : (key n : ℕ) → may (Sent key n) ≡ true → k.settled a.keeper ≡ true → IsDueAt (get a.members key) n → SendsAt (get a.members key) a.members b.members key n → Went k may a b
  sends key n made settled due sent = went_one k may (Sent key n) a b made (still, settled, due, sent)

  pub rules : (key : ℕ) (rule : Rule) (r : Result (Unit {0}) HubFault) → may (Ruled key) ≡ true → may Refused ≡ true
      → OnOk r (IsRuledAt a.members b.members key rule) → IfErr r (λ f. AreSame a.members b.members × (get a.members key ≡ None) × (f ≡ fault.NoKey)) → Went k may a b
  rules key rule (Ok u) made refusable ruled none = went_one k may (Ruled key) a b made (still, (rule, ruled))
  rules key rule (Err f) made refusable ruled none = was_refused refusable (alike a.members b.members none.0)

-- what is lent while records wait is nothing
pub lent : (settled : Bool) (o : Option MemberState) (front : List ℕ) → IsLentBy settled o front → front ≢ [] → settled ≡ true
lent true o front is some = refl
lent false o front is some = absurd (some is)

-- as many bytes as were lent, at most, wait
pub due_of_lent : (settled : Bool) (o : Option MemberState) (front : List ℕ) (n : ℕ) → IsLentBy settled o front → front ≢ [] → n ≤ length front → IsDueAt o n
due_of_lent false o front n is some few = absurd (some is)
due_of_lent true None front n is some few = absurd (some is)
due_of_lent true (Some m) front n (behind, whole, more, all) some few = omega (arith, few, ap length whole, length-append front behind)

pub hears : {K : Type 0} (k : Ghosts K) (key : ℕ) (piece noted : List ℕ) (s : Stepped) (a b : HubState K) → b.limit ≡ a.limit → k.roomy a.keeper ≡ true
    → HearsTo k.accepts (status_after s.done) a.members b.members key piece s noted a.keeper b.keeper → Went k takes a b
hears k key piece noted s a b limit room heard = went_one k takes (Heard key piece) a b refl (limit, room, (s, noted, heard))

-- a piece was heard, or was refused
pub hears_or_not : {K : Type 0} (k : Ghosts K) (key : ℕ) (piece : List ℕ) (r : Result Stepped HubFault) (a b : HubState K) → b.limit ≡ a.limit → IfOk r (λ s. k.roomy a.keeper ≡ true)
    → IfOk r (λ s. (noted : List ℕ) × HearsTo k.accepts (status_after s.done) a.members b.members key piece s noted a.keeper b.keeper)
    → IfErr r (λ f. AreSame a.members b.members × (b.keeper ≡ a.keeper) × HearRefusedBy (k.roomy a.keeper) (refusal_at (get a.members key) hear_fault) f) → Went k takes a b
hears_or_not k key piece (Ok s) a b limit room heard none = hears k key piece heard.0 s a b limit room heard.1
hears_or_not k key piece (Err f) a b limit room heard none = was_refused k takes a b limit none.1 refl (alike a.members b.members none.0)

pub makes_room : {K : Type 0} (k : Ghosts K) (p : Progress) (a b : HubState K) → b.limit ≡ a.limit → b.members ≡ a.members → k.makes_room a.keeper p b.keeper → Went k takes a b
makes_room k p a b limit members room = went_one k takes MadeRoom a b refl (limit, members, (p, room))

-- What was asked for a link was done, or was refused.
module _ {K : Type 0} (k : Ghosts K) (a b : HubState K) (limit : b.limit ≡ a.limit) (keeper : b.keeper ≡ a.keeper) where
  asked_not : (f : AskFault) (key channel : ℕ) (c : session.Call) → AskRefused f a.members b.members key channel c → Went k takes a b
  asked_not asking.NoKey key channel c x = was_refused k takes a b limit keeper refl x.0
  asked_not asking.Over key channel c x = was_refused k takes a b limit keeper refl x.0
  asked_not (asking.Call f) key channel c x = was_refused k takes a b limit keeper refl x.0
  asked_not asking.NoMemory key channel c x = went_one k takes (Silenced key) a b refl (still k takes a b limit keeper, (channel, c, x))

  pub refuses_link : (key channel handle : ℕ) (why : Reason) (r : Result (Unit {0}) AskFault) → OnOk r (IsAskedAt a.members b.members key channel (Refuse handle why))
      → IfErr r (λ f. AskRefused f a.members b.members key channel (Refuse handle why)) → Went k takes a b
  refuses_link key channel handle why (Ok u) asked none = went_one k takes (LinkRefused key channel handle) a b refl (still k takes a b limit keeper, (why, asked))
  refuses_link key channel handle why (Err f) asked none = asked_not f key channel (Refuse handle why) none

  pub tops_up : (key channel handle most lacking : ℕ) (r : Result ℕ AskFault) → IfOk r (λ n. IsToppedUpAt a.members b.members key channel handle most n)
      → IfErr r (λ f. AskRefused f a.members b.members key channel (Grant handle lacking)) → Went k takes a b
  tops_up key channel handle most lacking (Ok n) topped none = went_one k takes (ToppedUp key channel handle) a b refl (still k takes a b limit keeper, (most, n, topped))
  tops_up key channel handle most lacking (Err f) topped none = asked_not f key channel (Grant handle lacking) none
