-- What is asked for a link of one server, and of one among others.
use Rattle.std.proofs.Common.{arith, ◌≡◌, ℕ, zero, suc, Bool, true, false, List, [], ◌++◌, Option, Some, None, Result, Ok, Err, refl, sym, ap, subst, ◌∙◌}
use Rattle.std.specs.Prelude.{IfOk, IfErr, OnOk, slice_set}
use Rattle.std.specs.Io.KnownBytes.{Appends}
use Rattle.slab.specs.Slab.{Slab, get}
use Rattle.amqp_session.specs.Calls as session
use Rattle.amqp_session.specs.Calls.{Grant}
use Rattle.amqp_endpoint.specs.Calls.{call_fault}
use Rattle.amqp_endpoint.specs.Steps.{EndpointState, IsKept}
use Rattle.amqp_serve.specs.declared.links.LinkFault.{LinkFault}
use Rattle.amqp_serve.specs.declared.links.LinkFault.TheVariants as refused
use Rattle.amqp_serve.specs.declared.server.Status.{Status}
use Rattle.amqp_serve.specs.Deeds.{Ends}
use Rattle.amqp_serve.specs.Links as server
use Rattle.amqp_serve.specs.Links.{Says, IsCalled, status_behind}
use Rattle.amqp_serve.specs.Servers.{ServerState, hears}
use Rattle.amqp_hub.specs.declared.fault.AskFault.{AskFault}
use Rattle.amqp_hub.specs.declared.fault.AskFault.TheVariants as fault
use Rattle.amqp_hub.specs.Members.{MemberState, IsSame}
use Rattle.amqp_hub.specs.Links.{ask_fault_of, answer_of, IsAsked, IsSilenced, Asks, lacking, IsGranted, TopsUp, IsAskedAt, IsSilencedAt, IsToppedUpAt, AskRefused, Declines, IsDeaf, lacking_at}
use Rattle.amqp_hub.specs.Turns.{IsChanged, AreAlike}
use Rattle.amqp_hub.proofs.Turning.{alike_put, put_there}

-- Of one server. ------------------------------------------------------------------------------------------------------

-- the result of a server, as the hub tells it
abbrev pub told_by : {X : Type 0} → Result X LinkFault → Result X AskFault
told_by (Ok x) = Ok x
told_by (Err f) = Err (ask_fault_of f)

appended : (e f : Option (List ℕ)) (w v bytes : List ℕ) → e ≡ Some w → f ≡ Some v → Appends e f bytes → v ≡ w ++ bytes
appended e f w v bytes was now x = subst (λ (o : Option (List ℕ)). Appends (Some w) o bytes) now (subst (λ (o : Option (List ℕ)). Appends o f bytes) was x)

kept_waiting : (e f : Ends) (w v : List ℕ) → e.writer ≡ Some w → f.writer ≡ Some v → f ≡ e → v ≡ w
kept_waiting e f w v was now same = let is : Some v ≡ Some w = sym now ∙ ap (λ (x : Ends). x.writer) same ∙ was in grind (arith, is)

endpoint_same : (s t : EndpointState) → t ≡ s → IsKept s t
endpoint_same s t is = subst (λ (x : EndpointState). IsKept s x) (sym is) (record { input = record { limit = refl; stage = refl; filled = refl }; unsent = refl; connection = refl })

module _ (old new : MemberState) (e f : Ends) (was : e.writer ≡ Some old.waiting) (now : f.writer ≡ Some new.waiting) (rule : new.rule ≡ old.rule) (number : new.number ≡ old.number) where
  same : IsKept old.server.endpoint new.server.endpoint → new.server.status ≡ old.server.status → f ≡ e → IsSame old new
  same kept status ends = record { server = record { endpoint = kept; status = status }; waiting = kept_waiting e f old.waiting new.waiting was now ends; rule = rule; number = number }

  -- one that hears nothing any more
  pub deaf : {X : Type 0} (r : Result X LinkFault) (channel : ℕ) (c : session.Call) → hears old.server.status ≡ false → r ≡ Err refused.Over → new.server ≡ old.server → f ≡ e → Asks (told_by r) channel c old new
  deaf {X} r channel c silent is still ends =
      subst (λ (q : Result X LinkFault). Asks (told_by q) channel c old new) (sym is)
      (silent, same (endpoint_same old.server.endpoint new.server.endpoint (ap (λ (s : ServerState). s.endpoint) still)) (ap (λ (s : ServerState). s.status) still) ends)

  -- one that hears
  pub spoke : {X : Type 0} (r : Result X LinkFault) (channel : ℕ) (c : session.Call) → hears old.server.status ≡ true → Says r channel c old.server.endpoint new.server.endpoint e f
      → new.server.status ≡ status_behind old.server.status r → Asks (told_by r) channel c old new
  spoke (Ok x) channel c hearing says status = record {
    hearing = hearing;
    called = says.0;
    sent = says.1.sent;
    waiting = appended e.writer f.writer old.waiting new.waiting (answer_of old channel c) was now says.1.written;
    status = status;
    rule = rule;
    number = number;
  }
  spoke (Err refused.Over) channel c hearing says status = absurd says
  spoke (Err (refused.Call x)) channel c hearing says status = (hearing, says.0, same says.1 status says.2)
  spoke (Err (refused.Lost x)) channel c hearing says status = record {
    hearing = hearing;
    called = says.0;
    begun = says.1.begun;
    left = new.server.endpoint.unsent;
    whole = says.1.whole;
    waiting = appended e.writer f.writer old.waiting new.waiting says.1.begun was now says.1.written;
    over = ap (λ (s : Status). hears s) status;
    rule = rule;
    number = number;
  }

  pub asks : {X : Type 0} (r : Result X LinkFault) (channel : ℕ) (c : session.Call) → (hears old.server.status ≡ false → (r ≡ Err refused.Over) × (new.server ≡ old.server) × (f ≡ e))
      → (hears old.server.status ≡ true → Says r channel c old.server.endpoint new.server.endpoint e f) → new.server.status ≡ status_behind old.server.status r → Asks (told_by r) channel c old new
  asks {X} r channel c over said status = by (hears old.server.status) refl
    where
      by : (b : Bool) → hears old.server.status ≡ b → Asks (told_by r) channel c old new
      by true is = spoke r channel c is (said is) status
      by false is = let x = over is in deaf r channel c is x.0 x.1 x.2

  topped : (n : ℕ) (r : Result ℕ LinkFault) (channel handle most : ℕ) → hears old.server.status ≡ true → n ≡ lacking most channel handle old
      → server.TopsUp n r channel handle old.server.endpoint new.server.endpoint e f → new.server.status ≡ status_behind old.server.status r → TopsUp (told_by r) channel handle most old new
  topped zero r channel handle most hearing is tops status =
      subst (λ (q : Result ℕ LinkFault). TopsUp (told_by q) channel handle most old new) (sym tops.0)
      (hearing, is, same (endpoint_same old.server.endpoint new.server.endpoint tops.1) (status ∙ ap (λ (q : Result ℕ LinkFault). status_behind old.server.status q) tops.0) tops.2)
  topped (suc n) r channel handle most hearing is tops status = by r tops status
    where
      by : (r : Result ℕ LinkFault) → server.TopsUp (suc n) r channel handle old.server.endpoint new.server.endpoint e f → new.server.status ≡ status_behind old.server.status r
          → TopsUp (told_by r) channel handle most old new
      by (Ok k) x status =
          (hearing, x.1 ∙ is, subst (λ (m : ℕ). IsGranted m channel handle old new) (sym x.1) (spoke {X = ℕ} (Ok k) channel (Grant handle (suc n)) hearing x.0 status))
      by (Err f) x status =
          subst (λ (m : ℕ). Asks {X = ℕ} (Err (ask_fault_of f)) channel (Grant handle m) old new) is (spoke {X = ℕ} (Err f) channel (Grant handle (suc n)) hearing x.0 status)

  pub tops_up : (r : Result ℕ LinkFault) (channel handle most : ℕ) → (hears old.server.status ≡ false → (r ≡ Err refused.Over) × (new.server ≡ old.server) × (f ≡ e))
      → (hears old.server.status ≡ true → server.TopsUp (lacking most channel handle old) r channel handle old.server.endpoint new.server.endpoint e f)
      → new.server.status ≡ status_behind old.server.status r → TopsUp (told_by r) channel handle most old new
  tops_up r channel handle most over said status = by (hears old.server.status) refl
    where
      by : (b : Bool) → hears old.server.status ≡ b → TopsUp (told_by r) channel handle most old new
      by true is = topped (lacking most channel handle old) r channel handle most is refl (said is) status
      by false is =
          let x = over is in
          subst (λ (q : Result ℕ LinkFault). TopsUp (told_by q) channel handle most old new) (sym x.0)
          (is, same (endpoint_same old.server.endpoint new.server.endpoint (ap (λ (s : ServerState). s.endpoint) x.1)) (ap (λ (s : ServerState). s.status) x.1) x.2)

-- the same, as the code has it
pub tops_up_in : (a old new : MemberState) (e f : Ends) (r : Result ℕ LinkFault) (channel handle most : ℕ) → a ≡ old → e.writer ≡ Some a.waiting → f.writer ≡ Some new.waiting → new.rule ≡ a.rule → new.number ≡ a.number
    → (hears a.server.status ≡ false → (r ≡ Err refused.Over) × (new.server ≡ a.server) × (f ≡ e))
    → (hears a.server.status ≡ true → server.TopsUp (lacking most channel handle a) r channel handle a.server.endpoint new.server.endpoint e f)
    → new.server.status ≡ status_behind a.server.status r → TopsUp (told_by r) channel handle most old new
tops_up_in a old new e f r channel handle most is was now rule number over said status =
    subst (λ (m : MemberState). TopsUp (told_by r) channel handle most m new) is (tops_up a new e f was now rule number r channel handle most over said status)

pub topped_err : (q : Result ℕ AskFault) (x : AskFault) (f : LinkFault) (channel handle most : ℕ) (old new : MemberState) → q ≡ Err x → x ≡ ask_fault_of f → TopsUp (told_by {X = ℕ} (Err f)) channel handle most old new
    → TopsUp q channel handle most old new
topped_err q x f channel handle most old new is from tops = subst (λ (r : Result ℕ AskFault). TopsUp r channel handle most old new) (sym (is ∙ ap (λ (y : AskFault). Err y) from)) tops

-- Among others. -------------------------------------------------------------------------------------------------------

module _ (s q t : Slab MemberState) (is_same : q ≡ s) (key : ℕ) (m n : MemberState) (stood : Some m ≡ get q key) (put : t.slots ≡ slice_set q.slots key (Some n)) where
  stands : Some m ≡ get s key
  stands = stood ∙ ap (λ (x : Slab MemberState). get x key) is_same

  there : IsChanged s t key m n
  there = put_there s key m n stands t (put ∙ ap (λ (x : Slab MemberState). slice_set x.slots key (Some n)) is_same)

  pub asked_at : (r : Result (Unit {0}) AskFault) (channel : ℕ) (c : session.Call) → Asks r channel c m n → OnOk r (IsAskedAt s t key channel c)
  asked_at (Ok u) channel c x = record { before = m; after = n; changed = there; asked = x }
  asked_at (Err f) channel c x = tt

  refused_so : (X : Type 0) (f : AskFault) (channel : ℕ) (c : session.Call) → Asks {X = X} (Err f) channel c m n → AskRefused f s t key channel c
  refused_so X fault.NoKey channel c x = absurd x
  refused_so X fault.Over channel c x = (alike_put s t key m n there x.1, subst (λ (o : Option MemberState). IsDeaf o) stands x.0)
  refused_so X (fault.Call k) channel c x = (alike_put s t key m n there x.2, subst (λ (o : Option MemberState). Declines o channel c (Some k)) stands (x.0, x.1))
  refused_so X fault.NoMemory channel c x = record { before = m; after = n; changed = there; silenced = x }

  pub asked_not : (r : Result (Unit {0}) AskFault) (channel : ℕ) (c : session.Call) → Asks r channel c m n → IfErr r (λ f. AskRefused f s t key channel c)
  asked_not (Ok u) channel c x = tt
  asked_not (Err f) channel c x = refused_so (Unit {0}) f channel c x

  pub topped_at : (r : Result ℕ AskFault) (channel handle most : ℕ) → TopsUp r channel handle most m n → IfOk r (λ k. IsToppedUpAt s t key channel handle most k)
  topped_at (Ok k) channel handle most x = record { before = m; after = n; changed = there; hearing = x.0; lacked = x.1; granted = x.2 }
  topped_at (Err f) channel handle most x = tt

  pub topped_not : (r : Result ℕ AskFault) (channel handle most : ℕ) → TopsUp r channel handle most m n
      → IfErr r (λ f. AskRefused f s t key channel (Grant handle (lacking_at most channel handle (get s key))))
  topped_not (Ok k) channel handle most x = tt
  topped_not (Err f) channel handle most x =
      subst (λ (o : Option MemberState). AskRefused f s t key channel (Grant handle (lacking_at most channel handle o))) stands (refused_so ℕ f channel (Grant handle (lacking most channel handle m)) x)
