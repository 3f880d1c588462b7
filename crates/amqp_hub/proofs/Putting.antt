-- What a step recorded is put into the keeper.
use Rattle.std.proofs.Common.{◌≡◌, ℕ, zero, suc, arith, inl, inr, true, List, [], ◌∷◌, length, map, take, drop, Option, Some, None, Result, Ok, Err, refl, sym, ap, subst, ◌∙◌, append_assoc}
use Rattle.std.proofs.Math.Seq.{drop-length, drop-append_seam}
use Rattle.std.proofs.lemmas.List.{length-map}
use Rattle.std.specs.Prelude.{option_map, slice_get, IsOk, IsSome, IfOk}
use Rattle.slab.specs.Slab.{Slab, get}
use Rattle.amqp_endpoint.specs.Steps.{EndpointState}
use Rattle.amqp_endpoint.specs.declared.event.Event.TheVariants as event
use Rattle.amqp_endpoint.specs.declared.event.Outcome.{Outcome}
use Rattle.amqp_endpoint.specs.declared.event.Outcome.TheVariants as outcome
use Rattle.amqp_serve.specs.declared.serving.ServeFault.{ServeFault}
use Rattle.amqp_serve.specs.declared.serving.ServeFault.TheVariants as lost
use Rattle.amqp_serve.specs.declared.steps.Done.{Done}
use Rattle.amqp_serve.specs.declared.steps.Stepped.{Stepped}
use Rattle.amqp_serve.specs.declared.rules.Rule.{Rule}
use Rattle.amqp_serve.specs.declared.steps.Receipt.{Receipt}
use Rattle.amqp_serve.specs.declared.steps.Received.{Received}
use Rattle.amqp_serve.specs.Deeds.{Ends, HasStepped, IsStepped, message_in, IsNoted, IsNotedAs}
use Rattle.amqp_serve.specs.Servers.{hears, status_after}
use Rattle.amqp_serve.specs.Serving.{recorded}
use Rattle.amqp_hub.specs.declared.keeper.Origin.{Origin}
use Rattle.amqp_hub.specs.Keepers.{Entry, one_entry, Given, origin_told, received_in, origin_of}
use Rattle.amqp_hub.specs.declared.ledger.Record.{Record}
use Rattle.amqp_hub.specs.Ledgers.{LedgerState, record_entry, records_of, first_bytes, with_record, with_noted}
use Rattle.amqp_hub.specs.Members.{MemberState, unsent_of}
use Rattle.amqp_hub.specs.Turns.{IsGone, IsHeardAt, IsLostAt, HearsBy, HearsTo, IsKeptSo, IsFrontAt, HeardSo, put_by, endpoint_at}
use Rattle.amqp_hub.proofs.Livings.{appends_to}
use Rattle.amqp_hub.proofs.Turning.{lost_by, heard_due}

-- A keeper. -----------------------------------------------------------------------------------------------------------

-- a step that was not done made no record
pub none_of : (number : ℕ) (x : Stepped) (f : ServeFault) → x.done ≡ Err f → origin_of number x ≡ None
none_of number x f is = ap (λ (q : Result Done ServeFault). origin_told number (received_in q) x.told) is

module _ {K : Type 0} (accepts : K → Origin → EndpointState → List ℕ → K → Type 0) where
  given_fault : (number : ℕ) (x : Stepped) (f : ServeFault) (e : Option EndpointState) (noted : List ℕ) (kept keeps : K) → x.done ≡ Err f → Given accepts (origin_of number x) e noted kept keeps → keeps ≡ kept
  given_fault number x f e noted kept keeps is g = subst (λ (o : Option Origin). Given accepts o e noted kept keeps) (none_of number x f is) g

  module _ (s m t : Slab MemberState) (key number : ℕ) (piece noted : List ℕ) (x r : Stepped) (kept keeps : K) (numbered : option_map (λ m. m.number) (get s key) ≡ Some number) where
    number_is : (o : Option MemberState) (a : MemberState) → option_map (λ m. m.number) o ≡ Some number → o ≡ Some a → number ≡ a.number
    number_is None a e is = absurd (grind (arith, is))
    number_is (Some b) a e is = grind (arith, e, is)

    -- it was put, if the step made a record
    put_so : (q : Result Done ServeFault) → x.done ≡ q → HearsBy (status_after q) s m key piece x (Some []) (Some noted) → Given accepts (origin_of number x) (endpoint_at m key) noted kept keeps → HearsTo accepts (status_after q) s m key piece x noted kept keeps
    put_so (Ok d) is h g = (h, subst (λ (n : ℕ). Given accepts (origin_of n x) (endpoint_at m key) noted kept keeps) (number_is (get s key) h.before numbered h.changed.was) g)
    put_so (Err lost.NoMemory) is h g = (h, given_fault number x lost.NoMemory (endpoint_at m key) noted kept keeps is g)
    put_so (Err lost.Read) is h g = (h, given_fault number x lost.Read (endpoint_at m key) noted kept keeps is g)
    put_so (Err lost.Write) is h g = (h, given_fault number x lost.Write (endpoint_at m key) noted kept keeps is g)
    put_so (Err lost.Sink) is h g = (h, given_fault number x lost.Sink (endpoint_at m key) noted kept keeps is g)

    -- or the connection is gone
    gone_so : (q : Result Done ServeFault) → IsOk q → HearsBy (status_after q) s m key piece x (Some []) (Some noted) → IsGone m t key → IsLostAt s t key piece x
    gone_so (Ok d) is h gone = lost_by s m m t refl key piece x (Some []) (Some noted) h gone.updates gone.count
    gone_so (Err f) is h gone = absurd (grind (arith, is))

    pub hears_to : (a b : Option (List ℕ)) → a ≡ Some [] → b ≡ Some noted → HearsBy (status_after x.done) s m key piece x a b → IsKeptSo accepts number noted m t key x r kept keeps →
        HearsTo accepts (status_after r.done) s t key piece r noted kept keeps
    hears_to a b is was h k =
        let y = subst (λ (o : Option (List ℕ)). HearsBy (status_after x.done) s m key piece x o (Some noted)) is (subst (λ (o : Option (List ℕ)). HearsBy (status_after x.done) s m key piece x a o) was h) in
        elim k [
          | inl k ↦
              subst (λ (z : Stepped). HearsTo accepts (status_after z.done) s t key piece z noted kept keeps) (sym k.0)
              (subst (λ (u : Slab MemberState). HearsTo accepts (status_after x.done) s u key piece x noted kept keeps) (sym k.1) (put_so x.done refl y k.2))
          | inr k ↦
              let gone = gone_so x.done k.1 y k.2 in
              subst (λ (z : Stepped). HearsTo accepts (status_after z.done) s t key piece z noted kept keeps) (sym k.0)
              (record { gone = gone.gone; hears = gone.hears; bound = gone.bound }, k.3)
        ]

-- a step that was done keeps its key
pub there_after : (s t : Slab MemberState) (key : ℕ) (piece : List ℕ) (x : Stepped) (a b : Option (List ℕ)) (q : Result Done ServeFault) → HearsBy (status_after q) s t key piece x a b → IfOk q (λ d. IsSome (get t key))
there_after s t key piece x a b (Ok d) h = subst (λ (o : Option MemberState). IsSome o) (sym h.changed.updates.changed) refl
there_after s t key piece x a b (Err f) h = tt

-- A ledger. -----------------------------------------------------------------------------------------------------------

abbrev put : LedgerState → Origin → EndpointState → List ℕ → LedgerState → Type 0
put old origin endpoint bytes new = new ≡ with_record origin bytes old

noted_so : (origin : Option Origin) (endpoint : Option EndpointState) (noted : List ℕ) (old new : LedgerState) → Given put origin endpoint noted old new → new ≡ with_noted origin noted old
noted_so None endpoint noted old new g = g
noted_so (Some origin) None noted old new g = absurd g
noted_so (Some origin) (Some endpoint) noted old new g = g

-- the last record of the ledger, if there is one more
last_of : (origin : Option Origin) (noted : List ℕ) (old : LedgerState) → (origin ≡ None → noted ≡ []) → first_bytes (drop (length (records_of old)) (records_of (with_noted origin noted old))) ≡ noted
last_of None noted old none = ap (λ (l : List Entry). first_bytes l) (drop-length (records_of old)) ∙ sym (none refl)
last_of (Some origin) noted old none =
    ap (λ (l : List Entry). first_bytes (drop (length (records_of old)) l)) (sym (append_assoc old.taken old.waiting (one_entry origin noted)))
    ∙ ap (λ (l : List Entry). first_bytes l) (drop-append_seam (records_of old) (one_entry origin noted))

-- a step that tells of no message recorded nothing
pub untold : (number : ℕ) (told : Outcome) (r : Receipt) (noted : List ℕ) → IsNotedAs told r noted → origin_told number (message_in r) told ≡ None → noted ≡ []
untold number (outcome.Event (event.Ready channel handle)) r noted x none = by (message_in r) refl
  where
    by : (o : Option Received) → message_in r ≡ o → noted ≡ []
    by None e = subst (λ (q : Option Received). IsNoted q channel handle noted) e x
    by (Some m) e = absurd (grind (arith, none, e))
untold number (outcome.Event e) r noted x none = x.1
untold number told r noted x none = x.1

-- the record at this place is the first one from there on
pub first_at : {A : Type 0} (records : List (Record A)) (i : ℕ) (r : Record A) → slice_get records i ≡ Some r → r.bytes.items ≡ first_bytes (drop i (map record_entry records))
first_at [] i r is = absurd (grind (arith, is))
first_at (x ∷ records) zero r is = let same : r ≡ x = grind (arith, is) in ap (λ (y : Record _). y.bytes.items) same
first_at (x ∷ records) (suc i) r is = first_at records i r is

-- what was put after those that were there
pub since : {A : Type 0} (records : List (Record A)) (answer : List ℕ) (old new : LedgerState) → map record_entry records ≡ records_of old → answer ≡ first_bytes (drop (length records) (records_of new)) →
    answer ≡ first_bytes (drop (length (records_of old)) (records_of new))
since records answer old new all is =
    let long : length records ≡ length (records_of old) = sym (length-map records record_entry) ∙ ap (λ (l : List Entry). length l) all in is ∙ ap (λ (n : ℕ). first_bytes (drop n (records_of new))) long

-- the bytes of a copy
pub copied_at : {A B E : Type 0} (q : Result B E) (items : B → List ℕ) (records : List (Record A)) (i : ℕ) (r : Record A) (bytes : List ℕ) (entries : List Entry) → slice_get records i ≡ Some r → bytes ≡ r.bytes.items →
    map record_entry records ≡ entries → IfOk q (λ v. items v ≡ bytes) → IfOk q (λ v. items v ≡ first_bytes (drop i entries))
copied_at (Ok v) items records i r bytes entries at is all x = x ∙ is ∙ first_at records i r at ∙ ap (λ (l : List Entry). first_bytes (drop i l)) all
copied_at (Err e) items records i r bytes entries at is all x = tt

module _ (s t : Slab MemberState) (key : ℕ) (piece : List ℕ) (x : Stepped) (noted answer front : List ℕ) (due : ℕ) (old new : LedgerState)
    (law : (r : Rule) (told : Outcome) (d : Done) (bytes : List ℕ) (old new : EndpointState) (e f : Ends) → (x : HasStepped r told d bytes old new e f) → IsNotedAs told d.receipt (recorded x.served.steps))
    (last : answer ≡ first_bytes (drop (length (records_of old)) (records_of new))) (count : due ≡ length front) (f : IsFrontAt (get t key) front) where
  -- a step that was not done put nothing
  unput : (o : Option ℕ) (g : ServeFault) → x.done ≡ Err g → old ≡ put_by o x answer old
  unput None g e = refl
  unput (Some n) g e = sym (ap (λ (o : Option Origin). with_noted o answer old) (none_of n x g e))

  -- what was put is the answer
  answered : (number : ℕ) (n : List ℕ) → (origin_of number x ≡ None → n ≡ []) → new ≡ with_noted (origin_of number x) n old → answer ≡ n
  answered number n none is = last ∙ ap (λ (l : LedgerState). first_bytes (drop (length (records_of old)) (records_of l))) is ∙ last_of (origin_of number x) n old none

  whole : (y : IsHeardAt s t key piece x (Some []) (Some noted)) → hears (status_after x.done) ≡ true → answer ≡ noted → (z : IsHeardAt s t key piece x (Some []) (Some answer)) × (due ≡ length (unsent_of z.after))
  whole y alive same =
      let long : due ≡ length (unsent_of y.after) = count ∙ heard_due s t key piece x (Some []) (Some noted) front alive y f in
      subst (λ (l : List ℕ). (z : IsHeardAt s t key piece x (Some []) (Some l)) × (due ≡ length (unsent_of z.after))) (sym same) (y, long)

  -- without memory nothing is recorded
  unnoted : (y : IsHeardAt s t key piece x (Some []) (Some noted)) → x.done ≡ Err lost.NoMemory → noted ≡ []
  unnoted y is =
      let h = y.heard in
      let stop = subst (λ (q : Result Done ServeFault). IsStepped y.before.rule (take x.used piece) x.told q y.before.server.endpoint y.after.server.endpoint h.before h.after) is h.stepped in
      let same : h.after ≡ h.before = (stop.still refl).1 in
      let e : Some noted ≡ Some [] = sym h.noted ∙ ap (λ (q : Ends). q.sink) same ∙ h.sink in
      grind (arith, e)

  -- nor by a step that tells of no message
  silent : (d : Done) (number : ℕ) (y : IsHeardAt s t key piece x (Some []) (Some noted)) → x.done ≡ Ok d → origin_of number x ≡ None → noted ≡ []
  silent d number y is none =
      let h = y.heard in
      let step = subst (λ (q : Result Done ServeFault). IsStepped y.before.rule (take x.used piece) x.told q y.before.server.endpoint y.after.server.endpoint h.before h.after) is h.stepped in
      let notes : noted ≡ recorded step.served.steps = appends_to h.before.sink h.after.sink [] noted (recorded step.served.steps) h.sink h.noted step.served.recorded in
      let told = law y.before.rule x.told d (take x.used piece) y.before.server.endpoint y.after.server.endpoint h.before h.after step in
      notes ∙ untold number x.told d.receipt (recorded step.served.steps) told (sym (ap (λ (q : Result Done ServeFault). origin_told number (received_in q) x.told) is) ∙ none)

  by : (q : Result Done ServeFault) → x.done ≡ q → HearsTo put (status_after q) s t key piece x noted old new →
      HeardSo (status_after q) s t key piece x due answer × (new ≡ put_by (option_map (λ m. m.number) (get s key)) x answer old)
  by (Ok d) e h =
      let y = h.0 in
      let n = y.before.number in
      let kept = noted_so (origin_of n x) (endpoint_at t key) noted old new h.1 in
      let same = answered n noted (silent d n y e) kept in (
        whole y (ap (λ (q : Result Done ServeFault). hears (status_after q)) e) same,
        kept ∙ ap (λ (l : List ℕ). with_noted (origin_of n x) l old) (sym same) ∙ ap (λ (o : Option MemberState). put_by (option_map (λ m. m.number) o) x answer old) (sym y.changed.was),
      )
  by (Err lost.NoMemory) e h =
      let same = answered 0 [] (λ _. refl) (h.1 ∙ sym (ap (λ (o : Option Origin). with_noted o [] old) (none_of 0 x lost.NoMemory e))) ∙ sym (unnoted h.0 e) in
      (whole h.0 (ap (λ (q : Result Done ServeFault). hears (status_after q)) e) same, h.1 ∙ unput (option_map (λ m. m.number) (get s key)) lost.NoMemory e)
  by (Err lost.Read) e h = (h.0, h.1 ∙ unput (option_map (λ m. m.number) (get s key)) lost.Read e)
  by (Err lost.Write) e h = (h.0, h.1 ∙ unput (option_map (λ m. m.number) (get s key)) lost.Write e)
  by (Err lost.Sink) e h = (h.0, h.1 ∙ unput (option_map (λ m. m.number) (get s key)) lost.Sink e)

  pub heard_into : HearsTo put (status_after x.done) s t key piece x noted old new →
      HeardSo (status_after x.done) s t key piece x due answer × (new ≡ put_by (option_map (λ m. m.number) (get s key)) x answer old)
  heard_into h = by x.done refl h
