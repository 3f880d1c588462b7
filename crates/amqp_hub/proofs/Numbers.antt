-- What a ledger was given under a number is what was recorded of the connection of that number.
use Rattle.std.proofs.Common.{◌≡◌, ◌≢◌, ℕ, ◌+◌, ◌<◌, ◌≤◌, arith, Bool, true, false, List, [], ◌∷◌, ◌++◌, take, drop, Option, Some, None, Result, Ok, Err, refl, sym, ap, subst, ◌∙◌, append-nil, append_assoc}
use Rattle.std.proofs.lemmas.Bool.{eqb-true}
use Rattle.std.proofs.lemmas.Grind.{flat_map-append}
use Rattle.std.proofs.lemmas.List.{take-append-drop}
use Rattle.std.proofs.lemmas.List.Elements.{filter-append}
use Rattle.std.specs.Prelude.{nat_eq, if◌then◌else◌, filter, option_map, IsSomeAnd}
use Rattle.std.specs.List.{flat_map}
use Rattle.amqp_endpoint.specs.Configs.{Configured}
use Rattle.amqp_endpoint.specs.declared.event.Event.TheVariants as event
use Rattle.amqp_endpoint.specs.declared.event.Outcome.{Outcome}
use Rattle.amqp_endpoint.specs.declared.event.Outcome.TheVariants as outcome
use Rattle.amqp_serve.specs.declared.rules.Rule.{Rule}
use Rattle.amqp_serve.specs.declared.serving.ServeFault.{ServeFault}
use Rattle.amqp_serve.specs.declared.serving.ServeFault.TheVariants as lost
use Rattle.amqp_serve.specs.declared.steps.Done.{Done}
use Rattle.amqp_serve.specs.declared.steps.Received.{Received}
use Rattle.amqp_serve.specs.declared.steps.Stepped.{Stepped}
use Rattle.amqp_serve.specs.Lives.{ByPeer, BySelf, starved_on, told_on, ended_on}
use Rattle.amqp_hub.specs.declared.keeper.Origin.{Origin}
use Rattle.amqp_hub.specs.Keepers.{Entry, one_entry, origin_told, received_in, origin_of}
use Rattle.amqp_hub.specs.Ledgers.{LedgerState, new_ledger, records_of, is_of, records_under, with_record, with_noted, will_take, settled_by, settled_after}
use Rattle.amqp_hub.specs.Turns.{Turn, Open, Hear, Hand, Finish, Close, Remove, Ruled, Settle, Answer, Opened, Heard, Handed, Ended, Closed, Removed, Changed, Settled}
use Rattle.amqp_hub.specs.Turns.{Seat, new_seat, went_on, ruled_by, if_seated, heard_on, stepped_on, seated, seat_after, put_by, ledger_behind, ledger_after, open_behind, SpeaksOf, IsHearing, Fits, life_of, AllFit}
use Rattle.amqp_hub.proofs.Putting.{untold, none_of}

-- Records under a number. ---------------------------------------------------------------------------------------------

abbrev bytes_under : ℕ → List Entry → List ℕ
bytes_under n entries = flat_map (λ e. e.bytes) (filter (is_of n) entries)

under_on : (n : ℕ) (xs ys : List Entry) → bytes_under n (xs ++ ys) ≡ bytes_under n xs ++ bytes_under n ys
under_on n xs ys =
    ap (λ (l : List Entry). flat_map (λ e. e.bytes) l) (filter-append (is_of n) xs ys) ∙ flat_map-append (λ e. e.bytes) (filter (is_of n) xs) (filter (is_of n) ys)

one_under : (o : Origin) (bytes : List ℕ) → bytes_under o.number (one_entry o bytes) ≡ bytes
one_under o bytes = by (nat_eq o.number o.number) refl
  where
    by : (b : Bool) → nat_eq o.number o.number ≡ b → bytes_under o.number (one_entry o bytes) ≡ bytes
    by true e = rw e (append-nil bytes)
    by false e = absurd (grind (arith, e))

none_under : (n : ℕ) (o : Origin) (bytes : List ℕ) → o.number ≢ n → bytes_under n (one_entry o bytes) ≡ []
none_under n o bytes other = by (nat_eq o.number n) refl
  where
    by : (b : Bool) → nat_eq o.number n ≡ b → bytes_under n (one_entry o bytes) ≡ []
    by true e = absurd (other (eqb-true o.number n e))
    by false e = rw e refl

-- one record more
more_under : (n : ℕ) (o : Origin) (bytes : List ℕ) (l : LedgerState) → records_under n (with_record o bytes l) ≡ records_under n l ++ bytes_under n (one_entry o bytes)
more_under n o bytes l = ap (λ (r : List Entry). bytes_under n r) (sym (append_assoc l.taken l.waiting (one_entry o bytes))) ∙ under_on n (l.taken ++ l.waiting) (one_entry o bytes)

abbrev number_in : Option Origin → ℕ
number_in None = 0
number_in (Some o) = o.number

-- an origin has the number that it was made of
number_told : (n : ℕ) (m : Option Received) (told : Outcome) (o : Origin) → origin_told n m told ≡ Some o → o.number ≡ n
number_told n None told o is = absurd (grind (arith, is))
number_told n (Some m) (outcome.Event (event.Ready channel handle)) o is = sym (ap (λ (q : Option Origin). number_in q) is)
number_told n (Some m) (outcome.Event e) o is = absurd (grind (arith, is))
number_told n (Some m) told o is = absurd (grind (arith, is))

-- What is kept true. --------------------------------------------------------------------------------------------------

-- What was put under the number of each connection is what was recorded of it. Each has a number of its own, which no turn to come has.
record AreNumbered (l : LedgerState) (seats : ℕ → Option Seat) (place : ℕ) : Type 0 where
  agree : (key : ℕ) (y : Seat) → seats key ≡ Some y → records_under y.number l ≡ y.life.noted
  early : (key : ℕ) (y : Seat) → seats key ≡ Some y → y.number < place
  apart : (j k : ℕ) (x y : Seat) → seats j ≡ Some x → seats k ≡ Some y → x.number ≡ y.number → j ≡ k
  later : (n : ℕ) → place ≤ n → records_under n l ≡ []

-- the connection is gone, or has the number and the records that it had
abbrev IsStill : Option Seat → Option Seat → Type 0
IsStill a b = (y : Seat) → b ≡ Some y → (x : Seat) × (a ≡ Some x) × (x.number ≡ y.number) × (x.life.noted ≡ y.life.noted)

is_same : (a : Option Seat) → IsStill a a
is_same a y is = (y, is, refl, refl)

is_gone : (a : Option Seat) → IsStill a None
is_gone a y is = absurd (grind (arith, is))

module _ (f : Seat → Seat) (number : (x : Seat) → x.number ≡ (f x).number) (noted : (x : Seat) → x.life.noted ≡ (f x).life.noted) where
  is_changed : (a : Option Seat) → IsStill a (if_seated f a)
  is_changed None y is = absurd (grind (arith, is))
  is_changed (Some x) y is =
      let same : f x ≡ y = grind (arith, is) in
      (x, refl, number x ∙ ap (λ (z : Seat). z.number) same, noted x ∙ ap (λ (z : Seat). z.life.noted) same)

-- under another key nothing changes
only_at : (k key : ℕ) (a b : Option Seat) → IsStill a b → IsStill a (if nat_eq k key then b else a)
only_at k key a b is = by (nat_eq k key)
  where
    by : (q : Bool) → IsStill a (if q then b else a)
    by true = is
    by false = is_same a

module _ (l m : LedgerState) (seats after : ℕ → Option Seat) (place : ℕ) (x : AreNumbered l seats place) where
  -- nothing was put
  stills : records_of m ≡ records_of l → ((key : ℕ) → IsStill (seats key) (after key)) → AreNumbered m after (place + 1)
  stills same each = record {
    agree = λ key y is. let z = each key y is in under y.number ∙ ap (λ (n : ℕ). records_under n l) (sym z.2) ∙ x.agree key z.0 z.1 ∙ z.3;
    early = λ key y is. let z = each key y is in let e = x.early key z.0 z.1 in omega (arith, e, z.2);
    apart = λ j k a b is was e. let y = each j a is in let z = each k b was in x.apart j k y.0 z.0 y.1 z.1 (y.2 ∙ e ∙ sym z.2);
    later = λ n le. under n ∙ x.later n (omega (arith, le));
  }
    where
      under : (n : ℕ) → records_under n m ≡ records_under n l
      under n = ap (λ (r : List Entry). bytes_under n r) same

-- A connection is opened. ---------------------------------------------------------------------------------------------

abbrev opened_at : Rule → (ℕ → Option Seat) → ℕ → ℕ → Bool → Option Seat
opened_at r seats place key q = if q then Some (new_seat r place) else seats key

opens : (r : Rule) (l : LedgerState) (seats : ℕ → Option Seat) (place k : ℕ) → AreNumbered l seats place → AreNumbered l (λ key. if nat_eq k key then Some (new_seat r place) else seats key) (place + 1)
opens r l seats place k x = record { agree = λ key. agree key (nat_eq k key); early = λ key. early key (nat_eq k key); apart = λ i j. apart i j (nat_eq k i) (nat_eq k j) refl refl; later = λ n le. x.later n (omega (arith, le)) }
  where
    agree : (key : ℕ) (q : Bool) (y : Seat) → opened_at r seats place key q ≡ Some y → records_under y.number l ≡ y.life.noted
    agree key true y is =
        let same : new_seat r place ≡ y = grind (arith, is) in
        subst (λ (z : Seat). records_under z.number l ≡ z.life.noted) same (x.later place (omega arith))
    agree key false y is = x.agree key y is

    early : (key : ℕ) (q : Bool) (y : Seat) → opened_at r seats place key q ≡ Some y → y.number < place + 1
    early key true y is =
        let same : new_seat r place ≡ y = grind (arith, is) in
        subst (λ (z : Seat). z.number < place + 1) same (omega arith)
    early key false y is = let e = x.early key y is in omega (arith, e)

    apart : (i j : ℕ) (p q : Bool) → nat_eq k i ≡ p → nat_eq k j ≡ q → (a b : Seat) → opened_at r seats place i p ≡ Some a → opened_at r seats place j q ≡ Some b → a.number ≡ b.number → i ≡ j
    apart i j true true e f a b is was same = sym (eqb-true k i e) ∙ eqb-true k j f
    apart i j true false e f a b is was same =
        let new : new_seat r place ≡ a = grind (arith, is) in
        let n = ap (λ (z : Seat). z.number) new in
        let old = x.early j b was in
        absurd (omega (arith, n, old, same))
    apart i j false true e f a b is was same =
        let new : new_seat r place ≡ b = grind (arith, was) in
        let n = ap (λ (z : Seat). z.number) new in
        let old = x.early i a is in
        absurd (omega (arith, n, old, same))
    apart i j false false e f a b is was same = x.apart i j a b is was same

-- A record is put. ----------------------------------------------------------------------------------------------------

module _ (l : LedgerState) (seats : ℕ → Option Seat) (place k due : ℕ) (s : Stepped) (bytes noted : List ℕ) (x : AreNumbered l seats place) where
  -- it is put under the number of its connection alone
  module _ (y : Seat) (was : seats k ≡ Some y) (none : origin_of y.number s ≡ None → noted ≡ []) where
    abbrev after : LedgerState
    after = with_noted (origin_of y.number s) noted l

    mine : records_under y.number after ≡ records_under y.number l ++ noted
    mine = by (origin_of y.number s) refl
      where
        by : (o : Option Origin) → origin_of y.number s ≡ o → records_under y.number (with_noted o noted l) ≡ records_under y.number l ++ noted
        by None e = sym (ap (λ (n : List ℕ). records_under y.number l ++ n) (none e) ∙ append-nil (records_under y.number l))
        by (Some o) e =
            let n = number_told y.number (received_in s.done) s.told o e in
            more_under y.number o noted l ∙ ap (λ (b : List ℕ). records_under y.number l ++ b) (ap (λ (m : ℕ). bytes_under m (one_entry o noted)) (sym n) ∙ one_under o noted)

    others : (n : ℕ) → y.number ≢ n → records_under n after ≡ records_under n l
    others n other = by (origin_of y.number s) refl
      where
        by : (o : Option Origin) → origin_of y.number s ≡ o → records_under n (with_noted o noted l) ≡ records_under n l
        by None e = refl
        by (Some o) e =
            let same = number_told y.number (received_in s.done) s.told o e in
            more_under n o noted l ∙ ap (λ (b : List ℕ). records_under n l ++ b) (none_under n o noted (λ is. other (sym same ∙ is))) ∙ append-nil (records_under n l)

    abbrev at : ℕ → Bool → Option Seat
    at key q = if q then if_seated (λ z. heard_on z bytes due noted) (seats key) else seats key

    -- a connection then is one that was, which has recorded this if it is the one
    before : (key : ℕ) (q : Bool) (z : Seat) → nat_eq k key ≡ q → at key q ≡ Some z → (a : Seat) × (seats key ≡ Some a) × (a.number ≡ z.number) × (q ≡ true → (a ≡ y) × (z.life.noted ≡ a.life.noted ++ noted)) × (q ≡ false → z ≡ a)
    before key false z e is = (z, is, refl, λ off. absurd (grind (arith, off)), λ _. refl)
    before key true z e is =
        let here : seats key ≡ Some y = ap seats (sym (eqb-true k key e)) ∙ was in
        let now : Some (heard_on y bytes due noted) ≡ Some z = sym (ap (λ (o : Option Seat). if_seated (λ w. heard_on w bytes due noted) o) here) ∙ is in
        let same : heard_on y bytes due noted ≡ z = grind (arith, now) in
        (y, here, ap (λ (w : Seat). w.number) same, λ _. (refl, sym (ap (λ (w : Seat). w.life.noted) same)), λ off. absurd (grind (arith, off)))

    puts : AreNumbered after (λ key. if nat_eq k key then if_seated (λ z. heard_on z bytes due noted) (seats key) else seats key) (place + 1)
    puts = record {
      agree = λ key z is. agree key z (nat_eq k key) refl is;
      early = λ key z is. let b = before key (nat_eq k key) z refl is in let e = x.early key b.0 b.1 in omega (arith, e, b.2);
      apart = λ i j a b is was2 e. let c = before i (nat_eq k i) a refl is in let d = before j (nat_eq k j) b refl was2 in x.apart i j c.0 d.0 c.1 d.1 (c.2 ∙ e ∙ sym d.2);
      later = λ n le. let e = x.early k y was in others n (λ same. absurd (omega (arith, le, e, same))) ∙ x.later n (omega (arith, le));
    }
      where
        agree : (key : ℕ) (z : Seat) (q : Bool) → nat_eq k key ≡ q → at key (nat_eq k key) ≡ Some z → records_under z.number after ≡ z.life.noted
        agree key z true e is =
            let b = before key true z e (ap (λ (p : Bool). at key p) (sym e) ∙ is) in
            let more = b.3 refl in
            ap (λ (n : ℕ). records_under n after) (sym b.2) ∙ ap (λ (w : Seat). records_under w.number after) more.0 ∙ mine ∙ ap (λ (r : List ℕ). r ++ noted) (x.agree k y was)
            ∙ ap (λ (w : Seat). w.life.noted ++ noted) (sym more.0) ∙ sym more.1
        agree key z false e is =
            let b = before key false z e (ap (λ (p : Bool). at key p) (sym e) ∙ is) in
            let other : y.number ≢ z.number = λ same. absurd (far key b.0 b.1 (same ∙ sym b.2) e) in
            others z.number other ∙ ap (λ (n : ℕ). records_under n l) (sym b.2) ∙ x.agree key b.0 b.1 ∙ ap (λ (w : Seat). w.life.noted) (sym (b.4 refl))
          where
            far : (key : ℕ) (a : Seat) → seats key ≡ Some a → y.number ≡ a.number → nat_eq k key ≡ false → ⊥
            far key a is same e = let here = x.apart k key y a was is same in grind (arith, e, here)

  -- A step by its result.
  hears : (q : Result Done ServeFault) → s.done ≡ q → (config : Configured) → IsSomeAnd (life_of (seats k)) (λ a. IsHearing a × SpeaksOf config s.told q a due noted) →
      AreNumbered (put_by (option_map (λ z. z.number) (seats k)) s noted l) (λ key. if nat_eq k key then stepped_on q bytes due noted (seats key) else seats key) (place + 1)
  hears q e config fits = by (seats k) refl fits
    where
      by : (o : Option Seat) → seats k ≡ o → IsSomeAnd (life_of o) (λ a. IsHearing a × SpeaksOf config s.told q a due noted) →
          AreNumbered (put_by (option_map (λ z. z.number) (seats k)) s noted l) (λ key. if nat_eq k key then stepped_on q bytes due noted (seats key) else seats key) (place + 1)
      by None is fits = absurd fits
      by (Some y) is fits = subst (λ (o : Option Seat). AreNumbered (put_by (option_map (λ z. z.number) o) s noted l) (λ key. if nat_eq k key then stepped_on q bytes due noted (seats key) else seats key) (place + 1)) (sym is) (done q e fits)
        where
          put_none : (f : ServeFault) → s.done ≡ Err f → records_of (with_noted (origin_of y.number s) noted l) ≡ records_of l
          put_none f e = ap (λ (o : Option Origin). records_of (with_noted o noted l)) (none_of y.number s f e)

          done : (q : Result Done ServeFault) → s.done ≡ q → IsSomeAnd (life_of (Some y)) (λ a. IsHearing a × SpeaksOf config s.told q a due noted) →
              AreNumbered (with_noted (origin_of y.number s) noted l) (λ key. if nat_eq k key then stepped_on q bytes due noted (seats key) else seats key) (place + 1)
          done (Ok d) e fits = puts y is (λ none. untold y.number s.told d.receipt noted fits.1.0 (sym (ap (λ (p : Result Done ServeFault). origin_told y.number (received_in p) s.told) e) ∙ none))
          done (Err lost.NoMemory) e fits =
              stills l _ seats _ place x (put_none lost.NoMemory e) (λ key. only_at k key (seats key) (if_seated (went_on (λ a. starved_on a bytes)) (seats key)) (is_changed (went_on (λ a. starved_on a bytes)) (λ z. refl) (λ z. refl) (seats key)))
          done (Err lost.Read) e fits = stills l _ seats _ place x (put_none lost.Read e) (λ key. only_at k key (seats key) None (is_gone (seats key)))
          done (Err lost.Write) e fits = stills l _ seats _ place x (put_none lost.Write e) (λ key. only_at k key (seats key) None (is_gone (seats key)))
          done (Err lost.Sink) e fits = stills l _ seats _ place x (put_none lost.Sink e) (λ key. only_at k key (seats key) None (is_gone (seats key)))

-- A ledger that settles. ----------------------------------------------------------------------------------------------

settles : (most : Option ℕ) (l : LedgerState) → records_of (settled_after most l) ≡ records_of l
settles None l = refl
settles (Some most) l = by l.has_failed refl
  where
    by : (b : Bool) → l.has_failed ≡ b → records_of (settled_by (Some most) (will_take (Some most) l)) ≡ records_of l
    by true e = rw e refl
    by false e = rw e (append_assoc l.taken (take most l.waiting) (drop most l.waiting) ∙ ap (λ (w : List Entry). l.taken ++ w) (take-append-drop most l.waiting))

-- Any turns. ----------------------------------------------------------------------------------------------------------

module _ (r : Rule) (config : Configured) (limit : ℕ) where
  turn : (n : ℕ) (l : LedgerState) (seats : ℕ → Option Seat) (place : ℕ) (t : Turn) (a : Answer) → Fits config limit n l (λ key. life_of (seats key)) t a → AreNumbered l seats place →
      AreNumbered (ledger_behind seats t a l) (λ key. seated r place key t a (seats key)) (place + 1)
  turn n l seats place Open (Opened k) fits x = opens r l seats place k x
  turn n l seats place (Hear k piece) (Heard s due noted) fits x = hears l seats place k due s (take s.used piece) noted x s.done refl config fits.0
  turn n l seats place (Hand k room) (Handed bytes) fits x = stills l l seats _ place x refl (λ key. only_at k key (seats key) _ (is_changed (went_on (λ a. told_on a bytes)) (λ z. refl) (λ z. refl) (seats key)))
  turn n l seats place (Finish k) (Ended how) fits x = stills l l seats _ place x refl (λ key. only_at k key (seats key) _ (is_changed (went_on (λ a. ended_on a (ByPeer how))) (λ z. refl) (λ z. refl) (seats key)))
  turn n l seats place (Close k) Closed fits x = stills l l seats _ place x refl (λ key. only_at k key (seats key) _ (is_changed (went_on (λ a. ended_on a BySelf)) (λ z. refl) (λ z. refl) (seats key)))
  turn n l seats place (Remove k) Removed fits x = stills l l seats _ place x refl (λ key. only_at k key (seats key) None (is_gone (seats key)))
  turn n l seats place (Ruled k rule) Changed fits x = stills l l seats _ place x refl (λ key. only_at k key (seats key) _ (is_changed (ruled_by rule) (λ z. refl) (λ z. refl) (seats key)))
  turn n l seats place (Settle most) (Settled p) fits x = stills l _ seats _ place x (settles most l) (λ key. is_same (seats key))
  turn n l seats place t a fits x = stills l l seats _ place x refl (λ key. is_same (seats key))

  turns : (n : ℕ) (l : LedgerState) (seats : ℕ → Option Seat) (place : ℕ) (ts : List Turn) (answers : List Answer) → AllFit r config limit n l seats place ts answers → AreNumbered l seats place →
      (key : ℕ) (y : Seat) → seat_after r place key ts answers (seats key) ≡ Some y → records_under y.number (ledger_after r l seats place ts answers) ≡ y.life.noted
  turns n l seats place [] [] fit x key y is = x.agree key y is
  turns n l seats place (t ∷ ts) (a ∷ answers) fit x key y is =
      turns (open_behind a n) (ledger_behind seats t a l) (λ k. seated r place k t a (seats k)) (place + 1) ts answers fit.2 (turn n l seats place t a fit.0 x) key y is
  turns n l seats place [] (a ∷ answers) fit x key y is = absurd fit
  turns n l seats place (t ∷ ts) [] fit x key y is = absurd fit

  pub from_none : (room : ℕ) (ts : List Turn) (answers : List Answer) → AllFit r config limit 0 (new_ledger room) (λ key. None) 0 ts answers →
      (key : ℕ) (y : Seat) → seat_after r 0 key ts answers None ≡ Some y → records_under y.number (ledger_after r (new_ledger room) (λ key. None) 0 ts answers) ≡ y.life.noted
  from_none room ts answers fit =
      turns 0 (new_ledger room) (λ key. None) 0 ts answers fit
      (record { agree = λ key y is. absurd (grind (arith, is)); early = λ key y is. absurd (grind (arith, is)); apart = λ j k a b is. absurd (grind (arith, is)); later = λ n le. refl })
