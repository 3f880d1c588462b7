-- A connection of a hub begins, goes on and ends, and is what its own calls alone give.
use Rattle.std.proofs.Common.{◌≡◌, ℕ, ◌+◌, ◌-◌, ◌<◌, ◌≤◌, arith, inl, inr, Bool, true, false, List, [], ◌∷◌, ◌++◌, length, length-append, take, drop, Option, Some, None, Result, Ok, Err, refl, sym, ap, subst, ◌∙◌, append-nil, append_assoc}
use Rattle.std.proofs.lemmas.Bool.{ltb-true, cases_lt}
use Rattle.std.proofs.lemmas.List.{take-append-drop, length-drop, length-take-le, take_all, take-append-le}
use Rattle.std.specs.Prelude.{nat_lt}
use Rattle.std.specs.Io.KnownBytes.{Appends}
use Rattle.amqp_endpoint.specs.declared.event.End.{End}
use Rattle.amqp_endpoint.specs.Calls.{open_call_fault}
use Rattle.amqp_endpoint.specs.Configs.{Configured}
use Rattle.amqp_endpoint.specs.Connections.{is_dead}
use Rattle.amqp_endpoint.specs.Steps.{EndpointState}
use Rattle.amqp_endpoint.specs.declared.event.Outcome.{Outcome}
use Rattle.amqp_serve.specs.declared.rules.Rule.{Rule}
use Rattle.amqp_serve.specs.declared.serving.ServeFault.{ServeFault}
use Rattle.amqp_serve.specs.declared.serving.ServeFault.TheVariants as lost
use Rattle.amqp_serve.specs.declared.server.Status.{Status}
use Rattle.amqp_serve.specs.declared.server.Status.TheVariants as status
use Rattle.amqp_serve.specs.declared.steps.Done.{Done}
use Rattle.amqp_serve.specs.declared.steps.Stepped.{Stepped}
use Rattle.amqp_serve.specs.Deeds.{Ends, HasStepped, HasStopped, IsStepped, IsNotedAs}
use Rattle.amqp_serve.specs.Kept as kept
use Rattle.amqp_serve.specs.Lives as lived
use Rattle.amqp_serve.specs.Lives.{Heard, Life, Parting, ByPeer, BySelf, new_life, starved_on, told_on, ended_on, IsAlone, IsOver, IsOpen, IsNotOpen}
use Rattle.amqp_serve.specs.Rooms.{answers_room, record_room}
use Rattle.amqp_serve.specs.Servers as server
use Rattle.amqp_serve.specs.Servers.{ServerState, hears, is_over, status_after}
use Rattle.amqp_serve.specs.Serving.{moved, recorded}
use Rattle.amqp_hub.specs.Members.{MemberState, unsent_of, answers_most, hear_fault, IsNew, IsHeard, IsSame, IsSent, IsFinishedSo, IsClosed}
use Rattle.amqp_hub.specs.Turns.{Seat, new_seat, went_on, heard_on}
use Rattle.amqp_hub.specs.Kept.{written_life, IsSeat}

-- Known bytes. --------------------------------------------------------------------------------------------------------

-- what was put after these bytes
pub appends_to : (e f : Option (List ℕ)) (before w bytes : List ℕ) → e ≡ Some before → f ≡ Some w → Appends e f bytes → w ≡ before ++ bytes
appends_to e f before w bytes is was x = subst (λ (o : Option (List ℕ)). Appends (Some before) o bytes) was (subst (λ (o : Option (List ℕ)). Appends o f bytes) is x)

-- Lives. --------------------------------------------------------------------------------------------------------------

abbrev life : List Heard → List ℕ → Bool → List ℕ → List ℕ → ℕ → Option Parting → Life
life heard untried starved told noted due ended = record { heard = heard; untried = untried; starved = starved; told = told; noted = noted; due = due; ended = ended }

same_life : (h i : List Heard) (untried : List ℕ) (starved : Bool) (t u n o : List ℕ) (d e : ℕ) (ended : Option Parting) → h ≡ i → t ≡ u → n ≡ o → d ≡ e → life h untried starved t n d ended ≡ life i untried starved u o e ended
same_life h i untried starved t u n o d e ended p q r s =
    ap (λ (x : List Heard). life x untried starved t n d ended) p ∙ ap (λ (x : List ℕ). life i untried starved x n d ended) q
    ∙ ap (λ (x : List ℕ). life i untried starved u x d ended) r ∙ ap (λ (x : ℕ). life i untried starved u o x ended) s

-- what a connection that hears is
hears_on : (m : MemberState) → hear_fault m ≡ None → (hears m.server.status ≡ true) × (length m.waiting < answers_most)
hears_on m is = by (hears m.server.status) (is_dead m.server.endpoint.connection.phase) (nat_lt (length m.waiting) answers_most) refl refl refl
  where
    by : (a b c : Bool) → hears m.server.status ≡ a → is_dead m.server.endpoint.connection.phase ≡ b → nat_lt (length m.waiting) answers_most ≡ c → (hears m.server.status ≡ true) × (length m.waiting < answers_most)
    by true false true e f g = (e, ltb-true (length m.waiting) answers_most g)
    by true false false e f g = absurd (grind (arith, is, e, f, g))
    by true true c e f g = absurd (grind (arith, is, e, f))
    by false b c e f g = absurd (grind (arith, is, e))

module _ (config : Configured) (go : kept.LifeGoesOn config) where
  -- all that its server has to write waits
  pub waits_all : (x : Seat) (m : MemberState) → IsSeat config x m → server.waiting m.server ≡ m.server.endpoint.unsent
  waits_all x m s =
      elim s.lives.goes [
        | inl g ↦ ap (λ (t : Status). server.waiting_by t m.server.endpoint.unsent) g.status ∙ going x.life.starved
        | inr o ↦ ap (λ (t : Status). server.waiting_by t m.server.endpoint.unsent) o.status
      ]
    where
      going : (b : Bool) → server.waiting_by (kept.status_of b) m.server.endpoint.unsent ≡ m.server.endpoint.unsent
      going true = refl
      going false = refl

  -- how many bytes wait
  pub due_is : (x : Seat) (m : MemberState) → IsSeat config x m → length (unsent_of m) ≡ x.life.due
  due_is x m s = let all = ap (λ (l : List ℕ). length l) (waits_all x m s) in omega (arith, all, s.due, s.lives.due, length-append m.waiting (server.waiting m.server))

  pub starts : (r : Rule) (number : ℕ) (m : MemberState) → IsNew config r number m → IsSeat config (new_seat r number) m
  starts r number m new =
      let none = ap (λ (l : List ℕ). length l) new.waiting in
      record {
        rule = new.rule;
        number = new.number;
        room = omega (arith, none);
        due = omega (arith, none);
        lives = subst (λ (l : Life). kept.IsLife config l m.server)
            (same_life [] [] [] false [] ([] ++ m.waiting) [] [] 0 (0 - length m.waiting) None refl (sym new.waiting) refl (omega (arith, none)))
            (go.starts m.server new.within new.begins new.status);
      }

  module _ (x : Seat) (a b : MemberState) (piece : List ℕ) (s : Stepped) (noted : List ℕ) (may : hear_fault a ≡ None) (h : IsHeard a b piece s (Some []) (Some noted)) (old : IsSeat config x a) where
    abbrev bytes : List ℕ
    bytes = take s.used piece

    -- a step that was made
    module _ (d : Done) (done : s.done ≡ Ok d) where
      step : HasStepped a.rule s.told d bytes a.server.endpoint b.server.endpoint h.before h.after
      step = subst (λ (q : Result Done ServeFault). IsStepped a.rule bytes s.told q a.server.endpoint b.server.endpoint h.before h.after) done h.stepped

      -- the answers to it
      abbrev more : List ℕ
      more = moved step.served.steps

      waits : b.waiting ≡ a.waiting ++ more
      waits = appends_to h.before.writer h.after.writer a.waiting b.waiting more h.writer h.wrote step.served.written

      notes : noted ≡ recorded step.served.steps
      notes = appends_to h.before.sink h.after.sink [] noted (recorded step.served.steps) h.sink h.noted step.served.recorded

      stepped : kept.IsLife config (lived.heard_on (written_life x.life a.waiting) a.rule bytes more (recorded step.served.steps)) b.server × (length more ≤ answers_room config) × (length (recorded step.served.steps) ≤ record_room config)
      stepped =
          go.steps (written_life x.life a.waiting) a.server b.server a.rule bytes s.told d h.before h.after (hears_on a may).0 step (h.status ∙ ap (λ (q : Result Done ServeFault). status_after q) done) old.lives

      pub heard : IsSeat config (heard_on x bytes (length (unsent_of b)) noted) b
      heard =
          let l = x.life in
          let long = ap (λ (w : List ℕ). length w) waits in
          let rests : b.server.status ≡ status.Serving = h.status ∙ ap (λ (q : Result Done ServeFault). status_after q) done in
          let all_left = ap (λ (t : Status). length (server.waiting_by t b.server.endpoint.unsent)) rests in
          record {
            rule = h.rule ∙ old.rule;
            number = h.number ∙ old.number;
            room = omega (arith, long, length-append a.waiting more, (hears_on a may).1, stepped.1);
            due = omega (arith, length-append b.waiting (server.waiting b.server));
            lives = subst (λ (l : Life). kept.IsLife config l b.server)
                (same_life (l.heard ++ record { rule = a.rule; bytes = l.untried ++ bytes } ∷ []) (l.heard ++ record { rule = x.rule; bytes = l.untried ++ bytes } ∷ []) [] false
                ((l.told ++ a.waiting) ++ more) ((l.told ++ []) ++ b.waiting) (l.noted ++ recorded step.served.steps) (l.noted ++ noted) (l.due - length a.waiting) (length (unsent_of b) - length b.waiting) l.ended
                (ap (λ (r : Rule). l.heard ++ record { rule = r; bytes = l.untried ++ bytes } ∷ []) old.rule)
                (append_assoc l.told a.waiting more ∙ ap (λ (w : List ℕ). l.told ++ w) (sym waits) ∙ ap (λ (w : List ℕ). w ++ b.waiting) (sym (append-nil l.told)))
                (ap (λ (w : List ℕ). l.noted ++ w) (sym notes)) (omega (arith, stepped.0.due, all_left, length-append b.waiting (server.waiting b.server))))
                stepped.0;
          }

      -- what it recorded
      pub noted_so : ((r : Rule) (told : Outcome) (d : Done) (bytes : List ℕ) (old new : EndpointState) (e f : Ends) → (x : HasStepped r told d bytes old new e f) → IsNotedAs told d.receipt (recorded x.served.steps)) →
          IsNotedAs s.told d.receipt noted × (length noted ≤ record_room config)
      noted_so law =
          let long = ap (λ (l : List ℕ). length l) notes in (
            subst (λ (l : List ℕ). IsNotedAs s.told d.receipt l) (sym notes) (law a.rule s.told d bytes a.server.endpoint b.server.endpoint h.before h.after step),
            omega (arith, long, stepped.2),
          )

    -- one that was refused memory
    module _ (done : s.done ≡ Err lost.NoMemory) where
      stop : HasStopped a.rule lost.NoMemory bytes a.server.endpoint b.server.endpoint h.before h.after
      stop = subst (λ (q : Result Done ServeFault). IsStepped a.rule bytes s.told q a.server.endpoint b.server.endpoint h.before h.after) done h.stepped

      same : h.after ≡ h.before
      same = (stop.still refl).1

      -- nothing more waits, and nothing was recorded
      quiet : b.waiting ≡ a.waiting
      quiet = let e : Some b.waiting ≡ Some a.waiting = sym h.wrote ∙ ap (λ (q : Ends). q.writer) same ∙ h.writer in grind (arith, e)

      unnoted : noted ≡ []
      unnoted = let e : Some noted ≡ Some [] = sym h.noted ∙ ap (λ (q : Ends). q.sink) same ∙ h.sink in grind (arith, e)

      starved : IsSeat config (went_on (λ l. starved_on l bytes) x) b
      starved = record {
        rule = h.rule ∙ old.rule;
        number = h.number ∙ old.number;
        room = subst (λ (w : List ℕ). length w ≤ answers_most + answers_room config) (sym quiet) old.room;
        due = subst (λ (w : List ℕ). length w ≤ x.life.due) (sym quiet) old.due;
        lives = subst (λ (w : List ℕ). kept.IsLife config (written_life (starved_on x.life bytes) w) b.server) (sym quiet)
            (go.starves (written_life x.life a.waiting) a.server b.server a.rule bytes h.before h.after (hears_on a may).0 stop (h.status ∙ ap (λ (q : Result Done ServeFault). status_after q) done) old.lives);
      }

      pub starves : IsSeat config (went_on (λ l. starved_on l bytes) x) b × (length (unsent_of b) ≡ x.life.due) × (noted ≡ [])
      starves = (starved, due_is (went_on (λ l. starved_on l bytes) x) b starved, unnoted)

  -- The first bytes that waited were handed out.
  module _ (x : Seat) (a b : MemberState) (out : List ℕ) (h : IsSent a b (length out)) (is : out ≡ take (length out) (unsent_of a)) (old : IsSeat config x a) where
    abbrev n : ℕ
    n = length out

    abbrev words : List ℕ
    words = take (n - length a.waiting) (server.waiting a.server)

    long : length words ≡ n - length a.waiting
    long = length-take-le (n - length a.waiting) (server.waiting a.server) h.server.bound

    -- what waited, in two parts
    parts : out ++ b.waiting ≡ a.waiting ++ words
    parts = elim (cases_lt (length a.waiting) n) [
      | inl behind ↦
          let few : length (a.waiting ++ words) ≡ n = omega (arith, behind, long, length-append a.waiting words) in
          let rest = drop (n - length a.waiting) (server.waiting a.server) in
          let whole : (a.waiting ++ words) ++ rest ≡ unsent_of a =
          append_assoc a.waiting words rest ∙ ap (λ (w : List ℕ). a.waiting ++ w) (take-append-drop (n - length a.waiting) (server.waiting a.server)) in
          let first : take n (unsent_of a) ≡ a.waiting ++ words =
          ap (λ (w : List ℕ). take n w) (sym whole) ∙ take-append-le n (a.waiting ++ words) rest (omega (arith, few)) ∙ take_all n (a.waiting ++ words) (omega (arith, few)) in
          let none : b.waiting ≡ [] = no_bytes b.waiting (let d = ap (λ (w : List ℕ). length w) h.waiting in omega (arith, d, length-drop n a.waiting, behind)) in
          ap (λ (w : List ℕ). out ++ w) none ∙ append-nil out ∙ is ∙ first
      | inr within ↦
          let no : words ≡ [] = no_bytes words (omega (arith, long, within)) in
          let first : take n (unsent_of a) ≡ take n a.waiting = take-append-le n a.waiting (server.waiting a.server) (omega (arith, within)) in
          ap (λ (w : List ℕ). w ++ b.waiting) (is ∙ first) ∙ ap (λ (w : List ℕ). take n a.waiting ++ w) h.waiting ∙ take-append-drop n a.waiting
          ∙ sym (append-nil a.waiting) ∙ ap (λ (w : List ℕ). a.waiting ++ w) (sym no)
    ]
      where
        no_bytes : (w : List ℕ) → length w ≡ 0 → w ≡ []
        no_bytes [] e = refl
        no_bytes (c ∷ w) e = absurd (grind (arith, e))

    told : kept.IsLife config (told_on (written_life x.life a.waiting) words) b.server
    told =
        go.hands (written_life x.life a.waiting) a.server b.server words (subst (λ (k : ℕ). server.IsSent a.server b.server k) (sym long) h.server)
        (ap (λ (k : ℕ). take k (server.waiting a.server)) (sym long) ∙ ap (λ (w : List ℕ). take (length words) w) (waits_all x a old)) old.lives

    pub hands : IsSeat config (went_on (λ l. told_on l out) x) b
    hands =
        let l = x.life in
        let left = ap (λ (w : List ℕ). length w) h.waiting ∙ length-drop n a.waiting in
        record {
          rule = h.rule ∙ old.rule;
          number = h.number ∙ old.number;
          room = omega (arith, left, old.room);
          due = omega (arith, left, old.due);
          lives = subst (λ (l : Life). kept.IsLife config l b.server)
              (same_life l.heard l.heard l.untried l.starved ((l.told ++ a.waiting) ++ words) ((l.told ++ out) ++ b.waiting) l.noted l.noted (l.due - length a.waiting - length words) (l.due - n - length b.waiting) l.ended refl
              (append_assoc l.told a.waiting words ∙ ap (λ (w : List ℕ). l.told ++ w) (sym parts) ∙ sym (append_assoc l.told out b.waiting)) refl
              (omega (arith, left, long, old.due)))
              told;
        }

  pub stays : (x : Seat) (a b : MemberState) → IsSame a b → IsSeat config x a → IsSeat config x b
  stays x a b h old = record {
    rule = h.rule ∙ old.rule;
    number = h.number ∙ old.number;
    room = subst (λ (w : List ℕ). length w ≤ answers_most + answers_room config) (sym h.waiting) old.room;
    due = subst (λ (w : List ℕ). length w ≤ x.life.due) (sym h.waiting) old.due;
    lives = subst (λ (w : List ℕ). kept.IsLife config (written_life x.life w) b.server) (sym h.waiting) (go.stays (written_life x.life a.waiting) a.server b.server h.server old.lives);
  }

  -- it ended
  module _ (x : Seat) (a b : MemberState) (e : Parting) (rule : b.rule ≡ a.rule) (number : b.number ≡ a.number) (waiting : b.waiting ≡ a.waiting) (old : IsSeat config x a)
      (lives : kept.IsLife config (ended_on (written_life x.life a.waiting) e) b.server) where
    pub ends : IsSeat config (went_on (λ l. ended_on l e) x) b
    ends =
        let long = ap (λ (w : List ℕ). length w) waiting in
        let l = x.life in
        record {
          rule = rule ∙ old.rule;
          number = number ∙ old.number;
          room = omega (arith, long, old.room);
          due = omega (arith, long, old.due);
          lives = subst (λ (k : Life). kept.IsLife config k b.server)
              (same_life l.heard l.heard l.untried l.starved (l.told ++ a.waiting) (l.told ++ b.waiting) l.noted l.noted (l.due - length a.waiting + length (lived.last_words (Some e)))
              (l.due + length (lived.last_words (Some e)) - length b.waiting) (Some e) refl (ap (λ (w : List ℕ). l.told ++ w) (sym waiting)) refl (omega (arith, long, old.due)))
              lives;
        }

  pub finishes : (x : Seat) (a b : MemberState) (how : End) → IsFinishedSo a b how → IsSeat config x a → IsSeat config (went_on (λ l. ended_on l (ByPeer how)) x) b
  finishes x a b how h old = ends x a b (ByPeer how) h.rule h.number h.waiting old (go.finishes (written_life x.life a.waiting) a.server b.server how h.server old.lives)

  pub closes : (x : Seat) (a b : MemberState) → IsClosed a b → IsSeat config x a → IsSeat config (went_on (λ l. ended_on l BySelf) x) b
  closes x a b h old = ends x a b BySelf h.rule h.number h.waiting old (go.closes (written_life x.life a.waiting) a.server b.server h.server old.lives)

-- What its own calls alone give. --------------------------------------------------------------------------------------

module _ (config : Configured) (law : kept.LifeIsAlone config) where
  pub alone : (x : Seat) (m : MemberState) → IsSeat config x m → IsAlone config x.life
  alone x m s =
      let y = law.alone (written_life x.life m.waiting) m.server s.lives in
      let t = y.is in
      record {
        rest = m.waiting ++ y.rest;
        is = record {
          made = t.made;
          end = t.end;
          is = t.is;
          untried = t.untried;
          noted = t.noted;
          told = sym (append_assoc x.life.told m.waiting y.rest) ∙ t.told;
          ended = t.ended;
        };
        due = omega (arith, length-append m.waiting y.rest, y.due, s.due);
      }

  -- as long as it has not ended it hears
  goes_on : (x : Seat) (m : MemberState) → IsSeat config x m → x.life.ended ≡ None → hears m.server.status ≡ true
  goes_on x m s none =
      elim s.lives.goes [
        | inl g ↦ ap (λ (t : Status). hears t) g.status ∙ hearing x.life.starved
        | inr o ↦ absurd (o.ended none)
      ]
    where
      hearing : (b : Bool) → hears (kept.status_of b) ≡ true
      hearing true = refl
      hearing false = refl

  pub over : (x : Seat) (m : MemberState) → IsSeat config x m → x.life.ended ≡ None → is_over m.server ≡ true → IsOver config x.life
  over x m s none is =
      let on = goes_on x m s none in
      let dead : is_dead m.server.endpoint.connection.phase ≡ true = grind (arith, is, on) in
      let y = law.over (written_life x.life m.waiting) m.server s.lives none dead in
      record { made = y.made; end = y.end; is = y.is; over = y.over }

  pub opened : (x : Seat) (m : MemberState) → IsSeat config x m → x.life.ended ≡ None → open_call_fault m.server.endpoint.connection [] ≡ None → IsOpen config x.life
  opened x m s none is =
      let y = law.opened (written_life x.life m.waiting) m.server s.lives none is in
      record { made = y.made; end = y.end; is = y.is; is_open = y.is_open }

  pub unopened : (x : Seat) (m : MemberState) → IsSeat config x m → x.life.ended ≡ None → (open_call_fault m.server.endpoint.connection [] ≡ None → ⊥) → IsNotOpen config x.life
  unopened x m s none is =
      let y = law.unopened (written_life x.life m.waiting) m.server s.lives none is in
      record { made = y.made; end = y.end; is = y.is; not_open = y.not_open }
