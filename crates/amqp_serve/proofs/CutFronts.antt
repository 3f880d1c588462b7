-- What is made of more units only grows, so serving that broke off made a beginning of what serving to the end makes.
use Rattle.std.proofs.Common.{◌≡◌, ℕ, zero, suc, ◌≤◌, ◌⊎◌, true, List, [], ◌∷◌, ◌++◌, refl, sym, ap, subst, ◌∙◌, Option, Some, None, append_assoc, append-nil}
use Rattle.std.specs.List.{flat_map}
use Rattle.amqp_frame.specs.Units.{StreamUnit, bytes_of, AreUnits, IsRest, due_after, due_behind}
use Rattle.amqp_frame.specs.declared.units.Stage.{Stage}
use Rattle.amqp_frame.specs.declared.units.Stage.TheVariants as due
use Rattle.amqp_frame.proofs.Fronts.{one_front}
use Rattle.amqp_session.specs.Calls as session
use Rattle.amqp_endpoint.specs.declared.event.End.{End}
use Rattle.amqp_endpoint.specs.declared.fault.CallFault.{CallFault}
use Rattle.amqp_serve.specs.declared.rules.Rule.{Rule}
use Rattle.amqp_endpoint.specs.Calls.{call_fault, call_spoken}
use Rattle.amqp_endpoint.specs.Configs.{Configured}
use Rattle.amqp_endpoint.specs.Connections.{slot_at, is_dead}
use Rattle.amqp_serve.specs.Cuts.{Made, called_by, called, answer_at, supply_channel, call_for, topped_by, topped, all_topped, topped_up}
use Rattle.amqp_serve.specs.Cuts.{done_taken, done_from, answered, served_one, served_all, AreTimely, first_made, IsMade, IsFront}
use Rattle.amqp_endpoint.specs.Lines.{line_of}
use Rattle.amqp_endpoint.specs.Replies.{joined, reply_on}
use Rattle.amqp_endpoint.specs.Runs.{InSession, IsStart, accepted_answer}
use Rattle.amqp_serve.specs.Serving.{lack, all_supplies, Stand, ToppingUp, Receiving, Settling, Starved, Over, reading, stand_told, stand_taken}
use Rattle.amqp_serve.specs.declared.supplies.Supply.{Supply}
use Rattle.amqp_serve.specs.Serving.{Step, Serves, moved, recorded, recorded_by, fed}
use Rattle.amqp_endpoint.specs.Steps.{EndpointState, acted_after, acted_outcome}
use Rattle.amqp_serve.proofs.Cuts.{Stops, goes_no_further, new_made, new_good}
use Rattle.amqp_serve.proofs.CutSteps.{made_at}
use Rattle.amqp_serve.proofs.CutRuns.{IsEnded, follows}

-- Beginnings. ---------------------------------------------------------------------------------------------------------

front_all : (xs : List ℕ) → IsFront xs xs
front_all xs = ([], sym (append-nil xs))

front_on : (xs ys zs : List ℕ) → IsFront xs ys → IsFront ys zs → IsFront xs zs
front_on xs ys zs x y = (x.0 ++ y.0, y.1 ∙ ap (λ (l : List ℕ). l ++ y.0) x.1 ∙ append_assoc xs x.0 y.0)

-- nothing that was written or recorded is lost
record Grows (m n : Made) : Type 0 where
  written : IsFront m.written n.written
  recorded : IsFront m.recorded n.recorded

grows_none : (m : Made) → Grows m m
grows_none m = record { written = front_all m.written; recorded = front_all m.recorded }

grows_on : (l m n : Made) → Grows l m → Grows m n → Grows l n
grows_on l m n x y = record { written = front_on l.written m.written n.written x.written y.written; recorded = front_on l.recorded m.recorded n.recorded x.recorded y.recorded }

called_grows : (o : Option CallFault) (m : Made) (channel : ℕ) (c : session.Call) → Grows m (called_by o m channel c)
called_grows None m channel c = record {
  written = (joined (call_spoken m.connection channel c), refl);
  recorded = (recorded_by (InSession channel c) (accepted_answer (slot_at m.connection channel) c), refl);
}
called_grows (Some fault) m channel c = grows_none m

call_grows : (m : Made) (channel : ℕ) (c : session.Call) → Grows m (called m channel c)
call_grows m channel c = called_grows (call_fault m.connection [] channel c) m channel c

given_grows : (n : ℕ) (m : Made) (supply : Supply) → Grows m (topped_by n m supply)
given_grows zero m supply = grows_none m
given_grows (suc n) m supply = call_grows m (supply_channel supply) (call_for supply (suc n))

all_grow : (p : Rule) (supplies : List Supply) (m : Made) → Grows m (all_topped p supplies m)
all_grow p [] m = grows_none m
all_grow p (supply ∷ supplies) m =
    grows_on m (topped p m supply) (all_topped p (supply ∷ supplies) m) (given_grows (lack p m.connection supply) m supply) (all_grow p supplies (topped p m supply))

up_grows : (p : Rule) (m : Made) → Grows m (topped_up p m)
up_grows p m = all_grow p (all_supplies m.connection.config) m

taken_grows : (p : Rule) (a : Stand) (m : Made) → Grows m (done_taken p a m)
taken_grows p (ToppingUp supplies) m = all_grow p supplies m
taken_grows p (Receiving channel handle) m = grows_none m
taken_grows p (Settling channel id) m =
    let after = called m channel (session.Settle id p.outcome) in grows_on m after (topped_up p after) (call_grows m channel (session.Settle id p.outcome)) (up_grows p after)
taken_grows p Starved m = grows_none m
taken_grows p Over m = grows_none m

from_grows : (p : Rule) (a : Stand) (m : Made) → Grows m (done_from p a m)
from_grows p (Receiving channel handle) m =
    let after = called m channel (session.Take handle) in
    let stand = stand_taken after.connection.config channel (answer_at m.connection channel (session.Take handle)) in
    grows_on m after (done_taken p stand after) (call_grows m channel (session.Take handle)) (taken_grows p stand after)
from_grows p (ToppingUp supplies) m = taken_grows p (ToppingUp supplies) m
from_grows p (Settling channel id) m = taken_grows p (Settling channel id) m
from_grows p Starved m = grows_none m
from_grows p Over m = grows_none m

one_grows : (p : Rule) (m : Made) (u : StreamUnit) → Grows m (served_one p m u)
one_grows p m u =
    grows_on m (answered m u) (served_one p m u) (record { written = (reply_on m.connection (line_of m.connection u), refl); recorded = front_all m.recorded })
    (from_grows p (stand_told (acted_after m.connection u).config (acted_outcome m.connection u)) (answered m u))

served_grows : (p : Rule) (m : Made) (us : List StreamUnit) → Grows m (served_all p m us)
served_grows p m [] = grows_none m
served_grows p m (u ∷ us) = grows_on m (served_one p m u) (served_all p m (u ∷ us)) (one_grows p m u) (served_grows p (served_one p m u) us)

-- Fewer units. --------------------------------------------------------------------------------------------------------

-- of a stream up to some place all units stand among those of the whole stream
fewer_grow : (p : Rule) (max : ℕ) → 8 ≤ max → (m : Made) (stage : Stage) (us vs : List StreamUnit) (a b : List ℕ) → flat_map bytes_of us ++ a ≡ flat_map bytes_of vs ++ b →
    AreUnits max stage us → AreUnits max stage vs → AreTimely p m us → Stops p m max stage vs b → Grows (served_all p m us) (served_all p m vs)
fewer_grow p max least m stage [] vs a b e x y i g = served_grows p m vs
fewer_grow p max least m stage (u ∷ us) [] a b e x y i g =
    absurd (goes_no_further p m max stage u b (flat_map bytes_of us ++ a) g i.0 x.0 (sym e ∙ append_assoc (bytes_of u) (flat_map bytes_of us) a))
fewer_grow p max least m stage (u ∷ us) (v ∷ vs) a b e x y i g =
    let first = one_front max stage u v (flat_map bytes_of us ++ a) (flat_map bytes_of vs ++ b) least x.0 y.0
    (sym (append_assoc (bytes_of u) (flat_map bytes_of us) a) ∙ e ∙ append_assoc (bytes_of v) (flat_map bytes_of vs) b) in
    subst (λ (w : StreamUnit). Grows (served_all p (served_one p m u) us) (served_all p (served_one p m w) vs)) first.0
    (fewer_grow p max least (served_one p m u) (due_after u) us vs a b first.1 x.1 (subst (λ (w : StreamUnit). AreUnits max (due_after w) vs) (sym first.0) y.1) i.1
    (subst (λ (w : StreamUnit). Stops p (served_one p m w) max (due_after w) vs b) (sym first.0) g))

-- Until any moment. ---------------------------------------------------------------------------------------------------

-- only one stand is the end
pub is_over : (b : Stand) → IsEnded b → b ≡ Over
is_over (ToppingUp supplies) h = absurd h
is_over (Receiving channel handle) h = absurd h
is_over (Settling channel id) h = absurd h
is_over Starved h = absurd h
is_over Over h = refl

-- What was moved out and recorded until some moment begins what is made of bytes that go on so.
pub begins_whole : (p : Rule) (config : Configured) (end : End) (bytes unfed : List ℕ) (old t : EndpointState) (b : Stand) (xs : List Step) (n : Made) →
    8 ≤ config.max_frame → IsStart config old →
    Serves p reading old xs b t → (b ≡ Over → ⊥) → bytes ≡ fed xs ++ unfed → IsMade p config bytes n end → IsFront (moved xs) n.written × IsFront (recorded xs) n.recorded
begins_whole p config end bytes unfed old t b xs n least start x before goes y =
    let c = follows x (λ h. before (is_over b h)) [] [] (new_good p config old start) in
    let first = new_made config old start in
    let now = made_at t (moved xs) (recorded xs) in
    let one = subst (λ (m : Made). Grows now m) (c.made ∙ ap (λ (m : Made). served_all p m c.units) first) (from_grows p b now) in
    let stops : Stops p (first_made config) config.max_frame due.Header y.units y.rest =
    subst (λ (m : Made). (is_dead m.connection.phase ≡ true) ⊎ IsRest config.max_frame (due_behind due.Header y.units) y.rest) y.is y.behind in
    let joined : flat_map bytes_of c.units ++ (t.input.filled ++ unfed) ≡ flat_map bytes_of y.units ++ y.rest =
    sym (append_assoc (flat_map bytes_of c.units) t.input.filled unfed) ∙ ap (λ (l : List ℕ). l ++ unfed) (sym c.joined ∙ ap (λ (l : List ℕ). l ++ fed xs) start.filled)
    ∙ sym goes ∙ y.joined in
    let each = subst (λ (k : ℕ). AreUnits k due.Header c.units) start.limit (subst (λ (stage : Stage). AreUnits old.input.limit stage c.units) start.stage c.each) in
    let timely = subst (λ (m : Made). AreTimely p m c.units) first c.timely in
    let two = fewer_grow p config.max_frame least (first_made config) due.Header c.units y.units (t.input.filled ++ unfed) y.rest joined each y.each timely stops in
    let all = grows_on now (served_all p (first_made config) c.units) n one (subst (λ (m : Made). Grows (served_all p (first_made config) c.units) m) (sym y.is) two) in
    (front_on (moved xs) (moved xs ++ t.unsent) n.written (t.unsent, refl) all.written, all.recorded)
