-- What is asked for a link, and how its answer goes out.
use Rattle.std.proofs.Common.{arith, ◌≡◌, ℕ, zero, suc, true, List, [], ◌∷◌, ◌++◌, Option, Some, None, Result, Ok, Err, refl, sym, ap, subst, ◌∙◌, drop, append_assoc, append-nil}
use Rattle.std.proofs.lemmas.List.{take-append-drop}
use Rattle.std.specs.Io.KnownBytes.{Appends, Keeps}
use Rattle.amqp_session.specs.Calls as session
use Rattle.amqp_session.specs.Calls.{Grant}
use Rattle.amqp_endpoint.specs.Calls.{call_fault, call_event, call_spoken}
use Rattle.amqp_endpoint.specs.Replies.{joined}
use Rattle.amqp_endpoint.specs.Runs.{IsWritten}
use Rattle.amqp_endpoint.specs.Steps.{EndpointState}
use Rattle.amqp_serve.specs.declared.links.LinkFault.{LinkFault}
use Rattle.amqp_serve.specs.declared.links.LinkFault.TheVariants as refused
use Rattle.amqp_serve.specs.declared.rules.Rule.{Rule}
use Rattle.amqp_serve.specs.declared.server.Status.{Status}
use Rattle.amqp_serve.specs.declared.serving.ServeFault.{ServeFault}
use Rattle.amqp_serve.specs.Deeds.{no_deeds, Ends, WentOn, WentOff}
use Rattle.amqp_serve.specs.Links.{GoesOut, IsCalled, IsCutOff, IsSaid, IsStill, Says, TopsUp, status_behind}
use Rattle.amqp_serve.specs.Servers.{hears}
use Rattle.amqp_serve.specs.Serving.{Stand, Over, Step, Serves, Rests, MovesOut, moved, recorded}
use Rattle.amqp_serve.proofs.Servings.{unchanged_on}

-- What waits goes out. ------------------------------------------------------------------------------------------------

-- bytes were moved out, and nothing else was done
record AreMoved (s t : EndpointState) (xs : List Step) : Type 0 where
  bytes : s.unsent ≡ moved xs ++ t.unsent
  noted : recorded xs ≡ []
  still : IsStill s t

-- once the input has ended no more than that is done
moves : {p : Rule} {b : Stand} {s t : EndpointState} {xs : List Step} → Serves p Over s xs b t → AreMoved s t xs
moves Rests = record { bytes = refl; noted = refl; still = record { input = record { limit = refl; stage = refl; filled = refl }; connection = refl } }
moves (MovesOut {p} {a} {b} {s} {last} {steps} next room bytes does x) =
    let y = moves x in record {
      bytes = sym (take-append-drop room s.unsent)
          ∙ ap (λ (l : List ℕ). l ++ drop room s.unsent) (sym does.moved)
          ∙ ap (λ (l : List ℕ). bytes ++ l) (sym does.unsent ∙ y.bytes)
          ∙ sym (append_assoc bytes (moved steps) last.unsent);
      noted = y.noted;
      still = record { input = unchanged_on does.input y.still.input; connection = y.still.connection ∙ does.connection };
    }

keeps : (a b : Option (List ℕ)) → Appends a b [] → Keeps a b
keeps None b x = tt
keeps (Some a) None x = absurd x
keeps (Some a) (Some b) x = x ∙ append-nil a

first_none : (xs ys : List ℕ) → xs ++ ys ≡ [] → xs ≡ []
first_none [] ys e = refl
first_none (x ∷ xs) ys e = absurd (grind (arith, e))

pub went_out : {p : Rule} {s t : EndpointState} {e f : Ends} → WentOn p no_deeds Over Over s t e f → t.unsent ≡ [] → IsStill s t × IsSaid s.unsent t e f
went_out {p} {s} {t} {e} {f} on none =
    let served = on.works.served in
    let y = moves served.serves in (
      y.still,
      record {
        sent = none;
        written = subst (λ (l : List ℕ). Appends e.writer f.writer l) (sym (y.bytes ∙ ap (λ (l : List ℕ). moved served.steps ++ l) none ∙ append-nil (moved served.steps))) served.written;
        recorded = keeps e.sink f.sink (subst (λ (l : List ℕ). Appends e.sink f.sink l) y.noted served.recorded);
        still = on.still;
      },
    )

pub cut_off : {p : Rule} {x : ServeFault} {s t : EndpointState} {e f : Ends} → WentOff p x Over s t e f → IsStill s t × IsCutOff x s.unsent t e f
cut_off {p} {x} {s} {t} {e} {f} off =
    let broke = off.broke in
    let y = moves broke.serves in
    let none = first_none broke.noted broke.unnoted (sym broke.records ∙ y.noted) in (
      record { input = unchanged_on y.still.input broke.same.input; connection = broke.same.connection ∙ y.still.connection },
      record {
        which = off.which;
        begun = moved broke.steps;
        whole = y.bytes ∙ ap (λ (l : List ℕ). moved broke.steps ++ l) (sym broke.same.unsent);
        written = broke.written;
        recorded = keeps e.sink f.sink (subst (λ (l : List ℕ). Appends e.sink f.sink l) none broke.sink);
        marked = off.marked;
      },
    )

-- What a call comes to. -----------------------------------------------------------------------------------------------

-- The answer to a call that was accepted goes out.
pub says : (r : Result (Unit {0}) LinkFault) (channel : ℕ) (c : session.Call) (s t u : EndpointState) (e f : Ends) → s.unsent ≡ [] → call_fault s.connection s.unsent channel c ≡ None
    → IsWritten s t (call_event s.connection channel c) (joined (call_spoken s.connection channel c)) → GoesOut r t u e f → Says r channel c s u e f
says r channel c s t u e f none accepted written out = by r out
  where
    called : IsStill t u → IsCalled channel c s u
    called still = record {
      accepted = subst (λ (l : List ℕ). call_fault s.connection l channel c ≡ None) none accepted;
      input = unchanged_on written.input still.input;
      connection = still.connection ∙ written.connection;
    }

    answer : t.unsent ≡ joined (call_spoken s.connection channel c)
    answer = written.unsent ∙ ap (λ (l : List ℕ). l ++ joined (call_spoken s.connection channel c)) none

    by : (r : Result (Unit {0}) LinkFault) → GoesOut r t u e f → Says r channel c s u e f
    by (Ok x) o = (called o.0, subst (λ (l : List ℕ). IsSaid l u e f) answer o.1)
    by (Err refused.Over) o = absurd o
    by (Err (refused.Call x)) o = absurd o
    by (Err (refused.Lost x)) o = (called o.0, subst (λ (l : List ℕ). IsCutOff x l u e f) answer o.1)

-- A server that still hears has nothing that waits.
pub rests : {X : Type 0} (r : Result X LinkFault) (before : Status) (channel : ℕ) (c : session.Call) (s t : EndpointState) (e f : Ends) → Says r channel c s t e f → s.unsent ≡ []
    → hears (status_behind before r) ≡ true → t.unsent ≡ []
rests (Ok x) before channel c s t e f says none is = says.1.sent
rests (Err refused.Over) before channel c s t e f says none is = absurd says
rests (Err (refused.Call x)) before channel c s t e f says none is = says.1.unsent ∙ none
rests (Err (refused.Lost x)) before channel c s t e f says none is = absurd (grind (arith, is))

pub topped_rests : (n : ℕ) (r : Result ℕ LinkFault) (before : Status) (channel handle : ℕ) (s t : EndpointState) (e f : Ends) → TopsUp n r channel handle s t e f → s.unsent ≡ []
    → hears (status_behind before r) ≡ true → t.unsent ≡ []
topped_rests zero r before channel handle s t e f tops none is = ap (λ (x : EndpointState). x.unsent) tops.1 ∙ none
topped_rests (suc n) r before channel handle s t e f tops none is = rests r before channel (Grant handle (suc n)) s t e f tops.0 none is
