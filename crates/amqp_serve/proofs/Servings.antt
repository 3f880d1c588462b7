-- Serving that goes on, or breaks off.
use Rattle.std.proofs.Common.{◌≡◌, ℕ, ◌≤◌, ◌⊎◌, inl, inr, List, [], ◌∷◌, ◌++◌, Option, length, take, drop, refl, sym, ap, subst, ◌∙◌, append_assoc, append-nil, map, OnErr}
use Rattle.std.proofs.Common.{Result, Ok, Err, IfErr}
use Rattle.std.proofs.KnownBytes.{Appends-nil, Appends-trans, Appends-kept}
use Rattle.std.proofs.lemmas.Grind.{flat_map-append}
use Rattle.std.proofs.lemmas.List.{take-append-le}
use Rattle.std.specs.Io.KnownBytes.{Keeps, Appends}
use Rattle.amqp_frame.specs.Splits.{SplitterState, IsUnchanged}
use Rattle.amqp_serve.specs.declared.rules.Rule.{Rule}
use Rattle.amqp_serve.specs.declared.serving.ServeFault.{ServeFault}
use Rattle.amqp_serve.specs.declared.serving.ServeFault.TheVariants as fault
use Rattle.amqp_endpoint.specs.Runs.{InSession, Output, HandedUp, MovedOut, Does, Run}
use Rattle.amqp_session.specs.Calls.{Take}
use Rattle.amqp_serve.specs.Serving.{Stand, Step, Serves, Rests, MovesOut, Feeds, Takes, Settles, TopsUp, Passes, Finishes, lack, top_up_by, recorded_by, fed}
use Rattle.amqp_serve.specs.declared.supplies.Supply.{Supply}
use Rattle.amqp_serve.specs.declared.supplies.Supply.TheVariants.{WindowOf, CreditOf}
use Rattle.amqp_serve.specs.Serving.{moved, recorded, Served, IsLeft, BrokeOff, Works}
use Rattle.amqp_frame.specs.Devices.{AppendsFront}
use Rattle.amqp_endpoint.specs.Steps.{EndpointState, IsKept}
use Rattle.amqp_endpoint.specs.Traces.{IsInRange, AreInRange, moved_by, taken_by}

-- one list of steps behind another
pub serves_on : {p : Rule} {a b c : Stand} {s t u : EndpointState} {xs ys : List Step} → Serves p a s xs b t → Serves p b t ys c u → Serves p a s (xs ++ ys) c u
serves_on Rests y = y
serves_on (MovesOut next room bytes does x) y = MovesOut next room bytes does (serves_on x y)
serves_on (Feeds next piece used told none bytes does x) y = Feeds next piece used told none bytes does (serves_on x y)
serves_on (Takes next channel handle answer does x) y = Takes next channel handle answer does (serves_on x y)
serves_on (Settles next channel id answer none small does x) y = Settles next channel id answer none small does (serves_on x y)
serves_on (TopsUp next supply supplies answer none lacks does x) y = TopsUp next supply supplies answer none lacks does (serves_on x y)
serves_on (Passes supply supplies lacks x) y = Passes supply supplies lacks (serves_on x y)
serves_on (Finishes next end none does x) y = Finishes next end none does (serves_on x y)

-- what is served is a run
pub run_of : {p : Rule} {a b : Stand} {s t : EndpointState} {xs : List Step} → Serves p a s xs b t → Run s (map (λ x. x.call) xs) (map (λ x. x.answer) xs) t
run_of Rests = refl
run_of (MovesOut next room bytes does x) = (next, does, run_of x)
run_of (Feeds next piece used told none bytes does x) = (next, does, run_of x)
run_of (Takes next channel handle answer does x) = (next, does, run_of x)
run_of (Settles next channel id answer none small does x) = (next, does, run_of x)
run_of (TopsUp next supply supplies answer none lacks does x) = (next, does, run_of x)
run_of (Passes supply supplies lacks x) = run_of x
run_of (Finishes next end none does x) = (next, does, run_of x)

pub top_up_ranges : (supply : Supply) (n : ℕ) → IsInRange (top_up_by supply n)
top_up_ranges (WindowOf channel) n = tt
top_up_ranges (CreditOf channel handle) n = tt

-- and its calls are in range
pub ranges_of : {p : Rule} {a b : Stand} {s t : EndpointState} {xs : List Step} → Serves p a s xs b t → AreInRange (map (λ x. x.call) xs)
ranges_of Rests = tt
ranges_of (MovesOut next room bytes does x) = (tt, ranges_of x)
ranges_of (Feeds next piece used told none bytes does x) = (bytes, ranges_of x)
ranges_of (Takes next channel handle answer does x) = (tt, ranges_of x)
ranges_of (Settles next channel id answer none small does x) = (small, ranges_of x)
ranges_of {p} (TopsUp {s} next supply supplies answer none lacks does x) = (top_up_ranges supply (lack p s.connection supply), ranges_of x)
ranges_of (Passes supply supplies lacks x) = ranges_of x
ranges_of (Finishes next end none does x) = (tt, ranges_of x)

pub fed_on : (xs ys : List Step) → fed (xs ++ ys) ≡ fed xs ++ fed ys
fed_on xs ys = flat_map-append (λ x. taken_by x.call x.answer) xs ys

pub moved_on : (xs ys : List Step) → moved (xs ++ ys) ≡ moved xs ++ moved ys
moved_on xs ys = flat_map-append (λ x. moved_by x.answer) xs ys

pub recorded_on : (xs ys : List Step) → recorded (xs ++ ys) ≡ recorded xs ++ recorded ys
recorded_on xs ys = flat_map-append (λ x. recorded_by x.call x.answer) xs ys

-- nothing has changed
pub kept_same : (s : EndpointState) → IsKept s s
kept_same s = record { input = record { limit = refl; stage = refl; filled = refl }; unsent = refl; connection = refl }

-- what is left behind more steps, of which all was recorded
left_on : (e : ServeFault) (stand : Stand) (xs ys : List Step) (noted unnoted : List ℕ) → IsLeft e stand ys noted unnoted → IsLeft e stand (xs ++ ys) (recorded xs ++ noted) unnoted
left_on fault.Read stand xs ys noted unnoted x = x
left_on fault.Write stand xs ys noted unnoted x = x
left_on fault.Sink stand xs ys noted unnoted (inl none) = inl none
left_on fault.Sink stand xs ys noted unnoted (inr b) = inr (record {
  before = xs ++ b.before;
  channel = b.channel;
  handle = b.handle;
  handed = b.handed;
  split = ap (λ (l : List Step). xs ++ l) b.split ∙ sym (append_assoc xs b.before (record { call = InSession b.channel (Take b.handle); answer = HandedUp b.handed } ∷ []));
  part = b.part;
  all = ap (λ (l : List ℕ). recorded xs ++ l) b.all ∙ sym (append_assoc (recorded xs) (recorded b.before) b.part) ∙ ap (λ (l : List ℕ). l ++ b.part) (sym (recorded_on xs b.before));
})
left_on fault.NoMemory stand xs ys noted unnoted x = x

module _ {p : Rule} {a b : Stand} {bytes : List ℕ} {s t u : EndpointState} {w w1 w2 k k1 k2 : Option (List ℕ)} where
  -- serving goes on
  unfoldable pub served_on : {c : Stand} {more : List ℕ} → Served p a b bytes s t w w1 k k1 → Served p b c more t u w1 w2 k1 k2 → Served p a c (bytes ++ more) s u w w2 k k2
  served_on x y = record {
    steps = x.steps ++ y.steps;
    serves = serves_on x.serves y.serves;
    fed = fed_on x.steps y.steps ∙ ap (λ (l : List ℕ). l ++ fed y.steps) x.fed ∙ ap (λ (l : List ℕ). bytes ++ l) y.fed;
    written = subst (λ (l : List ℕ). Appends w w2 l) (sym (moved_on x.steps y.steps)) (Appends-trans w w1 w2 (moved x.steps) (moved y.steps) x.written y.written);
    recorded = subst (λ (l : List ℕ). Appends k k2 l) (sym (recorded_on x.steps y.steps)) (Appends-trans k k1 k2 (recorded x.steps) (recorded y.steps) x.recorded y.recorded);
  }

  -- and breaks off
  pub broke_on : {e : ServeFault} {more : List ℕ} → Served p a b bytes s t w w1 k k1 → BrokeOff p e b more t u w1 w2 k1 k2 → BrokeOff p e a (bytes ++ more) s u w w2 k k2
  broke_on {e} x y = record {
    stand = y.stand;
    steps = x.steps ++ y.steps;
    last = y.last;
    serves = serves_on x.serves y.serves;
    same = y.same;
    fed = ap (λ (l : List ℕ). bytes ++ l) y.fed ∙ ap (λ (l : List ℕ). l ++ fed y.steps) (sym x.fed) ∙ sym (fed_on x.steps y.steps);
    written = subst (λ (l : List ℕ). Appends w w2 l) (sym (moved_on x.steps y.steps)) (Appends-trans w w1 w2 (moved x.steps) (moved y.steps) x.written y.written);
    noted = recorded x.steps ++ y.noted;
    unnoted = y.unnoted;
    records = recorded_on x.steps y.steps ∙ ap (λ (l : List ℕ). recorded x.steps ++ l) y.records ∙ sym (append_assoc (recorded x.steps) y.noted y.unnoted);
    sink = Appends-trans k k1 k2 (recorded x.steps) y.noted x.recorded y.sink;
    left = left_on e y.stand x.steps y.steps y.noted y.unnoted y.left;
  }

  pub broke_then : {e : ServeFault} → Served p a b bytes s t w w1 k k1 → BrokeOff p e b [] t u w1 w2 k1 k2 → BrokeOff p e a bytes s u w w2 k k2
  broke_then {e} x y = subst (λ (l : List ℕ). BrokeOff p e a l s u w w2 k k2) (append-nil bytes) (broke_on x y)

-- A splitter that is unchanged twice is unchanged.
pub unchanged_on : {a b c : SplitterState} → IsUnchanged a b → IsUnchanged b c → IsUnchanged a c
unchanged_on x y = record { limit = y.limit ∙ x.limit; stage = y.stage ∙ x.stage; filled = y.filled ∙ x.filled }

module _ {p : Rule} {a b : Stand} {s t u : EndpointState} {w w1 w2 k k1 k2 : Option (List ℕ)} where
  -- the same with no piece fed
  unfoldable pub works_on : {c : Stand} → Works p a b s t w w1 k k1 → Works p b c t u w1 w2 k1 k2 → Works p a c s u w w2 k k2
  works_on x y = record { served = served_on x.served y.served; input = unchanged_on x.input y.input }

  -- the same behind a piece that was fed
  unfoldable pub served_then : {c : Stand} {bytes : List ℕ} → Served p a b bytes s t w w1 k k1 → Works p b c t u w1 w2 k1 k2 → Served p a c bytes s u w w2 k k2
  served_then {c} {bytes} x y =
      let z = served_on x y.served in
      record { steps = z.steps; serves = z.serves; fed = z.fed ∙ append-nil bytes; written = z.written; recorded = z.recorded }

  -- and it breaks off
  pub works_broke : {e : ServeFault} → Works p a b s t w w1 k k1 → BrokeOff p e b [] t u w1 w2 k1 k2 → BrokeOff p e a [] s u w w2 k k2
  works_broke x y = broke_on x.served y

-- steps that make no call
unfoldable pub works_silent : (p : Rule) (a b : Stand) (s : EndpointState) (w k : Option (List ℕ)) → Serves p a s [] b s → Works p a b s s w w k k
works_silent p a b s w k serves = record {
  served = record { steps = []; serves = serves; fed = refl; written = Appends-nil w; recorded = Appends-nil k };
  input = record { limit = refl; stage = refl; filled = refl };
}

-- nothing is done
unfoldable pub works_none : (p : Rule) (a : Stand) (s : EndpointState) (w k : Option (List ℕ)) → Works p a a s s w w k k
works_none p a s w k = works_silent p a a s w k Rests

module _ (p : Rule) (a b : Stand) (s t : EndpointState) (w w1 w2 k k1 k2 : Option (List ℕ)) (x : Works p a b s t w w1 k k1) (answers : Keeps w1 w2) (records : Keeps k1 k2) where
  -- a flush of both does nothing
  unfoldable pub works_flushed : Works p a b s t w w2 k k2
  works_flushed = record {
    served = record {
      steps = x.served.steps;
      serves = x.served.serves;
      fed = x.served.fed;
      written = Appends-kept w w1 w2 (moved x.served.steps) x.served.written answers;
      recorded = Appends-kept k k1 k2 (recorded x.served.steps) x.served.recorded records;
    };
    input = x.input;
  }

  -- and where serving breaks off there, all is recorded
  pub stopped : (e : ServeFault) → IsLeft e b x.served.steps (recorded x.served.steps) [] → BrokeOff p e a [] s t w w2 k k2
  stopped e left = record {
    stand = b;
    steps = x.served.steps;
    last = t;
    serves = x.served.serves;
    same = kept_same t;
    fed = sym x.served.fed;
    written = Appends-kept w w1 w2 (moved x.served.steps) x.served.written answers;
    noted = recorded x.served.steps;
    unnoted = [];
    records = sym (append-nil (recorded x.served.steps));
    sink = Appends-kept k k1 k2 (recorded x.served.steps) x.served.recorded records;
    left = left;
  }

-- one call that feeds nothing and moves nothing out
unfoldable pub works_one : (p : Rule) (a b : Stand) (s t : EndpointState) (w k k1 : Option (List ℕ)) (x : Step) → Serves p a s (x ∷ []) b t → taken_by x.call x.answer ≡ [] → moved_by
    x.answer ≡ [] → Appends k k1 (recorded_by x.call x.answer) → IsUnchanged s.input t.input
    → Works p a b s t w w k k1
works_one p a b s t w k k1 x serves none silent noted input = record {
  served = record {
    steps = x ∷ [];
    serves = serves;
    fed = append-nil (taken_by x.call x.answer) ∙ none;
    written = subst (λ (l : List ℕ). Appends w w l) (sym (append-nil (moved_by x.answer) ∙ silent)) (Appends-nil w);
    recorded = subst (λ (l : List ℕ). Appends k k1 l) (sym (append-nil (recorded_by x.call x.answer))) noted;
  };
  input = input;
}

-- So many bytes were moved out.
pub moved_out : (s t : EndpointState) (n : ℕ) → t ≡ record s { unsent = drop n s.unsent } → Does s t (Output n) (MovedOut (take n s.unsent))
moved_out s t n is = record {
  input = record { limit = ap (λ (x : EndpointState). x.input.limit) is; stage = ap (λ (x : EndpointState). x.input.stage) is; filled = ap (λ (x : EndpointState). x.input.filled) is };
  moved = refl;
  unsent = ap (λ (x : EndpointState). x.unsent) is;
  connection = ap (λ (x : EndpointState). x.connection) is;
}

-- and written
unfoldable pub works_moved : (p : Rule) (a : Stand) (s t : EndpointState) (n : ℕ) (w w1 k : Option (List ℕ)) → t ≡ record s { unsent = drop n s.unsent } → Appends w w1 (take n s.unsent) → Works
    p a a s t w w1 k k
works_moved p a s t n w w1 k is written = record {
  served = record {
    steps = record { call = Output n; answer = MovedOut (take n s.unsent) } ∷ [];
    serves = MovesOut t n (take n s.unsent) (moved_out s t n is) Rests;
    fed = refl;
    written = subst (λ (l : List ℕ). Appends w w1 l) (sym (append-nil (take n s.unsent))) written;
    recorded = Appends-nil k;
  };
  input = (moved_out s t n is).input;
}

-- what was written of the first piece that waits is the front of what waits
pub front_taken : (unsent piece : List ℕ) (n : ℕ) (w w1 : Option (List ℕ)) → n ≤ length piece → (behind : List ℕ) × (unsent ≡ piece ++ behind) → Appends w w1 (take n piece) → Appends w w1 (take n unsent)
front_taken unsent piece n w w1 few h written = subst (λ (l : List ℕ). Appends w w1 l) (sym (ap (take n) h.1 ∙ take-append-le n piece h.0 few)) written

-- Where a flush fails serving breaks off with all recorded.
pub flush_stopped : {X : Type 0} (r : Result X ServeFault) (F : ServeFault → Type 0) → ((e : ServeFault) → (e ≡ fault.Write) ⊎ (e ≡ fault.Sink) → F e) → (r ≡ Err fault.Read → ⊥) → (r ≡ Err fault.NoMemory → ⊥) → IfErr r F
flush_stopped (Ok x) F f read memory = tt
flush_stopped (Err fault.Read) F f read memory = absurd (read refl)
flush_stopped (Err fault.Write) F f read memory = f fault.Write (inl refl)
flush_stopped (Err fault.Sink) F f read memory = f fault.Sink (inr refl)
flush_stopped (Err fault.NoMemory) F f read memory = absurd (memory refl)

-- then nothing is unrecorded
pub left_recorded : (e : ServeFault) (stand : Stand) (steps : List Step) (noted : List ℕ) → (e ≡ fault.Write) ⊎ (e ≡ fault.Sink) → IsLeft e stand steps noted []
left_recorded e stand steps noted (inl is) = subst (λ (x : ServeFault). IsLeft x stand steps noted []) (sym is) refl
left_recorded e stand steps noted (inr is) = subst (λ (x : ServeFault). IsLeft x stand steps noted []) (sym is) (inl refl)

-- A part of some bytes is one of longer ones.
pub part_more : (k k1 : Option (List ℕ)) (bytes more : List ℕ) → AppendsFront k k1 bytes → AppendsFront k k1 (bytes ++ more)
part_more k k1 bytes more x = record { front = x.front; behind = x.behind ++ more; written = x.written; is = ap (λ (l : List ℕ). l ++ more) x.is ∙ append_assoc x.front x.behind more }

-- A part of some bytes, behind others, is one of both.
pub part_behind : (k k1 k2 : Option (List ℕ)) (head bytes : List ℕ) → Appends k k1 head → AppendsFront k1 k2 bytes → AppendsFront k k2 (head ++ bytes)
part_behind k k1 k2 head bytes before x = record {
  front = head ++ x.front;
  behind = x.behind;
  written = Appends-trans k k1 k2 head x.front before x.written;
  is = ap (λ (l : List ℕ). head ++ l) x.is ∙ sym (append_assoc head x.front x.behind);
}

-- the same where it failed
pub part_behind_failed : {T E : Type 0} (r : Result T E) (k k1 k2 : Option (List ℕ)) (head bytes : List ℕ) → Appends k k1 head → OnErr r (AppendsFront k1 k2 bytes) → OnErr r (AppendsFront k k2 (head ++ bytes))
part_behind_failed (Ok x) k k1 k2 head bytes before part = tt
part_behind_failed (Err e) k k1 k2 head bytes before part = part_behind k k1 k2 head bytes before part

-- what holds of an error holds where there is that error
pub if_err : {X E : Type 0} (r : Result X E) (F : E → Type 0) (e : E) → r ≡ Err e → F e → IfErr r F
if_err r F e is f = subst (λ (x : Result _ _). IfErr x F) (sym is) f
