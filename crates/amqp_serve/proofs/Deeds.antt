-- What calls that serve did, one behind another.
use Rattle.std.proofs.Common.{arith, ◌≡◌, ℕ, ◌+◌, ◌^◌, ◌<◌, Bool, List, [], ◌∷◌, ◌++◌, Option, Result, Ok, Err, refl, sym, ap, subst, ◌∙◌, take, drop, append-nil, ◌⊎◌, inl, inr, IsTrue}
use Rattle.std.specs.Prelude.{sum_by}
use Rattle.std.specs.List.{flat_map}
use Rattle.std.specs.Io.KnownBytes.{Appends, Keeps}
use Rattle.std.proofs.lemmas.Grind.{flat_map-append}
use Rattle.std.proofs.lemmas.List.Sums.{sum_by-append, sum_by-cons}
use Rattle.amqp_frame.specs.Splits.{IsUnchanged}
use Rattle.amqp_endpoint.specs.declared.event.Outcome.{Outcome}
use Rattle.amqp_endpoint.specs.declared.fault.CallFault.{CallFault}
use Rattle.amqp_endpoint.specs.Endpoints.{accepted_by}
use Rattle.amqp_endpoint.specs.Runs.{Output, MovedOut}
use Rattle.amqp_endpoint.specs.Steps.{EndpointState}
use Rattle.amqp_endpoint.specs.Traces.{moved_by, taken_by}
use Rattle.amqp_serve.specs.declared.rules.Rule.{Rule}
use Rattle.amqp_serve.specs.declared.serving.ServeFault.{ServeFault}
use Rattle.amqp_serve.specs.declared.serving.ServeFault.TheVariants as fault
use Rattle.amqp_serve.specs.declared.steps.Done.{Done}
use Rattle.amqp_serve.specs.declared.supplies.Topped.{Topped}
use Rattle.amqp_serve.specs.declared.supplies.Supply.{Supply}
use Rattle.amqp_serve.specs.declared.supplies.Supply.TheVariants.{WindowOf, CreditOf}
use Rattle.amqp_serve.specs.Deeds.{takes_of, settles_of, fed_deeds, receipt_deeds, rest_deeds, done_deeds, outcomes_by, takes_by, settles_by, widened_by, granted_by, refused_by, Deeds, most, AreDeeds, with_both, topped_as, topped_deeds, no_deeds, Ends, AreOpen, IsOfEnds, IsMarked, WentOn, WentOff, Went}
use Rattle.amqp_serve.specs.Serving.{Stand, Step, Serves, top_up_by, recorded_by, recorded}
use Rattle.amqp_serve.proofs.Servings.{served_on, works_on, works_broke, works_none, works_one, works_silent, works_flushed, works_moved, stopped, left_recorded}

-- it is what both of them are
pub record IsBoth (d e both : Deeds) : Type 0 where
  pub told : both.told ≡ d.told ++ e.told
  pub takes : both.takes ≡ d.takes ++ e.takes
  pub settles : both.settles ≡ d.settles ++ e.settles
  pub widened : both.topped.widened ≡ most (d.topped.widened + e.topped.widened)
  pub granted : both.topped.granted ≡ most (d.topped.granted + e.topped.granted)
  pub refused : both.topped.refused ≡ most (d.topped.refused + e.topped.refused)

sums : (f : Step → ℕ) (xs ys : List Step) (a b both : ℕ) → a ≡ most (sum_by f xs) → b ≡ most (sum_by f ys) → both ≡ most (a + b) → both ≡ most (sum_by f (xs ++ ys))
sums f xs ys a b both x y is = let all = sum_by-append f xs ys in omega (arith, x, y, is, all)

lists : {A : Type 0} (f : Step → List A) (xs ys : List Step) (a b both : List A) → a ≡ flat_map f xs → b ≡ flat_map f ys → both ≡ a ++ b → both ≡ flat_map f (xs ++ ys)
lists f xs ys a b both x y is = is ∙ ap (λ (l : List _). l ++ b) x ∙ ap (λ (l : List _). flat_map f xs ++ l) y ∙ sym (flat_map-append f xs ys)

-- steps behind others
pub deeds_on : (d e both : Deeds) (xs ys : List Step) → AreDeeds d xs → AreDeeds e ys → IsBoth d e both → AreDeeds both (xs ++ ys)
deeds_on d e both xs ys x y is = record {
  told = lists (λ (s : Step). outcomes_by s.answer) xs ys d.told e.told both.told x.told y.told is.told;
  takes = lists (λ (s : Step). takes_by s.call s.answer) xs ys d.takes e.takes both.takes x.takes y.takes is.takes;
  settles = lists (λ (s : Step). settles_by s.call s.answer) xs ys d.settles e.settles both.settles x.settles y.settles is.settles;
  widened = sums (λ (s : Step). widened_by s.call s.answer) xs ys d.topped.widened e.topped.widened both.topped.widened x.widened y.widened is.widened;
  granted = sums (λ (s : Step). granted_by s.call s.answer) xs ys d.topped.granted e.topped.granted both.topped.granted x.granted y.granted is.granted;
  refused = sums (λ (s : Step). refused_by s.call s.answer) xs ys d.topped.refused e.topped.refused both.topped.refused x.refused y.refused is.refused;
}

-- nothing, and then this
pub quiet_first : (d : Deeds) (xs : List Step) → AreDeeds d xs → IsBoth no_deeds d d
quiet_first d xs x = record { told = refl; takes = refl; settles = refl; widened = let w = x.widened in omega (arith, w); granted = let w = x.granted in omega (arith, w); refused = let w = x.refused in omega (arith, w) }

pub quiet_last : (d : Deeds) (xs : List Step) → AreDeeds d xs → IsBoth d no_deeds d
quiet_last d xs x = record {
  told = sym (append-nil d.told);
  takes = sym (append-nil d.takes);
  settles = sym (append-nil d.settles);
  widened = let w = x.widened in omega (arith, w);
  granted = let w = x.granted in omega (arith, w);
  refused = let w = x.refused in omega (arith, w);
}

-- two that top up
pub topped_both : (a b : Topped) → IsBoth (topped_deeds a) (topped_deeds b) (topped_deeds (with_both a b))
topped_both a b = record { told = refl; takes = refl; settles = refl; widened = refl; granted = refl; refused = refl }

-- a message that was taken, and what was topped up
pub rest_both : (d : Done) (xs : List Step) → AreDeeds (topped_deeds d.topped) xs → IsBoth (receipt_deeds d.receipt) (topped_deeds d.topped) (rest_deeds d)
rest_both d xs x = record {
  told = refl;
  takes = sym (append-nil (takes_of d.receipt));
  settles = sym (append-nil (settles_of d.receipt));
  widened = let w = x.widened in omega (arith, w);
  granted = let w = x.granted in omega (arith, w);
  refused = let w = x.refused in omega (arith, w);
}

-- what a feed told, and then the rest
pub done_both : (told : Outcome) (d : Done) (xs : List Step) → AreDeeds (rest_deeds d) xs → IsBoth (fed_deeds told) (rest_deeds d) (done_deeds told d)
done_both told d xs x = record { told = refl; takes = refl; settles = refl; widened = let w = x.widened in omega (arith, w); granted = let w = x.granted in omega (arith, w); refused = let w = x.refused in omega (arith, w) }

-- no steps
pub none_done : AreDeeds no_deeds []
none_done = record { told = refl; takes = refl; settles = refl; widened = refl; granted = refl; refused = refl }

-- one step, by its call and its answer
pub one_done : (d : Deeds) (x : Step) → d.told ≡ outcomes_by x.answer → d.takes ≡ takes_by x.call x.answer → d.settles ≡ settles_by x.call x.answer → d.topped.widened ≡ most (widened_by x.call x.answer)
    → d.topped.granted ≡ most (granted_by x.call x.answer) → d.topped.refused ≡ most (refused_by x.call x.answer) → AreDeeds d (x ∷ [])
one_done d x told takes settles widened granted refused = record {
  told = told ∙ sym (append-nil (outcomes_by x.answer));
  takes = takes ∙ sym (append-nil (takes_by x.call x.answer));
  settles = settles ∙ sym (append-nil (settles_by x.call x.answer));
  widened = let one = sum_by-cons (λ (s : Step). widened_by s.call s.answer) x [] in omega (arith, widened, one);
  granted = let one = sum_by-cons (λ (s : Step). granted_by s.call s.answer) x [] in omega (arith, granted, one);
  refused = let one = sum_by-cons (λ (s : Step). refused_by s.call s.answer) x [] in omega (arith, refused, one);
}

-- a supply that is topped up
pub topped_done : (supply : Supply) (n : ℕ) (r : Result (Unit {0}) CallFault) → n < 2 ^ 32 → AreDeeds (topped_deeds (topped_as supply n r)) (record { call = top_up_by supply n; answer = accepted_by r } ∷ [])
topped_done (WindowOf channel) n (Ok x) small =
    one_done (topped_deeds (topped_as (WindowOf channel) n (Ok x))) (record { call = top_up_by (WindowOf channel) n; answer = accepted_by {X = Unit {0}} (Ok x) }) refl refl refl (omega (arith, small)) refl refl
topped_done (WindowOf channel) n (Err f) small =
    one_done (topped_deeds (topped_as (WindowOf channel) n (Err f))) (record { call = top_up_by (WindowOf channel) n; answer = accepted_by {X = Unit {0}} (Err f) }) refl refl refl refl refl refl
topped_done (CreditOf channel handle) n (Ok x) small =
    one_done (topped_deeds (topped_as (CreditOf channel handle) n (Ok x))) (record { call = top_up_by (CreditOf channel handle) n; answer = accepted_by {X = Unit {0}} (Ok x) }) refl refl refl refl (omega (arith, small)) refl
topped_done (CreditOf channel handle) n (Err f) small =
    one_done (topped_deeds (topped_as (CreditOf channel handle) n (Err f))) (record { call = top_up_by (CreditOf channel handle) n; answer = accepted_by {X = Unit {0}} (Err f) }) refl refl refl refl refl refl

-- a write
pub moved_done : (room : ℕ) (bytes : List ℕ) → AreDeeds no_deeds (record { call = Output room; answer = MovedOut bytes } ∷ [])
moved_done room bytes = one_done no_deeds (record { call = Output room; answer = MovedOut bytes }) refl refl refl refl refl refl

-- How calls come out. ---------------------------------------------------------------------------------------------------------

module _ {p : Rule} {a b : Stand} {d : Deeds} {s t u : EndpointState} {x y z : Ends} where
  -- one behind another
  pub went_on : {c : Stand} {e : Deeds} (both : Deeds) → WentOn p d a b s t x y → WentOn p e b c t u y z → IsBoth d e both → WentOn p both a c s u x z
  unfolding works_on served_on
  went_on {c} {e} both f g is = record { works = works_on f.works g.works; deeds = deeds_on d e both f.works.served.steps g.works.served.steps f.deeds g.deeds is; still = g.still }

  -- and it breaks off
  pub went_off : {lost : ServeFault} → WentOn p d a b s t x y → WentOff p lost b t u y z → WentOff p lost a s u x z
  went_off f g = record { which = g.which; broke = works_broke f.works g.broke; marked = g.marked }

module _ {p : Rule} {a b c : Stand} {d : Deeds} {s t u : EndpointState} {x y z : Ends} where
  -- the second alone did something
  pub quiet_then : WentOn p no_deeds a b s t x y → WentOn p d b c t u y z → WentOn p d a c s u x z
  quiet_then f g = went_on d f g (quiet_first d g.works.served.steps g.deeds)

  -- the first alone did something
  pub then_quiet : WentOn p d a b s t x y → WentOn p no_deeds b c t u y z → WentOn p d a c s u x z
  then_quiet f g = went_on d f g (quiet_last d f.works.served.steps f.deeds)

-- an exit by a fault
pub went_lost : {X : Type 0} {p : Rule} {a : Stand} {s u : EndpointState} {x z : Ends} (b : Stand) (r : Result X ServeFault) (f : X → Deeds) (lost fault : ServeFault) → r ≡ Err lost → lost ≡ fault
    → WentOff p fault a s u x z → Went p f a b r s u x z
went_lost {X} {p} {a} {s} {u} {x} {z} b r f lost fault is same off =
    subst (λ (q : Result X ServeFault). Went p f a b q s u x z) (sym is) (subst (λ (k : ServeFault). WentOff p k a s u x z) (sym same) off)

-- nothing is done
pub went_none : (p : Rule) (a : Stand) (s : EndpointState) (x : Ends) → AreOpen x → WentOn p no_deeds a a s s x x
unfolding works_none works_silent
went_none p a s x fit = record { works = works_none p a s x.writer x.sink; deeds = none_done; still = fit }

-- supplies that lack nothing are passed
pub went_silent : (p : Rule) (a b : Stand) (s : EndpointState) (x : Ends) → Serves p a s [] b s → AreOpen x → WentOn p no_deeds a b s s x x
unfolding works_silent
went_silent p a b s x serves fit = record { works = works_silent p a b s x.writer x.sink serves; deeds = none_done; still = fit }

-- one call that feeds nothing and moves nothing out, and records nothing
pub went_call : (p : Rule) (a b : Stand) (s t : EndpointState) (x : Ends) (d : Deeds) (step : Step) → Serves p a s (step ∷ []) b t → taken_by step.call step.answer ≡ [] → moved_by step.answer ≡ []
    → Appends x.sink x.sink (recorded_by step.call step.answer) → IsUnchanged s.input t.input → AreDeeds d (step ∷ []) → AreOpen x → WentOn p d a b s t x x
unfolding works_one
went_call p a b s t x d step serves none silent noted input deeds fit =
    record { works = works_one p a b s t x.writer x.sink x.sink step serves none silent noted input; deeds = deeds; still = fit }

-- one whose record was written
pub went_noted : (p : Rule) (a b : Stand) (s t : EndpointState) (w k k1 : Option (List ℕ)) (f f1 g g1 : Bool) (d : Deeds) (step : Step) → Serves p a s (step ∷ []) b t → taken_by step.call step.answer ≡ []
    → moved_by step.answer ≡ [] → Appends k k1 (recorded_by step.call step.answer) → IsUnchanged s.input t.input → AreDeeds d (step ∷ [])
    → AreOpen (record { writer = w; sink = k1; writer_failed = f1; sink_failed = g1 })
    → WentOn p d a b s t (record { writer = w; sink = k; writer_failed = f; sink_failed = g }) (record { writer = w; sink = k1; writer_failed = f1; sink_failed = g1 })
unfolding works_one
went_noted p a b s t w k k1 f f1 g g1 d step serves none silent noted input deeds fit =
    record { works = works_one p a b s t w k k1 step serves none silent noted input; deeds = deeds; still = fit }

-- so many bytes were written
pub went_moved : (p : Rule) (a : Stand) (s t : EndpointState) (n : ℕ) (w w1 k : Option (List ℕ)) (f f1 g g1 : Bool) → t ≡ record s { unsent = drop n s.unsent } → Appends w w1 (take n s.unsent)
    → AreOpen (record { writer = w1; sink = k; writer_failed = f1; sink_failed = g1 })
    → WentOn p no_deeds a a s t (record { writer = w; sink = k; writer_failed = f; sink_failed = g }) (record { writer = w1; sink = k; writer_failed = f1; sink_failed = g1 })
unfolding works_moved
went_moved p a s t n w w1 k f f1 g g1 is written fit = record { works = works_moved p a s t n w w1 k is written; deeds = moved_done n (take n s.unsent); still = fit }

-- a flush of both does nothing
pub went_flushed : (p : Rule) (d : Deeds) (a b : Stand) (s t : EndpointState) (x : Ends) (w w1 k k1 : Option (List ℕ)) (f f1 g g1 : Bool)
    → WentOn p d a b s t x (record { writer = w; sink = k; writer_failed = f; sink_failed = g }) → Keeps w w1 → Keeps k k1 → AreOpen (record { writer = w1; sink = k1; writer_failed = f1; sink_failed = g1 })
    → WentOn p d a b s t x (record { writer = w1; sink = k1; writer_failed = f1; sink_failed = g1 })
unfolding works_flushed
went_flushed p d a b s t x w w1 k k1 f f1 g g1 on answers records fit =
    record { works = works_flushed p a b s t x.writer w w1 x.sink k k1 on.works answers records; deeds = on.deeds; still = fit }

-- one of them fails, with all recorded
pub went_stopped : (p : Rule) (d : Deeds) (a b : Stand) (s t : EndpointState) (x : Ends) (w w1 k k1 : Option (List ℕ)) (f f1 g g1 : Bool) (lost : ServeFault)
    → WentOn p d a b s t x (record { writer = w; sink = k; writer_failed = f; sink_failed = g }) → Keeps w w1 → Keeps k k1 → IsOfEnds lost
    → IsMarked lost (record { writer = w1; sink = k1; writer_failed = f1; sink_failed = g1 })
    → WentOff p lost a s t x (record { writer = w1; sink = k1; writer_failed = f1; sink_failed = g1 })
went_stopped p d a b s t x w w1 k k1 f f1 g g1 lost on answers records which marked = record {
  which = which;
  broke = stopped p a b s t x.writer w w1 x.sink k k1 on.works answers records lost (left_recorded lost b on.works.served.steps (recorded on.works.served.steps) (of_ends lost which));
  marked = marked;
}
  where
    of_ends : (e : ServeFault) → IsOfEnds e → (e ≡ fault.Write) ⊎ (e ≡ fault.Sink)
    of_ends fault.Read none = absurd none
    of_ends fault.Write one = inl refl
    of_ends fault.Sink one = inr refl
    of_ends fault.NoMemory none = absurd none

-- Which of them failed. -------------------------------------------------------------------------------------------------------

pub marked_sink : (e : Ends) → ¬ (IsTrue e.writer_failed) → IsTrue e.sink_failed → IsMarked fault.Sink e
marked_sink e writer sink = record { writer = (λ is. absurd (grind (arith, is)), λ failed. absurd (writer failed)); sink = (λ is. sink, λ failed. refl) }

pub marked_writer : (e : Ends) → IsTrue e.writer_failed → ¬ (IsTrue e.sink_failed) → IsMarked fault.Write e
marked_writer e writer sink = record { writer = (λ is. writer, λ failed. refl); sink = (λ is. absurd (grind (arith, is)), λ failed. absurd (sink failed)) }

pub marked_neither : (lost : ServeFault) (e : Ends) → (lost ≡ fault.Write → ⊥) → (lost ≡ fault.Sink → ⊥) → AreOpen e → IsMarked lost e
marked_neither lost e write sink fit = record { writer = (λ is. absurd (write is), λ failed. absurd (fit.writer failed)); sink = (λ is. absurd (sink is), λ failed. absurd (fit.sink failed)) }
