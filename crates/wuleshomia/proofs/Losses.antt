-- Which of the two writers failed, by the result of a step.
use Rattle.std.proofs.Common.{arith, ◌≡◌, ℕ, Bool, true, false, List, [], Some, Result, Ok, Err, refl, subst, ◌∙◌}
use Rattle.std.specs.Prelude.{◌↔◌}
use Rattle.amqp_endpoint.specs.declared.event.Outcome.{Outcome}
use Rattle.amqp_endpoint.specs.Steps.{EndpointState}
use Rattle.amqp_serve.specs.declared.rules.Rule.{Rule}
use Rattle.amqp_serve.specs.declared.serving.ServeFault.{ServeFault}
use Rattle.amqp_serve.specs.declared.serving.ServeFault.TheVariants as fault
use Rattle.amqp_serve.specs.declared.steps.Done.{Done}
use Rattle.amqp_serve.specs.Deeds.{Ends, IsStepped}
use Rattle.wuleshomia.specs.Serving.{loses_an_answer, loses_a_record}

not_true : (a : Bool) → (a ≡ true → ⊥) → a ≡ false
not_true true f = absurd (f refl)
not_true false f = refl

at_write : (x : ServeFault) (a : Bool) → (x ≡ fault.Write) ↔ (a ≡ true) → a ≡ loses_an_answer (Err x)
at_write fault.Read a m = not_true a (λ is. absurd (grind (arith, m.1 is)))
at_write fault.Write a m = m.0 refl
at_write fault.Sink a m = not_true a (λ is. absurd (grind (arith, m.1 is)))
at_write fault.NoMemory a m = not_true a (λ is. absurd (grind (arith, m.1 is)))

at_sink : (x : ServeFault) (b : Bool) → (x ≡ fault.Sink) ↔ (b ≡ true) → b ≡ loses_a_record (Err x)
at_sink fault.Read b m = not_true b (λ is. absurd (grind (arith, m.1 is)))
at_sink fault.Write b m = not_true b (λ is. absurd (grind (arith, m.1 is)))
at_sink fault.Sink b m = m.0 refl
at_sink fault.NoMemory b m = not_true b (λ is. absurd (grind (arith, m.1 is)))

-- two writers to memory that hold these bytes, and whether they failed
abbrev ends_of : List ℕ → List ℕ → Bool → Bool → Ends
ends_of w s a b = record { writer = Some w; sink = Some s; writer_failed = a; sink_failed = b }

same_ends : {w w1 s s1 : List ℕ} {a a1 b b1 : Bool} → w ≡ w1 → s ≡ s1 → a ≡ a1 → b ≡ b1 → ends_of w s a b ≡ ends_of w1 s1 a1 b1
same_ends ew es ea eb = rw (ew, es, ea, eb) refl

module _ (r : Rule) (bytes : List ℕ) (told : Outcome) (old new : EndpointState) where
  abbrev Steps : Result Done ServeFault → Ends → Ends → Type 0
  Steps done e f = IsStepped r bytes told done old new e f

  marked : (done : Result Done ServeFault) (e : Ends) (w s : List ℕ) (a b : Bool) → Steps done e (ends_of w s a b) → ends_of w s a b ≡ ends_of w s (loses_an_answer done) (loses_a_record done)
  marked (Ok d) e w s a b x = same_ends refl refl (not_true a x.still.writer) (not_true b x.still.sink)
  marked (Err y) e w s a b x = same_ends refl refl (at_write y a x.marked.writer) (at_sink y b x.marked.sink)

  pub stepped : (done : Result Done ServeFault) {w0 s0 w s w1 s1 : List ℕ} {a0 b0 : Bool} (a b : Bool) → w0 ≡ [] → s0 ≡ [] → a0 ≡ false → b0 ≡ false → w ≡ w1 → s ≡ s1
      → Steps done (ends_of w0 s0 a0 b0) (ends_of w s a b) → Steps done (ends_of [] [] false false) (ends_of w1 s1 (loses_an_answer done) (loses_a_record done))
  stepped done {w0} {s0} {w} {s} {w1} {s1} {a0} {b0} a b e0 k0 f0 g0 e k x =
      subst (λ (d : Ends). Steps done d (ends_of w1 s1 (loses_an_answer done) (loses_a_record done))) (same_ends e0 k0 f0 g0)
      (subst (λ (d : Ends). Steps done (ends_of w0 s0 a0 b0) d) (marked done (ends_of w0 s0 a0 b0) w s a b x ∙ same_ends e k refl refl) x)
