-- No consumer misses what it has not acknowledged.
use Rattle.std.proofs.Common.{◌≡◌, ℕ, ◌≤◌, max, arith, List, [], ◌∷◌, ◌++◌, Some, sym, ◌∙◌, subst}
use Rattle.amqp_spool.specs.Consumers.{AreFrom, HavePassed, Shared, Step, Add, Remove, Acknowledge, Look, Raise, LetGo, Steps, Done, More, NoneIsMissed, NoConsumerMisses, begun}

-- What the gateway holds was passed by all.
record Holds (s : Shared) : Type 0 where
  pub missed : NoneIsMissed s
  pub held : (n : ℕ) → s.held ≡ Some n → AreFrom n s.positions

removed : (n : ℕ) (front back : List ℕ) (p : ℕ) → AreFrom n (front ++ p ∷ back) → AreFrom n (front ++ back)
removed n [] back p all = all.1
removed n (x ∷ xs) back p all = (all.0, removed n xs back p all.1)

moved : (n : ℕ) (front back : List ℕ) (p q : ℕ) → p ≤ q → AreFrom n (front ++ p ∷ back) → AreFrom n (front ++ q ∷ back)
moved n [] back p q up all = (omega (arith, all.0, up), all.1)
moved n (x ∷ xs) back p q up all = (all.0, moved n xs back p q up all.1)

lower : (n m : ℕ) (ps : List ℕ) → n ≤ m → AreFrom m ps → AreFrom n ps
lower n m [] low all = tt
lower n m (p ∷ ps) low all = (omega (arith, low, all.0), lower n m ps low all.1)

-- What all have passed, they have passed before.
pub passed_before : (n m : ℕ) (ps : List ℕ) → n ≤ m → HavePassed m ps → HavePassed n ps
passed_before n m ps low x = record { some = x.some; all = lower n m ps low x.all }

at : (n : ℕ) {ps qs : List ℕ} → ps ≡ qs → AreFrom n ps → AreFrom n qs
at n same all = subst (λ (l : List ℕ). AreFrom n l) same all

raised : (n floor now : ℕ) (ps : List ℕ) → now ≤ max n floor → AreFrom n ps → AreFrom floor ps → AreFrom now ps
raised n floor now [] low a b = tt
raised n floor now (p ∷ ps) low a b = (omega (arith, low, a.0, b.0), raised n floor now ps low a.1 b.1)

some_is : {n m : ℕ} → Some n ≡ Some m → n ≡ m
some_is e = cc e

step : (s t : Shared) → Step s t → Holds s → Holds t
step s _ (Add n free from) h = record { missed = (from, h.missed); held = λ m is. absurd (cc (sym free ∙ is)) }
step s _ (Remove front back p is) h = record {
  missed = removed s.floor front back p (at s.floor is h.missed);
  held = λ m held. removed m front back p (at m is (h.held m held));
}
step s _ (Acknowledge front back p q is up) h = record {
  missed = moved s.floor front back p q up (at s.floor is h.missed);
  held = λ m held. moved m front back p q up (at m is (h.held m held));
}
step s _ (Look n free passed) h = record {
  missed = h.missed;
  held = λ m held. subst (λ (k : ℕ). AreFrom k s.positions) (some_is held) passed.all;
}
step s _ (Raise n floor is low) h = record { missed = raised n s.floor floor s.positions low (h.held n is) h.missed; held = h.held }
step s _ LetGo h = record { missed = h.missed; held = λ m held. absurd (cc held) }

steps : (s t : Shared) → Steps s t → Holds s → Holds t
steps s _ Done h = h
steps s u (More {t = t} one rest) h = steps t u rest (step s t one h)

pub no_consumer_misses : NoConsumerMisses
no_consumer_misses floor s ran = (steps (begun floor) s ran (record { missed = tt; held = λ m held. absurd (cc held) })).missed
