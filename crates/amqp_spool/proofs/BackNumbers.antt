-- Each number has its segment, back to the floor.
use Rattle.std.proofs.Common.{◌≡◌, ◌⊎◌, inl, inr, ℕ, ◌≤◌, ◌<◌, arith, List, [], ◌∷◌, take, refl, sym, ap, ◌∙◌, subst}
use Rattle.amqp_spool.specs.declared.head.Head.{Head}
use Rattle.amqp_spool.specs.Folders.{Segment, content}
use Rattle.amqp_spool.specs.Heads.{head_text}
use Rattle.amqp_spool.specs.Reads.{AreBack}
use Rattle.amqp_spool.specs.SpoolLaws.{NamesTheNext, HasItsSegment}

-- Behind a segment it doesn't matter which is the newest.
names_same : (a b : Head) (s : Segment) (ss : List Segment) (head : Head) → NamesTheNext a (s ∷ ss) head → NamesTheNext b (s ∷ ss) head
names_same a b s [] head is = is
names_same a b s (r ∷ ss) head is = names_same a b r ss head is

names_more : (newest older : Head) (s : Segment) (ss : List Segment) (head : Head) → take 80 (content s) ≡ head_text older → older.first ≡ s.first → NamesTheNext older ss head → NamesTheNext newest (s ∷ ss) head
names_more newest older s [] head text first is = subst (λ (h : Head). (take 80 (content s) ≡ head_text h) × (h.first ≡ s.first)) (sym is) (text, first)
names_more newest older s (r ∷ ss) head text first is = names_same older newest r ss head is

greater : (a b : ℕ) → (a ≤ b) ⊎ (b < a)
greater a b = grind arith

pub number_there : (floor : ℕ) (newest : Head) (ss : List Segment) → AreBack floor newest ss → (number : ℕ) → floor < number → number < newest.first → HasItsSegment number newest ss
number_there floor newest [] low number above below = absurd (omega (arith, low, above, below))
number_there floor newest (s ∷ ss) (inl low) number above below = absurd (omega (arith, low, above, below))
number_there floor newest (s ∷ ss) (inr is) number above below = by (greater s.first number) (λ later. number_there floor is.0 ss is.6 number above later)
  where
    by : (s.first ≤ number) ⊎ (number < s.first) → (number < is.0.first → HasItsSegment number is.0 ss) → HasItsSegment number newest (s ∷ ss)
    by (inl le) there = record { newer = []; segment = s; older = ss; whole = refl; begins = le; next = newest; names = refl; before = sym is.2; ends = below; counted = is.3; head = is.0; text = is.1; first = is.4; spool = is.5 }
    by (inr lt) there =
        let r = there (omega (arith, lt, is.4)) in
        record {
          newer = s ∷ r.newer;
          segment = r.segment;
          older = r.older;
          whole = ap (λ (l : List Segment). s ∷ l) r.whole;
          begins = r.begins;
          next = r.next;
          names = names_more newest is.0 s r.newer r.next is.1 is.4 r.names;
          before = r.before;
          ends = r.ends;
          counted = r.counted;
          head = r.head;
          text = r.text;
          first = r.first;
          spool = r.spool ∙ is.5;
        }
