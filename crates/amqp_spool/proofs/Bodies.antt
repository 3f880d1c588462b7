-- Batches as the entries of their bodies.
use Rattle.std.proofs.Common.{◌≡◌, ℕ, ◌+◌, arith, List, [], ◌∷◌, ◌++◌, length, refl, sym, ap, ◌∙◌, subst, append_assoc, append-nil}
use Rattle.amqp_spool.specs.Batches.{Batch, Follows, Follow, texts, records}
use Rattle.amqp_spool.specs.Heads.{BeginsBatch, batch_text}
use Rattle.amqp_spool.specs.Entries.{Entry, Introduction, Record, IsBody, count_of}
use Rattle.amqp_spool.specs.Names.{Names, known, after, named}
use Rattle.amqp_spool.specs.Alone.{ReadsAlone}
use Rattle.amqp_spool.specs.Sayings.{Puts, AreBodies}
use Rattle.amqp_spool.specs.Waitings.{AreKnown}
use Rattle.amqp_spool.proofs.EntryTexts.{one_list}
use Rattle.amqp_spool.proofs.Naming.{after-append, named-append}
use Rattle.amqp_spool.proofs.NamesRead.{same_named}
use Rattle.amqp_spool.proofs.Reading.{begins, same_batch, same_rest}
use Rattle.amqp_spool.proofs.Through.{records_one}

-- Records of entries. -------------------------------------------------------------------------------------------------

pub count_append : (xs ys : List Entry) → count_of (xs ++ ys) ≡ count_of xs + count_of ys
count_append [] ys = omega arith
count_append (Introduction i ∷ xs) ys = count_append xs ys
count_append (Record r ∷ xs) ys = omega (arith, count_append xs ys)

pub named_count : (k : Names) (es : List Entry) → length (named k es) ≡ count_of es
named_count k [] = refl
named_count k (Introduction i ∷ es) = named_count (known i k) es
named_count k (Record r ∷ es) = omega (arith, named_count k es)

pub known_both : (ps qs : Puts) → AreKnown ps → AreKnown qs → AreKnown (ps ++ qs)
known_both [] qs p q = q
known_both (x ∷ ps) qs p q = (p.0, known_both ps qs p.1 q)

pub known_front : (ps qs : Puts) → AreKnown (ps ++ qs) → AreKnown ps
known_front [] qs is = tt
known_front (x ∷ ps) qs is = (is.0, known_front ps qs is.1)

pub known_rest : (ps qs : Puts) → AreKnown (ps ++ qs) → AreKnown qs
known_rest [] qs is = is
known_rest (x ∷ ps) qs is = known_rest ps qs is.1

-- each after the names that those before it leave
pub known_parts : (k : Names) (xs ys : List Entry) → AreKnown (named k (xs ++ ys)) → AreKnown (named k xs) × AreKnown (named (after k xs) ys)
known_parts k xs ys is =
    let both = subst (λ (ps : Puts). AreKnown ps) (named-append k xs ys) is in
    (known_front (named k xs) (named (after k xs) ys) both, known_rest (named k xs) (named (after k xs) ys) both)

pub known_append : (k : Names) (xs ys : List Entry) → AreKnown (named k xs) → AreKnown (named (after k xs) ys) → AreKnown (named k (xs ++ ys))
known_append k xs ys p q = subst (λ (ps : Puts). AreKnown ps) (sym (named-append k xs ys)) (known_both (named k xs) (named (after k xs) ys) p q)

pub known_as : (k m : Names) (es : List Entry) → ((link : ℕ) → k link ≡ m link) → AreKnown (named k es) → AreKnown (named m es)
known_as k m es same is = subst (λ (ps : Puts). AreKnown ps) (same_named k m es same) is

-- Batches. ------------------------------------------------------------------------------------------------------------

pub bodies_counted : (bs : List Batch) (es : List Entry) → AreBodies bs es → records bs ≡ count_of es
bodies_counted [] es is = sym (ap count_of is)
bodies_counted (b ∷ bs) es is = omega (arith, records_one b bs, bodies_counted bs is.1 is.5, is.4, ap count_of is.2, count_append is.0 is.1)

pub bodies_more : (bs : List Batch) (b : Batch) (es here : List Entry) → AreBodies bs es → IsBody b.body here → b.head.count ≡ count_of here → AreBodies (bs ++ b ∷ []) (es ++ here)
bodies_more [] b es here is body count = (here, [], ap (λ (l : List Entry). l ++ here) is ∙ sym (append-nil here), body, count, refl)
bodies_more (a ∷ bs) b es here is body count =
    (is.0, is.1 ++ here, ap (λ (l : List Entry). l ++ here) is.2 ∙ append_assoc is.0 is.1 here, is.3, is.4, bodies_more bs b is.1 here is.5 body count)

pub bodies_parts : (bs cs : List Batch) (es : List Entry) → AreBodies (bs ++ cs) es → (xs : List Entry) × (ys : List Entry) × (es ≡ xs ++ ys) × AreBodies bs xs × AreBodies cs ys
bodies_parts [] cs es is = ([], es, refl, refl, is)
bodies_parts (b ∷ bs) cs es is =
    let r = bodies_parts bs cs is.1 is.5 in
    (is.0 ++ r.0, r.1, is.2 ∙ ap (λ (l : List Entry). is.0 ++ l) r.2 ∙ sym (append_assoc is.0 r.0 r.1), (is.0, r.0, refl, is.3, is.4, r.3), r.4)

pub same_bodies : (bs : List Batch) (es fs : List Entry) → AreBodies bs es → AreBodies bs fs → es ≡ fs
same_bodies [] es fs is also = is ∙ sym also
same_bodies (b ∷ bs) es fs is also =
    is.2 ∙ ap (λ (l : List Entry). l ++ is.1) (one_list b.body is.0 also.0 is.3 also.3) ∙ ap (λ (l : List Entry). also.0 ++ l) (same_bodies bs is.1 also.1 is.5 also.5) ∙ sym also.2

-- Batches that read alone are among those that are read to where none follows that does.
pub alone_read : (k : Names) (secret : List ℕ) (n : ℕ) (bs cs : List Batch) (x y : List ℕ) (eb ec : List Entry) → texts secret bs ++ x ≡ texts secret cs ++ y → Follow n bs → Follow n cs → AreBodies bs eb → AreKnown (named k eb) → AreBodies cs ec
    → ((b : Batch) (es : List Entry) → Follows (n + records cs) b → BeginsBatch secret y b.head b.body → ReadsAlone (after k ec) b.body b.head.count es → ⊥) → (more : List Batch) × (cs ≡ bs ++ more)
alone_read k secret n [] cs x y eb ec same fb fc bodies are others ends = (cs, refl)
alone_read k secret n (b ∷ bs) [] x y eb ec same fb fc bodies are others ends =
    absurd (ends b bodies.0 (subst (λ (m : ℕ). Follows m b) (omega arith) fb.0) (subst (λ (l : List ℕ). BeginsBatch secret l b.head b.body) same (begins secret n b bs x fb.0)) (record {
      is = bodies.3;
      counted = bodies.4;
      known = subst (λ (l : List Entry). AreKnown (named (after k l) bodies.0)) (sym others) ((known_parts k bodies.0 bodies.1 (subst (λ (l : List Entry). AreKnown (named k l)) bodies.2 are)).0);
    }))
alone_read k secret n (b ∷ bs) (c ∷ cs) x y eb ec same fb fc bodies are others ends =
    let one = same_batch secret (texts secret (c ∷ cs) ++ y) b c (subst (λ (l : List ℕ). BeginsBatch secret l b.head b.body) same (begins secret n b bs x fb.0)) (begins secret n c cs y fc.0) in
    let text = batch_text secret c.head c.body in
    let rest : texts secret bs ++ x ≡ texts secret cs ++ y = same_rest text (texts secret bs ++ x) (texts secret cs ++ y)
    (ap (λ (h : Batch). batch_text secret h.head h.body ++ (texts secret bs ++ x)) (sym one) ∙ sym (append_assoc (batch_text secret b.head b.body) (texts secret bs) x) ∙ same ∙ append_assoc text (texts secret cs) y) in
    let follow : Follow (n + c.head.count) bs = subst (λ (h : Batch). Follow (n + h.head.count) bs) one fb.1 in
    let here : bodies.0 ≡ others.0 = one_list c.body bodies.0 others.0 (subst (λ (h : Batch). IsBody h.body bodies.0) one bodies.3) others.3 in
    let parts = known_parts k bodies.0 bodies.1 (subst (λ (l : List Entry). AreKnown (named k l)) bodies.2 are) in
    let after_is : (link : ℕ) → after (after k others.0) others.1 link ≡ after k ec link = λ link. sym (after-append k others.0 others.1 link) ∙ ap (λ (l : List Entry). after k l link) (sym others.2) in
    let r = alone_read (after k others.0) secret (n + c.head.count) bs cs x y bodies.1 others.1 rest follow fc.1 bodies.5 (subst (λ (l : List Entry). AreKnown (named (after k l) bodies.1)) here parts.1) others.5
    (λ d es f begins_d alone. ends d es (subst (λ (m : ℕ). Follows m d) (omega (arith, records_one c cs)) f) begins_d
    (record { is = alone.is; counted = alone.counted; known = known_as (after (after k others.0) others.1) (after k ec) es after_is alone.known })) in
    (r.0, ap (λ (l : List Batch). c ∷ l) r.1 ∙ ap (λ (h : Batch). h ∷ (bs ++ r.0)) (sym one))
