-- How far back chapters go.
use Rattle.std.proofs.Common.{◌≡◌, ℕ, ◌+◌, ◌≤◌, ◌<◌, arith, List, [], ◌∷◌, ◌++◌, refl, sym, ap, ◌∙◌, append_assoc, append-nil, ⊎_elim}
use Rattle.std.proofs.lemmas.Bool.{cases_lt}
use Rattle.amqp_spool.specs.declared.head.Head.{Head}
use Rattle.amqp_spool.specs.Batches.{Batch, records}
use Rattle.amqp_spool.specs.Chapters.{Chapter, next_of, Chained, AreIn, oldest, Reaches, told, AreTold}
use Rattle.amqp_spool.specs.Folders.{Segment}
use Rattle.amqp_spool.proofs.Through.{records_one}

pub records_all : (bs cs : List Batch) → records (bs ++ cs) ≡ records bs + records cs
records_all [] cs = omega arith
records_all (b ∷ bs) cs = omega (arith, records_one b (bs ++ cs), records_one b bs, records_all bs cs)

pub told_all : (xs ys : List Chapter) → told (xs ++ ys) ≡ told ys ++ told xs
told_all [] ys = sym (append-nil (told ys))
told_all (x ∷ xs) ys = ap (λ (l : List Batch). l ++ x.batches) (told_all xs ys) ∙ append_assoc (told ys) (told xs) x.batches

-- A chain without its oldest is one.
pub chained_front : (ch : Chapter) (xs ys : List Chapter) → Chained (ch ∷ (xs ++ ys)) → Chained (ch ∷ xs)
chained_front ch [] [] is = is
chained_front ch [] (y ∷ ys) is = is.0
chained_front ch (x ∷ xs) ys is = (is.0, is.1, chained_front x xs ys is.2)

pub are_in_front : (xs ys : List Chapter) (ss : List Segment) → AreIn (xs ++ ys) ss → AreIn xs ss
are_in_front [] ys ss is = tt
are_in_front (x ∷ xs) ys [] is = is
are_in_front (x ∷ xs) ys (s ∷ ss) is = (is.0, are_in_front xs ys ss is.1)

-- Numbers go on from one chapter to the next.
pub numbers : (ch : Chapter) (chs : List Chapter) → Chained (ch ∷ chs) → (oldest ch chs).head.first + records (told (ch ∷ chs)) ≡ next_of ch
numbers ch [] is = refl
numbers ch (a ∷ chs) is =
    let before = numbers a chs is.2 in
    let all = records_all (told (a ∷ chs)) ch.batches in
    omega (arith, before, all, is.1.first)

pub numbers_front : (ch : Chapter) (xs ys : List Chapter) → Chained (ch ∷ (xs ++ ys)) → (oldest ch (xs ++ ys)).head.first + records (told ys) ≡ (oldest ch xs).head.first
numbers_front ch [] [] is = omega arith
numbers_front ch [] (y ∷ ys) is = numbers y ys is.2 ∙ sym is.1.first
numbers_front ch (x ∷ xs) ys is = numbers_front x xs ys is.2

-- There is a way back.
pub reach : (floor : ℕ) (ch : Chapter) (chs : List Chapter) → (oldest ch chs).head.first ≤ floor + 1 → (xs : List Chapter) × (ys : List Chapter) × (chs ≡ xs ++ ys) × Reaches floor (ch ∷ xs)
reach floor ch [] low = ([], [], refl, low)
reach floor ch (a ∷ chs) low = ⊎_elim
    (λ (lt : floor + 1 < ch.head.first). let r = reach floor a chs low in (a ∷ r.0, r.1, ap (λ (l : List Chapter). a ∷ l) r.2, (lt, r.3)))
    (λ (le : ch.head.first ≤ floor + 1). ([], a ∷ chs, refl, le))
    (cases_lt (floor + 1) ch.head.first)

-- Those told are in the chapters that are left.
pub told_front : (all : List Batch) (ch : Chapter) (xs ys : List Chapter) → Chained (ch ∷ (xs ++ ys)) → AreTold all ch (xs ++ ys) → AreTold all ch xs
told_front all ch xs ys is told_there = record {
  gone = told_there.gone ++ told ys;
  same = told_there.same ∙ ap (λ (l : List Batch). told_there.gone ++ (l ++ ch.batches)) (told_all xs ys) ∙ ap (λ (l : List Batch). told_there.gone ++ l) (append_assoc (told ys) (told xs) ch.batches)
      ∙ sym (append_assoc told_there.gone (told ys) (told (ch ∷ xs)));
  before = omega (arith, records_all told_there.gone (told ys), told_there.before, numbers_front ch xs ys is);
}

pub same_oldest : (ch dh : Chapter) (chs : List Chapter) → ch.head ≡ dh.head → (oldest ch chs).head.first ≡ (oldest dh chs).head.first
same_oldest ch dh [] is = ap (λ (h : Head). h.first) is
same_oldest ch dh (c ∷ cs) is = refl
