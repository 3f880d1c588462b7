-- Bytes are read in one way.
use Rattle.std.proofs.Common.{◌≡◌, ℕ, ◌+◌, ◌≤◌, arith, List, [], ◌∷◌, ◌++◌, length, length-append, take, drop, refl, sym, ap, ◌∙◌, subst, append_assoc}
use Rattle.std.proofs.Math.Seq.{drop-append_seam}
use Rattle.std.proofs.lemmas.List.{take-append-le, take_all}
use Rattle.std.specs.Int.{w64, from_be_bytes}
use Rattle.amqp_spool.specs.declared.batch_head.BatchHead.{BatchHead}
use Rattle.amqp_spool.specs.declared.head.Head.{Head}
use Rattle.amqp_spool.specs.Chapters.{Chapter, chapter_text, next_of, IsChapter, Chained, AreRead, oldest, Reaches}
use Rattle.amqp_spool.specs.Folders.{File}
use Rattle.amqp_spool.specs.Batches.{Batch, Follows, Follow, texts, records, EndsAt}
use Rattle.amqp_spool.specs.Heads.{IsHead, head_text, BeginsBatch, batch_head, batch_text}
use Rattle.amqp_spool.proofs.Placing.{head_is, head_long, one_batch, batch_parts, batch_head_long}
use Rattle.amqp_spool.proofs.Through.{records_one}

-- after the same front the same follows
pub same_rest : (a x y : List ℕ) → a ++ x ≡ a ++ y → x ≡ y
same_rest a x y is = sym (drop-append_seam a x) ∙ ap (λ (l : List ℕ). drop (length a) l) is ∙ drop-append_seam a y

-- a batch, as one text and what follows
pub begins : (secret : List ℕ) (n : ℕ) (b : Batch) (bs : List Batch) (x : List ℕ) → Follows n b → BeginsBatch secret (texts secret (b ∷ bs) ++ x) b.head b.body
begins secret n b bs x f = record { is = f.is; rest = texts secret bs ++ x; whole = append_assoc (batch_text secret b.head b.body) (texts secret bs) x }

pub same_batch : (secret bytes : List ℕ) (b c : Batch) → BeginsBatch secret bytes b.head b.body → BeginsBatch secret bytes c.head c.body → b ≡ c
same_batch secret bytes b c x y =
    let head = one_batch secret bytes b.head c.head b.body c.body x y in
    let body : b.body ≡ c.body =
    sym ((batch_parts secret bytes b.head b.body x).1) ∙ ap (λ (h : BatchHead). take h.size (drop 32 bytes)) head ∙ (batch_parts secret bytes c.head c.body y).1 in
    ap (λ (h : BatchHead). record { head = h; body = b.body }) head ∙ ap (λ (l : List ℕ). record { head = c.head; body = l }) body

-- Batches that are read to where none follows begin with those that are there.
pub all_read : (secret : List ℕ) (n : ℕ) (bs cs : List Batch) (x y : List ℕ) → texts secret bs ++ x ≡ texts secret cs ++ y → Follow n bs → Follow n cs → EndsAt secret (n + records cs) y
    → (more : List Batch) × (cs ≡ bs ++ more) × (x ≡ texts secret more ++ y)
all_read secret n [] cs x y same fb fc ends = (cs, refl, same)
all_read secret n (b ∷ bs) [] x y same fb fc ends =
    absurd (ends b (subst (λ (k : ℕ). Follows k b) (omega arith) fb.0) (subst (λ (l : List ℕ). BeginsBatch secret l b.head b.body) same (begins secret n b bs x fb.0)))
all_read secret n (b ∷ bs) (c ∷ cs) x y same fb fc ends =
    let one = same_batch secret (texts secret (c ∷ cs) ++ y) b c (subst (λ (l : List ℕ). BeginsBatch secret l b.head b.body) same (begins secret n b bs x fb.0)) (begins secret n c cs y fc.0) in
    let text = batch_text secret c.head c.body in
    let rest : texts secret bs ++ x ≡ texts secret cs ++ y = same_rest text (texts secret bs ++ x) (texts secret cs ++ y)
    (ap (λ (k : Batch). batch_text secret k.head k.body ++ (texts secret bs ++ x)) (sym one) ∙ sym (append_assoc (batch_text secret b.head b.body) (texts secret bs) x) ∙ same ∙ append_assoc text (texts secret cs) y) in
    let follow : Follow (n + c.head.count) bs = subst (λ (k : Batch). Follow (n + k.head.count) bs) one fb.1 in
    let r = all_read secret (n + c.head.count) bs cs x y rest follow fc.1 (subst (λ (k : ℕ). EndsAt secret k y) (omega (arith, records_one c cs)) ends) in
    (r.0, ap (λ (l : List Batch). c ∷ l) r.1 ∙ ap (λ (k : Batch). k ∷ (bs ++ r.0)) (sym one), r.2)

-- A head is one.
pub one_head : (h g : Head) (x y : List ℕ) → IsHead h → IsHead g → head_text h ++ x ≡ head_text g ++ y → h ≡ g
one_head h g x y ih ig same =
    let long : length (head_text h) ≡ length (head_text g) = head_long h ih ∙ sym (head_long g ig) in
    let front : head_text h ≡ head_text g =
    sym (take-append-le 80 (head_text h) x (omega (arith, head_long h ih)) ∙ take_all 80 (head_text h) (omega (arith, head_long h ih))) ∙ ap (λ (l : List ℕ). take 80 l) same
    ∙ take-append-le 80 (head_text g) y (omega (arith, head_long g ig)) ∙ take_all 80 (head_text g) (omega (arith, head_long g ig)) in
    let t = head_text h in
    sym (head_is h ih t refl (take 16 (drop 8 t)) (take 16 (drop 24 t)) (from_be_bytes w64 (take 8 (drop 40 t))) (from_be_bytes w64 (take 8 (drop 48 t))) (from_be_bytes w64 (take 8 (drop 56 t))) (from_be_bytes w64 (take 8 (drop 64 t)))
    refl refl refl refl refl refl)
    ∙ head_is g ig t front (take 16 (drop 8 t)) (take 16 (drop 24 t)) (from_be_bytes w64 (take 8 (drop 40 t))) (from_be_bytes w64 (take 8 (drop 48 t))) (from_be_bytes w64 (take 8 (drop 56 t))) (from_be_bytes w64 (take 8 (drop 64 t)))
    refl refl refl refl refl refl

-- So are batches of one text.
pub same_batches : (secret : List ℕ) (n : ℕ) (bs cs : List Batch) → texts secret bs ≡ texts secret cs → Follow n bs → Follow n cs → bs ≡ cs
same_batches secret n [] [] same fb fc = refl
same_batches secret n [] (c ∷ cs) same fb fc =
    let text = batch_text secret c.head c.body in
    absurd (omega (arith, ap (λ (l : List ℕ). length l) same, length-append text (texts secret cs), length-append (batch_head secret c.head c.body) c.body, batch_head_long secret c.head c.body fc.0.is))
same_batches secret n (b ∷ bs) [] same fb fc =
    let text = batch_text secret b.head b.body in
    absurd (omega (arith, ap (λ (l : List ℕ). length l) same, length-append text (texts secret bs), length-append (batch_head secret b.head b.body) b.body, batch_head_long secret b.head b.body fb.0.is))
same_batches secret n (b ∷ bs) (c ∷ cs) same fb fc =
    let bytes = texts secret (c ∷ cs) in
    let at_b : BeginsBatch secret bytes b.head b.body = record { is = fb.0.is; rest = texts secret bs; whole = sym same } in
    let at_c : BeginsBatch secret bytes c.head c.body = record { is = fc.0.is; rest = texts secret cs; whole = refl } in
    let one = same_batch secret bytes b c at_b at_c in
    let text = batch_text secret c.head c.body in
    let rest : texts secret bs ≡ texts secret cs = same_rest text (texts secret bs) (texts secret cs) (ap (λ (k : Batch). batch_text secret k.head k.body ++ texts secret bs) (sym one) ∙ same) in
    let follow : Follow (n + c.head.count) bs = subst (λ (k : Batch). Follow (n + k.head.count) bs) one fb.1 in
    ap (λ (k : Batch). k ∷ bs) one ∙ ap (λ (l : List Batch). c ∷ l) (same_batches secret (n + c.head.count) bs cs rest follow fc.1)

-- Chapters of the same length in the same bytes are one.
same_chapter : (a b : Chapter) (x y : List ℕ) → IsChapter a → IsChapter b → chapter_text a ++ x ≡ chapter_text b ++ y → length (chapter_text a) ≡ length (chapter_text b) → a ≡ b
same_chapter a b x y ia ib same long =
    let n = length (chapter_text b) in
    let text : chapter_text a ≡ chapter_text b =
    sym (take-append-le n (chapter_text a) x (omega (arith, long)) ∙ take_all n (chapter_text a) (omega (arith, long))) ∙ ap (λ (l : List ℕ). take n l) same
    ∙ take-append-le n (chapter_text b) y (omega arith) ∙ take_all n (chapter_text b) (omega arith) in
    let head = one_head a.head b.head (texts a.head.secret a.batches) (texts b.head.secret b.batches) ia.head ib.head text in
    let secret = b.head.secret in
    let rest : texts secret a.batches ≡ texts secret b.batches = same_rest (head_text b.head) (texts secret a.batches) (texts secret b.batches)
    (ap (λ (h : Head). head_text h ++ texts h.secret a.batches) (sym head) ∙ text) in
    let batches = same_batches secret b.head.first a.batches b.batches rest (subst (λ (h : Head). Follow h.first a.batches) head ia.follow) ib.follow in
    ap (λ (h : Head). record { head = h; batches = a.batches }) head ∙ ap (λ (l : List Batch). record { head = b.head; batches = l }) batches

pub first_is : (ch : Chapter) (chs : List Chapter) → Chained (ch ∷ chs) → IsChapter ch
first_is ch [] is = is
first_is ch (a ∷ chs) is = is.0

-- What is read of older segments is what there is of them, as far back as it goes.
pub older_read : (low floor : ℕ) (ch dh : Chapter) (cs ds : List Chapter) (fs : List File) → ch.head ≡ dh.head → Chained (ch ∷ cs) → Chained (dh ∷ ds) → (oldest ch cs).head.first ≤ low + 1 → low ≤ floor → Reaches floor (dh ∷ ds)
    → AreRead cs fs → AreRead ds fs → (rest : List Chapter) × (cs ≡ ds ++ rest)
older_read low floor ch dh cs [] fs head ic id old le reaches rc rd = (cs, refl)
older_read low floor ch dh [] (d ∷ ds) fs head ic id old le reaches rc rd = absurd (omega (arith, old, le, reaches.0, ap (λ (h : Head). h.first) head))
older_read low floor ch dh (c ∷ cs) (d ∷ ds) [] head ic id old le reaches rc rd = absurd rc
older_read low floor ch dh (c ∷ cs) (d ∷ ds) (f ∷ fs) head ic id old le reaches rc rd =
    let long : length (chapter_text c) ≡ length (chapter_text d) = sym ic.1.counted ∙ ap (λ (h : Head). h.counted) head ∙ id.1.counted in
    let one = same_chapter c d rc.0.rest rd.0.rest (first_is c cs ic.2) (first_is d ds id.2) (sym rc.0.whole ∙ rd.0.whole) long in
    let more = older_read low floor c d cs ds fs (ap (λ (k : Chapter). k.head) one) ic.2 id.2 old le reaches.1 rc.1 rd.1 in
    (more.0, ap (λ (k : Chapter). k ∷ cs) one ∙ ap (λ (l : List Chapter). d ∷ l) more.1)

-- Each reading of what holds these chapters has them, and at most batches more in the newest.
pub newest_read : (ch dh : Chapter) (cs ds : List Chapter) (x y : List ℕ) → IsChapter ch → IsChapter dh → chapter_text ch ++ x ≡ chapter_text dh ++ y → EndsAt dh.head.secret (next_of dh) y
    → (more : List Batch) × (dh ≡ record ch { batches = ch.batches ++ more }) × (x ≡ texts ch.head.secret more ++ y)
newest_read ch dh cs ds x y ic id same ends =
    let tc = texts ch.head.secret ch.batches in
    let td = texts dh.head.secret dh.batches in
    let whole : head_text ch.head ++ (tc ++ x) ≡ head_text dh.head ++ (td ++ y) = sym (append_assoc (head_text ch.head) tc x) ∙ same ∙ append_assoc (head_text dh.head) td y in
    let head = one_head ch.head dh.head (tc ++ x) (td ++ y) ic.head id.head whole in
    let secret = ch.head.secret in
    let after : tc ++ x ≡ texts secret dh.batches ++ y = same_rest (head_text ch.head) (tc ++ x) (texts secret dh.batches ++ y)
    (whole ∙ ap (λ (h : Head). head_text h ++ (texts h.secret dh.batches ++ y)) (sym head)) in
    let follow : Follow ch.head.first dh.batches = subst (λ (h : Head). Follow h.first dh.batches) (sym head) id.follow in
    let end : EndsAt secret (ch.head.first + records dh.batches) y = subst (λ (h : Head). EndsAt h.secret (h.first + records dh.batches) y) (sym head) ends in
    let r = all_read secret ch.head.first ch.batches dh.batches x y after ic.follow follow end in
    (r.0, ap (λ (h : Head). record { head = h; batches = dh.batches }) (sym head) ∙ ap (λ (l : List Batch). record { head = ch.head; batches = l }) r.1, r.2)
