-- What stands where in a text of parts.
use Rattle.std.proofs.Common.{◌≡◌, ℕ, ◌+◌, ◌<◌, ◌≤◌, ◌^◌, arith, List, [], ◌∷◌, ◌++◌, length, length-append, take, drop, refl, sym, ap, ◌∙◌, append_assoc, append-nil}
use Rattle.std.proofs.Math.Seq.{drop-append_seam}
use Rattle.std.proofs.lemmas.List.{take-append-le, take_all, take-append-drop}
use Rattle.std.proofs.lemmas.Nat.{from_be_bytes-to_be_bytes_4, from_be_bytes-to_be_bytes_8}
use Rattle.std.specs.Int.{w32, w64, to_be_bytes, from_be_bytes}
use Rattle.amqp_spool.specs.declared.head.Head.{Head}
use Rattle.amqp_spool.specs.declared.batch_head.BatchHead.{BatchHead}
use Rattle.amqp_spool.specs.Heads.{IsHead, magic, head_front, head_text, IsBatch, BeginsBatch, batch_front, batch_head}
use Rattle.amqp_spool.specs.Sums.{sum_of}

-- a text, and these parts after it
abbrev pub joined : List ℕ → List (List ℕ) → List ℕ
joined text [] = text
joined text (p ∷ parts) = joined (text ++ p) parts

abbrev rest_of : List (List ℕ) → List ℕ
rest_of [] = []
rest_of (p ∷ parts) = p ++ rest_of parts

joined_is : (text : List ℕ) (parts : List (List ℕ)) → joined text parts ≡ text ++ rest_of parts
joined_is text [] = sym (append-nil text)
joined_is text (p ∷ parts) = joined_is (text ++ p) parts ∙ append_assoc text p (rest_of parts)

-- a part, after so many bytes
pub part_at : (a b : List ℕ) (parts : List (List ℕ)) (n k : ℕ) → length a ≡ n → length b ≡ k → take k (drop n (joined (a ++ b) parts)) ≡ b
part_at a b parts n k long wide =
    let c = rest_of parts in
    let rest : drop n (joined (a ++ b) parts) ≡ b ++ c =
    ap (λ (t : List ℕ). drop n t) (joined_is (a ++ b) parts ∙ append_assoc a b c) ∙ ap (λ (m : ℕ). drop m (a ++ (b ++ c))) (sym long) ∙ drop-append_seam a (b ++ c) in
    ap (λ (t : List ℕ). take k t) rest ∙ take-append-le k b c (omega (arith, wide)) ∙ take_all k b (omega (arith, wide))

-- The head of a segment. ----------------------------------------------------------------------------------------------

module _ (h : Head) (is : IsHead h) where
  abbrev b : ℕ → List ℕ
  b n = to_be_bytes w64 n

  abbrev sum : List ℕ
  sum = b (sum_of h.secret (head_front h))

  abbrev to_spool : List ℕ
  to_spool = magic ++ h.spool

  abbrev to_secret : List ℕ
  to_secret = to_spool ++ h.secret

  abbrev to_first : List ℕ
  to_first = to_secret ++ b h.first

  abbrev to_before : List ℕ
  to_before = to_first ++ b h.before

  abbrev to_counted : List ℕ
  to_counted = to_before ++ b h.counted

  abbrev to_life : List ℕ
  to_life = to_counted ++ b h.life

  whole : head_text h ≡ to_life ++ sum
  unfolding head_text head_front
  whole = refl

  eight : (n : ℕ) → length (b n) ≡ 8
  eight n = refl

  long_spool : length to_spool ≡ 24
  long_spool = omega (arith, length-append magic h.spool, is.spool)

  long_secret : length to_secret ≡ 40
  long_secret = omega (arith, length-append to_spool h.secret, long_spool, is.secret)

  long_first : length to_first ≡ 48
  long_first = omega (arith, length-append to_secret (b h.first), long_secret, eight h.first)

  long_before : length to_before ≡ 56
  long_before = omega (arith, length-append to_first (b h.before), long_first, eight h.before)

  long_counted : length to_counted ≡ 64
  long_counted = omega (arith, length-append to_before (b h.counted), long_before, eight h.counted)

  long_life : length to_life ≡ 72
  long_life = omega (arith, length-append to_counted (b h.life), long_counted, eight h.life)

  pub head_long : length (head_text h) ≡ 80
  head_long = ap (λ (l : List ℕ). length l) whole ∙ omega (arith, length-append to_life sum, long_life, eight (sum_of h.secret (head_front h)))

  -- what is read of its text
  module _ (text : List ℕ) (e : text ≡ head_text h) where
    at : (n k : ℕ) → take k (drop n text) ≡ take k (drop n (to_life ++ sum))
    at n k = ap (λ (t : List ℕ). take k (drop n t)) (e ∙ whole)

    pub spool_at : take 16 (drop 8 text) ≡ h.spool
    spool_at = at 8 16 ∙ part_at magic h.spool (h.secret ∷ b h.first ∷ b h.before ∷ b h.counted ∷ b h.life ∷ sum ∷ []) 8 16 refl is.spool

    pub secret_at : take 16 (drop 24 text) ≡ h.secret
    secret_at = at 24 16 ∙ part_at to_spool h.secret (b h.first ∷ b h.before ∷ b h.counted ∷ b h.life ∷ sum ∷ []) 24 16 long_spool is.secret

    number : (n m : ℕ) → m < 2 ^ 64 → take 8 (drop n text) ≡ b m → from_be_bytes w64 (take 8 (drop n text)) ≡ m
    number n m lt is = ap (λ (l : List ℕ). from_be_bytes w64 l) is ∙ from_be_bytes-to_be_bytes_8 m lt

    pub first_at : from_be_bytes w64 (take 8 (drop 40 text)) ≡ h.first
    first_at = number 40 h.first is.first (at 40 8 ∙ part_at to_secret (b h.first) (b h.before ∷ b h.counted ∷ b h.life ∷ sum ∷ []) 40 8 long_secret refl)

    pub before_at : from_be_bytes w64 (take 8 (drop 48 text)) ≡ h.before
    before_at = number 48 h.before is.before (at 48 8 ∙ part_at to_first (b h.before) (b h.counted ∷ b h.life ∷ sum ∷ []) 48 8 long_first refl)

    pub counted_at : from_be_bytes w64 (take 8 (drop 56 text)) ≡ h.counted
    counted_at = number 56 h.counted is.counted (at 56 8 ∙ part_at to_before (b h.counted) (b h.life ∷ sum ∷ []) 56 8 long_before refl)

    pub life_at : from_be_bytes w64 (take 8 (drop 64 text)) ≡ h.life
    life_at = number 64 h.life is.life (at 64 8 ∙ part_at to_counted (b h.life) (sum ∷ []) 64 8 long_counted refl)

  abbrev head_with : List ℕ → List ℕ → ℕ → ℕ → ℕ → ℕ → Head
  head_with spool secret first before counted life = record { spool = spool; secret = secret; first = first; before = before; counted = counted; life = life }

  -- one that was read so is this one
  pub head_is : (text : List ℕ) → text ≡ head_text h → (spool secret : List ℕ) (first before counted life : ℕ) → spool ≡ take 16 (drop 8 text) → secret ≡ take 16 (drop 24 text) → first ≡ from_be_bytes w64 (take 8 (drop 40 text))
      → before ≡ from_be_bytes w64 (take 8 (drop 48 text)) → counted ≡ from_be_bytes w64 (take 8 (drop 56 text)) → life ≡ from_be_bytes w64 (take 8 (drop 64 text)) → head_with spool secret first before counted life ≡ h
  head_is text e spool secret first before counted life p q r s t u =
      ap (λ (x : List ℕ). head_with x secret first before counted life) (p ∙ spool_at text e) ∙ ap (λ (x : List ℕ). head_with h.spool x first before counted life) (q ∙ secret_at text e)
      ∙ ap (λ (x : ℕ). head_with h.spool h.secret x before counted life) (r ∙ first_at text e) ∙ ap (λ (x : ℕ). head_with h.spool h.secret h.first x counted life) (s ∙ before_at text e)
      ∙ ap (λ (x : ℕ). head_with h.spool h.secret h.first h.before x life) (t ∙ counted_at text e) ∙ ap (λ (x : ℕ). head_with h.spool h.secret h.first h.before h.counted x) (u ∙ life_at text e)

-- The head of a batch. ------------------------------------------------------------------------------------------------

module _ (secret : List ℕ) (h : BatchHead) (body : List ℕ) (is : IsBatch h body) where
  abbrev small : ℕ → List ℕ
  small n = to_be_bytes w32 n

  abbrev large : ℕ → List ℕ
  large n = to_be_bytes w64 n

  abbrev batch_sum : List ℕ
  batch_sum = large (sum_of secret (batch_front h ++ body))

  abbrev to_size : List ℕ
  to_size = small h.size

  abbrev to_count : List ℕ
  to_count = to_size ++ small h.count

  abbrev to_number : List ℕ
  to_number = to_count ++ large h.first

  abbrev to_arrived : List ℕ
  to_arrived = to_number ++ large h.arrived

  batch_whole : batch_head secret h body ≡ to_arrived ++ batch_sum
  unfolding batch_head batch_front
  batch_whole = refl

  four : (n : ℕ) → length (small n) ≡ 4
  four n = refl

  wide : (n : ℕ) → length (large n) ≡ 8
  wide n = refl

  long_count : length to_count ≡ 8
  long_count = omega (arith, length-append to_size (small h.count), four h.size, four h.count)

  long_number : length to_number ≡ 16
  long_number = omega (arith, length-append to_count (large h.first), long_count, wide h.first)

  long_arrived : length to_arrived ≡ 24
  long_arrived = omega (arith, length-append to_number (large h.arrived), long_number, wide h.arrived)

  pub batch_head_long : length (batch_head secret h body) ≡ 32
  batch_head_long = ap (λ (l : List ℕ). length l) batch_whole ∙ omega (arith, length-append to_arrived batch_sum, long_arrived, wide (sum_of secret (batch_front h ++ body)))

  module _ (text : List ℕ) (e : text ≡ batch_head secret h body) where
    batch_at : (n k : ℕ) → take k (drop n text) ≡ take k (drop n (to_arrived ++ batch_sum))
    batch_at n k = ap (λ (t : List ℕ). take k (drop n t)) (e ∙ batch_whole)

    small_number : (n m : ℕ) → m < 2 ^ 32 → take 4 (drop n text) ≡ small m → from_be_bytes w32 (take 4 (drop n text)) ≡ m
    small_number n m lt same = ap (λ (l : List ℕ). from_be_bytes w32 l) same ∙ from_be_bytes-to_be_bytes_4 m lt

    large_number : (n m : ℕ) → m < 2 ^ 64 → take 8 (drop n text) ≡ large m → from_be_bytes w64 (take 8 (drop n text)) ≡ m
    large_number n m lt same = ap (λ (l : List ℕ). from_be_bytes w64 l) same ∙ from_be_bytes-to_be_bytes_8 m lt

    pub size_at : from_be_bytes w32 (take 4 (drop 0 text)) ≡ h.size
    size_at = small_number 0 h.size is.small (batch_at 0 4 ∙ part_at [] to_size (small h.count ∷ large h.first ∷ large h.arrived ∷ batch_sum ∷ []) 0 4 refl refl)

    pub count_at : from_be_bytes w32 (take 4 (drop 4 text)) ≡ h.count
    count_at = small_number 4 h.count is.count (batch_at 4 4 ∙ part_at to_size (small h.count) (large h.first ∷ large h.arrived ∷ batch_sum ∷ []) 4 4 refl refl)

    pub number_at : from_be_bytes w64 (take 8 (drop 8 text)) ≡ h.first
    number_at = large_number 8 h.first is.first (batch_at 8 8 ∙ part_at to_count (large h.first) (large h.arrived ∷ batch_sum ∷ []) 8 8 long_count refl)

    pub arrived_at : from_be_bytes w64 (take 8 (drop 16 text)) ≡ h.arrived
    arrived_at = large_number 16 h.arrived is.arrived (batch_at 16 8 ∙ part_at to_number (large h.arrived) (batch_sum ∷ []) 16 8 long_number refl)

  abbrev batch_with : ℕ → ℕ → ℕ → ℕ → BatchHead
  batch_with size count first arrived = record { size = size; count = count; first = first; arrived = arrived }

  -- one that was read so is this one
  pub batch_is : (text : List ℕ) → text ≡ batch_head secret h body → (size count first arrived : ℕ) → size ≡ from_be_bytes w32 (take 4 (drop 0 text)) → count ≡ from_be_bytes w32 (take 4 (drop 4 text))
      → first ≡ from_be_bytes w64 (take 8 (drop 8 text)) → arrived ≡ from_be_bytes w64 (take 8 (drop 16 text)) → batch_with size count first arrived ≡ h
  batch_is text e size count first arrived p q r s =
      ap (λ (x : ℕ). batch_with x count first arrived) (p ∙ size_at text e) ∙ ap (λ (x : ℕ). batch_with h.size x first arrived) (q ∙ count_at text e)
      ∙ ap (λ (x : ℕ). batch_with h.size h.count x arrived) (r ∙ number_at text e) ∙ ap (λ (x : ℕ). batch_with h.size h.count h.first x) (s ∙ arrived_at text e)

-- the parts of bytes that begin with a batch
pub batch_parts : (secret bytes : List ℕ) (h : BatchHead) (body : List ℕ) → BeginsBatch secret bytes h body → (take 32 bytes ≡ batch_head secret h body) × (take h.size (drop 32 bytes) ≡ body) × (32 + h.size ≤ length bytes)
batch_parts secret bytes h body x =
    let front = batch_head secret h body in
    let long = batch_head_long secret h body x.is in
    let all = ap (λ (l : List ℕ). length l) x.whole in (
      ap (λ (l : List ℕ). take 32 l) x.whole ∙ part_at [] front (body ∷ x.rest ∷ []) 0 32 refl long,
      ap (λ (l : List ℕ). take h.size (drop 32 l)) x.whole ∙ part_at front body (x.rest ∷ []) 32 h.size long (sym x.is.size),
      omega (arith, all, long, x.is.size, length-append (front ++ body) x.rest, length-append front body),
    )

-- bytes that were cut in three
pub in_three : (bytes text body : List ℕ) (n : ℕ) → text ≡ take 32 bytes → body ≡ take n (drop 32 bytes) → bytes ≡ (text ++ body) ++ drop n (drop 32 bytes)
in_three bytes text body n is was =
    sym (take-append-drop 32 bytes) ∙ ap (λ (l : List ℕ). take 32 bytes ++ l) (sym (take-append-drop n (drop 32 bytes)))
    ∙ ap (λ (l : List ℕ). l ++ (take n (drop 32 bytes) ++ drop n (drop 32 bytes))) (sym is) ∙ ap (λ (l : List ℕ). text ++ (l ++ drop n (drop 32 bytes))) (sym was) ∙ sym (append_assoc text body (drop n (drop 32 bytes)))

-- bytes begin with one batch at most
pub one_batch : (secret bytes : List ℕ) (h g : BatchHead) (body other : List ℕ) → BeginsBatch secret bytes h body → BeginsBatch secret bytes g other → h ≡ g
one_batch secret bytes h g body other x y =
    let text = take 32 bytes in
    let p = batch_parts secret bytes h body x in
    let q = batch_parts secret bytes g other y in
    let size = from_be_bytes w32 (take 4 (drop 0 text)) in
    let count = from_be_bytes w32 (take 4 (drop 4 text)) in
    let first = from_be_bytes w64 (take 8 (drop 8 text)) in
    let arrived = from_be_bytes w64 (take 8 (drop 16 text)) in
    sym (batch_is secret h body x.is text p.0 size count first arrived refl refl refl refl) ∙ batch_is secret g other y.is text q.0 size count first arrived refl refl refl refl

-- whatever there is in it
pub batch_head_length : (secret : List ℕ) (h : BatchHead) (body : List ℕ) → length (batch_head secret h body) ≡ 32
unfolding batch_head batch_front
batch_head_length secret h body = refl
