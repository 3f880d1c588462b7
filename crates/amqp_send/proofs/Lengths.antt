-- How long the frames of a sender are.
use Rattle.std.proofs.Common.{◌≡◌, ℕ, ◌+◌, ◌-◌, ◌<◌, ◌≤◌, Bool, true, false, not, cond, min, List, [], ◌∷◌, ◌++◌, length, take, drop, Option, Some, None, refl, sym, ap, subst, ◌∙◌, arith}
use Rattle.std.specs.List.{concat}
use Rattle.std.proofs.Math.Seq.{take-length}
use Rattle.std.proofs.lemmas.Bool.{leb-true, leb-false}
use Rattle.std.proofs.lemmas.List.{length-append, length-take-le}
use Rattle.amqp_perform.specs.declared.descriptor.Descriptor.TheVariants as of_type
use Rattle.amqp_perform.specs.Cells.{Bytes}
use Rattle.amqp_perform.specs.Frames.{cell_text, written_text, list_frame, described_text}
use Rattle.amqp_perform.specs.Performatives.{flag, optional_whole}
use Rattle.amqp_perform.specs.Tables.{boolean, uint, string, default}
use Rattle.amqp_perform.specs.Said.{Said, said_texts, said_frame}
use Rattle.amqp_send.specs.declared.flow_state.FlowState.{FlowState}
use Rattle.amqp_send.specs.Flows.{most, credit}
use Rattle.amqp_send.specs.Sendings.{Message, frame, open_said, begin_said, attach_said, flow_said, close_said, head_said, later_said, transfer_said, is_last, share, next_frame}
use Rattle.amqp_send.specs.Lengths.{Lengths, NullIsLeast}

-- a close takes 12 bytes
pub close_long : length (frame close_said) ≡ 12
unfolding list_frame described_text
close_long = refl

-- a transfer that goes on and that more follow takes 20 without its payload
pub later_long : length (frame (later_said true)) ≡ 20
unfolding list_frame described_text
later_long = refl

module _ (laws : Lengths) where
  -- a text of 255 bytes at most, and little behind it
  named_short : (s : Said) (name rest : List ℕ) → concat (said_texts s) ≡ cell_text string (Bytes name) ++ rest → length rest ≤ 100 → length name ≤ 255 → length (frame s) ≤ 512
  named_short s name rest parts few le =
      let long : length (concat (said_texts s)) ≡ length (cell_text string (Bytes name)) + length rest = ap length parts ∙ length-append (cell_text string (Bytes name)) rest in
      omega (arith, laws.most 0 s [], laws.octets string name, long, few, le)

  pub open_short : (c : List ℕ) → length c ≤ 255 → length (frame (open_said c)) ≤ 512
  open_short c le = named_short (open_said c) c (concat (drop 1 (said_texts (open_said c)))) refl (omega arith) le

  pub begin_short : length (frame begin_said) ≤ 512
  begin_short = omega (arith, laws.most 0 begin_said [])

  pub attach_short : (n : List ℕ) → length n ≤ 255 → length (frame (attach_said n)) ≤ 512
  attach_short n le = named_short (attach_said n) n (concat (drop 1 (said_texts (attach_said n)))) refl (omega arith) le

  optional_short : (o : Option ℕ) → length (cell_text uint (optional_whole o)) ≤ 5
  optional_short None = omega arith
  optional_short (Some n) = laws.numbers n

  flag_short : (d : Bool) → length (written_text boolean (default 0) (flag d)) ≤ 1
  flag_short true = omega arith
  flag_short false = omega arith

  pub flow_short : (f : FlowState) (drain : Bool) → length (frame (flow_said f drain)) ≤ 64
  flow_short f drain = omega (
    arith,
    laws.most 0 (flow_said f drain) [],
    optional_short f.peer_next_outgoing_id,
    laws.numbers f.next_outgoing_id,
    laws.numbers f.delivery_count,
    laws.numbers (credit f),
    flag_short drain,
    length-append {A = ℕ},
  )

  pub transfer_short : (id : ℕ) (begun more : Bool) → length (frame (transfer_said id begun more)) ≤ 64
  transfer_short id true true = omega (arith, laws.most 0 (later_said true) [])
  transfer_short id true false = omega (arith, laws.most 0 (later_said false) [])
  transfer_short id false true = omega (arith, laws.most 0 (head_said id true) [], laws.numbers id, length-append {A = ℕ})
  transfer_short id false false = omega (arith, laws.most 0 (head_said id false) [], laws.numbers id, length-append {A = ℕ})

-- one that says the same is as long
pub same_long : (most : ℕ) (s t : Said) → s ≡ t → length (frame t) ≤ most → length (frame s) ≤ most
same_long most s t same le = subst (λ (x : Said). length (frame x) ≤ most) (sym same) le

-- the longest frame that is written
pub most_is : (f : FlowState) → 512 ≤ f.max_frame_size → (512 ≤ most f) × (most f ≤ 4096) × (most f ≤ f.max_frame_size)
most_is f le = (grind (arith, le), grind (arith, le), grind (arith, le))

-- How much of a message goes into a frame. ----------------------------------------------------------------------------

module _ (laws : Lengths) (null : NullIsLeast) where
  -- a frame that no more follow is no longer
  pub last_no_longer : (id : ℕ) (begun : Bool) → length (frame (transfer_said id begun false)) ≤ length (frame (transfer_said id begun true))
  last_no_longer id true = null 0 of_type.Transfer (take 5 (said_texts (later_said true))) (drop 6 (said_texts (later_said true))) (0x41 ∷ []) [] (omega arith)
  last_no_longer id false = null 0 of_type.Transfer (take 5 (said_texts (head_said id true))) (drop 6 (said_texts (head_said id true))) (0x41 ∷ []) [] (omega arith)

  -- no more than is left
  share_by : (f : FlowState) (m : Message) (last : Bool) → is_last f m ≡ last → share f m ≤ length m.rest
  share_by f m true e = rw e (omega arith)
  share_by f m false e =
      let x = transfer_said f.delivery_id m.begun false in
      let over : most f < length (said_frame 0 x m.rest) = leb-false (length (said_frame 0 x m.rest)) (most f) e in
      rw e (omega (arith, over, laws.payload 0 x m.rest, last_no_longer f.delivery_id m.begun))

  pub share_within : (f : FlowState) (m : Message) → share f m ≤ length m.rest
  share_within f m = share_by f m (is_last f m) refl

  -- each frame but the last is exactly full, and the last is no longer than a frame may be
  frame_by : (f : FlowState) (m : Message) → 512 ≤ f.max_frame_size → (last : Bool) → is_last f m ≡ last → (length (next_frame f m) ≤ most f) × (last ≡ false → length (next_frame f m) ≡ most f)
  frame_by f m le true e =
      let within : length (said_frame 0 (transfer_said f.delivery_id m.begun false) m.rest) ≤ most f = leb-true (length (said_frame 0 (transfer_said f.delivery_id m.begun false) m.rest)) (most f) e in
      (rw (e, take-length m.rest) within, λ no. absurd (cc no))
  frame_by f m le false e =
      let y = transfer_said f.delivery_id m.begun true in
      let n = most f - length (frame y) in
      let one = laws.payload 0 y (take n m.rest) in
      let few = transfer_short laws f.delivery_id m.begun true in
      let part : n ≤ length m.rest = subst (λ (b : Bool). cond b (length m.rest) n ≤ length m.rest) e (share_within f m) in
      let count : length (take n m.rest) ≡ n = length-take-le n m.rest part in
      let full : length (said_frame 0 y (take n m.rest)) ≡ most f = omega (arith, one, few, count, most_is f le) in
      (rw (e, full) (omega arith), λ no. rw e full)

  pub frame_within : (f : FlowState) (m : Message) → 512 ≤ f.max_frame_size → length (next_frame f m) ≤ most f
  frame_within f m le = (frame_by f m le (is_last f m) refl).0

  pub frame_full : (f : FlowState) (m : Message) → 512 ≤ f.max_frame_size → is_last f m ≡ false → length (next_frame f m) ≡ most f
  frame_full f m le e = (frame_by f m le false e).1 refl

  -- so it is full or holds all that is left
  least_by : (f : FlowState) (m : Message) → 512 ≤ f.max_frame_size → (last : Bool) → is_last f m ≡ last → min (most f) (length m.rest) ≤ length (next_frame f m)
  least_by f m le true e = rw (e, take-length m.rest) (omega (arith, laws.payload 0 (transfer_said f.delivery_id m.begun false) m.rest))
  least_by f m le false e = omega (arith, frame_full f m le e)

  pub frame_least : (f : FlowState) (m : Message) → 512 ≤ f.max_frame_size → min (most f) (length m.rest) ≤ length (next_frame f m)
  frame_least f m le = least_by f m le (is_last f m) refl

  -- and takes some of the message, but not all
  pub share_some : (f : FlowState) (m : Message) → 512 ≤ f.max_frame_size → is_last f m ≡ false → 0 < share f m
  share_some f m le e = rw e (omega (arith, transfer_short laws f.delivery_id m.begun true, most_is f le))

  pub share_less : (f : FlowState) (m : Message) → 512 ≤ f.max_frame_size → is_last f m ≡ false → share f m < length m.rest
  share_less f m le e =
      let x = transfer_said f.delivery_id m.begun false in
      let over : most f < length (said_frame 0 x m.rest) = leb-false (length (said_frame 0 x m.rest)) (most f) e in
      let few = transfer_short laws f.delivery_id m.begun true in
      rw e (omega (arith, over, laws.payload 0 x m.rest, last_no_longer f.delivery_id m.begun, few, most_is f le))

-- the frame that is put together is the next one
pub same_frame : (f : FlowState) (m : Message) (s : Said) (begun last : Bool) (n : ℕ) (rest : List ℕ) → s ≡ transfer_said f.delivery_id begun (not last)
    → begun ≡ m.begun → last ≡ is_last f m → n ≡ share f m → rest ≡ m.rest → said_frame 0 s (take n rest) ≡ next_frame f m
same_frame f m s begun last n rest es eb el en er = es_step ∙ eb_step ∙ el_step ∙ en_step ∙ er_step
  where
    es_step : said_frame 0 s (take n rest) ≡ said_frame 0 (transfer_said f.delivery_id begun (not last)) (take n rest)
    es_step = ap (λ (x : Said). said_frame 0 x (take n rest)) es

    eb_step : said_frame 0 (transfer_said f.delivery_id begun (not last)) (take n rest) ≡ said_frame 0 (transfer_said f.delivery_id m.begun (not last)) (take n rest)
    eb_step = ap (λ (x : Bool). said_frame 0 (transfer_said f.delivery_id x (not last)) (take n rest)) eb

    el_step : said_frame 0 (transfer_said f.delivery_id m.begun (not last)) (take n rest) ≡ said_frame 0 (transfer_said f.delivery_id m.begun (not (is_last f m))) (take n rest)
    el_step = ap (λ (x : Bool). said_frame 0 (transfer_said f.delivery_id m.begun (not x)) (take n rest)) el

    en_step : said_frame 0 (transfer_said f.delivery_id m.begun (not (is_last f m))) (take n rest) ≡ said_frame 0 (transfer_said f.delivery_id m.begun (not (is_last f m))) (take (share f m) rest)
    en_step = ap (λ (x : ℕ). said_frame 0 (transfer_said f.delivery_id m.begun (not (is_last f m))) (take x rest)) en

    er_step : said_frame 0 (transfer_said f.delivery_id m.begun (not (is_last f m))) (take (share f m) rest) ≡ next_frame f m
    er_step = ap (λ (x : List ℕ). said_frame 0 (transfer_said f.delivery_id m.begun (not (is_last f m))) (take (share f m) x)) er

-- the same of a frame that goes on with a message and that more follow
pub same_later : (f : FlowState) (m : Message) (begun last : Bool) (n : ℕ) (rest : List ℕ) → begun ≡ true → not last ≡ true
    → begun ≡ m.begun → last ≡ is_last f m → n ≡ share f m → rest ≡ m.rest → said_frame 0 (later_said true) (take n rest) ≡ next_frame f m
same_later f m begun last n rest goes_on more eb el en er =
    same_frame f m (later_said true) begun last n rest
    (ap (λ (x : Bool). later_said x) (sym more) ∙ ap (λ (x : Bool). transfer_said f.delivery_id x (not last)) (sym goes_on)) eb el en er
