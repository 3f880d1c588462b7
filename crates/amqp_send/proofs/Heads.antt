-- A frame is its head, whose size counts the payload, and the payload.
use Rattle.std.proofs.Common.{◌≡◌, ℕ, ◌+◌, List, [], ◌∷◌, ◌++◌, length, take, drop, ◌<◌, ◌≤◌, true, false, refl, ap, ◌∙◌, arith}
use Rattle.std.proofs.Math.Seq.{take-append_seam}
use Rattle.std.proofs.lemmas.Bool.{lt-leb, le-leb}
use Rattle.std.proofs.lemmas.List.{append-nil, length-append}
use Rattle.byteorder.specs.Endian.{big_bytes}
use Rattle.amqp_perform.specs.Frames.{described_text, list_frame}
use Rattle.amqp_perform.specs.Said.{Said, said_texts, said_frame}
use Rattle.amqp_send.specs.Lengths.{Lengths}
use Rattle.amqp_send.specs.Sendings.{frame, later_said, fits}
use Rattle.amqp_send.proofs.Lengths.{later_long}

-- another size in front of the rest
sized : (n m : ℕ) (rest tail : List ℕ) → take (length (big_bytes 4 n ++ rest)) (big_bytes 4 m ++ drop 4 ((big_bytes 4 n ++ rest) ++ tail)) ≡ big_bytes 4 m ++ rest
sized n m rest tail = ap (λ (x : List ℕ). big_bytes 4 m ++ x) (take-append_seam rest tail)

-- the frame without its payload, whose size is replaced, is the head of the frame with it
pub head_written : (s : Said) (payload tail : List ℕ) → take (length (frame s)) (big_bytes 4 (length (frame s) + length payload) ++ drop 4 (frame s ++ tail)) ++ payload ≡ said_frame 0 s payload
unfolding list_frame
head_written s payload tail =
    let d = described_text s.type (said_texts s) in
    let size : length (frame s) + length payload ≡ 8 + length (d ++ payload) = omega (arith, length-append d [], length-append d payload) in
    ap (λ (x : List ℕ). x ++ payload) (sized (8 + length (d ++ [])) (length (frame s) + length payload) ((2 ∷ 0 ∷ big_bytes 2 0) ++ (d ++ [])) tail)
    ∙ ap (λ (n : ℕ). big_bytes 4 n ++ ((2 ∷ 0 ∷ big_bytes 2 0) ++ ((d ++ []) ++ payload))) size
    ∙ ap (λ (x : List ℕ). big_bytes 4 (8 + length (d ++ payload)) ++ ((2 ∷ 0 ∷ big_bytes 2 0) ++ (x ++ payload))) (append-nil d)

-- The frame of a transfer that goes on with a message and that more follow, without its payload.
pub later_is : frame (later_said true) ≡ 0 ∷ 0 ∷ 0 ∷ 20 ∷ 2 ∷ 0 ∷ 0 ∷ 0 ∷ 0 ∷ 0x53 ∷ 0x14 ∷ 0xc0 ∷ 7 ∷ 6 ∷ 0x43 ∷ 0x40 ∷ 0x40 ∷ 0x40 ∷ 0x40 ∷ 0x41 ∷ []
unfolding list_frame described_text
later_is = refl

-- with its payload, whose size it counts
pub later_written : (payload : List ℕ) → (big_bytes 4 (20 + length payload) ++ drop 4 (frame (later_said true))) ++ payload ≡ said_frame 0 (later_said true) payload
unfolding list_frame described_text
later_written payload = head_written (later_said true) payload []

pub later_length : Lengths → (payload : List ℕ) → length (said_frame 0 (later_said true) payload) ≡ 20 + length payload
later_length laws payload = laws.payload 0 (later_said true) payload ∙ ap (λ (n : ℕ). n + length payload) later_long

-- where it does not fit nothing is put
pub later_waits : Lengths → (unsent payload : List ℕ) → 8192 < length unsent + (20 + length payload) → fits unsent (said_frame 0 (later_said true) payload) ≡ false
later_waits laws unsent payload over = lt-leb (length unsent + length (said_frame 0 (later_said true) payload)) 8192 (omega (arith, over, later_length laws payload))

pub later_goes : Lengths → (unsent payload : List ℕ) → length unsent + (20 + length payload) ≤ 8192 → fits unsent (said_frame 0 (later_said true) payload) ≡ true
later_goes laws unsent payload fits = le-leb (length unsent + length (said_frame 0 (later_said true) payload)) 8192 (omega (arith, fits, later_length laws payload))
