-- The body of a frame that may be said.
use Rattle.std.proofs.Common.{◌≡◌, ℕ, ◌*◌, ◌^◌, ◌<◌, ◌≤◌, List, ◌∷◌, ◌++◌, length, Option, Some, refl, sym, ap, ◌∙◌, arith, length-append}
use Rattle.std.proofs.lemmas.List.{length-drop}
use Rattle.amqp_frame.specs.Units.{IsFrame, channel_of, body_of, offset_of}
use Rattle.amqp_perform.specs.declared.descriptor.Descriptor.{Descriptor}
use Rattle.amqp_perform.specs.BodyReading.{body_at}
use Rattle.amqp_perform.specs.Cells.{Cell}
use Rattle.amqp_perform.specs.Frames.{described_text}
use Rattle.amqp_perform.specs.Said.{Said, said_text, said_frame, MayBeSaid}
use Rattle.amqp_send.specs.Tellings.{told_in, told_read}
use Rattle.amqp_pair.specs.Tells.{TellsLaw}

abbrev pub IsRead : Type 0
IsRead = (s : Said) (payload : List ℕ) → MayBeSaid s → length (said_text s) < 2 ^ 32 → body_at (said_text s ++ payload) ≡ Some (s.type, s.cells, payload)

abbrev pub IsOneFrame : Type 0
IsOneFrame = (channel max : ℕ) (s : Said) (payload : List ℕ) → channel < 2 ^ 16 → length (said_frame channel s payload) < 2 ^ 32 → length (said_frame channel s payload) ≤ max
    → IsFrame max (said_frame channel s payload) × (channel_of (said_frame channel s payload) ≡ channel) × (body_of (said_frame channel s payload) ≡ said_text s ++ payload)

-- a body begins with a byte, as each that describes a list
pub record HasBody (channel : ℕ) (bytes : List ℕ) (x : Said) (payload : List ℕ) : Type 0 where
  pub channel_is : channel_of bytes ≡ channel
  pub front : ℕ
  pub rest : List ℕ
  pub is : body_of bytes ≡ front ∷ rest
  pub reads : body_at (front ∷ rest) ≡ Some (x.type, x.cells, payload)

begins : (x : Said) (payload : List ℕ) → (rest : List ℕ) × (said_text x ++ payload ≡ 0 ∷ rest)
unfolding described_text
begins x payload = (_, refl)

module _ (read : IsRead) (frame : IsOneFrame) where
  short : (channel : ℕ) (x : Said) (payload : List ℕ) → channel < 2 ^ 16 → length (said_frame channel x payload) < 2 ^ 32 → length (said_text x) < 2 ^ 32
  short channel x payload few lt =
      let f = frame channel (length (said_frame channel x payload)) x payload few lt (omega arith) in
      let b : length (body_of (said_frame channel x payload)) ≡ length (said_text x ++ payload) = ap (λ (w : List ℕ). length w) f.2 in
      omega (arith, b, lt, length-append (said_text x) payload, length-drop (4 * offset_of (said_frame channel x payload)) (said_frame channel x payload))

  pub has_body : (channel : ℕ) (x : Said) (payload : List ℕ) → MayBeSaid x → channel < 2 ^ 16 → length (said_frame channel x payload) < 2 ^ 32 → HasBody channel (said_frame channel x payload) x payload
  has_body channel x payload may few lt =
      let f = frame channel (length (said_frame channel x payload)) x payload few lt (omega arith) in
      let b = begins x payload in
      record {
        channel_is = f.1;
        front = 0;
        rest = b.0;
        is = f.2 ∙ b.1;
        reads = ap (λ (w : List ℕ). body_at w) (sym b.1) ∙ read x payload may (short channel x payload few lt);
      }

  tells : TellsLaw
  tells channel x payload may few lt =
      let h = has_body channel x payload may few lt in
      ap (λ (w : List ℕ). told_in w) h.is ∙ ap (λ (r : Option (Descriptor × List Cell × List ℕ)). told_read r) h.reads

pub tells_so : IsRead → IsOneFrame → TellsLaw
tells_so read frame = tells read frame
