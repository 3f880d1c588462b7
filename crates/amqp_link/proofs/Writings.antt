-- What is written of a message, piece by piece.
use Rattle.std.proofs.Common.{◌≡◌, List, ℕ, ◌++◌, ap, ◌∙◌, append_assoc, Option}
use Rattle.std.specs.Prelude.{Result, Ok, Err, OnErr}
use Rattle.std.specs.Io.KnownBytes.{Appends}
use Rattle.std.proofs.KnownBytes.{Appends-trans}
use Rattle.amqp_frame.specs.Devices.{AppendsFront}

-- a part of a piece behind what was written before is a part of the whole
pub part_of : (k k1 k2 : Option (List ℕ)) (front piece behind all : List ℕ) → Appends k k1 front → AppendsFront k1 k2 piece → all ≡ (front ++ piece) ++ behind → AppendsFront k k2 all
part_of k k1 k2 front piece behind all before x is = record {
  front = front ++ x.front;
  behind = x.behind ++ behind;
  written = Appends-trans k k1 k2 front x.front before x.written;
  is = is ∙ ap (λ (l : List ℕ). (front ++ l) ++ behind) x.is ∙ same front x.front x.behind behind;
}
  where
    same : (a b c d : List ℕ) → (a ++ (b ++ c)) ++ d ≡ (a ++ b) ++ (c ++ d)
    same a b c d = simp append_assoc

-- what an error gives, as another fact that follows
pub on_err_of : {T E : Type 0} (r : Result T E) (P Q : Type 0) → (P → Q) → OnErr r P → OnErr r Q
on_err_of (Ok x) P Q f p = tt
on_err_of (Err e) P Q f p = f p
