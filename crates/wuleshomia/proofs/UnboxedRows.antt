-- What a box and its parts own is the same, and lies in the same words. Assumes `Logic`.
--     Loose      the parts of a box
--     Tokens     that the types' values are lent for as long as the call takes
--     same       the parts are the box
use denote.RattleType.{RattleType}
use denote.Signature.{Slot, plain}
use Rattle.std_alloc.proofs.BoxSteps.Form.{Bx, D, R, P, B}
use Rattle.wuleshomia.specs.contracts.unboxed.Unboxed as Unboxed

module _ (E : Bx) where
  abbrev pub Loose : RattleType
  Loose = Unboxed.the_row (R E) (P E) E.al.g

  abbrev pub FromLoose : Slot 2
  FromLoose = plain (λ _. Loose)

  abbrev pub FromBox : Slot 2
  FromBox = plain (λ _. B E)

  abbrev pub loose : D E → Loose.Denot
  loose d = record { ptr = d.ptr; alloc = d.alloc; value = d.value }

  abbrev pub whole_of : Loose.Denot → D E
  whole_of p = record { ptr = p.ptr; alloc = p.alloc; value = p.value }
