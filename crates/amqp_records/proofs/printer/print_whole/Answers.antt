use Rattle.std.proofs.Common.{◌≡◌, ℕ, ◌+◌, ◌-◌, List, length, take, drop, ◌++◌, inl, inr, sym, ap, ◌∙◌, subst, arith, rules, length-drop, take_all}
use Rattle.std.proofs.lemmas.Grind.{common_steps}
use Rattle.std.proofs.lemmas.List.{drop-drop}
use Rattle.amqp_frame.specs.Devices.{device_inner}
use Rattle.amqp_frame.proofs.Results.{on_err}
use Rattle.amqp_records.specs.declared.record.Front.TheVariants.{Whole}
use Rattle.amqp_records.specs.Records.{front_of}
use Rattle.amqp_records.specs.Printing.{IsWritten, HasPrinted}
use Rattle.amqp_records.proofs.Fronts.{whole_front}
use Rattle.amqp_records.proofs.Printings.{printed_more, printed_nothing, begun_more, begun_here}
use Rattle.amqp_records.proofs.printer.print_whole.Goals as goal

-- the bytes from a place on, as the code takes them
from_on : (at : ℕ) (bytes : List ℕ) → take (length bytes - at) (drop at bytes) ≡ drop at bytes
from_on at bytes = take_all (length bytes - at) (drop at bytes) (omega (arith, length-drop at bytes))

-- a part of so many bytes from a place on
part_of : (at n : ℕ) (bytes : List ℕ) → take ((at + n) - at) (drop at bytes) ≡ take n (drop at bytes)
part_of at n bytes = let same : (at + n) - at ≡ n = omega arith in ap (λ (k : ℕ). take k (drop at bytes)) same

pub returns-in_err-print_record-clause-begun : goal.returns-in_err-print_record-clause-begun
returns-in_err-print_record-clause-begun g c = λ held came h.
    let old = c.loop-len in
    let n = c.in-Whole.len in
    let w = g.W.Write.contents (device_inner old.writer) in
    let w1 = g.W.Write.contents (device_inner c.print_record.new.writer) in
    let rest = drop old.at c.args.bytes.now in
    let e : front_of c.args.max_message rest ≡ Whole n = ap (front_of c.args.max_message) (sym (from_on old.at c.args.bytes.now)) ∙ sym c.front_of.ensures ∙ c.in-Whole.is in
    let before = old.invariant.printed held came h in
    on_err _ _ (elim c.in_err-print_record.ensures.begun [
      | inl none ↦ begun_here c.args.output c.args.max_message held w1 old.due.number old.due.place rest came
          (printed_nothing c.args.output c.args.max_message held w w1 old.due.number old.due.place rest came before none)
      | inr p ↦
          let is : IsWritten c.args.output old.due.number (take n rest) (p.0 ++ p.1) =
          subst (λ (r : List ℕ). IsWritten c.args.output old.due.number r (p.0 ++ p.1)) (part_of old.at n c.args.bytes.now) p.2 in
          begun_more c.args.output c.args.max_message held w w1 old.due.number old.due.place n rest came p.0 p.1 before e is p.3
    ])

pub returns-in_err-pass-clause-begun : goal.returns-in_err-pass-clause-begun
returns-in_err-pass-clause-begun g c = λ held came h.
    let old = c.loop-len in
    let n = c.in-Whole.len in
    let w = g.W.Write.contents (device_inner old.writer) in
    let w1 = g.W.Write.contents (device_inner c.print_record.new.writer) in
    let rest = drop old.at c.args.bytes.now in
    let e : front_of c.args.max_message rest ≡ Whole n = ap (front_of c.args.max_message) (sym (from_on old.at c.args.bytes.now)) ∙ sym c.front_of.ensures ∙ c.in-Whole.is in
    let p = c.in_ok-print_record.ensures.written in
    let is : IsWritten c.args.output old.due.number (take n rest) p.0 =
    subst (λ (r : List ℕ). IsWritten c.args.output old.due.number r p.0) (part_of old.at n c.args.bytes.now) p.1 in
    let printed = printed_more c.args.output c.args.max_message held w w1 old.due.number old.due.place n rest came p.0 (old.invariant.printed held came h) e is p.2 in
    on_err _ _ (begun_here c.args.output c.args.max_message held w1 (old.due.number + 1) (old.due.place + n) (drop n rest) came printed)

pub loop-len-preserved : goal.loop-len-preserved
loop-len-preserved g c =
    let old = c.loop-len in
    let n = c.in-Whole.len in
    let w = g.W.Write.contents (device_inner old.writer) in
    let w1 = g.W.Write.contents (device_inner c.print_record.new.writer) in
    let rest = drop old.at c.args.bytes.now in
    let e : front_of c.args.max_message rest ≡ Whole n = ap (front_of c.args.max_message) (sym (from_on old.at c.args.bytes.now)) ∙ sym c.front_of.ensures ∙ c.in-Whole.is in
    let fits = whole_front c.args.max_message rest n e in
    let left : length rest ≡ length c.args.bytes.now - old.at = length-drop old.at c.args.bytes.now in
    let p = c.in_ok-print_record.ensures.written in
    let is : IsWritten c.args.output old.due.number (take n rest) p.0 =
    subst (λ (r : List ℕ). IsWritten c.args.output old.due.number r p.0) (part_of old.at n c.args.bytes.now) p.1 in
    record {
      within = omega (arith, fits.1, left, old.invariant.within);
      writes = first_of (search rules, grind (arith, common_steps));
      printed = λ held came h.
          let printed = printed_more c.args.output c.args.max_message held w w1 old.due.number old.due.place n rest came p.0 (old.invariant.printed held came h) e is p.2 in
          subst (λ (k : ℕ). HasPrinted c.args.output c.args.max_message held w1 k c.pass.new.due.place (drop (old.at + n) c.args.bytes.now) came) (sym c.in_ok-pass.ensures.number)
          (subst (λ (k : ℕ). HasPrinted c.args.output c.args.max_message held w1 (old.due.number + 1) k (drop (old.at + n) c.args.bytes.now) came) (sym c.in_ok-pass.ensures.place)
          (subst (λ (y : List ℕ). HasPrinted c.args.output c.args.max_message held w1 (old.due.number + 1) (old.due.place + n) y came) (drop-drop n old.at c.args.bytes.now) printed));
    }
