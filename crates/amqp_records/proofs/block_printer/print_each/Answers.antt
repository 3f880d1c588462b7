use Rattle.std.proofs.Common.{◌≡◌, ◌+◌, ◌-◌, ℕ, List, ◌++◌, inl, inr, length, take, drop, sym, ap, ◌∙◌, subst, arith, rules, length-drop}
use Rattle.std.proofs.lemmas.Grind.{common_steps}
use Rattle.amqp_frame.specs.Devices.{device_inner}
use Rattle.amqp_frame.proofs.Results.{on_err}
use Rattle.amqp_records.specs.declared.record.Front.TheVariants.{Whole}
use Rattle.amqp_records.specs.Records.{front_of, BeginsNoRecord}
use Rattle.amqp_records.specs.BlockPrinting.{IsTold}
use Rattle.amqp_records.proofs.Fronts.{whole_front}
use Rattle.amqp_records.proofs.BlockFronts.{from_on, part_of}
use Rattle.amqp_records.proofs.BlockTellings.{HasToldSome, some_none, some_more, some_here, some_nothing, some_begun, some_all}
use Rattle.amqp_records.proofs.block_printer.print_each.Goals as goal

pub loop-len-init : goal.loop-len-init
loop-len-init g c =
    let w = g.W.Write.contents (device_inner c.args.writer.now) in
    record {
      within = omega arith;
      writes = c.requires.unmarked;
      some = some_none c.args.output c.args.max_message c.args.connection c.args.records.now w c.args.first c.requires.records;
    }

pub returns-in_err-print_record-clause-begun : goal.returns-in_err-print_record-clause-begun
returns-in_err-print_record-clause-begun g c =
    let limit = c.args.max_message in
    let bytes = c.args.records.now in
    let old = c.loop-len in
    let n = c.in-Whole.len in
    let w = g.W.Write.contents (device_inner old.writer) in
    let w0 = g.W.Write.contents (device_inner c.args.writer.now) in
    let w1 = g.W.Write.contents (device_inner c.print_record.new.writer) in
    let e : front_of limit (drop old.at bytes) ≡ Whole n = ap (front_of limit) (sym (from_on old.at bytes)) ∙ sym c.front_of.ensures ∙ c.in-Whole.is in
    on_err _ _ (elim c.in_err-print_record.ensures.begun [
      | inl none ↦ some_here c.args.output limit c.args.connection bytes w0 w1 c.args.first old.number old.at
          (some_nothing c.args.output limit c.args.connection bytes w0 w w1 c.args.first old.number old.at old.invariant.some none)
      | inr p ↦
          let is : IsTold c.args.output c.args.connection old.number (take n (drop old.at bytes)) (p.0 ++ p.1) =
          subst (λ (r : List ℕ). IsTold c.args.output c.args.connection old.number r (p.0 ++ p.1)) (part_of old.at n bytes) p.2 in
          some_begun c.args.output limit c.args.connection bytes w0 w w1 c.args.first old.number old.at n p.0 p.1 old.invariant.some e is p.3
    ])

pub returns-in_err-number-clause-begun : goal.returns-in_err-number-clause-begun
returns-in_err-number-clause-begun g c =
    let limit = c.args.max_message in
    let bytes = c.args.records.now in
    let old = c.loop-len in
    let n = c.in-Whole.len in
    let w = g.W.Write.contents (device_inner old.writer) in
    let w0 = g.W.Write.contents (device_inner c.args.writer.now) in
    let w1 = g.W.Write.contents (device_inner c.print_record.new.writer) in
    let e : front_of limit (drop old.at bytes) ≡ Whole n = ap (front_of limit) (sym (from_on old.at bytes)) ∙ sym c.front_of.ensures ∙ c.in-Whole.is in
    let p = c.in_ok-print_record.ensures.told in
    let is : IsTold c.args.output c.args.connection old.number (take n (drop old.at bytes)) p.0 =
    subst (λ (r : List ℕ). IsTold c.args.output c.args.connection old.number r p.0) (part_of old.at n bytes) p.1 in
    on_err _ _ (some_here c.args.output limit c.args.connection bytes w0 w1 c.args.first (old.number + 1) (old.at + n)
    (some_more c.args.output limit c.args.connection bytes w0 w w1 c.args.first old.number old.at n p.0 old.invariant.some e is p.2))

pub loop-len-preserved : goal.loop-len-preserved
loop-len-preserved g c =
    let limit = c.args.max_message in
    let bytes = c.args.records.now in
    let old = c.loop-len in
    let n = c.in-Whole.len in
    let w = g.W.Write.contents (device_inner old.writer) in
    let w0 = g.W.Write.contents (device_inner c.args.writer.now) in
    let w1 = g.W.Write.contents (device_inner c.print_record.new.writer) in
    let rest = drop old.at bytes in
    let e : front_of limit rest ≡ Whole n = ap (front_of limit) (sym (from_on old.at bytes)) ∙ sym c.front_of.ensures ∙ c.in-Whole.is in
    let fits = whole_front limit rest n e in
    let left : length rest ≡ length bytes - old.at = length-drop old.at bytes in
    let p = c.in_ok-print_record.ensures.told in
    let is : IsTold c.args.output c.args.connection old.number (take n rest) p.0 =
    subst (λ (r : List ℕ). IsTold c.args.output c.args.connection old.number r p.0) (part_of old.at n bytes) p.1 in
    record {
      within = omega (arith, fits.1, left, old.invariant.within);
      writes = first_of (search rules, grind (arith, common_steps));
      some = subst (λ (k : ℕ). HasToldSome c.args.output limit c.args.connection bytes w0 w1 c.args.first k (old.at + n)) (sym c.in_ok-number.ensures.place)
          (some_more c.args.output limit c.args.connection bytes w0 w w1 c.args.first old.number old.at n p.0 old.invariant.some e is p.2);
    }

pub returns-clause-told : goal.returns-clause-told
returns-clause-told g c =
    let limit = c.args.max_message in
    let bytes = c.args.records.now in
    let old = c.loop-len in
    let w = g.W.Write.contents (device_inner old.writer) in
    let w0 = g.W.Write.contents (device_inner c.args.writer.now) in
    let none : BeginsNoRecord limit (drop old.at bytes) = λ n e. c.in_default.not-Whole n (c.front_of.ensures ∙ ap (front_of limit) (from_on old.at bytes) ∙ e) in
    some_all c.args.output limit c.args.connection bytes w0 w c.args.first old.number old.at old.invariant.some none
