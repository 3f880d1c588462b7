use Rattle.std.proofs.Common.{◌≡◌, ◌+◌, ◌-◌, [], length, drop, sym, ap, ◌∙◌, subst, arith, length-drop}
use Rattle.std.proofs.lemmas.Bool.{eqb-true, eq-eqb}
use Rattle.std.proofs.lemmas.List.{drop-drop, nil_from_length}
use Rattle.amqp_records.specs.declared.record.Front.TheVariants.{Whole}
use Rattle.amqp_records.specs.Records.{front_of, BeginsNoRecord}
use Rattle.amqp_records.specs.Blocks.{AllRecords}
use Rattle.amqp_records.proofs.Fronts.{whole_front}
use Rattle.amqp_records.proofs.BlockFronts.{from_on, records_behind, records_before, none_left, no_records}
use Rattle.amqp_records.proofs.blocks.are_records.Goals as goal

pub loop-len-preserved : goal.loop-len-preserved
loop-len-preserved c =
    let limit = c.args.max_message in
    let bytes = c.args.bytes.now in
    let old = c.loop-len in
    let n = c.in-Whole.len in
    let rest = drop old.at bytes in
    let e : front_of limit rest ≡ Whole n = ap (front_of limit) (sym (from_on old.at bytes)) ∙ sym c.front_of.ensures ∙ c.in-Whole.is in
    let fits = whole_front limit rest n e in
    let left : length rest ≡ length bytes - old.at = length-drop old.at bytes in
    let behind : drop n rest ≡ drop (old.at + n) bytes = drop-drop n old.at bytes in
    record {
      within = omega (arith, fits.1, left, old.invariant.within);
      records = (
        λ all. let here = old.invariant.records.0 all in subst (AllRecords limit) behind (records_behind limit rest n e here.0 here.1),
        λ all. old.invariant.records.1 (records_before limit rest n e (subst (AllRecords limit) (sym behind) all)),
      );
    }

pub returns : goal.returns
returns c =
    let limit = c.args.max_message in
    let bytes = c.args.bytes.now in
    let old = c.loop-len in
    let rest = drop old.at bytes in
    let left : length rest ≡ length bytes - old.at = length-drop old.at bytes in
    let none : BeginsNoRecord limit rest = λ n e. c.in_default.not-Whole n (c.front_of.ensures ∙ ap (front_of limit) (from_on old.at bytes) ∙ e) in (
      λ yes.
          let same : old.at ≡ length bytes = eqb-true _ _ yes in
          let nothing : rest ≡ [] = nil_from_length rest (omega (arith, same, left)) in
          old.invariant.records.1 (subst (AllRecords limit) (sym nothing) (no_records limit)),
      λ all.
          let here = old.invariant.records.0 all in
          let nothing : rest ≡ [] = none_left limit rest none here.0 here.1 in
          let zero : length rest ≡ 0 = ap length nothing in
          eq-eqb _ _ (omega (arith, zero, left, old.invariant.within)),
    )
