use Rattle.std.proofs.Common.{◌≡◌, ◌+◌, ◌-◌, ◌≤◌, ℕ, List, inl, inr, length, take, drop, sym, ap, ◌∙◌, subst, arith, rules, length-drop}
use Rattle.std.proofs.lemmas.Grind.{common_steps}
use Rattle.std.proofs.lemmas.List.{drop-drop, length-take-le}
use Rattle.amqp_frame.specs.Devices.{device_inner}
use Rattle.amqp_frame.proofs.Results.{on_err}
use Rattle.amqp_records.specs.Blocks.{number_of, AllRecords, BeginsNoBlock, BeginsBlock}
use Rattle.amqp_records.specs.BlockPrinting.{HasTold, TellsBlock, BeginsToTell}
use Rattle.amqp_records.proofs.BlockFronts.{from_on, part_of, none_torn, not_whole}
use Rattle.amqp_records.proofs.BlockTellings.{told_block, begun_block, block_records}
use Rattle.amqp_records.proofs.block_printer.print_whole.Goals as goal

pub print_block-requires-clause-records : goal.print_block-requires-clause-records
print_block-requires-clause-records g c =
    let limit = c.args.max_message in
    let bytes = c.args.bytes.now in
    let at = c.loop-size.at in
    let n = c.in-Whole.size in
    let begins : BeginsBlock limit (drop at bytes) n = subst (λ (y : List ℕ). BeginsBlock limit y n) (from_on at bytes) c.in-Whole.ensures.whole in
    subst (λ (y : List ℕ). AllRecords limit (drop 12 y)) (sym (part_of at (12 + n) bytes)) (block_records limit (drop at bytes) n begins)

pub returns-in_err-print_block-clause-begun : goal.returns-in_err-print_block-clause-begun
returns-in_err-print_block-clause-begun g c = λ held came h.
    let limit = c.args.max_message in
    let bytes = c.args.bytes.now in
    let old = c.loop-size in
    let n = c.in-Whole.size in
    let w = g.W.Write.contents (device_inner old.writer) in
    let w1 = g.W.Write.contents (device_inner c.print_block.new.writer) in
    let rest = drop old.at bytes in
    let begins : BeginsBlock limit rest n = subst (λ (y : List ℕ). BeginsBlock limit y n) (from_on old.at bytes) c.in-Whole.ensures.whole in
    let begun : BeginsToTell c.args.output limit (number_of (take (12 + n) rest)) (drop 12 (take (12 + n) rest)) w w1 old.due.number =
    subst (λ (y : List ℕ). BeginsToTell c.args.output limit (number_of y) (drop 12 y) w w1 old.due.number) (part_of old.at (12 + n) bytes) c.in_err-print_block.ensures.begun in
    on_err _ _ (begun_block c.args.output limit held w w1 old.due.number old.due.place n rest came (old.invariant.told held came h) begins begun)

pub loop-size-preserved : goal.loop-size-preserved
loop-size-preserved g c =
    let limit = c.args.max_message in
    let bytes = c.args.bytes.now in
    let old = c.loop-size in
    let new = c.print_block.new in
    let n = c.in-Whole.size in
    let w = g.W.Write.contents (device_inner old.writer) in
    let w1 = g.W.Write.contents (device_inner new.writer) in
    let rest = drop old.at bytes in
    let same = from_on old.at bytes in
    let begins : BeginsBlock limit rest n = subst (λ (y : List ℕ). BeginsBlock limit y n) same c.in-Whole.ensures.whole in
    let fits : 12 + n ≤ length rest = subst (λ (y : List ℕ). 12 + n ≤ length y) same c.in-Whole.ensures.within in
    let left : length rest ≡ length bytes - old.at = length-drop old.at bytes in
    let part = part_of old.at (12 + n) bytes in
    let block = take ((old.at + (12 + n)) - old.at) rest in
    let long : length block ≡ 12 + n = ap length part ∙ length-take-le (12 + n) rest fits in
    let place : new.due.place ≡ old.due.place + (12 + n) = c.in_ok-print_block.ensures.place ∙ ap (λ (k : ℕ). old.due.place + k) long in
    let tells : TellsBlock c.args.output limit (number_of (take (12 + n) rest)) (drop 12 (take (12 + n) rest)) w w1 old.due.number new.due.number =
    subst (λ (y : List ℕ). TellsBlock c.args.output limit (number_of y) (drop 12 y) w w1 old.due.number new.due.number) part c.in_ok-print_block.ensures.told in
    record {
      within = omega (arith, fits, left, old.invariant.within);
      writes = first_of (search rules, grind (arith, common_steps));
      told = λ held came h.
          subst (λ (y : List ℕ). HasTold c.args.output limit held w1 new.due.number new.due.place y came) (drop-drop (12 + n) old.at bytes)
          (subst (λ (k : ℕ). HasTold c.args.output limit held w1 new.due.number k (drop (12 + n) rest) came) (sym place)
          (told_block c.args.output limit held w w1 old.due.number new.due.number old.due.place n rest came (old.invariant.told held came h) begins tells));
    }

pub returns-clause-none : goal.returns-clause-none
returns-clause-none g c =
    let limit = c.args.max_message in
    let bytes = c.args.bytes.now in
    let at = c.loop-size.at in
    let part = take (length bytes - at) (drop at bytes) in
    let none : BeginsNoBlock limit part = elim (not_whole c.block_front.result c.in_default.not-Whole) [
      | inl torn ↦ none_torn limit part (c.block_front.ensures.torn torn)
      | inr other ↦ c.block_front.ensures.none other
    ] in
    subst (BeginsNoBlock limit) (from_on at bytes) none
