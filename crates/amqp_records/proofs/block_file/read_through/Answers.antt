use Rattle.std.proofs.Common.{◌≡◌, ℕ, List, [], length, take, drop, refl, sym, ap, ◌∙◌, subst, arith, rules}
use Rattle.std.proofs.lemmas.Grind.{common_steps}
use Rattle.amqp_frame.specs.Devices.{device_inner}
use Rattle.amqp_records.specs.Blocks.{IsTorn, BeginsNoBlock}
use Rattle.amqp_records.proofs.BlockFronts.{HasCome, none_came, came_on, came_whole, came_otherwise, front_torn}
use Rattle.amqp_records.proofs.block_file.read_through.Goals as goal

pub loop-reader-init : goal.loop-reader-init
loop-reader-init g c =
    let limit = c.args.max_message in
    let r0 = g.R.Read.remaining (device_inner c.args.reader.now) in
    let arrived = c.new-arrived.result.items in
    let none : arrived ≡ [] = c.new-arrived.ensures.items in
    record {
      some = c.requires.some;
      reads = c.requires.reads;
      came = subst (λ (y : List ℕ). HasCome limit r0 r0 0 y) (sym none) (none_came limit r0);
      torn = subst (λ (y : List ℕ). IsTorn limit y) (sym none) refl;
    }

pub loop-reader-preserved : goal.loop-reader-preserved
loop-reader-preserved g c =
    let limit = c.args.max_message in
    let old = c.loop-reader in
    let r = g.R.Read.remaining (device_inner old.reader) in
    let r0 = g.R.Read.remaining (device_inner c.args.reader.now) in
    let r1 = g.R.Read.remaining (device_inner c.read_piece.new.reader) in
    let n = c.whole_len-len.result in
    let rest = c.deref-in-loop-reader.result.now in
    let left : rest ≡ drop n c.deref.result.now = c.deref-in-loop-reader.ensures.value ∙ c.drop_front.ensures ∙ ap (drop n) (sym c.deref.ensures.value) in
    let none : BeginsNoBlock limit rest = subst (BeginsNoBlock limit) (sym left) c.whole_len-len.ensures.none in
    let torn : IsTorn limit rest =
    front_torn limit rest c.block_front.result none c.block_front.ensures.whole c.block_front.ensures.torn c.in_default.not-NoBlock
    in
    record {
      some = omega (arith, old.invariant.some, c.read_piece.auto.piece);
      reads = first_of (search rules, grind (arith, common_steps));
      came = came_on limit r0 r r1 old.blocks n c.in_ok-blocks.blocks old.arrived.items (take c.in_ok-count.count c.read_piece.new.piece) c.extend_from_slice.new.self.items
          c.deref.result.now c.drop_front.new.bytes.items old.invariant.came c.in_ok-count.ensures.bytes c.in_ok-extend_from_slice.ensures.items c.deref.ensures.value
          c.whole_len-len.ensures.within c.whole_len-len.ensures.blocks c.drop_front.ensures c.in_ok-blocks.ensures.place;
      torn = subst (IsTorn limit) c.deref-in-loop-reader.ensures.value torn;
    }

pub returns-in-NoBlock-clause-block : goal.returns-in-NoBlock-clause-block
returns-in-NoBlock-clause-block g c = λ place same.
    let limit = c.args.max_message in
    let old = c.loop-reader in
    let r = g.R.Read.remaining (device_inner old.reader) in
    let r0 = g.R.Read.remaining (device_inner c.args.reader.now) in
    let r1 = g.R.Read.remaining (device_inner c.read_piece.new.reader) in
    let n = c.whole_len-len.result in
    let rest = c.drop_front.new.bytes.items in
    let is : c.in_ok-blocks.blocks ≡ place = cc in
    let came = came_on limit r0 r r1 old.blocks n c.in_ok-blocks.blocks old.arrived.items (take c.in_ok-count.count c.read_piece.new.piece) c.extend_from_slice.new.self.items
    c.deref.result.now rest old.invariant.came c.in_ok-count.ensures.bytes c.in_ok-extend_from_slice.ensures.items c.deref.ensures.value
    c.whole_len-len.ensures.within c.whole_len-len.ensures.blocks c.drop_front.ensures c.in_ok-blocks.ensures.place
    in
    let none : BeginsNoBlock limit rest = subst (BeginsNoBlock limit) c.deref-in-loop-reader.ensures.value (c.block_front.ensures.none c.in-NoBlock.is) in
    came_otherwise limit r0 r1 place rest (subst (λ (k : ℕ). HasCome limit r0 r1 k rest) is came) none
    (λ torn. c.block_front.ensures.untorn c.in-NoBlock.is (subst (IsTorn limit) (sym c.deref-in-loop-reader.ensures.value) torn))

pub returns-clause-whole : goal.returns-clause-whole
returns-clause-whole g c =
    let limit = c.args.max_message in
    let old = c.loop-reader in
    let r = g.R.Read.remaining (device_inner old.reader) in
    let r0 = g.R.Read.remaining (device_inner c.args.reader.now) in
    let long : c.len.result ≡ length old.arrived.items = first_of (search rules, grind (arith, common_steps)) in
    came_whole limit r0 r old.blocks c.len.result old.arrived.items old.invariant.came old.invariant.torn long
