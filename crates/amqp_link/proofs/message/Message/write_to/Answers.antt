use Rattle.std.proofs.Common.{◌≡◌, ◌∙◌, ◌++◌, ℕ, List, [], length, take, IsTrue, drop, ap, sym, subst, append-nil, arith}
use Rattle.std.specs.Io.KnownBytes.{Appends}
use Rattle.std.proofs.KnownBytes.{Appends-trans}
use Rattle.amqp_frame.specs.Devices.{device_inner, has_failed}
use Rattle.amqp_frame.proofs.Results.{on_err}
use Rattle.std.proofs.lemmas.List.{length-append, length-drop, take_all}
use Rattle.amqp_link.specs.Pieces.{total}
use Rattle.amqp_link.proofs.Joined.{next_front, around_block}
use Rattle.amqp_link.proofs.Writings.{part_of, on_err_of}
use Rattle.amqp_link.proofs.message.Message.write_to.Goals as goal

pub returns-in_err-write_all-clause-err : goal.returns-in_err-write_all-clause-err
returns-in_err-write_all-clause-err g c =
    let k = g.W.Write.contents (device_inner c.args.writer.now) in
    let k1 = g.W.Write.contents (device_inner c.loop-index.writer) in
    let k2 = g.W.Write.contents (device_inner c.write_all.new.self) in
    let all = c.self.inside.blocks.bytes in
    let block = c.block.result.now in
    let lies = c.block.ensures.lies in
    let at = total (take c.loop-index.index c.self.inside.blocks.before) in
    on_err _ _ (part_of k k1 k2 (take at all) block lies.0 c.args.self.now c.loop-index.invariant.written c.in_err-write_all.ensures.begun (sym c.self.view_is ∙ around_block all block lies.0 at lies.1))

pub loop-index-preserved : goal.loop-index-preserved
loop-index-preserved g c =
    let k = g.W.Write.contents (device_inner c.args.writer.now) in
    let k1 = g.W.Write.contents (device_inner c.loop-index.writer) in
    let k2 = g.W.Write.contents (device_inner c.write_all.new.self) in
    let all = c.self.inside.blocks.bytes in
    let block = c.block.result.now in
    let lies = c.block.ensures.lies in
    let at = total (take c.loop-index.index c.self.inside.blocks.before) in
    let before = c.loop-index.invariant in
    let wrote = c.in_ok-write_all.ensures in
    record {
      end = before.end;
      written = subst (λ (l : List ℕ). Appends k k2 l) (sym (next_front all block lies.0 at lies.1) ∙ ap (λ (n : ℕ). take n all) (sym c.block.ensures.len))
          (Appends-trans k k1 k2 (take at all) block before.written wrote.written);
      ended = wrote.ended ∙ before.ended;
      reads = wrote.reads ∙ before.reads;
      still = λ failed. wrote.still (subst (λ w. IsTrue (has_failed w)) (sym (before.still failed)) failed) ∙ before.still failed;
      none = λ none. wrote.empty (omega (arith, none, length-drop at all, ap length lies.1, length-append block lies.0)) ∙ before.none none;
    }

pub returns-clause-err : goal.returns-clause-err
returns-clause-err g c =
    let k = g.W.Write.contents (device_inner c.args.writer.now) in
    let k1 = g.W.Write.contents (device_inner c.loop-index.writer) in
    let k2 = g.W.Write.contents (device_inner c.write_all-2.new.self) in
    let all = c.self.inside.blocks.bytes in
    let last = c.last.result.now in
    let at = total (take c.loop-index.index c.self.inside.blocks.before) in
    let every : at ≡ total c.self.inside.blocks.before = ap (λ (l : List ℕ). total l) (take_all c.loop-index.index c.self.inside.blocks.before (omega (arith, c.loop-index-test.false, c.followed-index-end.ensures))) in
    let lies : drop at all ≡ last ++ [] = ap (λ (n : ℕ). drop n all) every ∙ c.last.ensures.lies ∙ sym (append-nil last) in
    on_err_of _ _ _ (λ begun. part_of k k1 k2 (take at all) last [] c.args.self.now c.loop-index.invariant.written begun (sym c.self.view_is ∙ around_block all last [] at lies)) c.write_all-2.ensures.begun
