use Rattle.std.proofs.Common.{◌≡◌, ◌++◌, ◌∷◌, [], ◌∙◌}
use Rattle.std.proofs.lemmas.Result.{on_ok_weaker}
use Rattle.std.specs.Int.{w32, w64, to_be_bytes}
use Rattle.amqp_spool.specs.Entries.{short, long}
use Rattle.amqp_spool.specs.EntryReading.{introduced_in}
use Rattle.amqp_spool.proofs.EntryTexts.{introduction_written}
use Rattle.amqp_spool.proofs.entry.put_introduction.Goals as goal

pub returns : goal.returns
returns c =
    let o = c.args.out.now.items in
    let i = introduced_in c.args.i.now in
    let before : c.push-2.new.self.items ≡ o ++ 1 ∷ [] ++ to_be_bytes w32 i.link ++ to_be_bytes w64 i.connection ++ short i.peer ++ short i.container ++ short i.name ++ short i.user ++ i.kind ∷ [] =
    cc (c.in_ok-push.ensures.items, c.in_ok-extend_from_slice.ensures.items, c.in_ok-extend_from_slice-2.ensures.items, c.to_be_bytes.ensures, c.to_be_bytes-2.ensures, c.in_ok-put_short.ensures, c.in_ok-put_short-2.ensures, c.in_ok-put_short-3.ensures, c.in_ok-put_short-4.ensures, c.in_ok-push-2.ensures.items) in
    on_ok_weaker c.put_long.result (λ (e : c.put_long.new.out.items ≡ c.push-2.new.self.items ++ long i.target). rw before at e ∙ introduction_written o i) c.put_long.ensures
