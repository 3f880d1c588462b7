use Rattle.std.proofs.Common.{sym, ap, ◌∙◌}
use Rattle.wuleshomia.specs.Waiting.{gathered}
use Rattle.wuleshomia.proofs.Losses.{stepped}
use Rattle.wuleshomia.proofs.held.Held.serve.Goals as goal

pub returns : goal.returns
returns c =
    let s = c.serve_piece-stepped in
    record {
      rest = search;
      lost = search;
      bound = s.ensures.bound;
      reaches = s.ensures.reaches;
      stepped = stepped _ _ _ _ _ s.result.done _ _ (ap gathered c.new-writer.ensures.inner ∙ c.new.ensures ∙ c.emptied.ensures.room) (ap gathered c.new-sink.ensures.inner ∙ c.new-2.ensures ∙ c.emptied-2.ensures.room)
          c.new-writer.ensures.failed c.new-sink.ensures.failed (sym (c.of.ensures ∙ c.into_bytes.ensures ∙ ap gathered c.into_inner.ensures))
          (sym (c.of-2.ensures ∙ c.into_bytes-2.ensures ∙ ap gathered c.into_inner-2.ensures)) s.ensures.stepped;
    }
