use Rattle.std.proofs.Common.{◌==◌, ℕ, ◌≤◌, Bool, true, false, List, ◌++◌, length, take, drop, sym, ap, subst, ◌∙◌}
use Rattle.std.specs.Prelude.{Option, Some, None, if◌then◌else◌}
use Rattle.std.proofs.lemmas.List.{take-append-drop, take-append-le}
use Rattle.std.specs.Io.BufRead.{DropsConsumable}
use Rattle.std.specs.Io.Buffered.{reader_buffer, reader_capacity, reader_inner}
use Rattle.std.specs.Io.KnownBytes.{Consumes, prepend_known}
use Rattle.amqp_frame.proofs.device.BufReaderAtHand.took.Goals as goal

-- what was dropped of the known bytes is the front of the buffer
front_taken : (none : Bool) (buffer : List ℕ) (known new : Option (List ℕ)) (n : ℕ) → n ≤ length buffer
    → DropsConsumable (if none then None else prepend_known buffer known) new (Some (length buffer)) n → Consumes (if none then None else prepend_known buffer known) new (take n buffer)
front_taken true buffer known new n few drops = tt
front_taken false buffer None new n few drops = tt
front_taken false buffer (Some behind) new n few drops =
    let all = buffer ++ behind in
    subst (λ (o : Option (List ℕ)). Consumes (Some all) o (take n buffer)) (sym (drops few)) (sym (take-append-drop n all) ∙ ap (λ (l : List ℕ). l ++ drop n all) (take-append-le n buffer behind few))

pub returns : goal.returns
returns g c =
    let r = c.args.self.now in
    front_taken (reader_capacity r == 0) (reader_buffer r) (g.R.Read.remaining (reader_inner r)) _ c.args.n c.requires c.consume.ensures.bytes
