use Rattle.std.proofs.Common.{◌≤◌, ℕ, List, inr, refl, sym, subst, length, arith}
use Rattle.std.specs.Io.KnownBytes.{Consumes}
use Rattle.amqp_frame.specs.Devices.{device_inner}
use Rattle.amqp_serve.proofs.ServingFeeds.{front_lent, front_short}
use Rattle.amqp_serve.proofs.sending.read_in.Goals as goal

pub returns-in-Ok-clause-read : goal.returns-in-Ok-clause-read
returns-in-Ok-clause-read g c =
    let spare = c.args.endpoint.now.input.spare in
    let room = c.spare.result.now in
    let ws = c.read.new.buf in
    let short : length room ≤ length spare = front_short room spare c.spare.ensures.value in
    let n = c.in-Ok.count in (
      inr (length room, c.spare.ensures.asks, omega (arith, c.in-Ok.ensures.bound)),
      record { input = record { limit = refl; stage = refl; filled = refl }; unsent = refl; connection = refl },
      subst (λ (l : List ℕ). Consumes (g.R.Read.remaining (device_inner c.args.reader.now)) (g.R.Read.remaining (device_inner c.read.new.self)) l)
          (sym (front_lent n (length room) c.args.endpoint.now.input.reach ws spare c.in-Ok.ensures.bound (omega arith) (omega (arith, short)))) c.in-Ok.ensures.bytes,
    )
