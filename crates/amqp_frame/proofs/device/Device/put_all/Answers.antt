use Rattle.std.proofs.Common.{ℕ, List, ◌++◌, ◌-◌, ◌∙◌, length, take, drop, sym, ap}
use Rattle.std.proofs.KnownBytes.{Appends-trans}
use Rattle.std.proofs.lemmas.List.{append_assoc, take-append-drop, take_rest}
use Rattle.amqp_frame.specs.Devices.{AppendsFront}
use Rattle.amqp_frame.proofs.Results.{of_err}
use Rattle.amqp_frame.proofs.device.Device.put_all.Goals as goal

-- What the first write took, and what the others took of the rest.
pub returns-in-Some-2-clause-begun : goal.returns-in-Some-2-clause-begun
returns-in-Some-2-clause-begun g c bad =
    let bytes = c.args.buf.now in
    let n = c.in-Some.count in
    let rest = of_err c.write_all.result (AppendsFront _ _ (take (length bytes - n) (drop n bytes))) (sym c.is_ok.ensures.value ∙ bad) c.write_all.ensures.begun in
    record {
      front = take n bytes ++ rest.front;
      behind = rest.behind;
      written = Appends-trans _ _ _ _ _ c.in-Some.ensures.taken rest.written;
      is = sym (take-append-drop n bytes) ∙ ap (λ (x : List ℕ). take n bytes ++ x) (sym (take_rest bytes n) ∙ rest.is) ∙ sym (append_assoc (take n bytes) rest.front rest.behind);
    }
