use Rattle.std.proofs.Common.{◌≡◌, ◌^◌, ◌-◌, min, length, take}
use Rattle.std.specs.Prelude.{sum_by}
use Rattle.amqp_hub.proofs.ledger.bytes_in.Given as goal

abbrev pub invariant-loop-record : goal.invariant-loop-record
invariant-loop-record g l = record {
  all : l.sum ≡ min (sum_by (λ r. length r.bytes.items) (take l.record-index l.fn.records)) (2 ^ 64 - 1);
}
