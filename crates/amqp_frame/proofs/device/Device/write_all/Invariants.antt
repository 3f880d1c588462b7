-- So many of the bytes were written as the index says, and only writes were asked.
use Rattle.std.proofs.Common.{◌-◌, ◌<◌, ◌≤◌, ◌≡◌, length, take, false}
use Rattle.std.specs.Io.KnownBytes.{Appends}
use Rattle.amqp_frame.specs.Devices.{device_inner, has_failed, has_ended, is_flushed, reads_left}
use Rattle.amqp_frame.proofs.device.Device.write_all.Given as goal

abbrev pub invariant-rest : goal.invariant-rest
invariant-rest g l = record {
  within : l.at ≤ length l.buf;
  unmarked : has_failed l.self ≡ false;
  written : Appends (g.W.Write.contents (device_inner l.fn.self)) (g.W.Write.contents (device_inner l.self)) (take l.at l.buf);
  flushed : 0 < l.at → is_flushed l.self ≡ false;
  ended : has_ended l.self ≡ has_ended l.fn.self;
  reads : reads_left l.self ≡ reads_left l.fn.self;
  fresh : l.at ≡ 0 → l.self ≡ l.fn.self;
}

abbrev pub decreases-rest : goal.decreases-rest
decreases-rest g l = length l.buf - l.at
