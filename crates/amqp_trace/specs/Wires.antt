-- What a traced reader and a traced writer pass on to, and what an outlet writes to.
use Rattle.std.specs.Prelude.{}
use Rattle.amqp_frame.specs.declared.device.Device.{Device}
use Rattle.amqp_trace.specs.declared.outlet.Outlet.{Outlet}
use Rattle.amqp_trace.specs.declared.trace.TracedReader.{TracedReader}
use Rattle.amqp_trace.specs.declared.trace.TracedWriter.{TracedWriter}

-- the reader itself
abbrev pub traced_reader : {R W H : Type 0} → TracedReader R W H → R
traced_reader r = r.reader

-- the writer itself
abbrev pub traced_writer : {S W H : Type 0} → TracedWriter S W H → S
traced_writer w = w.writer

-- the device itself
abbrev pub outlet_device : {B : Type 0} → Outlet B → Device B
outlet_device o = o.writer
