use Rattle.std.proofs.Common.{arith}
use Rattle.amqp_proxy.proofs.Values.{cut_short, cut_at, first_at}
use Rattle.amqp_proxy.proofs.tlvs.first_tlv.Goals as goal

pub returns-then-bytes-lt-TLV_LEN : goal.returns-then-bytes-lt-TLV_LEN
returns-then-bytes-lt-TLV_LEN c = cut_short c.args.bytes.now c.requires c.if-bytes-lt-TLV_LEN.true

pub returns-then-bytes-len : goal.returns-then-bytes-len
returns-then-bytes-len c = cut_at c.args.bytes.now c.read_u16-len.result c.read_u16-len.ensures (omega arith) (omega arith)

pub returns : goal.returns
returns c = first_at c.args.bytes.now c.read_u16-len.result c.read_u16-len.ensures (omega arith)
