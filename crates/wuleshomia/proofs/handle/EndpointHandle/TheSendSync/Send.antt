-- A handle may go to another thread, since its endpoint may.
use Prim.Native.Nat.{ℕ}
use base.Shift.{Keyless}
use mir.Raw.{raw}
use denote.Memory.{lone}
use denote.RawPtr.{Ptr}
use denote.Struct.Struct.{exits_of}
use denote.Struct.Owning.{shape, fields, to}
use denote.Param.Send.{IsSend, AllSend, owning_send, struct_send, sendable}
use Rattle.std.specs.declared.option.Option.{Option}
use Rattle.std.specs.declared.option.Option.TheVariants.{None, Some}
use Rattle.std_alloc.proofs.SendSync.{quiet, lies}
use Rattle.libc.specs.Heap.{chunk-Keyless}
use Rattle.wuleshomia.specs.Handles.{handle_owns}
use Rattle.wuleshomia.specs.contracts.held.Held as Held
use Rattle.wuleshomia.proofs.held.Held.TheSendSync.{the_send as held}
use Rattle.wuleshomia.specs.contracts.handle.EndpointHandle.{the_row, the_type}

keyless : (p : Ptr) (n : ℕ) (h : Option Held.the_row.Denot) → Keyless (handle_owns p n h)
keyless p n None = tt
keyless p n (Some x) = (tt, (lies Held.the_row held p x, chunk-Keyless (raw (lone Held.the_row.mir)) p))

pub send : IsSend the_row
send =
    let all : AllSend (fields the_type) = (search sendable, (search sendable, tt)) in
    owning_send the_type all (λ d. keyless d.at d.live d.held) (λ k. quiet (to the_type) (exits_of k (fields the_type)) ((struct_send (shape the_type) all).leaving k))
