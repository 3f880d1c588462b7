-- What a sender knows of its session and its link, in numbers. [2.5.6, 2.6.7]
use Rattle.std.specs.Prelude.{ℕ, ◌^◌, nat_lt, if◌then◌else◌, Some, None, false, true}
use Rattle.amqp_serial.specs.Numbers.{sum_of, distance_of}
use Rattle.amqp_send.specs.declared.flow_state.FlowState.{FlowState}
use Rattle.amqp_send.specs.declared.telling.Limits.{Limits}

-- before the receiver tells anything
abbrev pub flow_begins : FlowState
flow_begins = record {
  max_frame_size = 512;
  peer_next_outgoing_id = None;
  flowed = false;
  window_end = 0;
  credit_end = 0;
  next_outgoing_id = 0;
  delivery_id = 0;
  delivery_count = 0;
}

-- how far an end is ahead of a number; an end 2^31 steps ahead or more counts as behind [2.8.10]
abbrev pub ahead : ℕ → ℕ → ℕ
ahead own end = let d = distance_of own end in if nat_lt d (2 ^ 31) then d else 0

-- how many transfers may be sent [2.5.6: remote-incoming-window]
abbrev pub window : FlowState → ℕ
window f = ahead f.next_outgoing_id f.window_end

-- how many deliveries may be begun [2.6.7]
abbrev pub credit : FlowState → ℕ
credit f = ahead f.delivery_count f.credit_end

-- the longest frame that is written [2.7.1]
abbrev pub most : FlowState → ℕ
most f = if nat_lt f.max_frame_size 4096 then f.max_frame_size else 4096

abbrev pub opened : ℕ → FlowState → FlowState
opened max_frame_size f = record f { max_frame_size = max_frame_size }

-- the window of the begin holds until a flow states one [2.5.6]
abbrev pub begun : ℕ → ℕ → FlowState → FlowState
begun next incoming_window f = record f { peer_next_outgoing_id = Some next; window_end = if f.flowed then f.window_end else incoming_window }

-- [2.5.6: next-incoming-id + incoming-window; 2.6.7: delivery-count + link-credit]
abbrev pub limited : Limits → FlowState → FlowState
limited l f = record f {
  flowed = true;
  window_end = sum_of l.next_incoming_id l.incoming_window;
  credit_end = if l.of_link then sum_of l.delivery_count l.link_credit else f.credit_end;
}

-- the count rises by the credit, and no credit is left [2.6.7]
abbrev pub drained : FlowState → FlowState
drained f = record f { delivery_count = sum_of f.delivery_count (credit f) }

-- a transfer went that began `heads` deliveries [2.5.6, 2.6.7]
abbrev pub transferred : ℕ → FlowState → FlowState
transferred heads f = record f {
  next_outgoing_id = sum_of f.next_outgoing_id 1;
  delivery_id = sum_of f.delivery_id heads;
  delivery_count = sum_of f.delivery_count heads;
}
