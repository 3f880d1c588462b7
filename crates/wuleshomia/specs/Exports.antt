-- What the exports do to the endpoint that C holds, and what they return.
use Rattle.std.specs.Prelude.{◌≡◌, ◌<◌, ◌≤◌, ℕ, suc, Bool, true, false, nat_eq, nat_le, if◌then◌else◌, List, [], ◌∷◌, ◌++◌, length, take, drop, min, Option, None, Some}
use Rattle.std.specs.Str.{IsUtf8}
use Rattle.amqp_reason.specs.Reasons.{Reason}
use Rattle.amqp_link.specs.Links.{open_count}
use Rattle.amqp_link.specs.Tags.{padded}
use Rattle.amqp_session.specs.declared.slot.Slot.{Slot}
use Rattle.amqp_session.specs.declared.slot.Slot.TheVariants.{Free, Live, Waits}
use Rattle.amqp_session.specs.declared.view.LinkView.{LinkView}
use Rattle.amqp_session.specs.Calls.{Take}
use Rattle.amqp_session.specs.Sessions.{LiveLink}
use Rattle.amqp_endpoint.specs.Connections.{slot_at}
use Rattle.amqp_endpoint.specs.Configs.{Configured, MayBeConfigured, time_out}
use Rattle.amqp_endpoint.specs.Limits.{Limit, IsTable, IsFault}
use Rattle.amqp_endpoint.specs.Runs.{Call, InSession, Output, Answer, HandedUp, Refused, MovedOut, IsStart, Does}
use Rattle.amqp_serve.specs.Serving.{session_supplies}
use Rattle.amqp_serve.specs.Supplying.{half_rule, GaveIn, LacksNothing}
use Rattle.wuleshomia.specs.declared.codes.OpenFault.{OpenFault}
use Rattle.wuleshomia.specs.declared.codes.OpenFault.TheVariants as refused
use Rattle.wuleshomia.specs.declared.data.Settings.{Settings}
use Rattle.wuleshomia.specs.declared.data.LimitRow.{LimitRow}
use Rattle.wuleshomia.specs.declared.data.AddressReport.{AddressReport}
use Rattle.wuleshomia.specs.declared.data.LinkReport.{LinkReport}
use Rattle.amqp_perform.specs.Addresses.{Node, target_node}
use Rattle.wuleshomia.specs.declared.data.TakenReport.{TakenReport}
use Rattle.wuleshomia.specs.declared.held.Held.{Held}
use Rattle.wuleshomia.specs.declared.views.Terminus.{Terminus}
use Rattle.wuleshomia.specs.declared.views.Terminus.TheVariants as terminus
use Rattle.wuleshomia.specs.Codes.{address_at, name_of, fault_at, answer_code, accepted_at, given_at}

-- What happens. -------------------------------------------------------------------------------------------------------

-- What C holds before and after an export. If that is an endpoint, this is what happens to it. If it is none, none is held afterwards, and this is what is returned.
abbrev pub Did : Option Held → Option Held → (Held → Held → Type 0) → Type 0 → Type 0
Did None None Happens NoEndpoint = NoEndpoint
Did None (Some after) Happens NoEndpoint = ⊥
Did (Some before) None Happens NoEndpoint = ⊥
Did (Some before) (Some after) Happens NoEndpoint = Happens before after

-- its endpoint makes this call with this answer, and nothing else has changed
pub record Makes (call : Call) (answer : Answer) (before after : Held) : Type 0 where
  pub rest : after ≡ record before { endpoint = after.endpoint }
  pub does : Does before.endpoint after.endpoint call answer

-- its endpoint makes this call with this answer, of which this is the code
pub record Answers (call : Call) (answer : Answer) (code : ℕ) (before after : Held) : Type 0 where
  pub makes : Makes call answer before after
  pub told : code ≡ answer_code answer

-- The words of an error. ----------------------------------------------------------------------------------------------

-- a condition and, unless this number is 0, a description
abbrev pub words_of : List ℕ → List ℕ → ℕ → Reason
words_of condition description described = record { condition = condition; description = if nat_eq described 0 then None else Some description }

-- Topping up. ---------------------------------------------------------------------------------------------------------

-- The session on a channel and its links are given what they lack, one by one, until one is refused it. This is the code, and nothing else has changed.
pub record TopsUp (channel credit window code : ℕ) (before after : Held) : Type 0 where
  pub rest : after ≡ record before { endpoint = after.endpoint }
  pub gave : GaveIn (slot_at before.endpoint.connection channel) (given_at code) (half_rule credit) window (session_supplies (suc before.endpoint.connection.config.handle_max) channel)
      before.endpoint after.endpoint
  pub told : code ≡ answer_code (accepted_at code)
  pub supplied : code ≡ 0 → LacksNothing (half_rule credit) window (suc before.endpoint.connection.config.handle_max) channel after.endpoint.connection

-- Bytes for the peer. -------------------------------------------------------------------------------------------------

-- what is moved out next: the answers of the last step or, if none wait, what the endpoint wrote after it
abbrev pub next_of : List ℕ → List ℕ → List ℕ
next_of [] unsent = unsent
next_of (b ∷ answers) unsent = b ∷ answers

abbrev pub waiting_in : Option Held → List ℕ
waiting_in None = []
waiting_in (Some held) = next_of held.answers held.endpoint.unsent

-- the first of them are moved out, as many as fit
abbrev pub MovesNext : List ℕ → ℕ → Held → Held → Type 0
MovesNext [] room before after = Makes (Output room) (MovedOut (take room before.endpoint.unsent)) before after
MovesNext (b ∷ answers) room before after = after ≡ record before { answers = drop room before.answers }

abbrev pub Moves : ℕ → Held → Held → Type 0
Moves room before after = MovesNext before.answers room before after

-- An endpoint is set up. ----------------------------------------------------------------------------------------------

-- the row of a table
abbrev pub limit_of : LimitRow → Limit
limit_of r = record { prefix = if nat_le r.prefix_len 256 then take r.prefix_len r.prefix else []; bounds = record { allowed = r.allowed; max_message_size = r.max_message } }

-- the configuration that is requested
abbrev pub configured : Settings → List ℕ → List Limit → Configured
configured s name rows = record {
  container_id = name;
  max_frame = s.max_frame;
  channel_max = s.channel_max;
  handle_max = s.handle_max;
  bounds = record { allowed = s.allowed; max_message_size = s.max_message };
  limits = rows;
  window = s.window;
  idle_time_out = time_out s.idle_time_out;
}

-- the container-id is text, and each setting is within its range
pub record AreSettings (s : Settings) (name : List ℕ) : Type 0 where
  pub text : IsUtf8 name
  pub ranges : MayBeConfigured name s.max_frame s.channel_max s.handle_max s.allowed s.max_message s.window

-- a new endpoint with these settings, and nothing else
pub record IsNew (s : Settings) (name : List ℕ) (rows : List Limit) (held : Held) : Type 0 where
  pub settings : AreSettings s name
  pub table : IsTable rows
  pub start : IsStart (configured s name rows) held.endpoint
  pub message : held.message ≡ None
  pub answers : held.answers ≡ []
  pub records : held.records ≡ []
  pub lost : held.lost ≡ None

-- Why none is set up. Each reason holds only if those before it do not, but memory may be refused at any time.
abbrev pub WhyNot : Settings → List ℕ → List Limit → OpenFault → Type 0
WhyNot s name rows refused.InUse = ⊥
WhyNot s name rows refused.NoMemory = Unit {0}
WhyNot s name rows refused.Settings = AreSettings s name → ⊥
WhyNot s name rows (refused.Limits f) = AreSettings s name × IsFault rows f

-- an endpoint is set up, and there was none
abbrev pub IsOpened : Settings → List ℕ → List Limit → Option Held → Option Held → Type 0
IsOpened s name rows None (Some held) = IsNew s name rows held
IsOpened s name rows None None = ⊥
IsOpened s name rows (Some before) new = ⊥

-- none is set up
abbrev pub OpenRefused : Settings → List ℕ → List Limit → Option Held → OpenFault → Type 0
OpenRefused s name rows None f = WhyNot s name rows f
OpenRefused s name rows (Some before) f = f ≡ refused.InUse

-- Messages. -----------------------------------------------------------------------------------------------------------

-- the bytes of the message that was taken last
abbrev pub bytes_in : Option (List ℕ) → List ℕ
bytes_in None = []
bytes_in (Some message) = message

abbrev pub message_in : Option Held → List ℕ
message_in None = []
message_in (Some held) = bytes_in held.message

abbrev pub without_message : Held → Held
without_message held = record held { message = None }

-- the tag in a report
abbrev pub tag_at : TakenReport → List ℕ
tag_at t = take t.tag_len t.tag

-- what a take handed up
abbrev pub handed_at : TakenReport → List ℕ → Answer
handed_at t message = HandedUp (record { delivery_id = t.id; delivery_tag = tag_at t; message_format = t.format; settled = nat_eq t.settled 1; message = message })

-- A message is taken, and replaces the one before it. Or the take is refused, and nothing has changed except bytes of the endpoint's buffer that do not count.
pub record IsTaken (channel handle : ℕ) (t : TakenReport) (before after : Held) : Type 0 where
  pub some : after.message ≡ Some (bytes_in after.message)
  pub rest : after ≡ record before { endpoint = after.endpoint; message = after.message }
  pub does : Does before.endpoint after.endpoint (InSession channel (Take handle)) (handed_at t (bytes_in after.message))
  pub len : t.len ≡ length (bytes_in after.message)
  pub settled : t.settled < 2
  -- the tag's length, and 0 in the bytes after the tag
  pub tag_len : t.tag_len ≡ length (tag_at t)
  pub tag_most : t.tag_len ≤ 32
  pub tag_rest : t.tag ≡ padded (tag_at t)

abbrev pub TakesIf : Bool → ℕ → ℕ → ℕ → TakenReport → Held → Held → Type 0
TakesIf true code channel handle t before after = IsTaken channel handle t before after
TakesIf false code channel handle t before after = Answers (InSession channel (Take handle)) (Refused (fault_at code)) code before after

abbrev pub Takes : ℕ → ℕ → ℕ → TakenReport → Held → Held → Type 0
Takes code channel handle t before after = TakesIf (nat_eq code 0) code channel handle t before after

-- Links. --------------------------------------------------------------------------------------------------------------

-- the first bytes are copied into some room, as many as fit
abbrev pub IsCopied : List ℕ → List ℕ → List ℕ → Type 0
IsCopied bytes old new = new ≡ take (length old) bytes ++ drop (min (length old) (length bytes)) old

-- what is reported of a link
abbrev pub report_of : LinkView → LinkReport
report_of v = record {
  credit = v.credit;
  opened = v.opened;
  ready = v.ready;
  allowed = v.bounds.allowed;
  max_message = v.bounds.max_message_size;
  name_len = min (length v.name.now) 4294967295;
  source_len = min (length v.source.now) 4294967295;
  target_len = min (length v.target.now) 4294967295;
}

-- how the link at a handle is reported
abbrev pub Shows : Slot LiveLink → ℕ → LinkReport → LinkReport → List ℕ → List ℕ → Type 0
Shows Free code before link old new = (code ≡ 4) × (link ≡ before) × (new ≡ old)
Shows (Live l) code before link old new =
    (code ≡ 0) × (link.credit ≡ l.link.credit) × (link.opened ≡ open_count l.link) × (link.ready ≡ length l.link.ready)
    × (link.allowed ≡ l.link.terms.bounds.allowed) × (link.max_message ≡ l.link.terms.bounds.max_message_size)
    × (link.name_len ≡ min (length l.name) 4294967295) × (link.source_len ≡ min (length l.source) 4294967295) × (link.target_len ≡ min (length l.target) 4294967295)
    × IsCopied l.name old new
Shows Waits code before link old new = (code ≡ 4) × (link ≡ before) × (new ≡ old)

-- how a part of the link is reported
abbrev pub ShowsPart : Slot LiveLink → (LiveLink → List ℕ) → ℕ → List ℕ → List ℕ → Type 0
ShowsPart Free part code old new = (code ≡ 4) × (new ≡ old)
ShowsPart (Live l) part code old new = (code ≡ 0) × IsCopied (part l) old new
ShowsPart Waits part code old new = (code ≡ 4) × (new ≡ old)

-- what is reported of a target's node
abbrev pub ShowsNode : Node → AddressReport → List ℕ → List ℕ → Type 0
ShowsNode node address old new =
    (address_at address.kind (name_of node) ≡ node) × (address.kind < 5) × (address.len ≡ min (length (name_of node)) 4294967295) × IsCopied (name_of node) old new

abbrev pub ShowsAddress : Slot LiveLink → ℕ → AddressReport → AddressReport → List ℕ → List ℕ → Type 0
ShowsAddress Free code before address old new = (code ≡ 4) × (address ≡ before) × (new ≡ old)
ShowsAddress (Live l) code before address old new = (code ≡ 0) × ShowsNode (target_node l.target) address old new
ShowsAddress Waits code before address old new = (code ≡ 4) × (address ≡ before) × (new ≡ old)

-- one of its source and its target
abbrev pub terminus_of : Terminus → List ℕ → List ℕ → List ℕ
terminus_of terminus.Source source target = source
terminus_of terminus.Target source target = target
