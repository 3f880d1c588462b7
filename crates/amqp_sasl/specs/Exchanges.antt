-- What the layer does with all bytes of a peer. [5.3, 5.3.2]
use Rattle.std.specs.Prelude.{◌≡◌, ℕ, ◌-◌, ◌≤◌, ◌<◌, ◌⊎◌, Bool, true, false, List, [], ◌++◌, length, take, drop, Option, Some, None}
use Rattle.amqp_frame.specs.Units.{size_of}
use Rattle.amqp_sasl.specs.declared.frame.Progress.{Progress}
use Rattle.amqp_sasl.specs.declared.frame.Progress.TheVariants as progress
use Rattle.amqp_sasl.specs.declared.header.Opening.{Opening}
use Rattle.amqp_sasl.specs.declared.header.Opening.TheVariants as opening
use Rattle.amqp_sasl.specs.declared.header.TheConstants.{SASL_HEADER}
use Rattle.amqp_sasl.specs.declared.layer.Outcome.{Outcome}
use Rattle.amqp_sasl.specs.declared.layer.Outcome.TheVariants as says
use Rattle.amqp_sasl.specs.declared.layer.Stage.{Stage}
use Rattle.amqp_sasl.specs.declared.layer.Stage.TheVariants as stage
use Rattle.amqp_sasl.specs.declared.offer.Offer.{Offer}
use Rattle.amqp_sasl.specs.declared.replays.Replay.{Replay}
use Rattle.amqp_sasl.specs.declared.verdict.Init.{Init}
use Rattle.amqp_sasl.specs.Answers.{mechanisms_frame, challenge_frame, outcome_frame}
use Rattle.amqp_sasl.specs.Frames.{opening_of, progress_of}
use Rattle.amqp_sasl.specs.Verdicts.{Request, Judgement, Malformed, Refused, Asks, Judged, Ends, Challenges, step_of, reply_of, verdict_of, request_now}

-- where an exchange stands
pub data Standing : Type 0 where
  AwaitsHeader : Standing
  AwaitsInit : Standing
  AwaitsResponse : Standing
  -- the host is asked this
  AwaitsAnswer : Request → Standing
  -- what follows is for the endpoint
  Passed : Standing
  Broken : Standing

-- what is done with all bytes of a peer: where the exchange then stands, what was written for the peer, and what was handed on
pub record Done : Type 0 where
  pub standing : Standing
  pub written : List ℕ
  pub handed : List ℕ

abbrev pub did : Standing → List ℕ → List ℕ → Done
did s w h = record { standing = s; written = w; handed = h }

-- the same, with these bytes written before
abbrev pub with_written : List ℕ → Done → Done
with_written w d = record { standing = d.standing; written = w ++ d.written; handed = d.handed }

-- what is done about the last frame, and the bytes behind it, if the host answers this; None if it has not answered [5.3.3.6]
abbrev pub by_verdict : Option Bool → Judgement → List ℕ → Done
by_verdict answer Malformed behind = did Broken [] []
by_verdict answer Refused behind = did Broken (outcome_frame 1) []
by_verdict None (Asks r) behind = did (AwaitsAnswer r) [] []
by_verdict (Some true) (Asks r) behind = did Passed (outcome_frame 0) behind
by_verdict (Some false) (Asks r) behind = did Broken (outcome_frame 1) []

abbrev pub by_reply : Option (List ℕ) → Option Bool → List ℕ → Progress → Done
by_reply hostname answer bytes progress.Short = did AwaitsResponse [] []
by_reply hostname answer bytes progress.Bad = did Broken [] []
by_reply hostname answer bytes progress.Whole =
    by_verdict answer (reply_of hostname (take (size_of bytes) bytes)) (drop (size_of bytes) bytes)

-- what is done with the bytes behind a `sasl-init` that was challenged, if there is this room for a frame [5.3.3.4]
abbrev pub response : Option (List ℕ) → ℕ → Option Bool → List ℕ → Done
response hostname room answer bytes = by_reply hostname answer bytes (progress_of room bytes)

-- what is done about the first frame, and the bytes behind it
abbrev pub by_step : Option Bool → Judged → ℕ → List ℕ → Done
by_step answer (Ends judgement) room behind = by_verdict answer judgement behind
by_step answer (Challenges hostname) room behind = with_written challenge_frame (response hostname room answer behind)

abbrev pub by_progress : Offer → Option Bool → List ℕ → Progress → Done
by_progress offer answer bytes progress.Short = did AwaitsInit [] []
by_progress offer answer bytes progress.Bad = did Broken [] []
by_progress offer answer bytes progress.Whole =
    by_step answer (step_of offer (take (size_of bytes) bytes)) (512 - size_of bytes) (drop (size_of bytes) bytes)

-- What is done with the bytes behind the header of the SASL layer. The frames of the peer may have 512 bytes together.
abbrev pub initiation : Offer → Option Bool → List ℕ → Done
initiation offer answer bytes = by_progress offer answer bytes (progress_of 512 bytes)

abbrev pub by_opening : Offer → Option Bool → List ℕ → Opening → Done
by_opening offer answer bytes opening.Short = did AwaitsHeader [] []
by_opening offer answer bytes opening.Secured =
    with_written (SASL_HEADER ++ mechanisms_frame offer) (initiation offer answer (drop 8 bytes))
by_opening offer answer bytes opening.Bare = did Passed [] bytes
by_opening offer answer bytes opening.Other = did Broken SASL_HEADER []

-- what the layer does with all bytes of a peer, if the host answers this
abbrev pub exchange : Offer → Option Bool → List ℕ → Done
exchange offer answer bytes = by_opening offer answer bytes (opening_of offer bytes)

-- A layer, and what it does with further bytes. --------------------------------------------------------------------------

-- what is offered, what the layer is at, the frame of the `sasl-init` once it is whole, the other bytes of the peer that it keeps, and those
-- that wait for the peer
pub record SaslState : Type 0 where
  pub offer : Offer
  pub stage : Stage
  pub init : List ℕ
  pub kept : List ℕ
  pub unsent : List ℕ

-- what is done with the bytes behind a `sasl-init`, once its challenge is written
abbrev pub replied : Option Bool → Judged → ℕ → List ℕ → Done
replied answer (Ends judgement) room bytes = did Broken [] []
replied answer (Challenges hostname) room bytes = response hostname room answer bytes

abbrev pub onward : Stage → Offer → Option Bool → List ℕ → List ℕ → List ℕ → Done
onward stage.Header offer answer init kept more = exchange offer answer (kept ++ more)
onward stage.Init offer answer init kept more = initiation offer answer (kept ++ more)
onward stage.Response offer answer init kept more = replied answer (step_of offer init) (512 - length init) (kept ++ more)
onward stage.Ask offer answer init kept more = by_verdict answer (verdict_of offer init kept) more
onward stage.Past offer answer init kept more = did Passed [] (kept ++ more)
onward stage.Failed offer answer init kept more = did Broken [] []

-- what a layer does with all bytes that it gets from here on; what waits for the peer is written first
abbrev pub told : SaslState → Option Bool → List ℕ → Done
told s answer more = with_written s.unsent (onward s.stage s.offer answer s.init s.kept more)

-- the host is asked something
pub record IsAsking (judgement : Judgement) : Type 0 where
  pub request : Request
  pub is : judgement ≡ Asks request

-- a response is due
pub record IsChallenging (judged : Judged) : Type 0 where
  pub hostname : Option (List ℕ)
  pub is : judged ≡ Challenges hostname

-- what holds of every layer
abbrev pub IsSound : Offer → Stage → List ℕ → List ℕ → List ℕ → Type 0
IsSound offer stage.Header init kept unsent = (init ≡ []) × (length kept < 8) × (length unsent ≤ 0)
IsSound offer stage.Init init kept unsent = (init ≡ []) × (progress_of 512 kept ≡ progress.Short) × (length unsent ≤ 51)
IsSound offer stage.Response init kept unsent =
    IsChallenging (step_of offer init) × (length init ≤ 504) × (progress_of (512 - length init) kept ≡ progress.Short) × (length unsent ≤ 67)
IsSound offer stage.Ask init kept unsent = IsAsking (verdict_of offer init kept) × (length unsent ≤ 67)
IsSound offer stage.Past init kept unsent = init ≡ []
IsSound offer stage.Failed init kept unsent = (init ≡ []) × (kept ≡ [])

-- what a layer says at a stage
abbrev pub outcome_of : Stage → Outcome
outcome_of stage.Header = says.More
outcome_of stage.Init = says.More
outcome_of stage.Response = says.More
outcome_of stage.Ask = says.Ask
outcome_of stage.Past = says.Past
outcome_of stage.Failed = says.Failed

-- more bytes are awaited: all that was written waits for the peer, and nothing was handed on
pub record IsAwaited (d : Done) (unsent : List ℕ) : Type 0 where
  pub standing : (d.standing ≡ AwaitsHeader) ⊎ ((d.standing ≡ AwaitsInit) ⊎ (d.standing ≡ AwaitsResponse))
  pub written : d.written ≡ unsent
  pub handed : d.handed ≡ []

-- the host is asked: if it admits the peer, all bytes from here on are handed on, and else none is
pub record IsAskedFor (s : SaslState) (r : Request) : Type 0 where
  pub waits : (more : List ℕ) → told s None more ≡ did (AwaitsAnswer r) s.unsent []
  pub admitted : (more : List ℕ) → told s (Some true) more ≡ did Passed (s.unsent ++ outcome_frame 0) more
  pub refused : (more : List ℕ) → told s (Some false) more ≡ did Broken (s.unsent ++ outcome_frame 1) []

-- What it means that a layer says this. Once it is past, what is handed on is what it kept, and then all bytes from here on. Once it failed,
-- it keeps nothing.
abbrev pub Says : Outcome → SaslState → Type 0
Says says.More s = (answer : Option Bool) → IsAwaited (told s answer []) s.unsent
Says says.Ask s = (r : Request) × IsAskedFor s r
Says says.Past s = (answer : Option Bool) (more : List ℕ) → told s answer more ≡ did Passed s.unsent (s.kept ++ more)
Says says.Failed s = (s.init ≡ []) × (s.kept ≡ []) × ((answer : Option Bool) (more : List ℕ) → told s answer more ≡ did Broken s.unsent [])

-- it says where the exchange stands
abbrev pub IsOutcome : Outcome → Standing → Type 0
IsOutcome says.More AwaitsHeader = Unit {0}
IsOutcome says.More AwaitsInit = Unit {0}
IsOutcome says.More AwaitsResponse = Unit {0}
IsOutcome says.Ask (AwaitsAnswer r) = Unit {0}
IsOutcome says.Past Passed = Unit {0}
IsOutcome says.Failed Broken = Unit {0}
IsOutcome _ _ = ⊥

-- what the host is asked is shown, exactly while it is asked
abbrev pub IsAsked : Option Init → Standing → Type 0
IsAsked None (AwaitsAnswer r) = ⊥
IsAsked None s = Unit {0}
IsAsked (Some x) s = s ≡ AwaitsAnswer (request_now x)

-- A whole exchange. ------------------------------------------------------------------------------------------------------

-- between two pieces: the host is not asked, and nothing is kept for the endpoint before the exchange is past
abbrev pub IsApart : Outcome → List ℕ → Type 0
IsApart says.More behind = behind ≡ []
IsApart says.Ask behind = ⊥
IsApart says.Past behind = Unit {0}
IsApart says.Failed behind = behind ≡ []

-- what came of an exchange is what is done with its bytes
pub record HasCome (r : Replay) (d : Done) : Type 0 where
  pub standing : IsOutcome r.outcome d.standing
  pub written : r.written.items ≡ d.written
  pub handed : r.handed.items ≡ d.handed
