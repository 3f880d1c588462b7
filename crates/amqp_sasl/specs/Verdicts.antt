-- What is done about a frame. [5.3.2]
use Rattle.std.specs.Prelude.{◌≡◌, ℕ, nat_lt, if◌then◌else◌, List, length, Option, Some, None}
use Rattle.std.specs.Option.{option_copied}
use Rattle.amqp_frame.specs.Units.{body_of}
use Rattle.amqp_sasl.specs.declared.verdict.Init.{Init}
use Rattle.amqp_sasl.specs.declared.verdict.Step.{Step}
use Rattle.amqp_sasl.specs.declared.verdict.Step.TheVariants as taken
use Rattle.amqp_sasl.specs.declared.verdict.Verdict.{Verdict}
use Rattle.amqp_sasl.specs.declared.verdict.Verdict.TheVariants as found
use Rattle.amqp_sasl.specs.declared.offer.Offer.{Offer}
use Rattle.amqp_sasl.specs.Inits.{Fields, init_at, response_at}
use Rattle.amqp_sasl.specs.Claims.{Claim, Stated, Unfit, Lacks, Claims, plain_in, stated_in, claim_now}

-- what the host is asked
pub record Request : Type 0 where
  pub claim : Claim
  pub hostname : Option (List ℕ)

-- what is done about the frame that ends an exchange
pub data Judgement : Type 0 where
  -- it is not the frame that is due
  Malformed : Judgement
  -- its mechanism is not offered, or its response is not one of the mechanism
  Refused : Judgement
  -- the host decides
  Asks : Request → Judgement

-- what is done about the first frame
pub data Judged : Type 0 where
  Ends : Judgement → Judged
  -- the response is due; the name of the host that the peer looks for was this
  Challenges : Option (List ℕ) → Judged

abbrev pub asked : Option (List ℕ) → Option Claim → Judgement
asked hostname None = Refused
asked hostname (Some claim) = Asks (record { claim = claim; hostname = hostname })

-- A frame of this length said so. There is room for a response only if 8 of the 512 bytes are left.
abbrev pub by_stated : ℕ → Option (List ℕ) → Stated → Judged
by_stated n hostname Unfit = Ends Refused
by_stated n hostname Lacks = if nat_lt 504 n then Ends Refused else Challenges hostname
by_stated n hostname (Claims claim) = Ends (asked hostname (Some claim))

abbrev pub step_in : Offer → ℕ → Option Fields → Judged
step_in offer n None = Ends Malformed
step_in offer n (Some init) = by_stated n init.hostname (stated_in offer init)

-- what is done about the frame of a `sasl-init`
unfoldable pub step_of : Offer → List ℕ → Judged
step_of offer frame = step_in offer (length frame) (init_at (body_of frame))

abbrev pub reply_in : Option (List ℕ) → Option (List ℕ) → Judgement
reply_in hostname None = Malformed
reply_in hostname (Some response) = asked hostname (plain_in response)

-- what is done about the frame of a `sasl-response`: it says what the `sasl-init` might have said [5.3.3.4]
unfoldable pub reply_of : Option (List ℕ) → List ℕ → Judgement
reply_of hostname frame = reply_in hostname (response_at (body_of frame))

abbrev pub judgement_by : Judged → List ℕ → Judgement
judgement_by (Ends judgement) reply = judgement
judgement_by (Challenges hostname) reply = reply_of hostname reply

-- what is done about the frame of a `sasl-init`, and that of its `sasl-response` if one is due
abbrev pub verdict_of : Offer → List ℕ → List ℕ → Judgement
verdict_of offer init reply = judgement_by (step_of offer init) reply

-- These say the same of what lies in memory. ----------------------------------------------------------------------------

abbrev pub request_now : Init → Request
request_now x = record { claim = claim_now x.login; hostname = option_copied x.hostname }

abbrev pub judgement_now : Verdict → Judgement
judgement_now found.Malformed = Malformed
judgement_now found.Refused = Refused
judgement_now (found.Asks x) = Asks (request_now x)

abbrev pub IsVerdict : Verdict → Judgement → Type 0
IsVerdict found judgement = judgement ≡ judgement_now found

abbrev pub judged_now : Step → Judged
judged_now (taken.Ends verdict) = Ends (judgement_now verdict)
judged_now (taken.Challenges hostname) = Challenges (option_copied hostname)

abbrev pub IsStep : Step → Judged → Type 0
IsStep taken judged = judged ≡ judged_now taken
