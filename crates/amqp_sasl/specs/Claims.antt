-- Who a peer says it is. [5.3.3.2]
use Rattle.std.specs.Prelude.{◌≡◌, ℕ, ◌+◌, ◌==◌, ◌&&◌, ◌||◌, Bool, if◌then◌else◌, List, [], length, take, drop, Option, Some, None, unwrap_or}
use Rattle.std.specs.List.{position, list_any}
use Rattle.std.specs.Option.{option_map, option_and_then}
use Rattle.std.specs.Str.{bytes_eq}
use Rattle.amqp_sasl.specs.declared.claim.Login.{Login}
use Rattle.amqp_sasl.specs.declared.claim.Login.TheVariants as login
use Rattle.amqp_sasl.specs.declared.claim.Said.{Said}
use Rattle.amqp_sasl.specs.declared.claim.Said.TheVariants as said
use Rattle.amqp_sasl.specs.declared.claim.TheConstants.{ANONYMOUS, PLAIN, EXTERNAL}
use Rattle.amqp_sasl.specs.declared.offer.Offer.{Offer}
use Rattle.amqp_sasl.specs.declared.sasl_init.SaslInit.{SaslInit}
use Rattle.amqp_sasl.specs.Inits.{Fields, fields_of}

-- who a peer says it is
pub data Claim : Type 0 where
  -- what it calls itself [RFC 4505]
  Anonymous : List ℕ → Claim
  -- whom it wants to act as, its user name and its password [RFC 4616]
  Plain : List ℕ → List ℕ → List ℕ → Claim
  -- whom it wants to act as [RFC 4422]
  External : List ℕ → Claim

-- what a `sasl-init` says of its peer
pub data Stated : Type 0 where
  -- its mechanism is not offered, or its response is not one of the mechanism
  Unfit : Stated
  -- its mechanism needs a response, which is due
  Lacks : Stated
  Claims : Claim → Stated

-- a NUL
abbrev pub is_nul : ℕ → Bool
is_nul b = b == 0

-- the bytes before the first NUL, and those after it
abbrev pub cut : List ℕ → Option (List ℕ × List ℕ)
cut bytes = option_map (λ i. (take i bytes, drop (i + 1) bytes)) (position is_nul bytes)

-- the response of PLAIN: only the first part may be empty, and the last has no NUL [RFC 4616]
abbrev pub plain_by : List ℕ → List ℕ × List ℕ → Option Claim
plain_by authzid rest =
    if (length rest.0 == 0) || (length rest.1 == 0) || list_any is_nul rest.1 then None else Some (Plain authzid rest.0 rest.1)

abbrev pub plain_in : List ℕ → Option Claim
plain_in response = option_and_then (λ a. option_and_then (plain_by a.0) (cut a.1)) (cut response)

abbrev pub stated_of : Option Claim → Stated
stated_of None = Unfit
stated_of (Some claim) = Claims claim

-- PLAIN, whose response may come later [5.3.3.3]
abbrev pub plain_stated : Option (List ℕ) → Stated
plain_stated None = Lacks
plain_stated (Some response) = stated_of (plain_in response)

-- what a `sasl-init` says; an absent response of ANONYMOUS or EXTERNAL is empty
abbrev pub stated_in : Offer → Fields → Stated
stated_in offer init =
    if bytes_eq init.mechanism ANONYMOUS && offer.anonymous then Claims (Anonymous (unwrap_or init.response []))
    else if bytes_eq init.mechanism PLAIN && offer.plain then plain_stated init.response
    else if bytes_eq init.mechanism EXTERNAL && offer.external then Claims (External (unwrap_or init.response []))
    else Unfit

abbrev pub stated_by : Offer → SaslInit → Stated
stated_by offer init = stated_in offer (fields_of init)

-- These say the same of what lies in memory. ----------------------------------------------------------------------------

abbrev pub claim_now : Login → Claim
claim_now (login.Anonymous trace) = Anonymous trace.now
claim_now (login.Plain authzid user password) = Plain authzid.now user.now password.now
claim_now (login.External authzid) = External authzid.now

abbrev pub IsClaim : Option Login → Option Claim → Type 0
IsClaim found claim = claim ≡ option_map claim_now found

abbrev pub stated_now : Said → Stated
stated_now said.Unfit = Unfit
stated_now said.Lacks = Lacks
stated_now (said.Claims x) = Claims (claim_now x)

abbrev pub IsStated : Said → Stated → Type 0
IsStated found stated = stated ≡ stated_now found
