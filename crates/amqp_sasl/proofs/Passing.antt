-- An exchange whose frames are spelled.
use Rattle.std.proofs.Common.{◌≡◌, ℕ, ◌+◌, ◌-◌, ◌≤◌, Bool, false, cond, ◌&&◌, Option, Some, None, List, [], ◌∷◌, ◌++◌, length, take, drop, refl, ap, sym, ◌∙◌, arith}
use Rattle.std.specs.Option.{option_and_then}
use Rattle.std.specs.Str.{bytes_eq}
use Rattle.std.proofs.lemmas.Bool.{le-ltb}
use Rattle.std.proofs.lemmas.List.{append_assoc, append-nil, length-append, take_at, drop_at}
use Rattle.byteorder.specs.Endian.{big_bytes}
use Rattle.byteorder.specs.Numbers.{big_number-reads_back}
use Rattle.amqp_frame.specs.Units.{size_of}
use Rattle.amqp_types.specs.InHand.{outermost}
use Rattle.amqp_types.specs.Reading.{value_of}
use Rattle.amqp_types.specs.Spelling.{Spells}
use Rattle.amqp_types.specs.Trees.{Tree, depth_of}
use Rattle.amqp_types.proofs.Again.{value_again}
use Rattle.amqp_sasl.specs.declared.frame.Progress.TheVariants as progress
use Rattle.amqp_sasl.specs.declared.header.Opening.TheVariants as opening
use Rattle.amqp_sasl.specs.declared.header.TheConstants.{SASL_HEADER, BARE_START}
use Rattle.amqp_sasl.specs.declared.offer.Offer.{Offer}
use Rattle.amqp_sasl.specs.declared.sasl_init.TheConstants.{INIT_NAME, RESPONSE_NAME}
use Rattle.amqp_sasl.specs.Answers.{mechanisms_frame, challenge_frame}
use Rattle.amqp_sasl.specs.Claims.{Claim, Stated, Claims, Lacks, stated_in, plain_in}
use Rattle.amqp_sasl.specs.Composites.{items_in, items_from, items_at}
use Rattle.amqp_sasl.specs.Exchanges.{by_verdict, by_step, by_reply, by_progress, by_opening, initiation, exchange, response, with_written}
use Rattle.amqp_sasl.specs.Frames.{framed, opening_of, progress_of}
use Rattle.amqp_sasl.specs.Inits.{Fields, fields_in, init_in, init_at, field_in, response_in, response_at}
use Rattle.amqp_sasl.specs.Verdicts.{Judgement, Refused, Asks, Judged, Ends, Challenges, asked, by_stated, step_in, step_of, reply_in, reply_of}
use Rattle.amqp_sasl.proofs.Frames.{opened, opened_is, judged, judged_is, whole_from}

-- the header of the SASL layer opens it
secured : (offer : Offer) (rest : List ℕ) → opening_of offer (SASL_HEADER ++ rest) ≡ opening.Secured
secured offer rest =
    let long = le-ltb (length (SASL_HEADER ++ rest)) 8 (omega (arith, length-append SASL_HEADER rest)) in
    opened_is offer (SASL_HEADER ++ rest)
    ∙ ap (λ (b : Bool). opened b (bytes_eq (take 8 (SASL_HEADER ++ rest)) SASL_HEADER) (offer.optional && bytes_eq (take 5 (SASL_HEADER ++ rest)) BARE_START)) long
    ∙ ap (λ (x : List ℕ). opened false (bytes_eq x SASL_HEADER) (offer.optional && bytes_eq (take 5 (SASL_HEADER ++ rest)) BARE_START)) (take_at SASL_HEADER rest 8 refl)

framed_size : (body more : List ℕ) → length body ≤ 504 → size_of (framed body ++ more) ≡ 8 + length body
unfolding size_of
framed_size body more h =
    ap size_of (append_assoc (big_bytes 4 (8 + length body)) (2 ∷ 1 ∷ 0 ∷ 0 ∷ body) more)
    ∙ big_number-reads_back 4 (8 + length body) ((2 ∷ 1 ∷ 0 ∷ 0 ∷ body) ++ more) (omega arith)

framed_length : (body : List ℕ) → length (framed body) ≡ 8 + length body
framed_length body = omega arith

framed_whole : (room : ℕ) (body more : List ℕ) → length body ≤ 504 → 8 + length body ≤ room → progress_of room (framed body ++ more) ≡ progress.Whole
framed_whole room body more h fits =
    let size = framed_size body more h in
    judged_is room (framed body ++ more)
    ∙ ap (λ (s : ℕ). judged room (length (framed body ++ more)) s 2 1) size
    ∙ whole_from room (length (framed body ++ more)) (8 + length body) (omega arith) fits (omega (arith, length-append (framed body) more, framed_length body))

-- the items of a list that is spelled
items_spelled : (code : ℕ) (name : List ℕ) (t : Tree) (body : List ℕ) → Spells t body → depth_of t ≤ 2 → items_at code name body ≡ items_in code name t
unfolding items_at
items_spelled code name t body spelled deep =
    ap (items_from code name) (ap (value_of 2 None) (sym (append-nil body)) ∙ value_again t 2 (outermost (body ++ [])) 1 None body [] spelled deep tt (λ c. absurd c))

-- what a spelled `sasl-init` says
init_spelled : (t : Tree) (init : Fields) (body : List ℕ) → Spells t body → depth_of t ≤ 2 → init_in t ≡ Some init → init_at body ≡ Some init
unfolding init_at
init_spelled t init body spelled deep is = ap (option_and_then fields_in) (items_spelled 0x41 INIT_NAME t body spelled deep) ∙ is

response_spelled : (t : Tree) (said body : List ℕ) → Spells t body → depth_of t ≤ 2 → response_in t ≡ Some said → response_at body ≡ Some said
unfolding response_at
response_spelled t said body spelled deep is = ap (option_and_then field_in) (items_spelled 0x43 RESPONSE_NAME t body spelled deep) ∙ is

steps : (offer : Offer) (init : Fields) (body : List ℕ) (stated : Stated) → init_at body ≡ Some init → stated_in offer init ≡ stated
    → step_of offer (framed body) ≡ by_stated (length (framed body)) init.hostname stated
unfolding step_of
steps offer init body stated is says = ap (step_in offer (length (framed body))) is ∙ ap (by_stated (length (framed body)) init.hostname) says

challenges : (n : ℕ) (hostname : Option (List ℕ)) → n ≤ 504 → by_stated n hostname Lacks ≡ Challenges hostname
challenges n hostname h = ap (λ (b : Bool). cond b (Ends Refused) (Challenges hostname)) (le-ltb 504 n h)

replies : (hostname : Option (List ℕ)) (said body : List ℕ) (claim : Claim) → response_at body ≡ Some said → plain_in said ≡ Some claim
    → reply_of hostname (framed body) ≡ Asks (record { claim = claim; hostname = hostname })
unfolding reply_of
replies hostname said body claim is claimed = ap (reply_in hostname) is ∙ ap (asked hostname) claimed

-- what is done once the frame of a `sasl-init` has come
stepped : (offer : Offer) (answer : Option Bool) (t : Tree) (init : Fields) (stated : Stated) (body behind : List ℕ)
    → Spells t body → depth_of t ≤ 2 → length body ≤ 504 → init_in t ≡ Some init → stated_in offer init ≡ stated
    → exchange offer answer (SASL_HEADER ++ (framed body ++ behind))
    ≡ with_written (SASL_HEADER ++ mechanisms_frame offer) (by_step answer (by_stated (length (framed body)) init.hostname stated) (512 - length (framed body)) behind)
stepped offer answer t init stated body behind spelled deep short is says =
    let bytes = framed body ++ behind in
    let size : length (framed body) ≡ size_of bytes = framed_length body ∙ sym (framed_size body behind short) in
    ap (by_opening offer answer (SASL_HEADER ++ bytes)) (secured offer bytes)
    ∙ ap (λ (r : List ℕ). with_written (SASL_HEADER ++ mechanisms_frame offer) (initiation offer answer r)) (drop_at SASL_HEADER bytes 8 refl)
    ∙ ap (with_written (SASL_HEADER ++ mechanisms_frame offer))
    (ap (by_progress offer answer bytes) (framed_whole 512 body behind short (omega arith))
    ∙ ap (λ (x : List ℕ). by_step answer (step_of offer x) (512 - size_of bytes) (drop (size_of bytes) bytes)) (take_at (framed body) behind (size_of bytes) size)
    ∙ ap (λ (x : List ℕ). by_step answer (step_of offer (framed body)) (512 - size_of bytes) x) (drop_at (framed body) behind (size_of bytes) size)
    ∙ ap (λ (n : ℕ). by_step answer (step_of offer (framed body)) (512 - n) behind) (sym size)
    ∙ ap (λ (j : Judged). by_step answer j (512 - length (framed body)) behind) (steps offer init body stated (init_spelled t init body spelled deep is) says))

pub answered : (offer : Offer) (answer : Option Bool) (t : Tree) (init : Fields) (claim : Claim) (body behind : List ℕ)
    → Spells t body → depth_of t ≤ 2 → length body ≤ 504 → init_in t ≡ Some init → stated_in offer init ≡ Claims claim
    → exchange offer answer (SASL_HEADER ++ (framed body ++ behind))
    ≡ with_written (SASL_HEADER ++ mechanisms_frame offer) (by_verdict answer (Asks (record { claim = claim; hostname = init.hostname })) behind)
answered offer answer t init claim body behind spelled deep short is says =
    stepped offer answer t init (Claims claim) body behind spelled deep short is says

-- what is done once the frame of a `sasl-response` has come
responded : (hostname : Option (List ℕ)) (room : ℕ) (answer : Option Bool) (u : Tree) (said : List ℕ) (claim : Claim) (reply behind : List ℕ)
    → Spells u reply → depth_of u ≤ 2 → length reply ≤ 504 → 8 + length reply ≤ room → response_in u ≡ Some said → plain_in said ≡ Some claim
    → response hostname room answer (framed reply ++ behind) ≡ by_verdict answer (Asks (record { claim = claim; hostname = hostname })) behind
responded hostname room answer u said claim reply behind spelled deep short fits is claimed =
    let bytes = framed reply ++ behind in
    let size : length (framed reply) ≡ size_of bytes = framed_length reply ∙ sym (framed_size reply behind short) in
    ap (by_reply hostname answer bytes) (framed_whole room reply behind short fits)
    ∙ ap (λ (x : List ℕ). by_verdict answer (reply_of hostname x) (drop (size_of bytes) bytes)) (take_at (framed reply) behind (size_of bytes) size)
    ∙ ap (λ (x : List ℕ). by_verdict answer (reply_of hostname (framed reply)) x) (drop_at (framed reply) behind (size_of bytes) size)
    ∙ ap (λ (j : Judgement). by_verdict answer j behind) (replies hostname said reply claim (response_spelled u said reply spelled deep is) claimed)

pub answered_later : (offer : Offer) (answer : Option Bool) (t u : Tree) (init : Fields) (said : List ℕ) (claim : Claim) (body reply behind : List ℕ)
    → Spells t body → depth_of t ≤ 2 → init_in t ≡ Some init → stated_in offer init ≡ Lacks
    → Spells u reply → depth_of u ≤ 2 → response_in u ≡ Some said → plain_in said ≡ Some claim → length body + length reply ≤ 496
    → exchange offer answer (SASL_HEADER ++ (framed body ++ (framed reply ++ behind)))
    ≡ with_written (SASL_HEADER ++ mechanisms_frame offer) (with_written challenge_frame (by_verdict answer (Asks (record { claim = claim; hostname = init.hostname })) behind))
answered_later offer answer t u init said claim body reply behind spelled deep is says spelled_too deep_too is_too claimed fits =
    let room = 512 - length (framed body) in
    let long = framed_length body in
    stepped offer answer t init Lacks body (framed reply ++ behind) spelled deep (omega (arith, fits)) is says
    ∙ ap (λ (j : Judged). with_written (SASL_HEADER ++ mechanisms_frame offer) (by_step answer j room (framed reply ++ behind)))
    (challenges (length (framed body)) init.hostname (omega (arith, long, fits)))
    ∙ ap (λ d. with_written (SASL_HEADER ++ mechanisms_frame offer) (with_written challenge_frame d))
    (responded init.hostname room answer u said claim reply behind spelled_too deep_too (omega (arith, fits)) (omega (arith, long, fits)) is_too claimed)
