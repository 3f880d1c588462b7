-- Steps of the layer.
use Rattle.std.proofs.Common.{◌≡◌, ℕ, ◌-◌, ◌<◌, ◌≤◌, Bool, Option, Some, None, true, false, List, [], ◌∷◌, ◌++◌, length, take, drop, inl, inr, refl, ap, sym, subst, ◌∙◌, arith}
use Rattle.std.proofs.lemmas.Bool.Decides.{nat_tests}
use Rattle.std.proofs.lemmas.List.{take-append-drop, append_assoc, append-nil, length-append, take_at, drop_at}
use Rattle.amqp_frame.specs.Units.{size_of, body_of}
use Rattle.amqp_sasl.specs.declared.frame.Progress.TheVariants as progress
use Rattle.amqp_sasl.specs.declared.header.Opening.TheVariants as opening
use Rattle.amqp_sasl.specs.declared.header.TheConstants.{SASL_HEADER}
use Rattle.amqp_sasl.specs.declared.layer.Stage.{Stage}
use Rattle.amqp_sasl.specs.declared.layer.Stage.TheVariants as stage
use Rattle.amqp_sasl.specs.declared.offer.Offer.{Offer}
use Rattle.amqp_sasl.specs.Answers.{mechanisms_frame, challenge_frame}
use Rattle.amqp_sasl.specs.Claims.{Stated, Unfit, Lacks, Claims, stated_in}
use Rattle.amqp_sasl.specs.Inits.{Fields, init_at}
use Rattle.amqp_sasl.specs.Verdicts.{Judgement, Judged, Ends, Challenges, by_stated, step_in, judgement_by, step_of, reply_of, verdict_of}
use Rattle.amqp_sasl.specs.Frames.{opening_of, progress_of}
use Rattle.amqp_sasl.specs.Exchanges.{Done, did, by_verdict, by_step, by_reply, by_progress, by_opening, response, replied, initiation, exchange, onward, told, with_written, SaslState, IsSound, IsAsked, IsChallenging, Says, outcome_of, AwaitsHeader, AwaitsInit, AwaitsResponse, AwaitsAnswer, Passed, Broken}
use Rattle.amqp_sasl.proofs.Frames.{opening_early, opening_late, opening-append, bad-append, whole-append, whole_size-append, whole_once}

-- bytes that wait are written, whether they are moved out before or not
pub drained : (stage : Stage) (offer : Offer) (answer : Option Bool) (init kept unsent more : List ℕ) (n : ℕ)
    → told (record { offer = offer; stage = stage; init = init; kept = kept; unsent = unsent }) answer more
    ≡ with_written (take n unsent) (told (record { offer = offer; stage = stage; init = init; kept = kept; unsent = drop n unsent }) answer more)
drained stage offer answer init kept unsent more n =
    let rest = onward stage offer answer init kept more in
    ap (λ (w : List ℕ). did rest.standing w rest.handed)
    (ap (λ (u : List ℕ). u ++ rest.written) (sym (take-append-drop n unsent)) ∙ append_assoc (take n unsent) (drop n unsent) rest.written)

one_more : (kept more : List ℕ) (b : ℕ) → kept ++ b ∷ more ≡ (kept ++ b ∷ []) ++ more
one_more kept more b = sym (append_assoc kept (b ∷ []) more)

-- The header. -----------------------------------------------------------------------------------------------------------

-- a header is whole once its eighth byte has come
header_whole : (offer : Offer) (kept : List ℕ) (b : ℕ) → length kept < 8 → (opening_of offer (kept ++ b ∷ []) ≡ opening.Short → ⊥) → length (kept ++ b ∷ []) ≡ 8
header_whole offer kept b early whole =
    let late = opening_late offer (kept ++ b ∷ []) whole in
    omega (arith, length-append kept (b ∷ []))

opens : (offer : Offer) (kept more : List ℕ) (b : ℕ) → length (kept ++ b ∷ []) ≡ 8 → opening_of offer (kept ++ b ∷ more) ≡ opening_of offer (kept ++ b ∷ [])
opens offer kept more b eight = ap (opening_of offer) (one_more kept more b) ∙ opening-append offer (kept ++ b ∷ []) more (omega arith)

pub secured : (offer : Offer) (answer : Option Bool) (kept more : List ℕ) (b : ℕ) → length kept < 8 → opening_of offer (kept ++ b ∷ []) ≡ opening.Secured
    → exchange offer answer (kept ++ b ∷ more) ≡ with_written (SASL_HEADER ++ mechanisms_frame offer) (initiation offer answer more)
secured offer answer kept more b early is =
    let eight = header_whole offer kept b early (λ (e : opening_of offer (kept ++ b ∷ []) ≡ opening.Short). cc) in
    let rest : drop 8 (kept ++ b ∷ more) ≡ more = ap (drop 8) (one_more kept more b) ∙ drop_at (kept ++ b ∷ []) more 8 eight in
    ap (by_opening offer answer (kept ++ b ∷ more)) (opens offer kept more b eight ∙ is)
    ∙ ap (λ (r : List ℕ). with_written (SASL_HEADER ++ mechanisms_frame offer) (initiation offer answer r)) rest

pub bare : (offer : Offer) (answer : Option Bool) (kept more : List ℕ) (b : ℕ) → length kept < 8 → opening_of offer (kept ++ b ∷ []) ≡ opening.Bare
    → exchange offer answer (kept ++ b ∷ more) ≡ did Passed [] ((kept ++ b ∷ []) ++ more)
bare offer answer kept more b early is =
    let eight = header_whole offer kept b early (λ (e : opening_of offer (kept ++ b ∷ []) ≡ opening.Short). cc) in
    ap (by_opening offer answer (kept ++ b ∷ more)) (opens offer kept more b eight ∙ is)
    ∙ ap (λ (r : List ℕ). did Passed [] r) (one_more kept more b)

pub other : (offer : Offer) (answer : Option Bool) (kept more : List ℕ) (b : ℕ) → length kept < 8 → opening_of offer (kept ++ b ∷ []) ≡ opening.Other
    → exchange offer answer (kept ++ b ∷ more) ≡ did Broken SASL_HEADER []
other offer answer kept more b early is =
    let eight = header_whole offer kept b early (λ (e : opening_of offer (kept ++ b ∷ []) ≡ opening.Short). cc) in
    ap (by_opening offer answer (kept ++ b ∷ more)) (opens offer kept more b eight ∙ is)

-- A frame. --------------------------------------------------------------------------------------------------------------

pub bad : (offer : Offer) (answer : Option Bool) (kept more : List ℕ) (b : ℕ) → progress_of 512 (kept ++ b ∷ []) ≡ progress.Bad
    → initiation offer answer (kept ++ b ∷ more) ≡ did Broken [] []
bad offer answer kept more b is =
    ap (by_progress offer answer (kept ++ b ∷ more)) (ap (progress_of 512) (one_more kept more b) ∙ bad-append 512 (kept ++ b ∷ []) more is)

-- a frame and the bytes behind it
frame_size : (room : ℕ) (kept more : List ℕ) (b : ℕ) → progress_of room kept ≡ progress.Short → progress_of room (kept ++ b ∷ []) ≡ progress.Whole
    → length (kept ++ b ∷ []) ≡ size_of ((kept ++ b ∷ []) ++ more)
frame_size room kept more b short is = whole_once room kept b short is ∙ sym (whole_size-append room (kept ++ b ∷ []) more is)

pub whole : (offer : Offer) (answer : Option Bool) (kept more : List ℕ) (b : ℕ) → progress_of 512 kept ≡ progress.Short → progress_of 512 (kept ++ b ∷ []) ≡ progress.Whole
    → initiation offer answer (kept ++ b ∷ more) ≡ by_step answer (step_of offer (kept ++ b ∷ [])) (512 - length (kept ++ b ∷ [])) more
whole offer answer kept more b short is =
    let frame = kept ++ b ∷ [] in
    let size = frame_size 512 kept more b short is in
    ap (initiation offer answer) (one_more kept more b)
    ∙ ap (by_progress offer answer (frame ++ more)) (whole-append 512 frame more is)
    ∙ ap (λ (x : List ℕ). by_step answer (step_of offer x) (512 - size_of (frame ++ more)) (drop (size_of (frame ++ more)) (frame ++ more))) (take_at frame more (size_of (frame ++ more)) size)
    ∙ ap (λ (x : List ℕ). by_step answer (step_of offer frame) (512 - size_of (frame ++ more)) x) (drop_at frame more (size_of (frame ++ more)) size)
    ∙ ap (λ (n : ℕ). by_step answer (step_of offer frame) (512 - n) more) (sym size)

pub bad_reply : (answer : Option Bool) (judged : Judged) (room : ℕ) (kept more : List ℕ) (b : ℕ) → IsChallenging judged → progress_of room (kept ++ b ∷ []) ≡ progress.Bad
    → replied answer judged room (kept ++ b ∷ more) ≡ did Broken [] []
bad_reply answer judged room kept more b due is =
    ap (λ (j : Judged). replied answer j room (kept ++ b ∷ more)) due.is
    ∙ ap (by_reply due.hostname answer (kept ++ b ∷ more)) (ap (progress_of room) (one_more kept more b) ∙ bad-append room (kept ++ b ∷ []) more is)

pub whole_reply : (answer : Option Bool) (judged : Judged) (room : ℕ) (kept more : List ℕ) (b : ℕ) → IsChallenging judged
    → progress_of room kept ≡ progress.Short → progress_of room (kept ++ b ∷ []) ≡ progress.Whole
    → replied answer judged room (kept ++ b ∷ more) ≡ by_verdict answer (judgement_by judged (kept ++ b ∷ [])) more
whole_reply answer judged room kept more b due short is =
    let frame = kept ++ b ∷ [] in
    let size = frame_size room kept more b short is in
    ap (λ (j : Judged). replied answer j room (kept ++ b ∷ more)) due.is
    ∙ ap (response due.hostname room answer) (one_more kept more b)
    ∙ ap (by_reply due.hostname answer (frame ++ more)) (whole-append room frame more is)
    ∙ ap (λ (x : List ℕ). by_verdict answer (reply_of due.hostname x) (drop (size_of (frame ++ more)) (frame ++ more))) (take_at frame more (size_of (frame ++ more)) size)
    ∙ ap (λ (x : List ℕ). by_verdict answer (reply_of due.hostname frame) x) (drop_at frame more (size_of (frame ++ more)) size)
    ∙ ap (λ (j : Judged). by_verdict answer (judgement_by j frame) more) (sym due.is)

-- A layer at a stage. ---------------------------------------------------------------------------------------------------

abbrev pub state : Offer → Stage → List ℕ → List ℕ → List ℕ → SaslState
state offer stage init kept unsent = record { offer = offer; stage = stage; init = init; kept = kept; unsent = unsent }

-- what a layer is, if its fields are these and it is at the stage
pub at_stage : (s : SaslState) (offer : Offer) (stage : Stage) (init kept unsent : List ℕ) (g : Stage) → state offer stage init kept unsent ≡ s → s.stage ≡ g → s ≡ state offer g init kept unsent
at_stage s offer stage init kept unsent g view is = sym view ∙ ap (λ (x : Stage). state offer x init kept unsent) (ap (λ (x : SaslState). x.stage) view ∙ is)

pub stage_is : (s : SaslState) (offer : Offer) (stage : Stage) (init kept unsent : List ℕ) (g : Stage) → state offer stage init kept unsent ≡ s → s.stage ≡ g → stage ≡ g
stage_is s offer stage init kept unsent g view is = ap (λ (x : SaslState). x.stage) view ∙ is

-- what an init of PLAIN without a response leaves behind
lacks_short : (n : ℕ) (hostname found : Option (List ℕ)) → by_stated n hostname Lacks ≡ Challenges found → n ≤ 504
lacks_short n hostname found h = grind (arith, nat_tests)

stated_short : (n : ℕ) (hostname found : Option (List ℕ)) (s : Stated) → by_stated n hostname s ≡ Challenges found → n ≤ 504
stated_short n hostname found Unfit h = absurd (grind arith)
stated_short n hostname found Lacks h = lacks_short n hostname found h
stated_short n hostname found (Claims claim) h = absurd (grind arith)

step_short : (offer : Offer) (n : ℕ) (found : Option (List ℕ)) (init : Option Fields) → step_in offer n init ≡ Challenges found → n ≤ 504
step_short offer n found None h = absurd (grind arith)
step_short offer n found (Some init) h = stated_short n init.hostname found (stated_in offer init) h

-- a frame that is challenged leaves room for its response
pub challenged_short : (offer : Offer) (frame : List ℕ) (found : Option (List ℕ)) → step_of offer frame ≡ Challenges found → length frame ≤ 504
unfolding step_of
challenged_short offer frame found h = step_short offer (length frame) found (init_at (body_of frame)) h

-- a layer that has challenged its peer
pub challenged : (offer : Offer) (answer : Option Bool) (frame init kept unsent now more : List ℕ) (found : Option (List ℕ))
    → step_of offer frame ≡ Challenges found → init ≡ frame → kept ≡ [] → now ≡ unsent ++ challenge_frame
    → with_written unsent (by_step answer (step_of offer frame) (512 - length frame) more) ≡ told (state offer stage.Response init kept now) answer more
challenged offer answer frame init kept unsent now more found due is none wrote =
    let rest = response found (512 - length frame) answer more in
    ap (λ (j : Judged). with_written unsent (by_step answer j (512 - length frame) more)) due
    ∙ ap (λ (w : List ℕ). did rest.standing w rest.handed) (sym (append_assoc unsent challenge_frame rest.written))
    ∙ ap (λ (w : List ℕ). with_written w rest) (sym wrote)
    ∙ ap (λ (j : Judged). with_written now (replied answer j (512 - length frame) more)) (sym due)
    ∙ ap (λ (i : List ℕ). with_written now (replied answer (step_of offer i) (512 - length i) more)) (sym is)
    ∙ ap (λ (k : List ℕ). with_written now (replied answer (step_of offer init) (512 - length init) (k ++ more))) (sym none)

-- the host is asked about a frame alone
pub asking : (offer : Offer) (answer : Option Bool) (frame init kept more : List ℕ) (room : ℕ) (j : Judgement)
    → step_of offer frame ≡ Ends j → init ≡ frame → by_step answer (step_of offer frame) room more ≡ by_verdict answer (verdict_of offer init kept) more
asking offer answer frame init kept more room j ends is =
    ap (λ (x : Judged). by_step answer x room more) ends
    ∙ ap (λ (x : Judged). by_verdict answer (judgement_by x kept) more) (sym (ap (step_of offer) is ∙ ends))

-- What a layer says. ----------------------------------------------------------------------------------------------------

header_stands : (offer : Offer) (answer : Option Bool) (kept : List ℕ) → length kept < 8 → exchange offer answer (kept ++ []) ≡ did AwaitsHeader [] []
header_stands offer answer kept h =
    ap (exchange offer answer) (append-nil kept) ∙ ap (by_opening offer answer kept) (opening_early offer kept h)

init_stands : (offer : Offer) (answer : Option Bool) (kept : List ℕ) → progress_of 512 kept ≡ progress.Short → initiation offer answer (kept ++ []) ≡ did AwaitsInit [] []
init_stands offer answer kept h = ap (initiation offer answer) (append-nil kept) ∙ ap (by_progress offer answer kept) h

response_stands : (answer : Option Bool) (judged : Judged) (room : ℕ) (kept : List ℕ) → IsChallenging judged → progress_of room kept ≡ progress.Short
    → replied answer judged room (kept ++ []) ≡ did AwaitsResponse [] []
response_stands answer judged room kept due h =
    ap (λ (j : Judged). replied answer j room (kept ++ [])) due.is
    ∙ ap (response due.hostname room answer) (append-nil kept) ∙ ap (by_reply due.hostname answer kept) h

-- nothing is asked but while the host is asked
pub not_asked : (at : Stage) (offer : Offer) (init kept unsent : List ℕ) → IsSound offer at init kept unsent → (at ≡ stage.Ask → ⊥)
    → IsAsked None (onward at offer None init kept []).standing
not_asked stage.Header offer init kept unsent sound n = subst (λ (d : Done). IsAsked None d.standing) (sym (header_stands offer None kept sound.1)) tt
not_asked stage.Init offer init kept unsent sound n = subst (λ (d : Done). IsAsked None d.standing) (sym (init_stands offer None kept sound.1)) tt
not_asked stage.Response offer init kept unsent sound n =
    subst (λ (d : Done). IsAsked None d.standing) (sym (response_stands None (step_of offer init) (512 - length init) kept sound.0 sound.2)) tt
not_asked stage.Ask offer init kept unsent sound n = absurd (n refl)
not_asked stage.Past offer init kept unsent sound n = tt
not_asked stage.Failed offer init kept unsent sound n = tt

-- nothing is handed on before the exchange is past
pub none_handed : (at : Stage) (offer : Offer) (init kept unsent : List ℕ) (answer : Option Bool) → IsSound offer at init kept unsent → (at ≡ stage.Past → ⊥)
    → (onward at offer answer init kept []).handed ≡ []
none_handed stage.Header offer init kept unsent answer sound n = ap (λ (d : Done). d.handed) (header_stands offer answer kept sound.1)
none_handed stage.Init offer init kept unsent answer sound n = ap (λ (d : Done). d.handed) (init_stands offer answer kept sound.1)
none_handed stage.Response offer init kept unsent answer sound n =
    ap (λ (d : Done). d.handed) (response_stands answer (step_of offer init) (512 - length init) kept sound.0 sound.2)
none_handed stage.Ask offer init kept unsent None sound n = ap (λ j. (by_verdict None j []).handed) sound.0.is
none_handed stage.Ask offer init kept unsent (Some true) sound n = ap (λ j. (by_verdict (Some true) j []).handed) sound.0.is
none_handed stage.Ask offer init kept unsent (Some false) sound n = ap (λ j. (by_verdict (Some false) j []).handed) sound.0.is
none_handed stage.Past offer init kept unsent answer sound n = absurd (n refl)
none_handed stage.Failed offer init kept unsent answer sound n = refl

-- what a layer says means what it is to mean
pub says : (at : Stage) (offer : Offer) (init kept unsent : List ℕ) → IsSound offer at init kept unsent → Says (outcome_of at) (state offer at init kept unsent)
says stage.Header offer init kept unsent sound = λ answer.
    let stands = header_stands offer answer kept sound.1 in
    record {
      standing = inl (ap (λ (d : Done). d.standing) stands);
      written = ap (λ (d : Done). unsent ++ d.written) stands ∙ append-nil unsent;
      handed = ap (λ (d : Done). d.handed) stands;
    }
says stage.Init offer init kept unsent sound = λ answer.
    let stands = init_stands offer answer kept sound.1 in
    record {
      standing = inr (inl (ap (λ (d : Done). d.standing) stands));
      written = ap (λ (d : Done). unsent ++ d.written) stands ∙ append-nil unsent;
      handed = ap (λ (d : Done). d.handed) stands;
    }
says stage.Response offer init kept unsent sound = λ answer.
    let stands = response_stands answer (step_of offer init) (512 - length init) kept sound.0 sound.2 in
    record {
      standing = inr (inr (ap (λ (d : Done). d.standing) stands));
      written = ap (λ (d : Done). unsent ++ d.written) stands ∙ append-nil unsent;
      handed = ap (λ (d : Done). d.handed) stands;
    }
says stage.Ask offer init kept unsent sound = (
  sound.0.request,
  record {
    waits = λ more. ap (λ j. with_written unsent (by_verdict None j more)) sound.0.is ∙ ap (λ (w : List ℕ). did (AwaitsAnswer sound.0.request) w []) (append-nil unsent);
    admitted = λ more. ap (λ j. with_written unsent (by_verdict (Some true) j more)) sound.0.is;
    refused = λ more. ap (λ j. with_written unsent (by_verdict (Some false) j more)) sound.0.is;
  },
)
says stage.Past offer init kept unsent sound = λ answer more. ap (λ (w : List ℕ). did Passed w (kept ++ more)) (append-nil unsent)
says stage.Failed offer init kept unsent sound = (sound.0, sound.1, λ answer more. ap (λ (w : List ℕ). did Broken w []) (append-nil unsent))
