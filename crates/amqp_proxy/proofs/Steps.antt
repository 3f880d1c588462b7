-- Steps of the layer.
use Rattle.std.proofs.Common.{◌≡◌, ℕ, ◌+◌, ◌≤◌, Option, None, Result, Ok, Err, List, [], ◌∷◌, ◌++◌, length, drop, refl, ap, sym, ◌∙◌, arith}
use Rattle.std.proofs.lemmas.List.{append_assoc, append-nil, take_at, drop_at}
use Rattle.amqp_proxy.specs.declared.faults.ProxyFault.{ProxyFault}
use Rattle.amqp_proxy.specs.declared.progress.Progress.TheVariants as progress
use Rattle.amqp_proxy.specs.declared.proxy.Outcome.{Outcome}
use Rattle.amqp_proxy.specs.declared.proxy.Outcome.TheVariants as outcome
use Rattle.amqp_proxy.specs.Headers.{progress_of, size_of, name_of, source_of, saying}
use Rattle.amqp_proxy.specs.Streams.{by_name, by_progress, passage, onward, ProxyState, IsSound, IsGood, FaultIs, Says}
use Rattle.amqp_proxy.proofs.Whole.{bad-append, whole-append, whole_once, whole-long, rest_same}

abbrev pub state : Outcome → List ℕ → ProxyState
state said kept = record { outcome = said; kept = kept }

pub at_outcome : (s : ProxyState) (said : Outcome) (kept : List ℕ) (g : Outcome) → state said kept ≡ s → s.outcome ≡ g → s ≡ state g kept
at_outcome s said kept g view is = sym view ∙ ap (λ (x : Outcome). state x kept) (ap (λ (x : ProxyState). x.outcome) view ∙ is)

pub outcome_is : (s : ProxyState) (said : Outcome) (kept : List ℕ) (g : Outcome) → state said kept ≡ s → s.outcome ≡ g → said ≡ g
outcome_is s said kept g view is = ap (λ (x : ProxyState). x.outcome) view ∙ is

one_more : (kept more : List ℕ) (b : ℕ) → kept ++ b ∷ more ≡ (kept ++ b ∷ []) ++ more
one_more kept more b = sym (append_assoc kept (b ∷ []) more)

pub short : (kept more : List ℕ) (b : ℕ) → passage (kept ++ b ∷ more) ≡ passage ((kept ++ b ∷ []) ++ more)
short kept more b = ap passage (one_more kept more b)

pub bad : (kept more : List ℕ) (b : ℕ) (f : ProxyFault) → progress_of (kept ++ b ∷ []) ≡ progress.Bad f → passage (kept ++ b ∷ more) ≡ onward (outcome.Failed f) [] more
bad kept more b f is = ap (by_progress (kept ++ b ∷ more)) (ap progress_of (one_more kept more b) ∙ bad-append (kept ++ b ∷ []) more f is)

pub whole : (kept more : List ℕ) (b : ℕ) → progress_of kept ≡ progress.Short → progress_of (kept ++ b ∷ []) ≡ progress.Whole
    → passage (kept ++ b ∷ more) ≡ by_name (kept ++ b ∷ []) (name_of (kept ++ b ∷ [])) more
whole kept more b short is =
    let header = kept ++ b ∷ [] in
    let long = whole-long header is in
    let len : length header ≡ size_of (header ++ more) = whole_once kept b short is ∙ ap (λ (n : ℕ). 16 + n) (sym (rest_same header more (omega arith))) in
    ap passage (one_more kept more b)
    ∙ ap (by_progress (header ++ more)) (whole-append header more is)
    ∙ ap (λ (h : List ℕ). by_name h (name_of h) (drop (size_of (header ++ more)) (header ++ more))) (take_at header more (size_of (header ++ more)) len)
    ∙ ap (by_name header (name_of header)) (drop_at header more (size_of (header ++ more)) len)

-- what a layer says means what it is to mean
says_by : (kept : List ℕ) (name : Option (List ℕ)) → name_of kept ≡ Ok name → Says outcome.Past (state outcome.Past kept)
says_by kept name is = (saying (source_of kept) name, λ more. ap (λ (r : Result (Option (List ℕ)) ProxyFault). by_name kept r more) is)

pub says : (at : Outcome) (kept : List ℕ) → IsSound at kept → Says at (state at kept)
says outcome.More kept sound = ap passage (append-nil kept) ∙ ap (by_progress kept) sound
says outcome.Past kept sound = says_by kept sound.name sound.is
says (outcome.Failed f) kept sound = (sound, λ more. refl)

-- no byte is a header
pub nothing_short : progress_of [] ≡ progress.Short
unfolding progress_of
nothing_short = refl

-- a header without a fault is good
pub good : (header : List ℕ) (r : Result (Option (List ℕ)) ProxyFault) → 16 ≤ length header → name_of header ≡ r → FaultIs None r → IsGood header
good header (Ok name) fixed is none = record { fixed = fixed; name = name; is = is }
good header (Err f) fixed is none = absurd none
