-- Serving that was interrupted is a run with memory at first.
use Rattle.std.proofs.Common.{arith, ◌≡◌, ℕ, ◌≤◌, ◌⊎◌, inl, inr, Bool, false, List, [], ◌∷◌, ◌++◌, length, take, drop, refl, sym, ap, subst, ◌∙◌, append_assoc, append-nil, Option}
use Rattle.std.proofs.KnownBytes.{Appends-nil, Appends-trans}
use Rattle.std.specs.Io.KnownBytes.{Appends}
use Rattle.std.specs.Prelude.{if◌then◌else◌}
use Rattle.amqp_frame.specs.Splits.{SplitterState, Waits, IsUnchanged}
use Rattle.amqp_frame.specs.Units.{StreamUnit}
use Rattle.amqp_endpoint.specs.declared.event.End.{End}
use Rattle.amqp_endpoint.specs.declared.event.End.TheVariants as ended
use Rattle.amqp_endpoint.specs.Connections.{ConnectionState, Finished, connection_after, is_dead}
use Rattle.amqp_endpoint.specs.Configs.{Configured}
use Rattle.amqp_endpoint.specs.Runs.{Run, IsStart, end_between}
use Rattle.amqp_endpoint.specs.Steps.{EndpointState, IsKept}
use Rattle.amqp_endpoint.specs.Traces.{AreInRange}
use Rattle.amqp_endpoint.proofs.Fills.{fed_read}
use Rattle.amqp_serve.specs.declared.rules.Rule.{Rule}
use Rattle.amqp_serve.specs.Cuts.{Made, IsMade, IsFront}
use Rattle.amqp_serve.specs.Interrupted.{Interrupted, Never, Again}
use Rattle.amqp_serve.specs.Serving.{Stand, Starved, Over, reading, finish_of, calls_of, answers_of, IsServed, IsIdle}
use Rattle.amqp_serve.specs.Serving.{Step, Serves, Rests, MovesOut, Feeds, Takes, Settles, TopsUp, Passes, Finishes, Served, fed, moved, recorded}
use Rattle.amqp_serve.proofs.CutFronts.{begins_whole, is_over}
use Rattle.amqp_serve.proofs.CutRuns.{IsEnded}
use Rattle.amqp_serve.proofs.Resumed.{IsAmple, StandsStill, joined}
use Rattle.amqp_serve.proofs.ServingFeeds.{waits_before}
use Rattle.amqp_serve.proofs.Servings.{serves_on, run_of, ranges_of, kept_same, unchanged_on, fed_on, moved_on, recorded_on}

-- The run with memory at first. ---------------------------------------------------------------------------------------

-- Steps that led to a want of memory, as memory at first had made them, but for the unit that waits.
record IsUntil (p : Rule) (old : EndpointState) (steps : List Step) (mid : EndpointState) : Type 0 where
  last : EndpointState
  ample : IsAmple p reading old Starved last (fed steps) (moved steps) (recorded steps)
  kept : IsKept last mid

-- nothing was done, or such steps
abbrev Until : Rule → EndpointState → List Step → EndpointState → Type 0
Until p old steps mid = ((steps ≡ []) × (mid ≡ old)) ⊎ IsUntil p old steps mid

starved_not_reading : reading ≡ Starved → ⊥
starved_not_reading is = absurd (grind (arith, is))

-- serving that goes on behind them
module _ {p : Rule} {old mid t : EndpointState} {steps ys : List Step} {b : Stand} (least : 8 ≤ old.input.limit) (over : IsEnded b → ⊥) (u : IsUntil p old steps mid) (y : Serves p reading mid ys b t) where
  abbrev Goes : Type 0
  Goes = StandsStill b u.last mid t ys ⊎ IsAmple p reading old b t (fed (steps ++ ys)) (moved (steps ++ ys)) (recorded (steps ++ ys))

  until_goes : (is_dead mid.connection.phase ≡ false) × Goes
  until_goes =
      let j = joined over u.ample.serves starved_not_reading refl least u.kept y in (
        ap (λ (c : ConnectionState). is_dead c.phase) u.kept.connection ∙ j.alive,
        elim j.goes [
          | inl still ↦ inl still
          | inr z ↦ inr (record {
            steps = z.steps;
            serves = z.serves;
            fed = z.fed ∙ ap (λ (l : List ℕ). l ++ fed ys) u.ample.fed ∙ sym (fed_on steps ys);
            moved = z.moved ∙ ap (λ (l : List ℕ). l ++ moved ys) u.ample.moved ∙ sym (moved_on steps ys);
            recorded = z.recorded ∙ ap (λ (l : List ℕ). l ++ recorded ys) u.ample.recorded ∙ sym (recorded_on steps ys);
          })
        ],
      )

-- memory is refused first
until_first : (p : Rule) (old mid last : EndpointState) (steps ys : List Step) (b : Stand) → steps ≡ [] → mid ≡ old → b ≡ Starved → Serves p reading mid ys b last →
    IsAmple p reading old Starved last (fed (steps ++ ys)) (moved (steps ++ ys)) (recorded (steps ++ ys))
until_first p old mid last steps ys b none same is x = record {
  steps = ys;
  serves = subst (λ (s : EndpointState). Serves p reading s ys Starved last) same (subst (λ (a : Stand). Serves p reading mid ys a last) is x);
  fed = ap (λ (l : List Step). fed (l ++ ys)) (sym none);
  moved = ap (λ (l : List Step). moved (l ++ ys)) (sym none);
  recorded = ap (λ (l : List Step). recorded (l ++ ys)) (sym none);
}

-- it is refused again
until_again : (p : Rule) (old mid last : EndpointState) (steps ys : List Step) (b : Stand) → 8 ≤ old.input.limit → IsUntil p old steps mid → b ≡ Starved → Serves p reading mid ys b last →
    IsAmple p reading old Starved last (fed (steps ++ ys)) (moved (steps ++ ys)) (recorded (steps ++ ys))
until_again p old mid last steps ys b least u is x =
    elim (until_goes least (λ over. subst (λ (a : Stand). IsEnded a) is over) u x).1 [
      | inl still ↦ absurd (starved_not_reading (sym still.stand ∙ is))
      | inr z ↦ subst (λ (a : Stand). IsAmple p reading old a last (fed (steps ++ ys)) (moved (steps ++ ys)) (recorded (steps ++ ys))) is z
    ]

until : {p : Rule} {old mid : EndpointState} {held now kept keeps : Option (List ℕ)} {steps : List Step} → 8 ≤ old.input.limit → Interrupted p old held kept steps mid now keeps → Until p old steps mid
until least Never = inl (refl, refl)
until least (Again {p} {old} {mid} {held} {now} {kept} {keeps} {steps} bytes new last lasts before x) =
    inr (record {
      last = x.last;
      ample = elim (until least before) [
        | inl n ↦ until_first p old mid x.last steps x.steps x.stand n.0 n.1 x.left.0 x.serves
        | inr u ↦ until_again p old mid x.last steps x.steps x.stand least u x.left.0 x.serves
      ];
      kept = x.same;
    })

-- What was written and recorded until then.
all_recorded : (steps : List Step) (noted unnoted : List ℕ) → recorded steps ≡ noted ++ unnoted → unnoted ≡ [] → noted ≡ recorded steps
all_recorded steps noted unnoted is none = sym (is ∙ ap (λ (l : List ℕ). noted ++ l) none ∙ append-nil noted)

all_written : {p : Rule} {old mid : EndpointState} {held now kept keeps : Option (List ℕ)} {steps : List Step} → Interrupted p old held kept steps mid now keeps →
    Appends held now (moved steps) × Appends kept keeps (recorded steps)
all_written (Never {p} {old} {held} {kept}) = (Appends-nil held, Appends-nil kept)
all_written (Again {p} {old} {mid} {held} {now} {kept} {keeps} {steps} bytes new last lasts before x) =
    let y = all_written before in
    let noted = subst (λ (l : List ℕ). Appends keeps lasts l) (all_recorded x.steps x.noted x.unnoted x.records x.left.1) x.sink in (
      subst (λ (l : List ℕ). Appends held last l) (sym (moved_on steps x.steps)) (Appends-trans held now last (moved steps) (moved x.steps) y.0 x.written),
      subst (λ (l : List ℕ). Appends kept lasts l) (sym (recorded_on steps x.steps)) (Appends-trans kept keeps lasts (recorded steps) (recorded x.steps) y.1 noted),
    )

-- what waits in a buffer waits in it as long as it is unchanged
waits_again : (a b c : SplitterState) (u : StreamUnit) → IsUnchanged a b → IsUnchanged b c → Waits a u → Waits c u
waits_again a b c u x y w = let z = unchanged_on x y in waits_before c a u (record { limit = sym z.limit; stage = sym z.stage; filled = sym z.filled }) w

-- The whole of it. ----------------------------------------------------------------------------------------------------

module _ (p : Rule) (end : End) (more : List ℕ) (ended : Bool) (old mid new : EndpointState) (held now last kept keeps lasts : Option (List ℕ)) (steps : List Step) (least : 8 ≤ old.input.limit)
    (i : Interrupted p old held kept steps mid now keeps) (y : IsServed p end more ended mid new now last keeps lasts) where
  -- it is served over all bytes, and all that was written and recorded is what that moved out and recorded
  abbrev pub WholeOne : Type 0
  WholeOne = (z : IsServed p end (fed steps ++ more) ended old new held last kept lasts) × (moved z.steps ≡ moved (steps ++ y.steps)) × (recorded z.steps ≡ recorded (steps ++ y.steps))

  whole_of : (zs : List Step) → Serves p reading old zs reading y.before → fed zs ≡ fed (steps ++ y.steps) → moved zs ≡ moved (steps ++ y.steps) → recorded zs ≡ recorded (steps ++ y.steps) →
      (is_dead old.connection.phase ≡ false → IsIdle y.before) → WholeOne
  whole_of zs serves took wrote noted idle =
      let devices = all_written i in (
        record {
          steps = zs;
          before = y.before;
          serves = serves;
          ends = y.ends;
          run = run_of (serves_on serves y.ends);
          range = ranges_of (serves_on serves y.ends);
          fed = ap (λ (l : List ℕ). fed steps ++ l) y.fed ∙ sym (took ∙ fed_on steps y.steps);
          over = y.over;
          idle = idle;
          written = subst (λ (l : List ℕ). Appends held last l) (sym (wrote ∙ moved_on steps y.steps)) (Appends-trans held now last (moved steps) (moved y.steps) devices.0 y.written);
          recorded = subst (λ (l : List ℕ). Appends kept lasts l) (sym (noted ∙ recorded_on steps y.steps))
              (Appends-trans kept keeps lasts (recorded steps) (recorded y.steps) devices.1 y.recorded);
        },
        wrote,
        noted,
      )

  pub whole_served : WholeOne
  whole_served =
      elim (until least i) [
        | inl n ↦
            let serves = subst (λ (s : EndpointState). Serves p reading s y.steps reading y.before) n.1 y.serves in
            let none : steps ++ y.steps ≡ y.steps = ap (λ (l : List Step). l ++ y.steps) n.0 in
            whole_of y.steps serves (ap (λ (l : List Step). fed l) (sym none)) (ap (λ (l : List Step). moved l) (sym none)) (ap (λ (l : List Step). recorded l) (sym none))
            (λ alive. y.idle (ap (λ (s : EndpointState). is_dead s.connection.phase) n.1 ∙ alive))
        | inr u ↦
            let goes = until_goes least (λ h. h) u y.serves in
            let idle = y.idle goes.0 in
            elim goes.1 [
              | inl still ↦ absurd (idle still.unit (waits_again u.last.input mid.input y.before.input still.unit u.kept.input still.nothing.kept.input still.waits))
              | inr z ↦ whole_of z.steps z.serves z.fed z.moved z.recorded (λ _. idle)
            ]
      ]

-- At any moment before the end a beginning was moved out and recorded of what the units of the bytes make.
pub interrupted_begins : (p : Rule) (config : Configured) (end : End) (unfed : List ℕ) (old mid t : EndpointState) (held now kept keeps : Option (List ℕ)) (steps ys : List Step) (b : Stand) (made : Made) →
    8 ≤ config.max_frame → IsStart config old → Interrupted p old held kept steps mid now keeps → Serves p reading mid ys b t → (b ≡ Over → ⊥) →
    IsMade p config (fed (steps ++ ys) ++ unfed) made end → IsFront (moved (steps ++ ys)) made.written × IsFront (recorded (steps ++ ys)) made.recorded
interrupted_begins p config end unfed old mid t held now kept keeps steps ys b made least start i y before is =
    elim (until (omega (arith, least, start.limit)) i) [
      | inl n ↦
          let all : steps ++ ys ≡ ys = ap (λ (l : List Step). l ++ ys) n.0 in
          by t b ys (subst (λ (s : EndpointState). Serves p reading s ys b t) n.1 y) before (ap (λ (l : List Step). fed l) (sym all)) (ap (λ (l : List Step). moved l) (sym all))
          (ap (λ (l : List Step). recorded l) (sym all))
      | inr u ↦ elim (until_goes (omega (arith, least, start.limit)) (λ h. before (is_over b h)) u y).1 [
        | inl still ↦
            let x = still.nothing in
            let none : (l k : List ℕ) → k ≡ [] → l ≡ l ++ k = λ l k e. sym (ap (λ (m : List ℕ). l ++ m) e ∙ append-nil l) in
            by u.last Starved u.ample.steps u.ample.serves (λ e. absurd (grind (arith, e))) (u.ample.fed ∙ none (fed steps) (fed ys) x.fed ∙ sym (fed_on steps ys))
            (u.ample.moved ∙ none (moved steps) (moved ys) x.moved ∙ sym (moved_on steps ys)) (u.ample.recorded ∙ none (recorded steps) (recorded ys) x.recorded ∙ sym (recorded_on steps ys))
        | inr z ↦ by t b z.steps z.serves before z.fed z.moved z.recorded
      ]
    ]
  where
    by : (last : EndpointState) (a : Stand) (zs : List Step) → Serves p reading old zs a last → (a ≡ Over → ⊥) → fed zs ≡ fed (steps ++ ys) → moved zs ≡ moved (steps ++ ys) →
        recorded zs ≡ recorded (steps ++ ys) → IsFront (moved (steps ++ ys)) made.written × IsFront (recorded (steps ++ ys)) made.recorded
    by last a zs x other took wrote noted =
        let bytes = ap (λ (l : List ℕ). l ++ unfed) (sym took) in
        let f = begins_whole p config end (fed (steps ++ ys) ++ unfed) unfed old last a zs made least start x other bytes is in
        (subst (λ (l : List ℕ). IsFront l made.written) wrote f.0, subst (λ (l : List ℕ). IsFront l made.recorded) noted f.1)

-- The calls that were made. -------------------------------------------------------------------------------------------

abbrev ends : ConnectionState → List ℕ → End
ends c filled = if c.failed then ended.Failed else (if c.closed then ended.Closed else end_between (length filled))

-- Steps from an endpoint are steps from one that was kept as it, unless there are none.
from_kept : {p : Rule} {a b : Stand} {s t : EndpointState} {ys : List Step} → Serves p a s ys b t → a ≡ reading → (b ≡ a → ⊥) → (m : EndpointState) → IsKept m s → Serves p a m ys b t
from_kept Rests e other m k = absurd (other refl)
from_kept (MovesOut {p} {a} {b} {s} next room bytes does x) e other m k =
    MovesOut next room bytes
    (record {
      input = unchanged_on k.input does.input;
      moved = does.moved ∙ ap (λ (l : List ℕ). take room l) k.unsent;
      unsent = does.unsent ∙ ap (λ (l : List ℕ). drop room l) k.unsent;
      connection = does.connection ∙ k.connection;
    })
    x
from_kept (Feeds {p} {b} {s} next piece used told silent range does x) e other m k =
    Feeds next piece used told (sym k.unsent ∙ silent) range (fed_read m s next piece used told k does) x
from_kept (Takes next channel handle answer does x) e other m k = absurd (grind (arith, e))
from_kept (Settles next channel id answer silent small does x) e other m k = absurd (grind (arith, e))
from_kept (TopsUp next supply supplies answer silent lacks does x) e other m k = absurd (grind (arith, e))
from_kept (Passes supply supplies lacks x) e other m k = absurd (grind (arith, e))
from_kept (Finishes {p} {b} {s} next end silent does x) e other m k =
    Finishes next end (sym k.unsent ∙ silent) (
      record { limit = does.0.limit ∙ k.input.limit; filled = does.0.filled; unsent = does.0.unsent ∙ k.unsent; connection = does.0.connection ∙ ap (λ (c : ConnectionState). connection_after c Finished) k.connection },
      does.1 ∙ ap (λ (c : ConnectionState). ends c s.input.filled) k.connection ∙ ap (λ (l : List ℕ). ends m.connection l) k.input.filled,
    )
    x

-- one run behind another
run_joins : (s t u : EndpointState) (xs ys : List Step) → Run s (calls_of xs) (answers_of xs) t → Run t (calls_of ys) (answers_of ys) u → Run s (calls_of (xs ++ ys)) (answers_of (xs ++ ys)) u
run_joins s t u [] ys x y = subst (λ (m : EndpointState). Run m (calls_of ys) (answers_of ys) u) x y
run_joins s t u (x ∷ xs) ys r y = (r.0, r.1, run_joins r.0 t u xs ys r.2 y)

ranges_join : (xs ys : List Step) → AreInRange (calls_of xs) → AreInRange (calls_of ys) → AreInRange (calls_of (xs ++ ys))
ranges_join [] ys x y = y
ranges_join (x ∷ xs) ys r y = (r.0, ranges_join xs ys r.1 y)

-- All calls so far are a run.
record IsRunUntil (old mid : EndpointState) (steps : List Step) : Type 0 where
  last : EndpointState
  run : Run old (calls_of steps) (answers_of steps) last
  range : AreInRange (calls_of steps)
  kept : IsKept last mid

run_goes : {p : Rule} {old mid t : EndpointState} {steps ys : List Step} {b : Stand} → IsRunUntil old mid steps → (b ≡ reading → ⊥) → Serves p reading mid ys b t →
    Run old (calls_of (steps ++ ys)) (answers_of (steps ++ ys)) t × AreInRange (calls_of (steps ++ ys))
run_goes {p} {old} {mid} {t} {steps} {ys} {b} u other y =
    let z = from_kept y refl other u.last u.kept in (run_joins old u.last t steps ys u.run (run_of z), ranges_join steps ys u.range (ranges_of z))

run_until : {p : Rule} {old mid : EndpointState} {held now kept keeps : Option (List ℕ)} {steps : List Step} → Interrupted p old held kept steps mid now keeps → IsRunUntil old mid steps
run_until (Never {p} {old} {held} {kept}) = record { last = old; run = refl; range = tt; kept = kept_same old }
run_until (Again {p} {old} {mid} {held} {now} {kept} {keeps} {steps} bytes new last lasts before x) =
    let y = run_goes (run_until before) (λ e. starved_not_reading (sym e ∙ x.left.0)) x.serves in record { last = x.last; run = y.0; range = y.1; kept = x.same }

-- and so are all of them
pub interrupted_runs : (p : Rule) (end : End) (more : List ℕ) (ended : Bool) (old mid new : EndpointState) (held now last kept keeps lasts : Option (List ℕ)) (steps : List Step) →
    Interrupted p old held kept steps mid now keeps → (y : IsServed p end more ended mid new now last keeps lasts) →
    Run old (calls_of (steps ++ y.steps ++ finish_of end ∷ [])) (answers_of (steps ++ y.steps ++ finish_of end ∷ [])) new × AreInRange (calls_of (steps ++ y.steps ++ finish_of end ∷ []))
interrupted_runs p end more ended old mid new held now last kept keeps lasts steps i y =
    subst (λ (l : List Step). Run old (calls_of l) (answers_of l) new × AreInRange (calls_of l)) (sym (append_assoc steps y.steps (finish_of end ∷ [])))
    (run_goes (run_until i) (λ e. absurd (grind (arith, e))) (serves_on y.serves y.ends))

-- Steps behind a want of memory. --------------------------------------------------------------------------------------

module _ (p : Rule) (more : List ℕ) (old mid new : EndpointState) (held now last kept keeps lasts : Option (List ℕ)) (steps : List Step) (i : Interrupted p old held kept steps mid now keeps)
    (y : Served p reading reading more mid new now last keeps lasts) where
  again_by : (zs : List Step) → Serves p reading old zs reading new → fed zs ≡ fed (steps ++ y.steps) → moved zs ≡ moved (steps ++ y.steps) → recorded zs ≡ recorded (steps ++ y.steps) →
      Served p reading reading (fed steps ++ more) old new held last kept lasts
  again_by zs serves took wrote noted =
      let devices = all_written i in record {
        steps = zs;
        serves = serves;
        fed = took ∙ fed_on steps y.steps ∙ ap (λ (l : List ℕ). fed steps ++ l) y.fed;
        written = subst (λ (l : List ℕ). Appends held last l) (sym (wrote ∙ moved_on steps y.steps)) (Appends-trans held now last (moved steps) (moved y.steps) devices.0 y.written);
        recorded = subst (λ (l : List ℕ). Appends kept lasts l) (sym (noted ∙ recorded_on steps y.steps))
            (Appends-trans kept keeps lasts (recorded steps) (recorded y.steps) devices.1 y.recorded);
      }

  -- what was taken since memory was refused is served with what comes, as if memory had been ample
  pub served_again : 8 ≤ old.input.limit → IsIdle new → Served p reading reading (fed steps ++ more) old new held last kept lasts
  served_again least idle =
      elim (until least i) [
        | inl n ↦
            let none : steps ++ y.steps ≡ y.steps = ap (λ (l : List Step). l ++ y.steps) n.0 in
            again_by y.steps (subst (λ (s : EndpointState). Serves p reading s y.steps reading new) n.1 y.serves) (ap (λ (l : List Step). fed l) (sym none)) (ap (λ (l : List Step). moved l) (sym none))
            (ap (λ (l : List Step). recorded l) (sym none))
        | inr u ↦
            elim (until_goes least (λ h. h) u y.serves).1 [
              | inl still ↦ absurd (idle still.unit (waits_again u.last.input mid.input new.input still.unit u.kept.input still.nothing.kept.input still.waits))
              | inr z ↦ again_by z.steps z.serves z.fed z.moved z.recorded
            ]
      ]
