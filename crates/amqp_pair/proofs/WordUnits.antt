-- Words are units.
use Rattle.std.proofs.Common.{◌≡◌, ℕ, ◌^◌, ◌<◌, ◌≤◌, List, [], ◌∷◌, ◌++◌, map, sym, subst, arith}
use Rattle.amqp_frame.specs.Units.{StreamUnit, AreUnits, due_after, due_behind}
use Rattle.amqp_frame.specs.declared.units.Stage.{Stage}
use Rattle.amqp_frame.specs.declared.units.Stage.TheVariants.{Frames}
use Rattle.amqp_send.specs.Sendings.{flow_said, transfer_said}
use Rattle.amqp_pair.specs.WordUnits.{WordUnitsLaw}
use Rattle.amqp_pair.specs.Words.{Word, Sends, Answers, AreRight, unit_in}
use Rattle.amqp_pair.proofs.Bodies.{IsOneFrame}

units_behind : (limit : ℕ) (stage : Stage) (us more : List StreamUnit) → AreUnits limit stage us → due_behind stage us ≡ Frames → AreUnits limit Frames more → AreUnits limit stage (us ++ more)
units_behind limit stage [] more a e b = subst (λ (x : Stage). AreUnits limit x more) (sym e) b
units_behind limit stage (u ∷ us) more a e b = (a.0, units_behind limit (due_after u) us more a.1 e b)

module _ (frame : IsOneFrame) (limit most : ℕ) (le : most ≤ limit) (lt : most < 2 ^ 32) where
  units : (words : List Word) → AreRight most words → AreUnits limit Frames (map unit_in words)
  units [] a = tt
  units (Sends id begun more payload ∷ words) a = ((frame 0 limit (transfer_said id begun more) payload (omega arith) (omega (arith, a.0.1, lt)) (omega (arith, a.0.1, le))).0, units words a.1)
  units (Answers f drain ∷ words) a = ((frame 0 limit (flow_said f drain) [] (omega arith) (omega (arith, a.0.3, lt)) (omega (arith, a.0.3, le))).0, units words a.1)

pub word_units : IsOneFrame → WordUnitsLaw
word_units frame limit most stage us words le lt right each due = units_behind limit stage us (map unit_in words) each due (units frame limit most le lt words right)
