-- A spool is a keeper.
use Rattle.std.proofs.Common.{◌≡◌, ℕ, true, List, [], Option, None, refl, ap}
use Rattle.amqp_endpoint.specs.Steps.{EndpointState}
use Rattle.amqp_hub.specs.declared.keeper.Origin.{Origin}
use Rattle.amqp_hub.specs.declared.keeper.Progress.{Progress}
use Rattle.amqp_hub.specs.Keepers.{Entry, one_entry, IsMore, HasCome}
use Rattle.amqp_spool.specs.Folders.{History}
use Rattle.amqp_spool_keeper.specs.Keeping.{KeeperState, is_settled, is_roomy, Accepts, MakesRoom, Settles}

-- What a folder was given is said by `Holds`, in the spool's words.
abbrev unknown : Option (List Entry)
unknown = None

pub nothing_known : {F : Type 0} (k : KeeperState F) → is_settled k ≡ true → unknown ≡ unknown
nothing_known k is = refl

pub accepts_more : {F : Type 0} (history : F → History) (k l : KeeperState F) (origin : Origin) (e : EndpointState) (bytes : List ℕ)
    → Accepts history k origin e bytes l → IsMore (one_entry origin bytes) unknown unknown unknown unknown × (l.journal.failed ≡ k.journal.failed)
accepts_more history k l origin e bytes x = (record { grown = refl; still = refl }, ap (λ j. j.failed) x.journal)

pub room_is_made : {F : Type 0} (history : F → History) (k l : KeeperState F) (p : Progress) → MakesRoom history k p l → HasCome p unknown unknown unknown unknown (is_roomy l) l.journal.failed
room_is_made history k l p x = record { same = refl; grows = ([], refl); out = x.out; failed = x.failed }

pub settling_takes : {F : Type 0} (history : F → History) (positions : F → Option (List ℕ)) (k l : KeeperState F) (p : Progress) → Settles history positions k p l → HasCome p unknown unknown unknown unknown (is_settled l) l.journal.failed
settling_takes history positions k l p x = record { same = refl; grows = ([], refl); out = x.out; failed = x.failed }
