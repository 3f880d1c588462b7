-- Bytes that are read into the buffer's room, and then fed.
use Rattle.std.proofs.Common.{◌≡◌, ℕ, Bool, true, false, List, ap, subst, ◌∙◌}
use Rattle.amqp_frame.specs.Splits.{SplitterState, IsUnchanged}
use Rattle.amqp_frame.specs.declared.units.Stage.{Stage}
use Rattle.amqp_endpoint.specs.declared.event.Outcome.{Outcome}
use Rattle.amqp_endpoint.specs.Connections.{ConnectionState, is_dead}
use Rattle.amqp_endpoint.specs.Steps.{EndpointState, IsKept, IsFed, FeedDone}

-- what a buffer holds, but for what stands behind it
input_same : (a b : SplitterState) → IsUnchanged a b → b ≡ record a { spare = b.spare; reach = b.reach }
input_same a b u =
    ap (λ (n : ℕ). let x : SplitterState = record { limit = n; stage = b.stage; filled = b.filled; spare = b.spare; reach = b.reach } in x) u.limit
    ∙ ap (λ (k : Stage). let x : SplitterState = record { limit = a.limit; stage = k; filled = b.filled; spare = b.spare; reach = b.reach } in x) u.stage
    ∙ ap (λ (l : List ℕ). let x : SplitterState = record { limit = a.limit; stage = a.stage; filled = l; spare = b.spare; reach = b.reach } in x) u.filled

-- what an endpoint is, but for what stands there
kept_is : (s t : EndpointState) → IsKept s t → t ≡ record s { input = record s.input { spare = t.input.spare; reach = t.input.reach } }
kept_is s t k =
    ap (λ (i : SplitterState). let x : EndpointState = record { input = i; unsent = t.unsent; connection = t.connection } in x) (input_same s.input t.input k.input)
    ∙ ap (λ (l : List ℕ). let x : EndpointState = record { input = record s.input { spare = t.input.spare; reach = t.input.reach }; unsent = l; connection = t.connection } in x) k.unsent
    ∙ ap (λ (c : ConnectionState). let x : EndpointState = record { input = record s.input { spare = t.input.spare; reach = t.input.reach }; unsent = s.unsent; connection = c } in x) k.connection

-- What stands behind what a buffer holds counts for nothing in a feed.
pub fed_read : (s t u : EndpointState) (piece : List ℕ) (used : ℕ) (told : Outcome) → IsKept s t → IsFed t u piece used told → IsFed s u piece used told
fed_read s t u piece used told k x =
    by (is_dead s.connection.phase) (subst (λ (y : EndpointState). IsFed y u piece used told) (kept_is s t k) x)
  where
    by : (over : Bool) → FeedDone over (record s { input = record s.input { spare = t.input.spare; reach = t.input.reach } }) u piece used told → FeedDone over s u piece used told
    by true y = (record { input = record { limit = y.0.input.limit; stage = y.0.input.stage; filled = y.0.input.filled }; unsent = y.0.unsent; connection = y.0.connection }, y.1, y.2)
    by false y = record {
      between = y.between;
      taken = record {
        bound = y.taken.bound;
        limit = y.taken.limit;
        stage = y.taken.stage;
        filled = y.taken.filled;
        all = y.taken.all;
        full = y.taken.full;
        early = y.taken.early;
      };
      comes = y.comes;
    }
