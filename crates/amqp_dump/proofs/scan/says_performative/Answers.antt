use Rattle.std.proofs.Common.{◌≡◌, ℕ, List, Result, Ok, Err, ap, arith}
use Rattle.amqp_types.specs.Decoding.{decoded}
use Rattle.amqp_types.specs.Reading.{Read}
use Rattle.amqp_types.specs.Skipping.{rest_of}
use Rattle.amqp_types.specs.Trees.{Tree}
use Rattle.amqp_types.proofs.Calls.{decoded_found}
use Rattle.amqp_types.proofs.Octets.{IsBytes}
use Rattle.amqp_types.proofs.Skips.{ok_rest}
use Rattle.amqp_perform.specs.Bodies.{BeginsWithin}
use Rattle.amqp_dump.proofs.scan.says_performative.Goals as goal

read_ok : (read : Read Tree) (rest : List ℕ) → rest_of read ≡ Ok rest → (t : Tree) × (read ≡ Ok (t, rest))
read_ok (Ok x) rest e = (x.0, ap (λ (r : List ℕ). Ok (x.0, r)) (ok_rest x.1 rest e))
read_ok (Err fault) rest e = absurd cc

-- what passed begins with a value
begins : (bytes rest : List ℕ) → IsBytes bytes → rest_of (decoded 32 65536 bytes) ≡ Ok rest → BeginsWithin 32 bytes
begins bytes rest fits e =
    let read = read_ok (decoded 32 65536 bytes) rest e in
    let found = decoded_found 32 65536 bytes rest read.0 fits read.1 in
    (read.0, found.0, rest, found.1, found.4, found.2)

pub is_performative-requires : goal.is_performative-requires
is_performative-requires c = begins c.args.body.now c.requires.0 (λ i. omega (arith, c.type_inv.body i)) c.requires.1
