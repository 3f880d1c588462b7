-- The lowest bytes of a number are the last of its bytes.
use Rattle.std.proofs.Common.{◌≡◌, ℕ, zero, suc, ◌+◌, ◌-◌, ◌≤◌, drop, ap, arith}
use Rattle.std.specs.Int.{bytes_high_first}
use Rattle.byteorder.specs.Endian.{big_bytes}
use Rattle.amqp_types.specs.declared.kind.Kind.{Kind}
use Rattle.amqp_types.specs.declared.kind.Kind.TheVariants as kind
use Rattle.amqp_types.specs.Kinds.{width}

last_bytes : (a w m x : ℕ) → a + w ≡ m → drop a (bytes_high_first m x) ≡ bytes_high_first w x
last_bytes zero w m x e = let same : m ≡ w = omega arith in ap (λ (k : ℕ). bytes_high_first k x) same
last_bytes (suc a) w zero x e = absurd (omega arith)
last_bytes (suc a) w (suc m) x e = last_bytes a w m x (omega arith)

width_within : (k : Kind) → width k ≤ 16
width_within kind.Null = omega arith
width_within kind.Boolean = omega arith
width_within kind.Ubyte = omega arith
width_within kind.Ushort = omega arith
width_within kind.Uint = omega arith
width_within kind.Ulong = omega arith
width_within kind.Byte = omega arith
width_within kind.Short = omega arith
width_within kind.Int = omega arith
width_within kind.Long = omega arith
width_within kind.Float = omega arith
width_within kind.Double = omega arith
width_within kind.Decimal32 = omega arith
width_within kind.Decimal64 = omega arith
width_within kind.Decimal128 = omega arith
width_within kind.Char = omega arith
width_within kind.Timestamp = omega arith
width_within kind.Uuid = omega arith
width_within _ = omega arith

-- the last bytes of sixteen are the number's in its own width
pub last_of_sixteen : (k : Kind) (x : ℕ) → drop (16 - width k) (big_bytes 16 x) ≡ big_bytes (width k) x
last_of_sixteen k x = last_bytes (16 - width k) (width k) 16 x (omega (arith, width_within k))
