-- Bytes that are summed in parts.
use Rattle.std.proofs.Common.{◌≡◌, List, ◌++◌, ℕ, sym}
use Rattle.std.proofs.lemmas.Grind.{fold-append}
use Rattle.std.specs.declared.hash.DefaultHasher.{DefaultHasher}
use Rattle.std.specs.Hash.DefaultHasher as sip

pub two_parts : (s : DefaultHasher) (a b : List ℕ) → sip.write (sip.write s a) b ≡ sip.write s (a ++ b)
unfolding sip.write
two_parts s a b = sym (fold-append sip.write_byte s a b)
