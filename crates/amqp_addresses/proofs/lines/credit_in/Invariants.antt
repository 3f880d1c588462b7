-- amqp_addresses/proofs/lines/credit_in/Invariants.antt
use Rattle.std.proofs.Common.{◌≡◌, ◌≤◌, true, take}
use Rattle.std.specs.Char.{is_ascii_digit}
use Rattle.std.specs.List.{list_all}
use Rattle.std.specs.Str.Parse.{digits_value}
use Rattle.amqp_addresses.proofs.lines.credit_in.Given as goal

-- the first ones are digits, and write the credit so far
abbrev pub invariant-loop-digit : goal.invariant-loop-digit
invariant-loop-digit l = record {
  digits : list_all is_ascii_digit (take l.digit-index l.digits) ≡ true;
  credit : l.credit ≡ digits_value 10 (take l.digit-index l.digits);
  small : l.credit ≤ 4294967295;
}
