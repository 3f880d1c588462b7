-- The published end of a spool.
use Rattle.std.specs.Prelude.{◌≡◌, ℕ, ◌^◌, ◌<◌, List, ◌++◌, length}
use Rattle.std.specs.Int.{w64, to_be_bytes}
use Rattle.amqp_spool.specs.declared.end.End.{End}
use Rattle.amqp_spool.specs.declared.journal.Journal.{Journal}
use Rattle.amqp_spool.specs.Heads.{head_front}
use Rattle.amqp_spool.specs.Sums.{sum_of}

-- an end that there may be
pub record IsEnd (e : End) : Type 0 where
  pub spool : length e.spool ≡ 16
  pub first : e.first < 2 ^ 64
  pub mark : e.mark < 2 ^ 64
  pub place : e.place < 2 ^ 64
  pub next : e.next < 2 ^ 64

-- The spool, the first number of its newest segment, the sum of that one's head, how many of its bytes may be read, and the number of the next record. Numbers have 8 bytes, the highest first.
unfoldable pub end_front : End → List ℕ
end_front e = e.spool ++ to_be_bytes w64 e.first ++ to_be_bytes w64 e.mark ++ to_be_bytes w64 e.place ++ to_be_bytes w64 e.next

-- and the sum of all this
unfoldable pub end_text : End → List ℕ
end_text e = end_front e ++ to_be_bytes w64 (sum_of e.spool (end_front e))

-- where a journal ends: with the last batch that was settled, in its newest segment
abbrev pub end_of : {F : Type 0} → Journal F → End
end_of j = record { spool = j.head.spool; first = j.head.first; mark = sum_of j.head.secret (head_front j.head); place = j.place; next = j.next }
