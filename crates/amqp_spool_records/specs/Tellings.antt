-- Which numbers a visitor may be told next.
use Rattle.std.specs.Prelude.{ℕ, ◌≤◌}

-- all from this one on
abbrev pub MayComeFrom : (may_come : ℕ → Type 0) → (due : ℕ) → Type 0
MayComeFrom may_come due = (n : ℕ) → due ≤ n → may_come n
